-- What a definition means: the applications in it, in order, and the items that these are.
use Rattle.std.specs.Prelude.{ℕ, Bool, List, [], ◌∷◌, ◌++◌, map, flat_map, get_or, Option, None, Some}
use Rattle.std.specs.List.{list_any}
use Rattle.qccd_base.specs.Names.{qubit}
use Rattle.qccd_base.specs.declared.names.Qubit.{Qubit}
use Rattle.qccd_circuit.specs.declared.kinds.Cond.{Cond}
use Rattle.qccd_circuit.specs.Item.{ItemData}
use Rattle.gate_defs.specs.declared.kinds.Arg.{Arg}
use Rattle.gate_defs.specs.declared.kinds.Callee.{Callee}
use Rattle.gate_defs.specs.declared.kinds.Callee.TheVariants.{Plain, Ccx, Cswap, Defined, Barrier}
use Rattle.gate_defs.specs.declared.kinds.BodyStep.{BodyStep}
use Rattle.gate_defs.specs.declared.kinds.Def.{Def}
use Rattle.gate_defs.specs.Angles.{angle_under, is_long}
use Rattle.gate_defs.specs.Items.{ccx_items, cswap_items, on_three, gate_on, barrier_on}

-- one application: what is applied, on which angles and which qubits
pub record Application : Type 0 where
  pub callee : Callee
  pub args : List Arg
  pub qubits : List Qubit

-- a step of a body under these arguments and qubits
abbrev pub applied : List Arg → List Qubit → BodyStep → Application
applied args qubits s = record { callee = s.callee; args = map (angle_under args) s.angles; qubits = map (λ w. get_or qubits w (qubit 0)) s.wires }

-- ---- definitions

-- what stands for a definition that is not there
abbrev pub unnamed : Def
unnamed = record { name = []; params = 0; qubits = 0; body = Some [] }

-- the definition with this number
abbrev pub def_at : List Def → ℕ → Def
def_at defs id = get_or defs id unnamed

abbrev pub steps_in : Option (List BodyStep) → List BodyStep
steps_in None = []
steps_in (Some steps) = steps

-- its steps
abbrev pub steps_at : List Def → ℕ → List BodyStep
steps_at defs id = steps_in (def_at defs id).body

-- a value for each definition, made of those of the definitions before it
abbrev pub each_from : {A B : Type 0} → (List A → B → A) → List A → List B → List A
each_from {A = A} of done [] = done
each_from {A = A} of done (d ∷ ds) = each_from of (done ++ of done d ∷ []) ds

-- ---- applications

-- what a definition is on angles and qubits: the applications in it, each in front of those inside it
abbrev pub Meaning : Type 0
Meaning = List Arg → List Qubit → List Application

abbrev pub empty : Meaning
empty args qubits = []

-- those inside an application, where definitions mean this
abbrev pub inside : List Meaning → Application → List Application
inside ms a = elim a.callee as (λ _. List Application) [
  | Plain name ↦ []
  | Ccx ↦ []
  | Cswap ↦ []
  | Defined id ↦ get_or ms id empty a.args a.qubits
  | Barrier ↦ []
]

abbrev pub with_inside : List Meaning → Application → List Application
with_inside ms a = a ∷ inside ms a

-- steps under arguments and qubits
abbrev pub applied_all : List Meaning → List Arg → List Qubit → List BodyStep → List Application
applied_all ms args qubits steps = flat_map (λ s. with_inside ms (applied args qubits s)) steps

abbrev pub meaning_over : List Meaning → Def → Meaning
meaning_over ms d args qubits = applied_all ms args qubits (steps_in d.body)

abbrev pub meanings : List Def → List Meaning
meanings defs = each_from meaning_over [] defs

-- the applications inside one of the definition with this number
abbrev pub applications : List Def → ℕ → List Arg → List Qubit → List Application
applications defs id args qubits = get_or (meanings defs) id empty args qubits

-- whether an angle of one of them is past the limit
abbrev pub has_long : Application → Bool
has_long a = list_any is_long a.args

abbrev pub any_long : List Application → Bool
any_long apps = list_any has_long apps

-- ---- items

abbrev pub texts : List Arg → List (List ℕ)
texts args = map (λ a. a.text) args

-- an opaque gate is one item; a gate with a body has none but those of the applications inside it
abbrev pub own_of : Def → Application → Option Cond → List ItemData
own_of d a cond = elim d.body as (λ _. List ItemData) [ None ↦ gate_on d.name (texts a.args) a.qubits cond ∷ [] | Some steps ↦ [] ]

-- the items of an application itself
abbrev pub own_items : List Def → Option Cond → Application → List ItemData
own_items defs cond a = elim a.callee as (λ _. List ItemData) [
  | Plain name ↦ gate_on name (texts a.args) a.qubits cond ∷ []
  | Ccx ↦ on_three ccx_items a.qubits cond
  | Cswap ↦ on_three cswap_items a.qubits cond
  | Defined id ↦ own_of (def_at defs id) a cond
  | Barrier ↦ barrier_on a.qubits ∷ []
]

abbrev pub items_of : List Def → Option Cond → List Application → List ItemData
items_of defs cond apps = flat_map (own_items defs cond) apps

-- the items of one application of the definition with this number
abbrev pub expansion : List Def → ℕ → List Arg → List Qubit → Option Cond → List ItemData
expansion defs id args qubits cond = items_of defs cond (applications defs id args qubits)
