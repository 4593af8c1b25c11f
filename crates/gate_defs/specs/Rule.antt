-- What may be defined, where these definitions are there, and what a definition may be applied to.
use Rattle.std.specs.Prelude.{◌≡◌, ℕ, suc, ◌<◌, ◌≤◌, ◌==◌, Bool, true, false, not, ◌&&◌, List, [], ◌∷◌, ◌++◌, length, All, Option, None, Some, is_some, IsTrue}
use Rattle.std.specs.List.{list_any, list_all, AllByRecursion}
use Rattle.std.specs.Str.{bytes_eq}
use Rattle.qccd_base.specs.declared.names.Qubit.{Qubit}
use Rattle.qccd_circuit.specs.Item.{IsName, IsGateName, is_angle, is_angle_byte}
use Rattle.qccd_circuit.specs.Item as item
use Rattle.gate_defs.specs.declared.kinds.Arg.{Arg}
use Rattle.gate_defs.specs.declared.kinds.Piece.{Piece}
use Rattle.gate_defs.specs.declared.kinds.Piece.TheVariants.{Text, Param}
use Rattle.gate_defs.specs.declared.kinds.Callee.{Callee}
use Rattle.gate_defs.specs.declared.kinds.Callee.TheVariants.{Plain, Ccx, Cswap, Defined, Barrier}
use Rattle.gate_defs.specs.declared.kinds.BodyStep.{BodyStep}
use Rattle.gate_defs.specs.declared.kinds.Def.{Def}
use Rattle.gate_defs.specs.Gates.{Gate, plain_gate}
use Rattle.gate_defs.specs.Meaning.{Application, def_at}
use Rattle.gate_defs.specs.Measures.{depth_over, depths, weight_over, weights}

-- ---- names

-- the number of the definition with this name, where the first has this number
abbrev pub found_from : ℕ → List Def → List ℕ → Option ℕ
found_from n [] name = None
found_from n (d ∷ ds) name = elim (bytes_eq name d.name) as (λ _. Option ℕ) [ true ↦ Some n | false ↦ found_from (suc n) ds name ]

abbrev pub found : List Def → List ℕ → Option ℕ
found defs name = found_from 0 defs name

-- ---- steps of a body

-- a token's bytes: at least one, none of them white space or a comma
abbrev pub IsText : List ℕ → Type 0
IsText text = (1 ≤ length text) × IsTrue (list_all is_angle_byte text)

-- a piece of an angle under so many parameters
abbrev pub IsPiece : ℕ → Piece → Type 0
IsPiece params (Text text) = IsText text
IsPiece params (Param n) = n < params

abbrev pub IsAngle : ℕ → List Piece → Type 0
IsAngle params pieces = (1 ≤ length pieces) × All (IsPiece params) pieces

-- whether no formal qubit stands twice in the list
abbrev pub are_distinct : List ℕ → Bool
are_distinct [] = true
are_distinct (w ∷ ws) = not (list_any (λ v. v == w) ws) && are_distinct ws

-- a gate of the tables takes so many angles and qubits
abbrev pub HasShape : ℕ → ℕ → Option Gate → Type 0
HasShape angles qubits None = ⊥
HasShape angles qubits (Some g) = (angles ≡ g.angles) × (qubits ≡ g.qubits)

-- an opaque gate can be applied on one or two qubits
abbrev pub MayApply : Option (List BodyStep) → ℕ → Type 0
MayApply None qubits = qubits ≤ 2
MayApply (Some steps) qubits = Unit {0}

-- the callee can be applied to so many angles and qubits
abbrev pub IsCalled : List Def → Callee → ℕ → ℕ → Type 0
IsCalled defs (Plain name) angles qubits = HasShape angles qubits (plain_gate name)
IsCalled defs Ccx angles qubits = (angles ≡ 0) × (qubits ≡ 3)
IsCalled defs Cswap angles qubits = (angles ≡ 0) × (qubits ≡ 3)
IsCalled defs (Defined id) angles qubits =
    (id < length defs) × (angles ≡ (def_at defs id).params) × (qubits ≡ (def_at defs id).qubits) × MayApply (def_at defs id).body (def_at defs id).qubits
IsCalled defs Barrier angles qubits = (angles ≡ 0) × (1 ≤ qubits)

-- a step of a body with so many parameters and formal qubits
pub record IsStep (defs : List Def) (params qubits : ℕ) (s : BodyStep) : Type 0 where
  pub called : IsCalled defs s.callee (length s.angles) (length s.wires)
  pub angles : All (IsAngle params) s.angles
  pub distinct : IsTrue (are_distinct s.wires)
  pub wires : All (λ w. w < qubits) s.wires

-- ---- definitions

-- an opaque gate is as the item rule asks, a body has steps that keep the rule
abbrev pub IsBody : List Def → Def → Option (List BodyStep) → Type 0
IsBody defs d None = IsName d.name × IsGateName d.name × (d.params ≤ 16)
IsBody defs d (Some steps) = AllByRecursion (IsStep defs d.params d.qubits) steps

-- the definition can come behind these
pub record IsNext (defs : List Def) (d : Def) : Type 0 where
  pub new_name : found defs d.name ≡ None
  pub room : length defs < 4294967295
  pub qubits : 1 ≤ d.qubits
  pub body : IsBody defs d d.body
  pub deep : depth_over (depths defs) d ≤ 64
  pub heavy : weight_over (weights defs) d ≤ 65536

-- definitions one after another
pub data AreDefs : List Def → Type 0 where
  none : AreDefs []
  next : {defs : List Def} (d : Def) → AreDefs defs → IsNext defs d → AreDefs (defs ++ d ∷ [])

-- ---- applications

-- the arguments are well-formed angles
abbrev pub AreArgs : List Arg → Type 0
AreArgs args = IsTrue (list_all (λ a. is_angle a.text) args)

-- the definition with this number has a body, and can be applied to these
pub record CanApply (defs : List Def) (id : ℕ) (args : List Arg) (qubits : List Qubit) : Type 0 where
  pub there : id < length defs
  pub has_body : IsTrue (is_some (def_at defs id).body)
  pub args_fit : length args ≡ (def_at defs id).params
  pub qubits_fit : length qubits ≡ (def_at defs id).qubits
  pub are_args : AreArgs args
  pub distinct : IsTrue (item.are_distinct qubits)

-- the application can be made, on some of the first n qubits
pub record IsApplied (defs : List Def) (n : ℕ) (a : Application) : Type 0 where
  pub called : IsCalled defs a.callee (length a.args) (length a.qubits)
  pub are_args : AreArgs a.args
  pub distinct : IsTrue (item.are_distinct a.qubits)
  pub below : All (λ q. q.0 < n) a.qubits
