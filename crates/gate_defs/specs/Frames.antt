-- How code goes through a definition: with a list of open definitions.
use Rattle.std.specs.Prelude.{◌≡◌, ℕ, ◌<◌, ◌≤◌, ◌+◌, ◌*◌, List, [], ◌∷◌, ◌++◌, length, All, IsTrue, Option, None, Result, Ok, Err}
use Rattle.std.specs.List.{AllByRecursion}
use Rattle.qccd_circuit.specs.declared.kinds.Cond.{Cond}
use Rattle.qccd_circuit.specs.Item.{ItemData, are_distinct}
use Rattle.gate_defs.specs.declared.kinds.BodyStep.{BodyStep}
use Rattle.gate_defs.specs.declared.kinds.Callee.{Callee}
use Rattle.gate_defs.specs.declared.kinds.Callee.TheVariants.{Plain, Ccx, Cswap, Defined, Barrier}
use Rattle.gate_defs.specs.declared.kinds.Def.{Def}
use Rattle.gate_defs.specs.declared.expanding.Frame.{Frame}
use Rattle.gate_defs.specs.declared.faults.ExpandFault.{ExpandFault}
use Rattle.gate_defs.specs.Outcome.{Tells}
use Rattle.gate_defs.specs.Meaning.{Application, any_long, applied_all, def_at, inside, items_of, meanings}
use Rattle.gate_defs.specs.Rule.{AreArgs, IsStep}

-- the steps of the definition with a body that is applied, where one is
abbrev pub entered : List Def → Callee → Option (List BodyStep)
entered defs (Plain name) = None
entered defs Ccx = None
entered defs Cswap = None
entered defs (Defined id) = (def_at defs id).body
entered defs Barrier = None

-- the steps that are left can be applied under the arguments and qubits
pub record IsOpen (defs : List Def) (f : Frame) : Type 0 where
  pub steps : AllByRecursion (IsStep defs (length f.args.items) (length f.qubits.items)) f.steps.now
  pub are_args : AreArgs f.args.items
  pub distinct : IsTrue (are_distinct f.qubits.items)

-- the applications of an open definition that are still to come
abbrev pub left_in : List Def → Frame → List Application
left_in defs f = applied_all (meanings defs) f.args.items f.qubits.items f.steps.now

-- those of all open definitions: the last was opened last, and comes first
abbrev pub left : List Def → List Frame → List Application
left defs [] = []
left defs (f ∷ fs) = left defs fs ++ left_in defs f

-- what falls: each turn takes an application, or closes a definition
abbrev pub turns_left : List Def → List Frame → ℕ
turns_left defs fs = 2 * length (left defs fs) + length fs

-- one application is taken: what is inside it is left in front of what was
pub record Opens (defs : List Def) (a : Application) (old new : List Frame) : Type 0 where
  pub inside_first : left defs new ≡ inside (meanings defs) a ++ left defs old
  pub one_more : length new ≤ length old + 1
  pub all_open : All (IsOpen defs) new

-- one turn: the items so far and those that are left stay the same list, a long angle stays ahead, and the measure falls
pub record Turns (defs : List Def) (cond : Option Cond) (old : List Frame) (made : List ItemData) (new : List Frame) (further : List ItemData) : Type 0 where
  pub items : made ++ items_of defs cond (left defs old) ≡ further ++ items_of defs cond (left defs new)
  pub long : any_long (left defs old) ≡ any_long (left defs new)
  pub falls : turns_left defs new < turns_left defs old
  pub all_open : All (IsOpen defs) new

-- what a turn promises
abbrev pub Takes : {X : Type 0} → List Def → Option Cond → List Frame → List ItemData → Result X ExpandFault → List Frame → List ItemData → Type 0
Takes defs cond old made (Ok x) new further = Turns defs cond old made new further
Takes defs cond old made (Err e) new further = Tells (any_long (left defs old)) e
