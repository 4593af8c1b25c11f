-- How far a run has come, and what it has done at each resource.
use Rattle.std.specs.Prelude.{ℕ, if◌then◌else◌, List, [], ◌∷◌, ◌++◌, length}
use Rattle.qccd_base.specs.declared.names.Res.{Res}
use Rattle.qccd_base.specs.Resource.{among}
use Rattle.qccd_machine.specs.Machine.{MachineData}
use Rattle.op_table.specs.declared.kinds.OpKind.{OpKind}
use Rattle.op_table.specs.State.{State}
use Rattle.op_table.specs.Step.{effect}
use Rattle.op_table.specs.Touch.{touches, is_first}
use Rattle.op_table.specs.Clock.{Timed, timed_after}
use Rattle.op_cells.specs.declared.cells.Done.{Done}
use Rattle.qccd_program.specs.Program.{ProgramData, opening_of}

-- the state, and the operations that led to it with their times, the last one first
pub record World : Type 0 where
  pub state : State
  pub earlier : List Timed

abbrev pub opening_world : ProgramData → World
opening_world p = record { state = opening_of p; earlier = [] }

abbrev pub world_after : MachineData → World → OpKind → World
world_after m w op = record { state = effect m w.state op; earlier = timed_after m w.earlier op ∷ w.earlier }

-- of entries that take resources and finish, the last one first, the finish of the last that takes a resource, or 0
abbrev pub latest : {X : Type 0} → (X → List Res) → (X → ℕ) → List X → Res → ℕ
latest takes finish [] r = 0
latest takes finish (x ∷ xs) r = if among (takes x) r then finish x else latest takes finish xs r

-- the clock of a resource: the finish of the last operation that touched it
abbrev pub clock_of : List Timed → Res → ℕ
clock_of earlier r = latest (λ x. touches x.op) (λ x. x.finish) earlier r

-- the log of a resource: number, start and finish of each operation of which it is the first, in order
abbrev pub log_of : List Timed → Res → List Done
log_of [] r = []
log_of (x ∷ xs) r =
    if is_first x.op r then log_of xs r ++ record { op = length xs; start = x.start; finish = x.finish } ∷ [] else log_of xs r
