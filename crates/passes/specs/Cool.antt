-- The run of a program in which hot traps are cooled before gates.
use Rattle.std.specs.Prelude.{◌≡◌, ◌<◌, ◌≤◌, ℕ, ◌+◌, Bool, true, false, nat_lt, if◌then◌else◌, List, [], ◌∷◌, ◌++◌, map, filter, filter_map, Option, Some, None}
use Rattle.std.specs.List.{list_any}
use Rattle.qccd_base.specs.Greatest.{greatest}
use Rattle.qccd_base.specs.Resource.{among}
use Rattle.qccd_base.specs.declared.names.TrapId.{TrapId}
use Rattle.qccd_base.specs.declared.names.Res.{Res}
use Rattle.qccd_base.specs.declared.names.Res.TheVariants as res
use Rattle.qccd_circuit.specs.declared.kinds.ItemKind.{ItemKind}
use Rattle.qccd_circuit.specs.declared.kinds.ItemKind.TheVariants.{Gate2}
use Rattle.qccd_machine.specs.Machine.{MachineData}
use Rattle.op_table.specs.declared.kinds.OpKind.{OpKind}
use Rattle.op_table.specs.declared.kinds.OpKind.TheVariants.{GSwap, Item}
use Rattle.op_table.specs.Clock.{duration}
use Rattle.op_table.specs.State.{State, heat_of}
use Rattle.op_table.specs.Step.{effect, heated}
use Rattle.op_table.specs.Touch.{touches}
use Rattle.qccd_program.specs.Program.{ProgramData, opening_of}

-- ---- which traps are cooled, and what the run leaves

abbrev pub is_gate2 : ItemKind → Bool
is_gate2 Gate2 = true
is_gate2 kind = false

-- the trap of a two-qubit gate or of an exchange of qubits
abbrev pub gate_trap : OpKind → Option TrapId
gate_trap (GSwap t low high) = Some t
gate_trap (Item number t item at) = if is_gate2 item.kind then Some t else None
gate_trap op = None

-- that trap, where its heat is above the ceiling
abbrev pub if_hot : ℕ → State → Option TrapId → Option TrapId
if_hot ceiling s None = None
if_hot ceiling s (Some t) = if nat_lt ceiling (heat_of s t.0) then Some t else None

abbrev pub hot_trap : ℕ → State → OpKind → Option TrapId
hot_trap ceiling s op = if_hot ceiling s (gate_trap op)

-- the state when that trap was cooled, if there is one
abbrev pub rested : Option TrapId → State → State
rested None s = s
rested (Some t) s = heated t.0 0 s

-- in which the operation begins
abbrev pub ready : ℕ → State → OpKind → State
ready ceiling s op = rested (hot_trap ceiling s op) s

-- the state that the operations leave, where hot traps are cooled before gates
abbrev pub cooled_after : MachineData → ℕ → State → List OpKind → State
cooled_after m ceiling s [] = s
cooled_after m ceiling s (op ∷ ops) = cooled_after m ceiling (effect m (ready ceiling s op) op) ops

-- ---- what is done, and when

-- a trap is cooled, or an operation is done
pub data Task : Type 0 where
  Cools : (trap : TrapId) → Task
  Does : (op : OpKind) → Task

abbrev pub takes : Task → List Res
takes (Cools t) = res.Trap t ∷ []
takes (Does op) = touches op

-- a cool takes 400 microseconds
abbrev pub time_of : MachineData → Task → ℕ
time_of m (Cools t) = 400
time_of m (Does op) = duration m op

abbrev pub cool_before : Option TrapId → List Task
cool_before None = []
cool_before (Some t) = Cools t ∷ []

-- the operations from number k on, each with its number, and with the cool of its trap before it where that is hot
abbrev pub tasks : MachineData → ℕ → ℕ → State → List OpKind → List (ℕ × Task)
tasks m ceiling k s [] = []
tasks m ceiling k s (op ∷ ops) =
    map (λ task. (k, task)) (cool_before (hot_trap ceiling s op) ++ Does op ∷ [])
    ++ tasks m ceiling (k + 1) (effect m (ready ceiling s op) op) ops

pub record Timing : Type 0 where
  pub number : ℕ
  pub task : Task
  pub start : ℕ
  pub finish : ℕ

-- after these a task starts at the greatest finish of those with which it has a resource in common, or at 0
abbrev pub start_behind : List Timing → Task → ℕ
start_behind earlier task = greatest (map (λ e. e.finish) (filter (λ e. list_any (among (takes task)) (takes e.task)) earlier))

abbrev pub timing : MachineData → List Timing → ℕ × Task → Timing
timing m earlier e = record {
  number = e.0;
  task = e.1;
  start = start_behind earlier e.1;
  finish = start_behind earlier e.1 + time_of m e.1;
}

abbrev pub timings_from : MachineData → List Timing → List (ℕ × Task) → List Timing
timings_from m earlier [] = []
timings_from m earlier (e ∷ es) = let now = timing m earlier e in now ∷ timings_from m (now ∷ earlier) es

-- the cooled run of a program
abbrev pub cooled_run : ProgramData → ℕ → List Timing
cooled_run p ceiling = timings_from p.machine [] (tasks p.machine ceiling 0 (opening_of p) p.ops)

abbrev pub cooled_end : ProgramData → ℕ → State
cooled_end p ceiling = cooled_after p.machine ceiling (opening_of p) p.ops

-- its cools
abbrev pub is_cool : Task → Bool
is_cool (Cools t) = true
is_cool (Does op) = false

abbrev pub cools_of : List Timing → List Timing
cools_of run = filter (λ e. is_cool e.task) run

-- of tasks with their numbers the operations
abbrev pub operation_of : ℕ × Task → Option (ℕ × OpKind)
operation_of (k, Cools t) = None
operation_of (k, Does op) = Some (k, op)

abbrev pub operations_in : List (ℕ × Task) → List (ℕ × OpKind)
operations_in es = filter_map operation_of es

-- where operations begin, cooled: the trap of a two-qubit gate or of an exchange of qubits is at the ceiling at most
abbrev pub BeginCool : MachineData → ℕ → State → List OpKind → Type 0
BeginCool m ceiling s [] = Unit {0}
BeginCool m ceiling s (op ∷ ops) =
    ((t : TrapId) → gate_trap op ≡ Some t → heat_of (ready ceiling s op) t.0 ≤ ceiling)
    × ((t : TrapId) → hot_trap ceiling s op ≡ Some t → ceiling < heat_of s t.0)
    × BeginCool m ceiling (effect m (ready ceiling s op) op) ops
