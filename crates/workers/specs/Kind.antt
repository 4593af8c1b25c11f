-- Which operations a worker does.
use Rattle.std.specs.Prelude.{Bool, true, false, not}
use Rattle.op_table.specs.declared.kinds.OpKind.{OpKind}
use Rattle.op_table.specs.declared.kinds.OpKind.TheVariants.{Split, Move, Enter, Leave, Merge, Rot, GSwap, Item, Fence}
use Rattle.workers.specs.declared.kind.WorkerKind.{WorkerKind}
use Rattle.workers.specs.declared.kind.WorkerKind.TheVariants.{Transport, Gate, Any}

-- items and fences are a Gate worker's, all others a Transport worker's
abbrev pub is_gate_work : OpKind → Bool
is_gate_work (Split t e g) = false
is_gate_work (Move g) = false
is_gate_work (Enter g j) = false
is_gate_work (Leave j g) = false
is_gate_work (Merge g t e) = false
is_gate_work (Rot t p) = false
is_gate_work (GSwap t low high) = false
is_gate_work (Item number t item at) = true
is_gate_work (Fence number item traps) = true

abbrev pub does : WorkerKind → OpKind → Bool
does Transport op = not (is_gate_work op)
does Gate op = is_gate_work op
does Any op = true
