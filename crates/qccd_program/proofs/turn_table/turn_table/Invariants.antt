use Rattle.std.proofs.Common.{length, take, ◌≤◌, ◌*◌}
use Rattle.op_table.specs.Touch.{nth}
use Rattle.qccd_program.specs.CellOfRun.{firsts}
use Rattle.qccd_program.specs.Turns.{HasTurns, Counts}
use Rattle.qccd_program.proofs.turn_table.turn_table.Given as goal

abbrev pub invariant-loop-op : goal.invariant-loop-op
invariant-loop-op l =
    HasTurns l.fn.ops l.op-index l.starts.items l.turns.items × Counts l.fn.machine l.fn.bits (nth l.fn.ops l.op-index) l.counters.items
    × (length l.turns.items ≤ 480 * l.op-index) × Counts l.fn.machine l.fn.bits (firsts (take l.op-index l.fn.ops)) l.rooms.items
