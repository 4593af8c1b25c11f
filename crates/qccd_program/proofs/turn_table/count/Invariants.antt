use Rattle.std.proofs.Common.{◌≡◌, ◌++◌, drop, length}
use Rattle.qccd_program.specs.Turns.{counted, found}
use Rattle.qccd_program.proofs.turn_table.count.Given as goal

abbrev pub invariant-loop-r : goal.invariant-loop-r
invariant-loop-r l =
    (l.turns.items ++ found l.machine l.counters.items (drop l.r-index l.touched) ≡ l.fn.turns.items ++ found l.machine l.fn.counters.items l.touched)
    × (counted l.machine l.counters.items (drop l.r-index l.touched) ≡ counted l.machine l.fn.counters.items l.touched)
    × (length l.counters.items ≡ length l.fn.counters.items)
