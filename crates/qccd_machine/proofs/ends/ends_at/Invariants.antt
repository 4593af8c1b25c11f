use Rattle.std.proofs.Common.{◌≡◌, ◌≤◌, ◌*◌, take}
use Rattle.qccd_machine.specs.Machine.{count_at}
use Rattle.qccd_machine.proofs.ends.ends_at.Given as goal

-- what was counted are the ends of the segments so far, two of each at most
abbrev pub invariant-loop-ends : goal.invariant-loop-ends
invariant-loop-ends l = (l.count ≡ count_at (take l.ends-index l.segments) l.place) × (l.count ≤ 2 * l.ends-index)
