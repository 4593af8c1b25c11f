use Rattle.qccd_machine.specs.Fault.{data_of, turn}
use Rattle.qccd_machine.specs.Search.{check, NoneWithin}
use Rattle.qccd_machine.proofs.parts.Parts.wrong_segment.Given as goal

-- nothing is wrong so far
abbrev pub invariant-loop-segment : goal.invariant-loop-segment
invariant-loop-segment l = NoneWithin (data_of l.self) (check 5) (turn 5 l.segment 0)
