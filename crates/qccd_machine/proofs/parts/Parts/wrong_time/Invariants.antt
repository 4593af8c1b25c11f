use Rattle.qccd_machine.specs.Fault.{data_of, turn}
use Rattle.qccd_machine.specs.Search.{check, NoneWithin}
use Rattle.qccd_machine.proofs.parts.Parts.wrong_time.Given as goal

-- nothing is wrong so far
abbrev pub invariant-loop-field : goal.invariant-loop-field
invariant-loop-field l = NoneWithin (data_of l.self) (check 9) (turn 9 l.field 0)
