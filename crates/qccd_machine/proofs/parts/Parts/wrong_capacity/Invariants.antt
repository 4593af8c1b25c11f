use Rattle.qccd_machine.specs.Fault.{data_of, turn}
use Rattle.qccd_machine.specs.Search.{check, NoneWithin}
use Rattle.qccd_machine.proofs.parts.Parts.wrong_capacity.Given as goal

-- nothing is wrong so far
abbrev pub invariant-loop-trap : goal.invariant-loop-trap
invariant-loop-trap l = NoneWithin (data_of l.self) (check 4) (turn 4 l.trap 0)
