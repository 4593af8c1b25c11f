use Rattle.qccd_machine.specs.Fault.{data_of, turn}
use Rattle.qccd_machine.specs.Search.{check, NoneWithin}
use Rattle.qccd_machine.proofs.parts.Parts.far_junction.Given as goal

-- nothing is wrong so far
abbrev pub invariant-loop-junction : goal.invariant-loop-junction
invariant-loop-junction l = NoneWithin (data_of l.self) (check 8) (turn 8 l.junction 0)
