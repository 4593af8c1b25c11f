use Rattle.qccd_circuit.proofs.MarkLemmas.{AreMarks-none}
use Rattle.qccd_circuit.proofs.marks.Marks.none.Goals as goal

pub returns : goal.returns
returns c = AreMarks-none
