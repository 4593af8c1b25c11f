use Rattle.qccd_machine.specs.Fault.{data_of}
use Rattle.qccd_machine.proofs.Questions.{degree_passed}
use Rattle.qccd_machine.proofs.parts.Parts.wrong_degree.Goals as goal

pub loop-junction-preserved : goal.loop-junction-preserved
loop-junction-preserved c = degree_passed (data_of c.args.self.now) c.loop-junction.junction c.degree-degree.result c.degree-degree.ensures c.if-degree-lt-LEAST_DEGREE.false c.if-degree-gt-MOST_DEGREE.false c.loop-junction.invariant
