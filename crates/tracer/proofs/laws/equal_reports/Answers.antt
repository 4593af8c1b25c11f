use Rattle.tracer.proofs.ReadOff.{front_read}
use Rattle.tracer.proofs.TextsRead.{texts_read}
use Rattle.tracer.proofs.laws.equal_reports.Goals as goal

pub returns-clause-sizes : goal.returns-clause-sizes
returns-clause-sizes c = λ p q one other valid well same. (front_read p q one other valid well same).0

pub returns-clause-start : goal.returns-clause-start
returns-clause-start c = λ p q one other valid well same. (front_read p q one other valid well same).1

pub returns-clause-count : goal.returns-clause-count
returns-clause-count c = λ p q one other valid well same. (front_read p q one other valid well same).2

pub returns-clause-ops : goal.returns-clause-ops
returns-clause-ops c = texts_read
