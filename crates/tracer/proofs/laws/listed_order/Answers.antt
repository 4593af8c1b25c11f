use Rattle.std.specs.List.{enumerate_from}
use Rattle.op_table.specs.Clock.{timed}
use Rattle.tracer.proofs.Listed.{program-listed, program-bounds}
use Rattle.tracer.proofs.Ordered.{by_start-alike}
use Rattle.tracer.proofs.Kept.{ops-kept}
use Rattle.tracer.proofs.laws.listed_order.Goals as goal

pub returns-clause-all : goal.returns-clause-all
returns-clause-all c = λ p. by_start-alike (enumerate_from 0 (timed p.machine p.ops))

pub returns-clause-ops : goal.returns-clause-ops
returns-clause-ops c = ops-kept

pub returns-clause-run : goal.returns-clause-run
returns-clause-run c = λ p legal. (program-listed p legal).run

pub returns-clause-end : goal.returns-clause-end
returns-clause-end c = λ p legal. (program-listed p legal).end

pub returns-clause-bounds : goal.returns-clause-bounds
returns-clause-bounds c = program-bounds

pub returns-clause-items : goal.returns-clause-items
returns-clause-items c = λ p legal. (program-listed p legal).order
