use Rattle.std.proofs.Common.{◌≡◌}
use Rattle.std.specs.Prelude.{replicate}
use Rattle.qccd_program.specs.Example.{exchange}
use Rattle.tracer.proofs.tests.exchanges.Given as goal

abbrev pub invariant-loop : goal.invariant-loop
invariant-loop l = l.ops.items ≡ replicate l.counter exchange
