use Rattle.std.proofs.Common.{not, ap, arith}
use Rattle.loader.proofs.Starts.{missing_here, missing_none}
use Rattle.loader.proofs.start.missing_of.Goals as goal

pub returns-then-not-seen-from : goal.returns-then-not-seen-from
returns-then-not-seen-from c = λ ions are. missing_here ions c.args.seen.now c.args.qubits c.loop-ion.ion c.from.result c.requires.few are c.loop-ion-test.true c.from.ensures (ap not c.if-not-seen-from.true) c.loop-ion.invariant

pub returns : goal.returns
returns c = λ ions are. missing_none ions c.args.seen.now c.args.qubits c.loop-ion.ion c.requires.few are (omega (arith, c.loop-ion-test.false)) c.loop-ion.invariant
