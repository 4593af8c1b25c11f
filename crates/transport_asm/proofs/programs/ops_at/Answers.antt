use Rattle.std.proofs.lemmas.Result.{err_from_is_err_and}
use Rattle.transport_asm.specs.LineCursor.{unread}
use Rattle.transport_asm.specs.Lines.{numbered}
use Rattle.transport_asm.specs.Texts.{op_line}
use Rattle.transport_asm.proofs.Loop.{goes_on, ends}
use Rattle.transport_asm.proofs.programs.ops_at.Goals as goal

pub returns-in_err-op-clause-exact : goal.returns-in_err-op-clause-exact
returns-in_err-op-clause-exact c =
    let p = err_from_is_err_and c.from_residual-in_err-op.result c.from_residual-in_err-op.ensures.1 in
    rw (p.1, p.2) (ends op_line c.in_err-op.field-0.0 c.loop-k.ops.items c.args.count c.loop-k.k (unread c.loop-k.left) (numbered op_line c.args.count 0 (unread c.args.lines)) c.loop-k-test.true c.in_err-op.ensures.exact c.loop-k.invariant.so_far)

pub loop-k-preserved : goal.loop-k-preserved
loop-k-preserved c = record {
  so_far = rw c.in_ok-push.ensures.items (goes_on op_line c.loop-k.ops.items c.args.count c.loop-k.k (unread c.loop-k.left) c.in_ok-op.op (unread c.in_ok-op.rest) (numbered op_line c.args.count 0 (unread c.args.lines)) c.loop-k-test.true c.in_ok-op.ensures.exact c.loop-k.invariant.so_far);
  is_numbered = c.in_ok-op.ensures.numbered;
}
