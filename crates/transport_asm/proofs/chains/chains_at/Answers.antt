use Rattle.std.proofs.lemmas.Result.{err_from_is_err_and}
use Rattle.transport_asm.specs.LineCursor.{unread}
use Rattle.transport_asm.specs.Lines.{numbered}
use Rattle.transport_asm.specs.Texts.{chain_line}
use Rattle.transport_asm.proofs.Loop.{goes_on, ends}
use Rattle.transport_asm.proofs.chains.chains_at.Goals as goal

pub returns-in_err-chain-clause-exact : goal.returns-in_err-chain-clause-exact
returns-in_err-chain-clause-exact c =
    let p = err_from_is_err_and c.from_residual.result c.from_residual.ensures.1 in
    rw (p.1, p.2) (ends chain_line c.in_err-chain.field-0.0 c.loop-k.chains.items c.args.count c.loop-k.k (unread c.loop-k.left) (numbered chain_line c.args.count 0 (unread c.args.lines)) c.loop-k-test.true c.in_err-chain.ensures.exact c.loop-k.invariant.so_far)

pub loop-k-preserved : goal.loop-k-preserved
loop-k-preserved c = record {
  so_far = rw c.in_ok-push.ensures.items (goes_on chain_line c.loop-k.chains.items c.args.count c.loop-k.k (unread c.loop-k.left) c.in_ok-chain.chain (unread c.in_ok-chain.rest) (numbered chain_line c.args.count 0 (unread c.args.lines)) c.loop-k-test.true c.in_ok-chain.ensures.exact c.loop-k.invariant.so_far);
  is_numbered = c.in_ok-chain.ensures.numbered;
}
