use Rattle.std.proofs.Common.{List, ℕ, Bor}
use Rattle.qccd_io.proofs.Sent.{sent_flat}
use Rattle.qccd_io.proofs.texts.send_all.Goals as goal

pub returns-in_err-send : goal.returns-in_err-send
returns-in_err-send g c =
    sent_flat (λ (piece : Bor (List ℕ)). piece.now) c.args.pieces.now c.loop-piece.piece-index _ _ c.loop-piece-test.true
    c.loop-piece.invariant c.in_err-send.ensures c.from_residual.ensures.1
