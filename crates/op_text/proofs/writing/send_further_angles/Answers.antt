use Rattle.std.proofs.Common.{ℕ, List, ◌++◌, codes, Err, subst}
use Rattle.qccd_io.specs.declared.failed.Failed.{Failed}
use Rattle.qccd_io.specs.Sends.{Sends}
use Rattle.qccd_io.proofs.Sent.{sent_flat}
use Rattle.op_text.proofs.writing.send_further_angles.Goals as goal

pub returns-in_err-send_angle : goal.returns-in_err-send_angle
returns-in_err-send_angle g c =
    sent_flat (λ (angle : List ℕ). codes "," ++ angle) c.args.angles.now c.loop-angle.angle-index _ _ c.loop-angle-test.true c.loop-angle.invariant
    (subst (λ (angle : List ℕ). Sends {T = Unit {0}} {E = Failed} g.S.Sink.taken g.S.Sink.faults g.S.Sink.behind c.loop-angle.sink c.send_angle.new.sink (Err c.in_err-send_angle.field-0.0) (codes "," ++ angle)) c.angle-item.is c.in_err-send_angle.ensures)
    c.from_residual.ensures.1
