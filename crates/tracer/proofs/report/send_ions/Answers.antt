use Rattle.qccd_base.specs.declared.names.Ion.{Ion}
use Rattle.qccd_io.proofs.Sent.{sent_flat}
use Rattle.std.specs.Prelude.{decimal}
use Rattle.op_text.specs.OpText.{next_word}
use Rattle.tracer.proofs.report.send_ions.Goals as goal

pub returns-in_err-send_ion : goal.returns-in_err-send_ion
returns-in_err-send_ion g c =
    sent_flat (λ (i : Ion). next_word (decimal i.0)) c.args.ions.now c.loop-ion.ion-index _ _ c.loop-ion-test.true c.loop-ion.invariant c.in_err-send_ion.ensures c.from_residual.ensures.1
