use Rattle.qccd_base.specs.declared.names.TrapId.{TrapId}
use Rattle.qccd_io.proofs.Sent.{sent_flat}
use Rattle.op_text.specs.OpText.{trap_text, next_word}
use Rattle.op_text.proofs.writing.send_traps.Goals as goal

pub returns-in_err-send_trap : goal.returns-in_err-send_trap
returns-in_err-send_trap g c =
    sent_flat (λ (t : TrapId). next_word (trap_text t)) c.args.traps.now c.loop-trap.trap-index _ _ c.loop-trap-test.true
    c.loop-trap.invariant c.in_err-send_trap.ensures c.from_residual.ensures.1
