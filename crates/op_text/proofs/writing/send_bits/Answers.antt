use Rattle.qccd_base.specs.declared.names.Bit.{Bit}
use Rattle.qccd_io.proofs.Sent.{sent_flat}
use Rattle.op_text.specs.OpText.{bit_text, next_word}
use Rattle.op_text.proofs.writing.send_bits.Goals as goal

pub returns-in_err-send_bit : goal.returns-in_err-send_bit
returns-in_err-send_bit g c =
    sent_flat (λ (b : Bit). next_word (bit_text b)) c.args.bits.now c.loop-bit.bit-index _ _ c.loop-bit-test.true
    c.loop-bit.invariant c.in_err-send_bit.ensures c.from_residual.ensures.1
