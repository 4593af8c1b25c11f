use Rattle.std.proofs.Common.{Ok, Err, subst}
use Rattle.qccd_io.specs.declared.failed.Failed.{Failed}
use Rattle.qccd_io.specs.Sends.{Sends}
use Rattle.op_table.specs.declared.kinds.OpKind.{OpKind}
use Rattle.transport_asm.specs.ProgramText.{op_line_text}
use Rattle.transport_asm.proofs.ProgramWriting.{numbered_sent, numbered_short}
use Rattle.transport_asm.proofs.program_texts.send_ops.Goals as goal

pub loop-number-preserved : goal.loop-number-preserved
loop-number-preserved g c =
    numbered_sent op_line_text c.args.ops.now c.loop-number.number c.index-ops-number.result c.loop-number-test.true c.loop-number.invariant
    (subst (λ (op : OpKind). Sends {T = Unit {0}} {E = Failed} g.S.Sink.taken g.S.Sink.faults g.S.Sink.behind c.loop-number.sink c.send_op.new.sink (Ok tt) (op_line_text c.loop-number.number op)) c.index-ops-number.is c.in_ok-send_op.ensures)

pub returns-in_err-send_op : goal.returns-in_err-send_op
returns-in_err-send_op g c =
    numbered_short op_line_text c.args.ops.now c.loop-number.number c.index-ops-number.result _ c.loop-number-test.true c.loop-number.invariant
    (subst (λ (op : OpKind). Sends {T = Unit {0}} {E = Failed} g.S.Sink.taken g.S.Sink.faults g.S.Sink.behind c.loop-number.sink c.send_op.new.sink (Err c.in_err-send_op.field-0.0) (op_line_text c.loop-number.number op)) c.index-ops-number.is c.in_err-send_op.ensures)
    c.from_residual.ensures.1
