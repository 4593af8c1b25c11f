use Rattle.std.proofs.Common.{ℕ, List, sym, ◌∙◌, subst}
use Rattle.qccd_base.specs.declared.names.TrapId.{TrapId}
use Rattle.qccd_io.specs.Sends.{Sends}
use Rattle.op_table.specs.declared.kinds.OpKind.{OpKind}
use Rattle.op_table.specs.declared.kinds.OpKind.TheVariants as op
use Rattle.op_text.specs.OpText.{op_text}
use Rattle.op_text.proofs.writing.send_long.Goals as goal

pub returns-in-Item : goal.returns-in-Item
returns-in-Item g c =
    subst (λ (kind : OpKind). Sends g.S.Sink.taken g.S.Sink.faults g.S.Sink.behind c.args.sink.now c.send_item.new.sink c.send_item.result (op_text kind)) (sym c.in-Item.is ∙ c.kind.ensures.value)
    (subst (λ (at : List ℕ). Sends g.S.Sink.taken g.S.Sink.faults g.S.Sink.behind c.args.sink.now c.send_item.new.sink c.send_item.result (op_text (op.Item c.in-Item.number c.in-Item.trap c.in-Item.item at))) c.as_slice.ensures c.send_item.ensures)

pub returns-in-Fence : goal.returns-in-Fence
returns-in-Fence g c =
    subst (λ (kind : OpKind). Sends g.S.Sink.taken g.S.Sink.faults g.S.Sink.behind c.args.sink.now c.send_fence.new.sink c.send_fence.result (op_text kind)) (sym c.in-Fence.is ∙ c.kind.ensures.value)
    (subst (λ (traps : List TrapId). Sends g.S.Sink.taken g.S.Sink.faults g.S.Sink.behind c.args.sink.now c.send_fence.new.sink c.send_fence.result (op_text (op.Fence c.in-Fence.number c.in-Fence.item traps))) c.as_slice-in-Fence.ensures c.send_fence.ensures)
