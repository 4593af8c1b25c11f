use Rattle.std.proofs.Common.{Result, option_copied, sym, ◌∙◌, subst}
use Rattle.op_table.specs.declared.kinds.OpKind.{OpKind}
use Rattle.op_text.specs.declared.kind.AsmKind.{AsmKind}
use Rattle.transport_asm.specs.Cursor.{words_left, GivesOp}
use Rattle.transport_asm.proofs.OpReading.{plain_goes, item_goes, fence_goes}
use Rattle.transport_asm.proofs.ops.any_op.Goals as goal

pub returns : goal.returns
returns c =
    subst (λ (read : Result OpKind AsmKind). GivesOp (λ (op : OpKind). op) c.other_op.result read)
    (sym (plain_goes c.args.name.now (words_left (option_copied c.args.words)) (sym c.is.ensures ∙ c.if-is.false) (sym c.is-2.ensures ∙ c.if-is-2.false))) c.other_op.ensures

pub returns-then-is : goal.returns-then-is
returns-then-is c =
    subst (λ (read : Result OpKind AsmKind). GivesOp (λ (op : OpKind). op) c.item_op.result read)
    (sym (item_goes c.args.name.now (words_left (option_copied c.args.words)) (sym c.is.ensures ∙ c.if-is.true))) c.item_op.ensures

pub returns-then-is-2 : goal.returns-then-is-2
returns-then-is-2 c =
    subst (λ (read : Result OpKind AsmKind). GivesOp (λ (op : OpKind). op) c.fence_op.result read)
    (sym (fence_goes c.args.name.now (words_left (option_copied c.args.words)) (sym c.is-2.ensures ∙ c.if-is-2.true))) c.fence_op.ensures
