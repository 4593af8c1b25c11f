use Rattle.std.proofs.Common.{Result, option_copied, sym, ◌∙◌, subst}
use Rattle.std.specs.Prelude.{option_map}
use Rattle.std.proofs.lemmas.Result.{err_from_is_err_and}
use Rattle.op_table.specs.declared.kinds.OpKind.{OpKind}
use Rattle.op_text.specs.declared.kind.AsmKind.{AsmKind}
use Rattle.transport_asm.specs.Cursor.{words_left, GivesOp}
use Rattle.transport_asm.proofs.FenceReading.{fence_goes, fence_fails}
use Rattle.transport_asm.proofs.ItemReading.{fence_kept}
use Rattle.transport_asm.proofs.fences.fence_op.Goals as goal

pub returns-in_err-number : goal.returns-in_err-number
returns-in_err-number c =
    let p = err_from_is_err_and c.from_residual.result c.from_residual.ensures.1 in
    rw (p.1, p.2) (fence_fails (words_left (option_copied c.args.words)) c.in_err-number.field-0.0 c.in_err-number.ensures)

pub made_if_right-requires : goal.made_if_right-requires
made_if_right-requires c = λ op e.
    (fence_kept (words_left (option_copied c.args.words)) op (fence_goes (words_left (option_copied c.args.words)) c.in_ok-number.number c.in_ok-number.traps.items (option_map (λ v. v.items) c.in_ok-number.qubits) c.in_ok-number.ensures ∙ e)).fits

pub returns : goal.returns
returns c =
    subst (λ (read : Result OpKind AsmKind). GivesOp (λ (op : OpKind). op) c.made_if_right.result read)
    (sym (fence_goes (words_left (option_copied c.args.words)) c.in_ok-number.number c.in_ok-number.traps.items (option_map (λ v. v.items) c.in_ok-number.qubits) c.in_ok-number.ensures)) c.made_if_right.ensures
