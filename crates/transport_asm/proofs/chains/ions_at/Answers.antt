use Rattle.std.proofs.Common.{option_copied, sym, ◌∙◌}
use Rattle.std.proofs.lemmas.Result.{err_from_is_err_and}
use Rattle.transport_asm.specs.Cursor.{words_left}
use Rattle.transport_asm.specs.Texts.{ions_at}
use Rattle.transport_asm.proofs.LineReading.{ion_more, ion_wrong, ions_end, ions_begin}
use Rattle.transport_asm.proofs.chains.ions_at.Goals as goal

pub loop-left-init : goal.loop-left-init
loop-left-init c = rw c.new-ions.ensures.items (ions_begin (ions_at 256 (words_left (option_copied c.args.words))))

pub loop-left-preserved : goal.loop-left-preserved
loop-left-preserved c =
    rw c.in_ok-push.ensures.items (ion_more c.loop-left.few c.in_ok-ion.ion (words_left (option_copied c.loop-left.left)) (words_left (option_copied c.in_ok-ion.rest)) c.loop-left.ions.items
    (ions_at 256 (words_left (option_copied c.args.words))) c.in_ok-ion.ensures.exact c.loop-left.invariant)

pub returns-in_err-ion : goal.returns-in_err-ion
returns-in_err-ion c =
    let p = err_from_is_err_and c.from_residual.result c.from_residual.ensures.1 in
    rw (p.1, p.2) (ion_wrong c.loop-left.few c.in_err-ion.field-0.0 (words_left (option_copied c.loop-left.left)) c.loop-left.ions.items (ions_at 256 (words_left (option_copied c.args.words)))
    (sym c.is_end.ensures ∙ c.loop-left-test.true) c.in_err-ion.ensures.exact c.loop-left.invariant)

pub returns : goal.returns
returns c =
    ions_end c.loop-left.few (words_left (option_copied c.loop-left.left)) c.loop-left.ions.items (ions_at 256 (words_left (option_copied c.args.words))) (sym c.is_end.ensures ∙ c.loop-left-test.false) c.loop-left.invariant
