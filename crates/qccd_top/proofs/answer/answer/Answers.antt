use Rattle.std.proofs.Common.{refl, sym, ap, ◌∙◌, map}
use Rattle.std.specs.Prelude.{option_map, string_bytes}
use Rattle.std.proofs.Common.{Global}
use Rattle.qccd_words.specs.Words.{asked}
use Rattle.qccd_top.proofs.Chain.{does_asked, does_no_words}
use Rattle.qccd_top.proofs.answer.answer.Goals as goal

pub returns-in-None-clause-does : goal.returns-in-None-clause-does
returns-in-None-clause-does g c =
    does_no_words _ _ _ _ _ _ (map (string_bytes {Z = Global}) c.args.words.now) _ (sym c.request.ensures.asked ∙ ap (option_map asked) c.in-None.is) refl

pub returns-in-Some-clause-does : goal.returns-in-Some-clause-does
returns-in-Some-clause-does g c =
    does_asked _ _ _ _ _ _ _ _ (map (string_bytes {Z = Global}) c.args.words.now) _ _ (sym c.request.ensures.asked ∙ ap (option_map asked) c.in-Some.is) c.obey.ensures
