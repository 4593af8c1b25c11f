use Rattle.std.proofs.Common.{◌++◌, ◌∙◌, Some, None, decimal, sym}
use Rattle.std.proofs.lemmas.Bool.Decides.{Decides-eqb}
use Rattle.std.proofs.lemmas.List.{append_cancel_left}
use Rattle.std.proofs.lemmas.Slice.Eq.{strip_prefix_is, strip_suffix_is}
use Rattle.machine_text.proofs.PlaceTexts.{between}
use Rattle.machine_text.proofs.place.number_between.Goals as goal

pub returns-in_err-rest-clause-exact : goal.returns-in_err-rest-clause-exact
returns-in_err-rest-clause-exact c = λ n small is.
    absurd (strip_prefix_is Decides-eqb c.args.text.now c.args.front.now None c.in_err-rest.ensures.cases (decimal n ++ c.args.back.now) is)

pub returns-in_err-digits-clause-exact : goal.returns-in_err-digits-clause-exact
returns-in_err-digits-clause-exact c = λ n small is.
    let rest = c.in_ok-rest.rest in
    let first = strip_prefix_is Decides-eqb c.args.text.now c.args.front.now (Some rest) c.in_ok-rest.ensures.cases in
    let rests = append_cancel_left c.args.front.now rest.now (decimal n ++ c.args.back.now) (sym first ∙ is) in
    absurd (strip_suffix_is Decides-eqb rest.now c.args.back.now None c.in_err-digits.ensures.cases (decimal n) rests)

pub returns-clause-found : goal.returns-clause-found
returns-clause-found c =
    let rest = c.in_ok-rest.rest in
    let digits = c.in_ok-digits.digits in
    rw c.ok.ensures.value
    (between c.args.front.now c.args.text.now c.args.back.now rest.now digits.now c.in_ok-read_number.field-0 c.try_from.result
    (strip_prefix_is Decides-eqb c.args.text.now c.args.front.now (Some rest) c.in_ok-rest.ensures.cases)
    (strip_suffix_is Decides-eqb rest.now c.args.back.now (Some digits) c.in_ok-digits.ensures.cases)
    c.in_ok-read_number.ensures.some c.try_from.ensures)
