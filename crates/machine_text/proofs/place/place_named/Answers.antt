use Rattle.std.proofs.Common.{◌∙◌, ◌++◌, codes, decimal, ap, arith}
use Rattle.std.proofs.lemmas.List.{append-nil}
use Rattle.std.proofs.lemmas.Option.{none-some}
use Rattle.qccd_base.specs.declared.names.End.TheVariants.{Left, Right}
use Rattle.qccd_machine.specs.declared.place.Place.TheVariants.{TrapEnd, Junction}
use Rattle.machine_text.proofs.PlaceTexts.{place_named-text, place_named-other}
use Rattle.machine_text.proofs.place.place_named.Goals as goal

pub returns-in-Some : goal.returns-in-Some
returns-in-Some c = place_named-text c.args.text.now (TrapEnd (record { 0 = c.in-Some.trap }) Left) (omega arith) c.in-Some.ensures.found

pub returns-in-Some-number_between : goal.returns-in-Some-number_between
returns-in-Some-number_between c =
    place_named-text c.args.text.now (TrapEnd (record { 0 = c.in-Some-number_between.trap }) Right) (omega arith) c.in-Some-number_between.ensures.found

pub returns-in_err-junction : goal.returns-in_err-junction
returns-in_err-junction c =
    c.from_residual.ensures
    ∙ place_named-other c.args.text.now
    (λ n small is. none-some n (c.in_default.ensures.exact n small is))
    (λ n small is. none-some n (c.in_default-number_between.ensures.exact n small is))
    (λ n small is. none-some n (c.in_err-junction.ensures.exact n small is))

pub returns : goal.returns
returns c =
    place_named-text c.args.text.now (Junction (record { 0 = c.in_ok-junction.junction })) (omega arith)
    (c.in_ok-junction.ensures.found ∙ ap (λ t. codes "J" ++ t) (append-nil (decimal c.in_ok-junction.junction)))
