-- One long angle settles it.
use Rattle.std.proofs.Common.{◌≡◌, ℕ, true, get_or, map, ap, sym, ◌∙◌, subst, ◌<◌}
use Rattle.std.specs.List.{list_any}
use Rattle.std.proofs.lemmas.List.{get_or-map, get_or_default, length-map}
use Rattle.std.proofs.lemmas.List.Folds.{list_any_at}
use Rattle.gate_defs.specs.Angles.{angle_under, is_long}
use Rattle.gate_defs.proofs.Telling.{handed_on}
use Rattle.gate_defs.proofs.angles.angles_under.Goals as goal

pub returns-in_err-angle_under-clause-long : goal.returns-in_err-angle_under-clause-long
returns-in_err-angle_under-clause-long c =
    let f = angle_under c.args.args.now in
    let angles = c.args.angles.now in
    let i = c.loop-pieces.pieces-index in
    let pieces = c.as_slice.result.now in
    let is : pieces ≡ get_or angles i pieces = c.as_slice.ensures ∙ c.pieces-item.is ∙ get_or_default angles i _ pieces c.loop-pieces-test.true in
    let whole : is_long (f pieces) ≡ true → list_any is_long (map f angles) ≡ true =
    λ long. list_any_at is_long (map f angles) i (f pieces) (subst (λ (n : ℕ). i < n) (sym (length-map angles f)) c.loop-pieces-test.true)
    (ap is_long (get_or-map f angles i pieces (f pieces) c.loop-pieces-test.true ∙ ap f (sym is)) ∙ long) in
    handed_on c.from_residual-in_err-angle_under.result (is_long (f pieces)) (list_any is_long (map f angles)) c.in_err-angle_under.field-0.0 whole
    c.in_err-angle_under.ensures c.from_residual-in_err-angle_under.ensures.1
