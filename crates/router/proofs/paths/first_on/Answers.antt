use Rattle.std.proofs.Common.{◌≡◌, ◌<◌, ◌∙◌, sym, ap, arith, length, get_or, List, Some, ℕ, below_more}
use Rattle.std.specs.Prelude.{slice_get}
use Rattle.std.proofs.lemmas.Option.{slice_get-get_or}
use Rattle.qccd_base.specs.Names.{trap}
use Rattle.qccd_base.specs.declared.names.End.TheVariants.{Left}
use Rattle.qccd_machine.specs.declared.place.Place.{Place}
use Rattle.qccd_machine.specs.declared.place.Place.TheVariants.{TrapEnd}
use Rattle.qccd_machine.specs.Machine.{site}
use Rattle.router.proofs.Following.{behind_by_far, far_leads, first_leads, known, never_none, none_leads}
use Rattle.router.proofs.Rounds.{some_behind}
use Rattle.router.proofs.paths.first_on.Goals as goal
use Rattle.router.proofs.paths.first_on.Goals.{in-Some+else-leads_on, in_default}

-- what the list would give past its end
abbrev past : Place × Place
past = (TrapEnd (trap 0) Left, TrapEnd (trap 0) Left)

there : (xs ys : List (Place × Place)) (i : ℕ) → xs ≡ ys → i < length xs → (slice_get ys i ≡ Some (get_or xs i past)) × (i < length ys)
there xs ys i same less = (ap (λ (zs : List (Place × Place)). slice_get zs i) (sym same) ∙ slice_get-get_or xs i past less, omega (arith, less, ap (λ (zs : List (Place × Place)). length zs) same))

pub returns-then-leads_on : goal.returns-then-leads_on
returns-then-leads_on c =
    let at : (slice_get c.args.wiring.now.segments c.loop-number.number ≡ Some (get_or c.segments-ends-items.result.now c.loop-number.number past)) × (c.loop-number.number < length c.args.wiring.now.segments) =
    there c.segments-ends-items.result.now c.args.wiring.now.segments c.loop-number.number c.segments-ends-items.ensures.value c.loop-number-test.true in
    first_leads c.args.wiring.now c.args.to.0 c.args.left c.loop-number.number (site c.args.place) (get_or c.segments-ends-items.result.now c.loop-number.number past) c.in-Some.far c.args.steps.now c.segments-ends-items.ensures.wiring c.requires.least
    (known c.args.wiring.now c.args.to.0 c.args.left c.args.place c.args.steps.now c.requires.there c.requires.least c.requires.count) at.0 at.1 c.loop-number.invariant (sym c.in-Some.is ∙ c.far_end.ensures) (sym c.leads_on.ensures ∙ c.if-leads_on.true)

pub loop-number-preserved : goal.loop-number-preserved
loop-number-preserved c =
    let at : (slice_get c.args.wiring.now.segments c.loop-number.number ≡ Some (get_or c.segments-ends-items.result.now c.loop-number.number past)) × (c.loop-number.number < length c.args.wiring.now.segments) =
    there c.segments-ends-items.result.now c.args.wiring.now.segments c.loop-number.number c.segments-ends-items.ensures.value c.loop-number-test.true in
    let by_far : some_behind c.args.wiring.now c.args.to.0 c.args.left (site c.args.place) c.loop-number.number ≡ far_leads c.args.steps.now c.args.to.0 c.args.left c.far_end.result =
    behind_by_far c.args.wiring.now c.args.to.0 c.args.left c.loop-number.number (site c.args.place) (get_or c.segments-ends-items.result.now c.loop-number.number past) c.args.steps.now c.segments-ends-items.ensures.wiring c.requires.least
    (known c.args.wiring.now c.args.to.0 c.args.left c.args.place c.args.steps.now c.requires.there c.requires.least c.requires.count) at.0 at.1 ∙ ap (far_leads c.args.steps.now c.args.to.0 c.args.left) (sym c.far_end.ensures) in
    below_more _ _ c.loop-number.invariant (elim c.match-far_end.branch [
      | in-Some+else-leads_on w ↦ by_far ∙ ap (far_leads c.args.steps.now c.args.to.0 c.args.left) w.in-Some.is ∙ sym w.leads_on.ensures ∙ w.if-leads_on.false
      | in_default w ↦ by_far ∙ none_leads c.args.steps.now c.args.to.0 c.args.left c.far_end.result w.in_default.not-Some
    ])

pub unreachable-requires : goal.unreachable-requires
unreachable-requires c =
    never_none c.args.wiring.now c.args.to.0 c.args.left c.loop-number.number (site c.args.place)
    (known c.args.wiring.now c.args.to.0 c.args.left c.args.place c.args.steps.now c.requires.there c.requires.least c.requires.count)
    (omega (arith, c.loop-number-test.false, ap (λ (zs : List (Place × Place)). length zs) c.segments-ends-items.ensures.value)) c.loop-number.invariant
