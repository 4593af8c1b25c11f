use Rattle.std.proofs.Common.{◌≡◌, ◌+◌, ◌∙◌, sym, ap, suc, arith, length, get_or, List, Some}
use Rattle.std.specs.Prelude.{slice_get}
use Rattle.std.proofs.lemmas.Option.{slice_get-get_or}
use Rattle.qccd_base.specs.Names.{trap}
use Rattle.qccd_base.specs.Resource.{same_res}
use Rattle.qccd_base.specs.declared.names.End.TheVariants.{Left}
use Rattle.qccd_machine.specs.declared.place.Place.{Place}
use Rattle.qccd_machine.specs.declared.place.Place.TheVariants.{TrapEnd}
use Rattle.qccd_machine.specs.Machine.{site}
use Rattle.router.specs.Steps.{leads_on, steps_at}
use Rattle.router.proofs.Along.{Sound, counted, sound}
use Rattle.router.proofs.Rounds.{both_ends, so_far, so_far_all, so_far_none, told}
use Rattle.router.proofs.steps.Steps.further.Goals as goal

-- what the list would give past its end
abbrev past : Place × Place
past = (TrapEnd (trap 0) Left, TrapEnd (trap 0) Left)

pub loop-a-preserved : goal.loop-a-preserved
loop-a-preserved c = λ p has.
    let ends : Place × Place = get_or c.segments-a-items.result.now c.loop-a.a-index past in
    let is : slice_get c.args.wiring.now.segments c.loop-a.a-index ≡ Some ends = ap (λ (xs : List (Place × Place)). slice_get xs c.loop-a.a-index) (sym c.segments-a-items.ensures.value) ∙ slice_get-get_or c.segments-a-items.result.now c.loop-a.a-index past c.loop-a-test.true in
    let parts : Sound c.args.wiring.now ends = sound c.args.wiring.now c.loop-a.a-index ends c.segments-a-items.ensures.wiring is in
    let next : suc c.loop-a.a-index ≡ c.loop-a.a-index + 1 = omega arith in
    c.reach-in-loop-a.ensures p has
    ∙ ap (λ b. told b (same_res (site ends.1) (site p)) (c.args.left + 1) (steps_at c.reach.new.self p)) c.leads_on-in-loop-a.ensures
    ∙ ap (told (leads_on c.args.self.now c.args.to.0 ends.0 c.args.left) (same_res (site ends.1) (site p)) (c.args.left + 1))
    (c.reach.ensures p has ∙ ap (λ b. told b (same_res (site ends.0) (site p)) (c.args.left + 1) (steps_at c.loop-a.steps p)) c.leads_on.ensures
    ∙ ap (told (leads_on c.args.self.now c.args.to.0 ends.1 c.args.left) (same_res (site ends.0) (site p)) (c.args.left + 1)) (c.loop-a.invariant p has))
    ∙ both_ends c.args.wiring.now c.args.to.0 c.args.left c.loop-a.a-index (site p) ends.0 ends.1 c.args.self.now c.segments-a-items.ensures.wiring is (omega (arith, c.loop-a-test.true, ap (λ (xs : List (Place × Place)). length xs) c.segments-a-items.ensures.value))
    (counted c.args.wiring.now ends.0 c.segments-a-items.ensures.wiring parts.near_there) (counted c.args.wiring.now ends.1 c.segments-a-items.ensures.wiring parts.far_there) c.requires.least
    ∙ ap (λ n. so_far c.args.wiring.now c.args.to.0 c.args.left n (site p)) next

pub loop-a-init : goal.loop-a-init
loop-a-init c = λ p has. c.requires.least p has ∙ sym (so_far_none c.args.wiring.now c.args.to.0 c.args.left (site p))

pub returns : goal.returns
returns c = λ p has.
    let all : c.loop-a.a-index ≡ length c.args.wiring.now.segments = omega (arith, c.loop-a-test.false, c.loop-a.auto.a-index-end, ap (λ (xs : List (Place × Place)). length xs) c.segments-a-items.ensures.value) in
    c.loop-a.invariant p has ∙ ap (λ n. so_far c.args.wiring.now c.args.to.0 c.args.left n (site p)) all ∙ so_far_all c.args.wiring.now c.args.to.0 c.args.left (site p)
