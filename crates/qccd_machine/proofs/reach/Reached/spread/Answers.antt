use Rattle.std.proofs.Common.{◌≡◌, ◌<◌, List, get_or, Some, sym, ◌∙◌, ap, arith}
use Rattle.std.specs.Prelude.{slice_get}
use Rattle.std.proofs.lemmas.Bool.{false≢true}
use Rattle.std.proofs.lemmas.Option.{slice_get-get_or}
use Rattle.qccd_base.specs.declared.names.End.TheVariants.{Left}
use Rattle.qccd_machine.specs.declared.place.Place.{Place}
use Rattle.qccd_machine.specs.declared.place.Place.TheVariants.{TrapEnd}
use Rattle.qccd_machine.specs.Reach.{unmarked}
use Rattle.qccd_machine.proofs.Paths.{closed_more}
use Rattle.qccd_machine.proofs.reach.Reached.spread.Goals as goal
use Rattle.qccd_machine.proofs.reach.Reached.spread.Goals.{then-follow, else-follow}

-- what the list would give past its end
abbrev past : Place × Place
past = (TrapEnd (record { 0 = 0 }) Left, TrapEnd (record { 0 = 0 }) Left)

pub loop-ends-preserved : goal.loop-ends-preserved
loop-ends-preserved c =
    let is : slice_get c.args.segments.now c.loop-ends.ends-index ≡ Some (get_or c.args.segments.now c.loop-ends.ends-index past) = slice_get-get_or c.args.segments.now c.loop-ends.ends-index past c.loop-ends-test.true in
    elim c.if-follow.branch [
      | then-follow w ↦
          let less : unmarked c.follow.new.self < unmarked c.loop-ends.self = c.follow.ensures.fewer w.if-follow.true in
          record {
            keeps = λ r h. c.follow.ensures.keeps r (c.loop-ends.invariant.keeps r h);
            reached = λ m same all. c.follow.ensures.reached m c.loop-ends.ends-index (ap (λ (xs : List (Place × Place)). slice_get xs c.loop-ends.ends-index) same ∙ is) (c.loop-ends.invariant.reached m same all);
            most = omega (arith, less, c.loop-ends.invariant.most);
            fewer = λ found. omega (arith, less, c.loop-ends.invariant.most);
            closed = λ none. absurd (false≢true (sym none ∙ w.found-is));
          }
      | else-follow w ↦
          let same_marks : c.follow.new.self ≡ c.loop-ends.self = c.follow.ensures.same w.if-follow.false in
          let equal : unmarked c.follow.new.self ≡ unmarked c.loop-ends.self = ap unmarked same_marks in
          record {
            keeps = λ r h. c.follow.ensures.keeps r (c.loop-ends.invariant.keeps r h);
            reached = λ m same all. c.follow.ensures.reached m c.loop-ends.ends-index (ap (λ (xs : List (Place × Place)). slice_get xs c.loop-ends.ends-index) same ∙ is) (c.loop-ends.invariant.reached m same all);
            most = omega (arith, equal, c.loop-ends.invariant.most);
            fewer = λ found. let before : unmarked c.loop-ends.self < unmarked c.args.self.now = c.loop-ends.invariant.fewer (sym w.found-is ∙ found) in omega (arith, equal, before);
            closed = λ none. closed_more c.args.segments.now c.loop-ends.ends-index (get_or c.args.segments.now c.loop-ends.ends-index past) c.loop-ends.self c.follow.new.self is same_marks c.follow.ensures.both (c.loop-ends.invariant.closed (sym w.found-is ∙ none));
          }
    ]
