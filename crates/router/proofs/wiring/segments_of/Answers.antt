use Rattle.std.proofs.Common.{◌≡◌, ◌+◌, ◌++◌, ◌∷◌, [], ◌∙◌, ap, sym, suc, take, List, arith}
use Rattle.std.proofs.lemmas.Option.{slice_get_within, get_or_from_slice_get}
use Rattle.std.proofs.Math.Seq.{take-suc}
use Rattle.qccd_machine.specs.declared.place.Place.{Place}
use Rattle.router.proofs.wiring.segments_of.Goals as goal

pub loop-number-preserved : goal.loop-number-preserved
loop-number-preserved c =
    let next : suc c.loop-number.number ≡ c.loop-number.number + 1 = omega arith in
    c.in_ok-push.ensures.items ∙ ap (λ (xs : List (Place × Place)). xs ++ c.ends.result ∷ []) c.loop-number.invariant
    ∙ ap (λ (x : Place × Place). take c.loop-number.number c.args.machine.now.segments ++ x ∷ []) (sym (get_or_from_slice_get c.args.machine.now.segments c.loop-number.number c.ends.result c.ends.result c.ends.ensures))
    ∙ sym (take-suc c.args.machine.now.segments c.loop-number.number c.ends.result (slice_get_within c.args.machine.now.segments c.loop-number.number c.ends.result c.ends.ensures))
    ∙ ap (λ k. take k c.args.machine.now.segments) next
