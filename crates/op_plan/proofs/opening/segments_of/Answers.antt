use Rattle.std.proofs.Common.{List, [], ◌∷◌, ◌++◌, ap, ◌∙◌, arith}
use Rattle.qccd_machine.specs.declared.place.Place.{Place}
use Rattle.op_plan.proofs.Begun.{taken_all, taken_next}
use Rattle.op_plan.proofs.opening.segments_of.Goals as goal

pub loop-seg-preserved : goal.loop-seg-preserved
loop-seg-preserved c =
    c.in_ok-push.ensures.items ∙ ap (λ (xs : List (Place × Place)). xs ++ c.ends.result ∷ []) c.loop-seg.invariant
    ∙ taken_next c.args.machine.now.segments c.loop-seg.seg c.ends.result c.ends.ensures

pub returns : goal.returns
returns c = c.loop-seg.invariant ∙ taken_all c.args.machine.now.segments c.loop-seg.seg (omega (arith, c.loop-seg-test.false, c.segments-seg-end.ensures))
