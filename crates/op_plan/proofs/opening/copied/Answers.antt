use Rattle.std.proofs.Common.{List, [], ◌∷◌, ◌++◌, ap, sym, ◌∙◌, Some}
use Rattle.std.proofs.lemmas.Option.{slice_get-get_or}
use Rattle.qccd_base.specs.declared.names.Ion.{Ion}
use Rattle.op_plan.proofs.Begun.{taken_all, taken_next}
use Rattle.op_plan.proofs.opening.copied.Goals as goal

pub loop-chain-preserved : goal.loop-chain-preserved
loop-chain-preserved c =
    c.in_ok-push.ensures.items ∙ ap (λ (xs : List (List Ion)). xs ++ c.of.result ∷ []) c.loop-chain.invariant
    ∙ taken_next c.args.chains.now c.loop-chain.chain-index c.of.result
    (slice_get-get_or c.args.chains.now c.loop-chain.chain-index c.chain-item.result c.loop-chain-test.true
    ∙ ap (λ (xs : List Ion). Some xs) (sym (c.of.ensures ∙ c.in_ok-from_slice.ensures.items ∙ c.as_slice.ensures ∙ c.chain-item.is)))

pub returns : goal.returns
returns c = c.loop-chain.invariant ∙ taken_all c.args.chains.now c.loop-chain.chain-index c.loop-chain-test.false
