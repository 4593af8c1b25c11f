use Rattle.std.proofs.Common.{ℕ, ◌+◌, ap, ap₂, max, sym, ◌∙◌}
use Rattle.std.proofs.lemmas.List.Sums.{sum_by_more}
use Rattle.gate_defs.specs.declared.kinds.BodyStep.{BodyStep}
use Rattle.gate_defs.specs.Kept.{counts_in, depths_in, weights_in}
use Rattle.gate_defs.specs.Measures.{depth_under, size_of}
use Rattle.gate_defs.proofs.Measuring.{greatest_next}
use Rattle.gate_defs.proofs.measures.of_steps.Goals as goal

pub loop-step-preserved : goal.loop-step-preserved
loop-step-preserved c =
    let known = c.args.known.now in
    let steps = c.args.steps.now in
    let i = c.loop-step.step-index in
    let s = c.step-item.result in
    let within = c.loop-step-test.true in
    let own = c.of_callee-of_step.ensures in
    let so_far = c.loop-step.invariant in
    let depth : BodyStep → ℕ = λ s. depth_under (depths_in known) s.callee in
    let weight : BodyStep → ℕ = λ s. size_of (weights_in known) s.callee in
    let items : BodyStep → ℕ = λ s. size_of (counts_in known) s.callee in
    record {
      depth = c.max-depth.ensures ∙ ap₂ max (own.depth ∙ ap depth c.step-item.is) so_far.depth ∙ sym (greatest_next depth steps i s within);
      weight = ap₂ (λ (a b : ℕ). a + b) so_far.weight (own.weight ∙ ap weight c.step-item.is) ∙ sym (sum_by_more weight steps i s within);
      items = ap₂ (λ (a b : ℕ). a + b) so_far.items (own.items ∙ ap items c.step-item.is) ∙ sym (sum_by_more items steps i s within);
    }
