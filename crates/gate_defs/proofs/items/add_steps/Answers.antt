-- The item of a step is one of those that fit.
use Rattle.std.proofs.Common.{ℕ, ◌<◌, sym, subst, None}
use Rattle.std.proofs.lemmas.List.{get_or-map, length-map}
use Rattle.std.specs.Prelude.{codes}
use Rattle.qccd_base.specs.Names.{qubit}
use Rattle.qccd_circuit.specs.Item.{Fits}
use Rattle.gate_defs.specs.Items.{one}
use Rattle.gate_defs.specs.Steps.{step_item}
use Rattle.gate_defs.proofs.items.add_steps.Goals as goal

pub step_item-requires : goal.step_item-requires
step_item-requires c =
    let item = step_item c.args.three c.args.cond in
    let i = c.loop-step.step-index in
    let steps = c.args.steps.now in
    subst Fits (get_or-map item steps i _ (one (codes "h") (qubit 0) None) c.loop-step-test.true)
    (c.requires i (one (codes "h") (qubit 0) None) (subst (λ (n : ℕ). i < n) (sym (length-map steps item)) c.loop-step-test.true))
