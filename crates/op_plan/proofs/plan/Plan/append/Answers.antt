use Rattle.std.proofs.Common.{◌∙◌, ap}
use Rattle.op_plan.specs.Plan.{state_of, PlanData}
use Rattle.op_plan.proofs.Agreeing.{why_agrees}
use Rattle.op_table.specs.declared.kinds.OpKind.{OpKind}
use Rattle.op_table.specs.Step.{why}
use Rattle.op_plan.proofs.plan.Plan.append.Goals as goal

pub emit-requires-clause-legal : goal.emit-requires-clause-legal
emit-requires-clause-legal c =
    ap (λ (p : PlanData). why c.args.machine.now (state_of p) c.in_ok-op.op) c.self.view_is ∙ ap (λ (op : OpKind). why c.args.machine.now (state_of c.args.self.now) op) c.in_ok-op.ensures ∙ why_agrees c.args.machine.now c.args.self.now (state_of c.args.self.now) c.args.kind c.requires.machine ∙ c.requires.run.0
