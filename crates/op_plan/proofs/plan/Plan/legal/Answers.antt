use Rattle.std.proofs.Common.{subst}
use Rattle.op_plan.specs.Kept.{Keeps}
use Rattle.op_plan.specs.Plan.{PlanData}
use Rattle.op_plan.proofs.Emitted.{cells_of, why_read}
use Rattle.op_plan.proofs.plan.Plan.legal.Goals as goal

pub legal-requires : goal.legal-requires
legal-requires c =
    let keeps = subst (λ (p : PlanData). Keeps p c.self.inside.cells c.self.inside.homes.items) c.self.view_is c.self.invariant in
    cells_of c.args.machine.now c.args.self.now c.self.inside.cells c.self.inside.homes.items c.requires keeps

pub returns : goal.returns
returns c =
    let keeps = subst (λ (p : PlanData). Keeps p c.self.inside.cells c.self.inside.homes.items) c.self.view_is c.self.invariant in
    why_read c.args.machine.now c.args.self.now c.args.op.now c.self.inside.cells c.self.inside.homes.items _ c.requires keeps c.kind-kind.ensures.is_op c.legal.ensures
