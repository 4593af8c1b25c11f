use Rattle.std.proofs.Common.{◌≡◌, ◌∙◌, ◌∷◌, [], ap, sym, subst}
use Rattle.op_plan.specs.Plan.{state_of, wired, with_ops}
use Rattle.op_table.specs.declared.kinds.OpKind.{OpKind}
use Rattle.op_table.specs.declared.kinds.OpKind.TheVariants.{Move}
use Rattle.op_table.specs.Run.{IsRun}
use Rattle.rebalancer.specs.Hop.{arrive_by, leave_by}
use Rattle.rebalancer.proofs.Appending.{run_on}
use Rattle.rebalancer.proofs.hopping.cross.Goals as goal

pub append-requires-2-clause-run : goal.append-requires-2-clause-run
append-requires-2-clause-run c =
    let left : c.append.new.self ≡ with_ops c.args.plan.now (leave_by c.args.seg.0 c.args.near ∷ []) = c.in_ok-append.ensures.done ∙ ap (λ (k : OpKind). with_ops c.args.plan.now (k ∷ [])) c.leave_by.ensures.value in
    let rest = run_on c.args.plan.now c.append.new.self (leave_by c.args.seg.0 c.args.near ∷ []) (Move c.args.seg ∷ arrive_by c.args.seg.0 c.args.far ∷ []) left c.requires.run in
    (rest.0, tt)

pub append-requires-3-clause-run : goal.append-requires-3-clause-run
append-requires-3-clause-run c =
    let left : c.append.new.self ≡ with_ops c.args.plan.now (leave_by c.args.seg.0 c.args.near ∷ []) = c.in_ok-append.ensures.done ∙ ap (λ (k : OpKind). with_ops c.args.plan.now (k ∷ [])) c.leave_by.ensures.value in
    let rest = run_on c.args.plan.now c.append.new.self (leave_by c.args.seg.0 c.args.near ∷ []) (Move c.args.seg ∷ arrive_by c.args.seg.0 c.args.far ∷ []) left c.requires.run in
    let last = run_on c.append.new.self c.append-2.new.self (Move c.args.seg ∷ []) (arrive_by c.args.seg.0 c.args.far ∷ []) c.in_ok-append-2.ensures.done rest in
    subst (λ (k : OpKind). IsRun (wired c.append-2.new.self) (state_of c.append-2.new.self) (k ∷ [])) (sym c.arrive_by.ensures.value) last
