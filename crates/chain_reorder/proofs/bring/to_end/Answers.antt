use Rattle.std.proofs.Common.{arith, ◌≡◌, ◌-◌, List, length, sym, ◌∙◌, subst, OnOk}
use Rattle.qccd_base.specs.declared.names.End.TheVariants.{Right}
use Rattle.qccd_base.specs.declared.names.Mode.TheVariants.{IonSwap, GateSwap}
use Rattle.op_table.specs.declared.kinds.OpKind.{OpKind}
use Rattle.op_plan.specs.Plan.{state_of, wired, with_ops}
use Rattle.op_plan.proofs.Told.{trap_there}
use Rattle.chain_reorder.proofs.Emitting.{capacity_small, few_ops, listed, reached}
use Rattle.chain_reorder.proofs.Running.{runs_down, runs_swap, runs_up, swap_right}
use Rattle.chain_reorder.proofs.bring.to_end.Goals as goal

pub chain-requires : goal.chain-requires
chain-requires c = trap_there c.args.plan.now c.args.qubit c.args.trap c.ops-ops.ensures.is_plan c.requires.there c.requires.stands

pub overflow_cast-last : goal.overflow_cast-last
overflow_cast-last c =
    let r = reached c.args.plan.now c.args.qubit c.args.trap c.in-Some.field-0-0 c.in-Some.at c.chain.result.now c.ops-ops.ensures.is_plan c.requires.there c.requires.stands (sym c.place_of.ensures ∙ c.in-Some.is) c.chain.ensures in
    let fits = r.fits in
    let small = capacity_small c.args.machine.now c.args.plan.now c.args.trap.0 c.traps-traps.ensures.valid c.requires.machine (trap_there c.args.plan.now c.args.qubit c.args.trap c.ops-ops.ensures.is_plan c.requires.there c.requires.stands) in
    omega (arith, fits, small)

pub overflow_sub-last : goal.overflow_sub-last
overflow_sub-last c =
    let r = reached c.args.plan.now c.args.qubit c.args.trap c.in-Some.field-0-0 c.in-Some.at c.chain.result.now c.ops-ops.ensures.is_plan c.requires.there c.requires.stands (sym c.place_of.ensures ∙ c.in-Some.is) c.chain.ensures in
    let within = r.within in
    omega (arith, within)

pub go_down-requires-clause-room : goal.go_down-requires-clause-room
go_down-requires-clause-room c =
    let r = reached c.args.plan.now c.args.qubit c.args.trap c.in-Some.field-0-0 c.in-Some.at c.chain.result.now c.ops-ops.ensures.is_plan c.requires.there c.requires.stands (sym c.place_of.ensures ∙ c.in-Some.is) c.chain.ensures in
    let fits = r.fits in
    let within = r.within in
    omega (arith, fits, within, c.requires.room)

pub go_down-requires-clause-run : goal.go_down-requires-clause-run
go_down-requires-clause-run c =
    let r = reached c.args.plan.now c.args.qubit c.args.trap c.in-Some.field-0-0 c.in-Some.at c.chain.result.now c.ops-ops.ensures.is_plan c.requires.there c.requires.stands (sym c.place_of.ensures ∙ c.in-Some.is) c.chain.ensures in
    let long = r.long in
    let within = r.within in
    runs_down (wired c.args.plan.now) (state_of c.args.plan.now) c.args.trap.0 c.in-Some.at r.there (omega (arith, within, long))

pub go_up-requires-clause-room : goal.go_up-requires-clause-room
go_up-requires-clause-room c =
    let r = reached c.args.plan.now c.args.qubit c.args.trap c.in-Some.field-0-0 c.in-Some.at c.chain.result.now c.ops-ops.ensures.is_plan c.requires.there c.requires.stands (sym c.place_of.ensures ∙ c.in-Some.is) c.chain.ensures in
    let fits = r.fits in
    let within = r.within in
    omega (arith, fits, within, c.requires.room)

pub go_up-requires-clause-run : goal.go_up-requires-clause-run
go_up-requires-clause-run c =
    let r = reached c.args.plan.now c.args.qubit c.args.trap c.in-Some.field-0-0 c.in-Some.at c.chain.result.now c.ops-ops.ensures.is_plan c.requires.there c.requires.stands (sym c.place_of.ensures ∙ c.in-Some.is) c.chain.ensures in
    let long = r.long in
    let within = r.within in
    runs_up (wired c.args.plan.now) (state_of c.args.plan.now) c.args.trap.0 c.in-Some.at (length c.chain.result.now - 1 - c.in-Some.at) r.there (omega (arith, within, long))

pub exchange-requires-clause-few : goal.exchange-requires-clause-few
exchange-requires-clause-few c =
    let r = reached c.args.plan.now c.args.qubit c.args.trap c.in-Some.field-0-0 c.in-Some.at c.chain.result.now c.ops-ops.ensures.is_plan c.requires.there c.requires.stands (sym c.place_of.ensures ∙ c.in-Some.is) c.chain.ensures in
    let fits = r.fits in
    let within = r.within in
    λ some. omega (arith, some, fits, within, c.requires.room)

pub exchange-requires-clause-run : goal.exchange-requires-clause-run
exchange-requires-clause-run c =
    let r = reached c.args.plan.now c.args.qubit c.args.trap c.in-Some.field-0-0 c.in-Some.at c.chain.result.now c.ops-ops.ensures.is_plan c.requires.there c.requires.stands (sym c.place_of.ensures ∙ c.in-Some.is) c.chain.ensures in
    let long = r.long in
    let within = r.within in
    runs_swap (wired c.args.plan.now) (state_of c.args.plan.now) c.args.trap.0 0 c.in-Some.at r.there (omega (arith, within, long))

pub exchange-requires-in-GateSwap-Right-clause-order : goal.exchange-requires-in-GateSwap-Right-clause-order
exchange-requires-in-GateSwap-Right-clause-order c =
    let r = reached c.args.plan.now c.args.qubit c.args.trap c.in-Some.field-0-0 c.in-Some.at c.chain.result.now c.ops-ops.ensures.is_plan c.requires.there c.requires.stands (sym c.place_of.ensures ∙ c.in-Some.is) c.chain.ensures in
    let within = r.within in
    omega (arith, within)

pub exchange-requires-in-GateSwap-Right-clause-few : goal.exchange-requires-in-GateSwap-Right-clause-few
exchange-requires-in-GateSwap-Right-clause-few c =
    let r = reached c.args.plan.now c.args.qubit c.args.trap c.in-Some.field-0-0 c.in-Some.at c.chain.result.now c.ops-ops.ensures.is_plan c.requires.there c.requires.stands (sym c.place_of.ensures ∙ c.in-Some.is) c.chain.ensures in
    let fits = r.fits in
    let within = r.within in
    λ some. omega (arith, some, fits, within, c.requires.room)

pub exchange-requires-in-GateSwap-Right-clause-run : goal.exchange-requires-in-GateSwap-Right-clause-run
exchange-requires-in-GateSwap-Right-clause-run c =
    let r = reached c.args.plan.now c.args.qubit c.args.trap c.in-Some.field-0-0 c.in-Some.at c.chain.result.now c.ops-ops.ensures.is_plan c.requires.there c.requires.stands (sym c.place_of.ensures ∙ c.in-Some.is) c.chain.ensures in
    let long = r.long in
    let within = r.within in
    runs_swap (wired c.args.plan.now) (state_of c.args.plan.now) c.args.trap.0 c.in-Some.at (length c.chain.result.now - 1) r.there (omega (arith, within, long))

pub returns-in-IonSwap-Right-clause-done : goal.returns-in-IonSwap-Right-clause-done
returns-in-IonSwap-Right-clause-done c =
    let r = reached c.args.plan.now c.args.qubit c.args.trap c.in-Some.field-0-0 c.in-Some.at c.chain.result.now c.ops-ops.ensures.is_plan c.requires.there c.requires.stands (sym c.place_of.ensures ∙ c.in-Some.is) c.chain.ensures in
    subst (λ (ops : List OpKind). OnOk c.go_up.result (c.go_up.new.plan ≡ with_ops c.args.plan.now ops))
    (listed c.args.plan.now c.args.qubit c.args.trap (length c.chain.result.now) c.in-Some.at Right c.args.end IonSwap c.args.mode r c.in-IonSwap-Right.is-0 c.in-IonSwap-Right.is-1) c.go_up.ensures.done

pub returns-in-GateSwap-Right-clause-done : goal.returns-in-GateSwap-Right-clause-done
returns-in-GateSwap-Right-clause-done c =
    let r = reached c.args.plan.now c.args.qubit c.args.trap c.in-Some.field-0-0 c.in-Some.at c.chain.result.now c.ops-ops.ensures.is_plan c.requires.there c.requires.stands (sym c.place_of.ensures ∙ c.in-Some.is) c.chain.ensures in
    subst (λ (ops : List OpKind). OnOk c.exchange-in-GateSwap-Right.result (c.exchange-in-GateSwap-Right.new.plan ≡ with_ops c.args.plan.now ops))
    (swap_right c.args.trap.0 (length c.chain.result.now) c.in-Some.at r.within ∙ listed c.args.plan.now c.args.qubit c.args.trap (length c.chain.result.now) c.in-Some.at Right c.args.end GateSwap c.args.mode r c.in-GateSwap-Right.is-0 c.in-GateSwap-Right.is-1)
    c.exchange-in-GateSwap-Right.ensures.done

pub returns-in-None-clause-few : goal.returns-in-None-clause-few
returns-in-None-clause-few c = few_ops c.args.plan.now c.args.qubit c.args.trap c.args.end c.args.mode c.ops-ops.ensures.is_plan c.requires.there c.requires.stands

pub returns-in-IonSwap-Left-clause-few : goal.returns-in-IonSwap-Left-clause-few
returns-in-IonSwap-Left-clause-few c = few_ops c.args.plan.now c.args.qubit c.args.trap c.args.end c.args.mode c.ops-ops.ensures.is_plan c.requires.there c.requires.stands

pub returns-in-IonSwap-Right-clause-few : goal.returns-in-IonSwap-Right-clause-few
returns-in-IonSwap-Right-clause-few c = few_ops c.args.plan.now c.args.qubit c.args.trap c.args.end c.args.mode c.ops-ops.ensures.is_plan c.requires.there c.requires.stands

pub returns-in-GateSwap-Left-clause-few : goal.returns-in-GateSwap-Left-clause-few
returns-in-GateSwap-Left-clause-few c = few_ops c.args.plan.now c.args.qubit c.args.trap c.args.end c.args.mode c.ops-ops.ensures.is_plan c.requires.there c.requires.stands

pub returns-in-GateSwap-Right-clause-few : goal.returns-in-GateSwap-Right-clause-few
returns-in-GateSwap-Right-clause-few c = few_ops c.args.plan.now c.args.qubit c.args.trap c.args.end c.args.mode c.ops-ops.ensures.is_plan c.requires.there c.requires.stands
