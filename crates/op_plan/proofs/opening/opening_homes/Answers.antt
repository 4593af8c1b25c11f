use Rattle.std.proofs.Common.{arith, ap, sym, ◌∙◌, ℕ, get_or, List, Some}
use Rattle.std.proofs.lemmas.Option.{slice_get-get_or}
use Rattle.qccd_base.specs.declared.names.Ion.{Ion}
use Rattle.op_plan.proofs.Begun.{all_homes, next_homes, houses}
use Rattle.op_plan.proofs.opening.opening_homes.Goals as goal

pub house-requires : goal.house-requires
house-requires c =
    houses c.args.machine.now c.args.qubits c.args.chains.now c.loop-trap.trap c.loop-trap.homes.items c.as_slice.result.now c.requires (slice_get-get_or c.args.chains.now c.loop-trap.trap c.index-chains-from.result (omega (arith, c.requires.chains, c.loop-trap-test.true, c.traps-trap-end.ensures.count)) ∙ ap (λ (xs : List Ion). Some xs) (sym (c.as_slice.ensures ∙ c.index-chains-from.is ∙ ap (λ (i : ℕ). get_or c.args.chains.now i c.index-chains-from.result) c.from-in-loop-trap.ensures))) c.loop-trap.invariant.long

pub loop-trap-preserved : goal.loop-trap-preserved
loop-trap-preserved c =
    next_homes c.args.machine.now c.args.qubits c.args.chains.now c.loop-trap.trap c.loop-trap.homes.items c.house.new.homes.items c.as_slice.result.now c.requires (slice_get-get_or c.args.chains.now c.loop-trap.trap c.index-chains-from.result (omega (arith, c.requires.chains, c.loop-trap-test.true, c.traps-trap-end.ensures.count)) ∙ ap (λ (xs : List Ion). Some xs) (sym (c.as_slice.ensures ∙ c.index-chains-from.is ∙ ap (λ (i : ℕ). get_or c.args.chains.now i c.index-chains-from.result) c.from-in-loop-trap.ensures))) c.loop-trap.invariant c.house.ensures

pub returns : goal.returns
returns c bits =
    all_homes c.args.machine.now c.args.qubits bits c.args.chains.now c.loop-trap.trap c.loop-trap.homes.items c.requires
    (omega (arith, c.loop-trap-test.false, c.traps-trap-end.ensures.count)) c.loop-trap.invariant
