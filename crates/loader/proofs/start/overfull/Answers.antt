use Rattle.std.proofs.Common.{◌≡◌, ◌<◌, [], length, get_or, sym, ◌∙◌, ap, arith}
use Rattle.std.proofs.lemmas.Option.{get_or_from_slice_get}
use Rattle.loader.proofs.Starts.{get_or_any, overfull_here, overfull_none, overfull_next}
use Rattle.loader.proofs.start.overfull.Goals as goal

pub returns-then-as_slice-from : goal.returns-then-as_slice-from
returns-then-as_slice-from c =
    let m = c.args.machine.now in
    let chains = c.args.chains.now in
    let t = c.loop-trap.trap in
    let within : t < length chains = omega (arith, c.loop-trap-test.true, c.traps-trap-end.ensures.count, c.requires) in
    let cap : get_or m.capacities t 0 ≡ c.capacity.result = get_or_from_slice_get m.capacities t c.capacity.result 0 c.capacity.ensures in
    let long : length (get_or chains t []) ≡ length c.as_slice.result.now = ap length (get_or_any chains t [] c.index-chains-from.result within ∙ sym (ap (λ i. get_or chains i c.index-chains-from.result) c.from.ensures) ∙ sym c.index-chains-from.is ∙ sym c.as_slice.ensures) in
    overfull_here m chains t within (omega (arith, cap, long, c.from-in-loop-trap.ensures, c.if-as_slice-from.true)) c.loop-trap.invariant

pub loop-trap-preserved : goal.loop-trap-preserved
loop-trap-preserved c =
    let m = c.args.machine.now in
    let chains = c.args.chains.now in
    let t = c.loop-trap.trap in
    let within : t < length chains = omega (arith, c.loop-trap-test.true, c.traps-trap-end.ensures.count, c.requires) in
    let cap : get_or m.capacities t 0 ≡ c.capacity.result = get_or_from_slice_get m.capacities t c.capacity.result 0 c.capacity.ensures in
    let long : length (get_or chains t []) ≡ length c.as_slice.result.now = ap length (get_or_any chains t [] c.index-chains-from.result within ∙ sym (ap (λ i. get_or chains i c.index-chains-from.result) c.from.ensures) ∙ sym c.index-chains-from.is ∙ sym c.as_slice.ensures) in
    overfull_next m chains t (omega (arith, cap, long, c.from-in-loop-trap.ensures, c.if-as_slice-from.false)) c.loop-trap.invariant

pub returns : goal.returns
returns c = overfull_none c.args.machine.now c.args.chains.now c.loop-trap.trap (omega (arith, c.loop-trap-test.false, c.traps-trap-end.ensures.count, c.requires)) c.loop-trap.invariant
