use Rattle.std.proofs.Common.{◌≡◌, Some, ◌∙◌, sym, ap, take, drop}
use Rattle.std.specs.Prelude.{slice_get}
use Rattle.ion_mapping.specs.Placement.{fills, filled}
use Rattle.ion_mapping.proofs.Filling.{fill_there, chain_filled}
use Rattle.ion_mapping.proofs.placing.chains_of.Goals as goal

pub loop-trap-preserved : goal.loop-trap-preserved
loop-trap-preserved c =
    let here : slice_get (fills c.args.machine.now c.args.spare) c.loop-trap.trap ≡ Some c.from-most.result =
    fill_there c.args.machine.now c.args.spare c.loop-trap.trap c.capacity.result c.capacity.ensures ∙ ap Some (sym (c.from-most.ensures ∙ c.fill.ensures)) in
    chain_filled (fills c.args.machine.now c.args.spare) c.loop-trap.trap c.from-most.result c.loop-trap.chains.items c.push.new.self.items c.loop-trap.rest.now c.of.result c.split_at.result.1.now (filled (fills c.args.machine.now c.args.spare) c.args.ions.now)
    here c.in_ok-push.ensures.items
    (c.of.ensures ∙ c.in_ok-from_slice.ensures.items ∙ c.split_at.ensures.front ∙ ap (λ n. take n c.loop-trap.rest.now) c.min.ensures)
    (c.split_at.ensures.back ∙ ap (λ n. drop n c.loop-trap.rest.now) c.min.ensures) c.loop-trap.invariant
