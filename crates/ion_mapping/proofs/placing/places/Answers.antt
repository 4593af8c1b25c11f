use Rattle.std.proofs.Common.{◌≡◌, Some, arith, ◌∙◌, sym, ap}
use Rattle.std.specs.Prelude.{slice_get}
use Rattle.ion_mapping.specs.Placement.{fills}
use Rattle.ion_mapping.proofs.Filling.{fill_there, sum_there}
use Rattle.ion_mapping.proofs.placing.places.Goals as goal

pub loop-trap-preserved : goal.loop-trap-preserved
loop-trap-preserved c =
    let here : slice_get (fills c.args.machine.now c.args.spare) c.loop-trap.trap ≡ Some c.from-all.result =
    fill_there c.args.machine.now c.args.spare c.loop-trap.trap c.capacity.result c.capacity.ensures ∙ ap Some (sym (c.from-all.ensures ∙ c.fill.ensures)) in
    record {
      whole = omega (arith, c.loop-trap.invariant.whole, sum_there (fills c.args.machine.now c.args.spare) c.loop-trap.trap c.from-all.result here);
      small = omega (arith, c.loop-trap.invariant.small, c.from-all.ensures, c.fill.type_inv);
    }
