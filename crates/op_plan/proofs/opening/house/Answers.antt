use Rattle.std.proofs.Common.{◌∙◌, length-set, Some}
use Rattle.op_plan.proofs.Begun.{housed_next}
use Rattle.op_plan.proofs.opening.house.Goals as goal

pub loop-ion-preserved : goal.loop-ion-preserved
loop-ion-preserved c = record {
  whole = housed_next c.args.trap c.args.ions.now c.args.homes.now.items c.loop-ion.homes.items c.loop-ion.ion-index c.from.result _ c.loop-ion-test.true c.from.ensures c.loop-ion.invariant.whole;
  long = length-set c.loop-ion.homes.items c.from.result (Some c.args.trap) ∙ c.loop-ion.invariant.long;
}
