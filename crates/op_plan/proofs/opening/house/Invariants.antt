use Rattle.std.proofs.Common.{◌≡◌, drop, length}
use Rattle.op_plan.specs.Kept.{housed}
use Rattle.op_plan.proofs.opening.house.Given as goal

abbrev pub invariant-loop-ion : goal.invariant-loop-ion
invariant-loop-ion l = record {
  whole : housed l.trap (drop l.ion-index l.ions) l.homes.items ≡ housed l.trap l.ions l.fn.homes.items;
  long : length l.homes.items ≡ length l.fn.homes.items;
}
