use Rattle.std.proofs.Common.{List, length, sym, subst}
use Rattle.qccd_machine.specs.declared.place.Place.{Place}
use Rattle.qccd_machine.specs.Machine.{first_trap}
use Rattle.qccd_machine.specs.Reach.{IsClosedBelow}
use Rattle.qccd_machine.proofs.Paths.{all_marked}
use Rattle.qccd_machine.proofs.reach.Reached.from_first_trap.Goals as goal

pub loop-preserved : goal.loop-preserved
loop-preserved c = record {
  first = c.spread.ensures.keeps first_trap c.loop.invariant.first;
  reached = λ m same. c.spread.ensures.reached m same (c.loop.invariant.reached m same);
}

pub returns : goal.returns
returns c = λ m r same. (
  c.spread.ensures.reached m same (c.loop.invariant.reached m same) r,
  all_marked m c.spread.new.self r
      (subst (λ (xs : List (Place × Place)). IsClosedBelow xs (length xs) c.spread.new.self) (sym same) (c.spread.ensures.closed c.loop-test.false))
      (c.spread.ensures.keeps first_trap c.loop.invariant.first),
)
