-- What was found from here on, and the least number on each operand there.
use Rattle.std.proofs.Common.{drop}
use Rattle.op_table.specs.Run.{items_in}
use Rattle.meaning_check.specs.Least.{AreLeast}
use Rattle.meaning_check.proofs.Overtakes.{Found}
use Rattle.meaning_check.proofs.overtaking.first_to_overtake.Given as goal

abbrev pub invariant-loop-k : goal.invariant-loop-k
invariant-loop-k l = record {
  rows : AreLeast (items_in (drop l.k l.ops)) l.rows;
  found : Found (items_in (drop l.k l.ops)) l.found;
}
