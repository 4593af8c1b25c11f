use Rattle.std.proofs.Common.{arith, ◌∙◌}
use Rattle.std.proofs.lemmas.List.{length-set}
use Rattle.qccd_circuit.specs.Operands.{operands_of}
use Rattle.meaning_check.proofs.Leasts.{put_next, operand_below}
use Rattle.meaning_check.proofs.overtaking.put.Goals as goal

pub offset_bounds-rows-row : goal.offset_bounds-rows-row
offset_bounds-rows-row c = let below = operand_below c.args.item.now c.loop-k.k c.requires.within (omega arith) in omega arith

pub bounds-rows-row : goal.bounds-rows-row
bounds-rows-row c = let below = operand_below c.args.item.now c.loop-k.k c.requires.within (omega arith) in omega arith

pub offset_bounds-rows-row-in-loop-k : goal.offset_bounds-rows-row-in-loop-k
offset_bounds-rows-row-in-loop-k c = let below = operand_below c.args.item.now c.loop-k.k c.requires.within (omega arith) in omega arith

pub bounds-rows-row-in-loop-k : goal.bounds-rows-row-in-loop-k
bounds-rows-row-in-loop-k c = let below = operand_below c.args.item.now c.loop-k.k c.requires.within (omega arith) in omega arith

pub loop-k-preserved : goal.loop-k-preserved
loop-k-preserved c =
    let below = operand_below c.args.item.now c.loop-k.k c.requires.within (omega arith) in
    record {
      size = length-set c.loop-k.rows c.operand-row.result c.min.result ∙ c.loop-k.invariant.size;
      rows = put_next (operands_of c.args.item.now) c.loop-k.rows c.args.rows.now c.loop-k.k c.args.number c.operand-row.result c.min.result (omega arith) c.operand-row.ensures (omega arith) c.loop-k.invariant.size c.min.ensures c.loop-k.invariant.rows;
    }
