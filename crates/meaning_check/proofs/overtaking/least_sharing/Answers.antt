use Rattle.std.proofs.Common.{arith, ◌≡◌, ◌∙◌, take, get_or}
use Rattle.std.proofs.lemmas.Grind.{common_steps}
use Rattle.std.proofs.lemmas.List.{take_all}
use Rattle.qccd_circuit.specs.Operands.{operands_of}
use Rattle.meaning_check.proofs.Leasts.{least_more, least_of_rows, operand_below}
use Rattle.meaning_check.proofs.overtaking.least_sharing.Goals as goal

pub offset_bounds-rows-operand : goal.offset_bounds-rows-operand
offset_bounds-rows-operand c = let below = operand_below c.args.item.now c.loop-k.k c.requires.within (omega arith) in omega arith

pub bounds-rows-operand : goal.bounds-rows-operand
bounds-rows-operand c = let below = operand_below c.args.item.now c.loop-k.k c.requires.within (omega arith) in omega arith

pub loop-k-preserved : goal.loop-k-preserved
loop-k-preserved c =
    let more = least_more (λ o. get_or c.args.rows.now o 0) (operands_of c.args.item.now) c.loop-k.k (omega arith) in
    let below = operand_below c.args.item.now c.loop-k.k c.requires.within (omega arith) in
    grind (arith, common_steps)

pub returns : goal.returns
returns c = λ list shows.
    let all : take c.loop-k.k (operands_of c.args.item.now) ≡ operands_of c.args.item.now = take_all c.loop-k.k (operands_of c.args.item.now) (omega arith) in
    rw all at c.loop-k.invariant ∙ least_of_rows list c.args.rows.now c.args.item.now c.requires.within shows
