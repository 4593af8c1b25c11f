use Rattle.std.proofs.Common.{arith, sym, ◌≡◌, ◌∙◌, subst, List, ℕ, take, get_or}
use Rattle.std.proofs.lemmas.Grind.{common_steps}
use Rattle.std.proofs.lemmas.List.{take_all}
use Rattle.qccd_circuit.specs.Marks.{AreMarks}
use Rattle.qccd_circuit.specs.Operands.{operands_of}
use Rattle.qccd_circuit.proofs.MarkLemmas.{greatest_more, greatest-mark_before, operand_below}
use Rattle.qccd_circuit.proofs.marks.Marks.before.Goals as goal

pub offset_bounds-self-inside-operand : goal.offset_bounds-self-inside-operand
offset_bounds-self-inside-operand c = let below = operand_below c.args.item.now c.loop-k.k c.requires.within (omega arith) in omega arith

pub bounds-self-inside-operand : goal.bounds-self-inside-operand
bounds-self-inside-operand c = let below = operand_below c.args.item.now c.loop-k.k c.requires.within (omega arith) in omega arith

pub loop-k-preserved : goal.loop-k-preserved
loop-k-preserved c =
    let more = greatest_more (λ o. get_or c.self.inside.rows o 0) (operands_of c.args.item.now) c.loop-k.k (omega arith) in
    let below = operand_below c.args.item.now c.loop-k.k c.requires.within (omega arith) in
    grind (arith, common_steps)

pub returns : goal.returns
returns c = λ marked shows.
    let all : take c.loop-k.k (operands_of c.args.item.now) ≡ operands_of c.args.item.now = take_all c.loop-k.k (operands_of c.args.item.now) (omega arith) in
    rw all at c.loop-k.invariant ∙ greatest-mark_before marked c.self.inside.rows c.args.item.now c.requires.within (subst (λ (rows : List ℕ). AreMarks marked rows) (sym c.self.view_is) shows)
