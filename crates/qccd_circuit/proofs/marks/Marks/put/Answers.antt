use Rattle.std.proofs.Common.{arith, sym, ◌≡◌, subst, List, ℕ, take}
use Rattle.std.proofs.lemmas.List.{take_all}
use Rattle.qccd_circuit.specs.Marks.{AreMarks}
use Rattle.qccd_circuit.specs.Operands.{operands_of}
use Rattle.qccd_circuit.proofs.MarkLemmas.{AreMarks-put, operand_below}
use Rattle.qccd_circuit.proofs.marks.Marks.put.Goals as goal

pub offset_bounds-self-inside-operand : goal.offset_bounds-self-inside-operand
offset_bounds-self-inside-operand c = let below = operand_below c.args.item.now c.loop-k.k c.requires.within (omega arith) in omega arith

pub bounds-self-inside-operand : goal.bounds-self-inside-operand
bounds-self-inside-operand c = let below = operand_below c.args.item.now c.loop-k.k c.requires.within (omega arith) in omega arith

pub returns : goal.returns
returns c = λ marked shows low.
    let all : take c.loop-k.k (operands_of c.args.item.now) ≡ operands_of c.args.item.now = take_all c.loop-k.k (operands_of c.args.item.now) (omega arith) in
    AreMarks-put marked c.self.inside.rows c.loop-k.self-inside.rows c.args.item.now c.args.mark (subst (λ (rows : List ℕ). AreMarks marked rows) (sym c.self.view_is) shows) low c.loop-k.invariant.size
    (rw all at c.loop-k.invariant.rows)
