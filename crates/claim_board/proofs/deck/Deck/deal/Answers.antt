use Rattle.std.proofs.Common.{ℕ, replicate, sym, subst, ◌∙◌, ap, arith}
use Rattle.qccd_program.specs.AllCells.{AtStep}
use Rattle.qccd_program.specs.Legal.{IsLegalProgram}
use Rattle.qccd_program.specs.Program.{ProgramData}
use Rattle.claim_core.specs.Board.{width}
use Rattle.claim_board.proofs.Opening.{opening-rules}
use Rattle.claim_board.proofs.deck.Deck.deal.Goals as goal

pub new-requires : goal.new-requires
new-requires c =
    let same = sym c.of.ensures in
    let slots = c.in_ok-slots.ensures in
    let count = c.count_of-count.ensures.count ∙ (λ i. Rattle.op_cells.specs.Numbering.count_of (c.machine.ensures.value i) (c.bits.ensures i)) in
    opening-rules (record { program = c.of.result; workers = c.from.result }) c.as_slice.result.now c.in_ok-slots.slots.items slots.0 (subst IsLegalProgram same c.ops-ops.ensures.legal)
    (omega (arith, c.from.ensures, c.requires.workers.1)) (omega (arith, c.from.ensures, c.requires.workers.0))
    (c.as_slice.ensures.value ∙ c.in_ok-words.ensures.items_if_clones_equal (λ y h. h) ∙ ap (λ (n : ℕ). replicate n 0) (count ∙ ap width same))
    slots.1 (subst (λ (p : ProgramData). AtStep p 0 slots.0) same slots.2)
