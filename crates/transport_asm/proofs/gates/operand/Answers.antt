use Rattle.std.proofs.Common.{ℕ, List, ◌∷◌, Option, Result, option_copied, Bor, sym, ap, ◌∙◌, subst}
use Rattle.qccd_base.specs.declared.names.Qubit.{Qubit}
use Rattle.op_text.specs.declared.kind.AsmKind.{AsmKind}
use Rattle.transport_asm.specs.Cursor.{Gives, parts_left}
use Rattle.op_text.specs.Slots.{operand_of_parts}
use Rattle.transport_asm.proofs.GateReading.{two_parts}
use Rattle.transport_asm.proofs.gates.operand.Goals as goal

pub returns-in-Some : goal.returns-in-Some
returns-in-Some c =
    let front = c.cut_at.result.0.now in
    let parts = ap operand_of_parts (c.cut_at.ensures.parts ∙ ap (λ (rest : Option (Bor (List ℕ))). front ∷ parts_left 64 (option_copied rest)) c.in-Some.is) ∙ two_parts front c.in-Some.position.now in
    subst (λ (read : Result (Qubit × ℕ) AsmKind). Gives (λ (operand : Qubit × ℕ). operand) c.operand_of.result read) (sym parts) c.operand_of.ensures
