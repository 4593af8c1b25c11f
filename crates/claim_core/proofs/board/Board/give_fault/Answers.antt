use Rattle.std.proofs.Common.{ℕ, List, Option, ap, sym, ◌∙◌}
use Rattle.qccd_base.specs.declared.names.Res.{Res}
use Rattle.qccd_base.specs.Resource.{among}
use Rattle.claim_core.specs.Event.{is_op}
use Rattle.claim_core.proofs.Coded.{give-again, give-granted, give-missing}
use Rattle.claim_core.proofs.board.Board.give_fault.Goals as goal

pub returns-then-is_some : goal.returns-then-is_some
returns-then-is_some c =
    give-missing c.args.program.now c.args.self.now c.args.worker c.args.op c.args.r c.first_not_got-missing.result
    (ap (λ (o : Option ℕ). is_op o c.args.op) (sym c.hand-hand.ensures) ∙ sym c.is_in_hand.ensures ∙ c.if-not-is_in_hand.false)
    (ap (λ (rs : List Res). among rs c.args.r) (sym c.touched_by.ensures) ∙ sym c.is_among.ensures ∙ c.if-not-is_among.false) c.first_not_got-missing.ensures
    (sym c.is_some.ensures ∙ c.if-is_some.true)

pub returns-then-gave : goal.returns-then-gave
returns-then-gave c =
    give-again c.args.program.now c.args.self.now c.args.worker c.args.op c.args.r c.first_not_got-missing.result
    (ap (λ (o : Option ℕ). is_op o c.args.op) (sym c.hand-hand.ensures) ∙ sym c.is_in_hand.ensures ∙ c.if-not-is_in_hand.false)
    (ap (λ (rs : List Res). among rs c.args.r) (sym c.touched_by.ensures) ∙ sym c.is_among.ensures ∙ c.if-not-is_among.false) c.first_not_got-missing.ensures
    (sym c.is_some.ensures ∙ c.if-is_some.false) (sym c.gave.ensures ∙ c.if-gave.true)

pub returns : goal.returns
returns c =
    give-granted c.args.program.now c.args.self.now c.args.worker c.args.op c.args.r c.first_not_got-missing.result
    (ap (λ (o : Option ℕ). is_op o c.args.op) (sym c.hand-hand.ensures) ∙ sym c.is_in_hand.ensures ∙ c.if-not-is_in_hand.false)
    (ap (λ (rs : List Res). among rs c.args.r) (sym c.touched_by.ensures) ∙ sym c.is_among.ensures ∙ c.if-not-is_among.false) c.first_not_got-missing.ensures
    (sym c.is_some.ensures ∙ c.if-is_some.false) (sym c.gave.ensures ∙ c.if-gave.false)
