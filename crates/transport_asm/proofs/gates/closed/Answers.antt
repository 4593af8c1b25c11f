use Rattle.std.proofs.Common.{sym, ap, ◌∙◌}
use Rattle.std.proofs.lemmas.Bool.{eq-eqb, ne_eqb}
use Rattle.op_text.specs.Slots.{is_closed, without_last}
use Rattle.transport_asm.proofs.GateReading.{closed_by}
use Rattle.transport_asm.proofs.gates.closed.Goals as goal

pub returns-then-last-eq41-clause-is : goal.returns-then-last-eq41-clause-is
returns-then-last-eq41-clause-is c =
    sym (ap is_closed c.in_ok-last.ensures.cases.0 ∙ (closed_by c.in_ok-last.inner.now c.in_ok-last.last.now).0 ∙ eq-eqb c.in_ok-last.last.now 41 c.if-last-eq41.true)

pub returns-then-last-eq41-clause-inner : goal.returns-then-last-eq41-clause-inner
returns-then-last-eq41-clause-inner c =
    sym (ap without_last c.in_ok-last.ensures.cases.0 ∙ (closed_by c.in_ok-last.inner.now c.in_ok-last.last.now).1)

pub returns-else-last-eq41-clause-is : goal.returns-else-last-eq41-clause-is
returns-else-last-eq41-clause-is c =
    sym (ap is_closed c.in_ok-last.ensures.cases.0 ∙ (closed_by c.in_ok-last.inner.now c.in_ok-last.last.now).0 ∙ ne_eqb c.in_ok-last.last.now 41 c.if-last-eq41.false)
