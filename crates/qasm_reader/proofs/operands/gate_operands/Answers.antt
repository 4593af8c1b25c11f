-- Each operand leads to the next, and stands apart from those before it.
use Rattle.std.proofs.Common.{◌≡◌, ℕ, false, List, ◌∷◌, ◌++◌, [], refl, sym, ap, subst, ◌∙◌, arith}
use Rattle.std.specs.List.{list_any}
use Rattle.std.proofs.lemmas.List.Elements.{All-push}
use Rattle.qasm_reader.specs.declared.kinds.Operand.{Operand}
use Rattle.gate_defs.specs.Gates.{Gate}
use Rattle.qasm_reader.specs.Operand.{differ, share}
use Rattle.qasm_reader.specs.Expected.{Call, Role, behind_operand, of_gate, operand_done}
use Rattle.qasm_reader.specs.Sound.{AreApart, LiesBelow}
use Rattle.qasm_reader.specs.Code.{Tells, answer_behind, answer_from, known}
use Rattle.qasm_reader.proofs.Cells.{apart_more}
use Rattle.qasm_reader.proofs.Leading.{leads_exit, leads_exit_later}
use Rattle.qasm_reader.proofs.operands.gate_operands.Goals as goal

abbrev called : Gate → List (List ℕ) → List Operand → Call
called g angles os = record { gate = g; angles = angles; missing = false; operands = os }

abbrev role : Gate → List (List ℕ) → List Operand → Role
role g angles os = of_gate (called g angles os)

pub returns-in_err-first-clause-leads : goal.returns-in_err-first-clause-leads
returns-in_err-first-clause-leads c = λ g angles.
    leads_exit _ _ _ _ c.from_residual.ensures.1
    (c.in_err-first.ensures.leads (of_gate (record { gate = g; angles = angles; missing = c.args.lacking; operands = [] })) refl refl)

pub returns-in_err-at-clause-leads : goal.returns-in_err-at-clause-leads
returns-in_err-at-clause-leads c = λ g angles.
    let here = role g angles c.loop-after.operands.items in
    leads_exit_later _ _ _ _ _ c.from_residual-in_err-at.ensures.1
    (c.loop-after.invariant.leads g angles ∙ c.in-Some.ensures.found (known c.args.state.now) here) (c.in_err-at.ensures.leads here refl refl)

pub returns-in_err-apart-clause-leads : goal.returns-in_err-apart-clause-leads
returns-in_err-apart-clause-leads c = λ g angles.
    let k = known c.args.state.now in
    let os = c.loop-after.operands.items in
    let here = role g angles os in
    let at = c.in_ok-at in
    leads_exit_later _ _ _ _ _ c.from_residual-in_err-apart.ensures.1
    (c.loop-after.invariant.leads g angles ∙ c.in-Some.ensures.found k here ∙ at.ensures.leads here refl refl)
    (subst (λ (others : List Operand). Tells (answer_behind (operand_done k (role g angles others) at.at at.next) at.behind) c.in_err-apart.field-0.0)
    c.deref.ensures (c.in_err-apart.ensures.leads k (called g angles os) at.behind))

pub loop-after-preserved : goal.loop-after-preserved
loop-after-preserved c =
    let k = known c.args.state.now in
    let os = c.loop-after.operands.items in
    let at = c.in_ok-at in
    let inv = c.loop-after.invariant in
    let same : c.deref.result.now ≡ os = c.deref.ensures in
    let one_more : c.push-in-Some.new.self.items ≡ os ++ at.next ∷ [] = c.in_ok-push-2.ensures.ok in
    record {
      apart = subst AreApart (sym one_more) (apart_more os at.next inv.apart (ap (list_any (differ at.next)) (sym same) ∙ c.in_ok-apart.ensures.sizes)
          (ap (list_any (share at.next)) (sym same) ∙ c.in_ok-apart.ensures.cells));
      below = subst (Rattle.std.proofs.Common.All (LiesBelow c.args.state.now.qubits)) (sym one_more) (All-push (LiesBelow c.args.state.now.qubits) os at.next inv.below at.ensures.below);
      shorter = omega (arith, inv.shorter, c.in-Some.ensures.shorter, at.ensures.shorter);
      leads = λ g angles.
          inv.leads g angles ∙ c.in-Some.ensures.found k (role g angles os) ∙ at.ensures.leads (role g angles os) refl refl
          ∙ ap (λ (others : List Operand). answer_behind (operand_done k (role g angles others) at.at at.next) at.behind) (sym same)
          ∙ c.in_ok-apart.ensures.leads k (called g angles os) at.behind
          ∙ ap (λ (others : List Operand). answer_from k (behind_operand (role g angles (others ++ at.next ∷ []))) at.behind) same
          ∙ ap (λ (others : List Operand). answer_from k (behind_operand (role g angles others)) at.behind) (sym one_more);
    }
