-- Each operand leads to the next, and its qubits are mentioned behind the others.
use Rattle.std.proofs.Common.{ℕ, List, ◌∷◌, ◌++◌, [], flat_map, refl, sym, ap, ◌∙◌, arith}
use Rattle.std.specs.List.{list_any}
use Rattle.std.proofs.lemmas.List.{append-nil, length-append}
use Rattle.std.proofs.lemmas.List.Elements.{All-cons, All-nil, All-push}
use Rattle.qccd_base.specs.declared.names.Qubit.{Qubit}
use Rattle.qasm_reader.specs.Expected.{of_barrier}
use Rattle.qasm_reader.specs.Operand.{cells, with_mentions}
use Rattle.qasm_reader.specs.Sound.{LiesBelow}
use Rattle.qasm_reader.specs.Mentioned.{numbers}
use Rattle.qasm_reader.specs.Code.{known}
use Rattle.qasm_reader.proofs.Leading.{tells_before, tells_exit}
use Rattle.qasm_reader.proofs.Mentions.{flat_map_more, mentions_append}
use Rattle.qasm_reader.proofs.barriers.mentioned.Goals as goal

pub returns-in_err-first-clause-fault : goal.returns-in_err-first-clause-fault
returns-in_err-first-clause-fault c = tells_exit _ _ _ c.from_residual.ensures.1 (c.in_err-first.ensures.leads (of_barrier []) refl refl)

pub mention_operand-requires-clause-seen : goal.mention_operand-requires-clause-seen
mention_operand-requires-clause-seen c = λ n few.
    c.unmarked-marks.ensures n few ∙ sym (ap (λ (qubits : List Qubit). list_any (λ (m : ℕ). Rattle.std.specs.Prelude.◌==◌ m n) (numbers qubits)) c.new-qubits.ensures.items)

pub loop-after-init : goal.loop-after-init
loop-after-init c =
    let first = c.in_ok-first.first in
    let n = c.args.state.now.qubits in
    record {
      seen = c.in_ok-mention_operand.ensures.seen;
      reached = c.in_ok-mention_operand.ensures.reached;
      qubits = record {
        operands = first ∷ [];
        some = omega arith;
        below = All-cons (LiesBelow n) first [] c.in_ok-first.ensures.below (All-nil (LiesBelow n));
        numbers_are = c.in_ok-mention_operand.ensures.value
            ∙ ap (λ (qubits : List Qubit). with_mentions (numbers qubits) (cells first)) c.new-qubits.ensures.items
            ∙ ap (with_mentions []) (sym (append-nil (cells first)));
        leads = c.in_ok-first.ensures.leads (of_barrier []) refl refl;
      };
      shorter = c.in_ok-first.ensures.shorter;
    }

pub returns-in_err-next-clause-fault : goal.returns-in_err-next-clause-fault
returns-in_err-next-clause-fault c =
    let m = c.loop-after.invariant.qubits in
    tells_exit _ _ _ c.from_residual-in_err-next.ensures.1
    (tells_before _ _ _ (m.leads ∙ c.in-Some.ensures.found (known c.args.state.now) (of_barrier m.operands)) (c.in_err-next.ensures.leads (of_barrier m.operands) refl refl))

pub loop-after-preserved : goal.loop-after-preserved
loop-after-preserved c =
    let m = c.loop-after.invariant.qubits in
    let next = c.in_ok-next.next in
    record {
      seen = c.in_ok-mention_operand-2.ensures.seen;
      reached = c.in_ok-mention_operand-2.ensures.reached;
      qubits = record {
        operands = m.operands ++ next ∷ [];
        some = omega (arith, length-append m.operands (next ∷ []));
        below = All-push (LiesBelow c.args.state.now.qubits) m.operands next m.below c.in_ok-next.ensures.below;
        numbers_are = c.in_ok-mention_operand-2.ensures.value
            ∙ ap (λ (found : List ℕ). with_mentions found (cells next)) m.numbers_are
            ∙ sym (mentions_append [] (flat_map cells m.operands) (cells next))
            ∙ ap (with_mentions []) (sym (flat_map_more cells m.operands next));
        leads = m.leads ∙ c.in-Some.ensures.found (known c.args.state.now) (of_barrier m.operands) ∙ c.in_ok-next.ensures.leads (of_barrier m.operands) refl refl;
      };
      shorter = omega (arith, c.loop-after.invariant.shorter, c.in-Some.ensures.shorter, c.in_ok-next.ensures.shorter);
    }
