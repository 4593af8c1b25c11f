use Rattle.std.proofs.Common.{◌≡◌, ℕ, List, ◌++◌, codes, decimal, zip, Option, Ok, Err, ◌∙◌, subst, append_assoc}
use Rattle.std.specs.Prelude.{flat_map}
use Rattle.qccd_io.specs.declared.failed.Failed.{Failed}
use Rattle.qccd_io.specs.Sends.{Sends}
use Rattle.qccd_io.proofs.Sent.{sent_next, sent_last}
use Rattle.qccd_base.specs.declared.names.TrapId.{TrapId}
use Rattle.qccd_base.specs.declared.names.Qubit.{Qubit}
use Rattle.qccd_base.specs.declared.names.Bit.{Bit}
use Rattle.qccd_circuit.specs.Item.{ItemData}
use Rattle.qccd_circuit.specs.declared.kinds.Cond.{Cond}
use Rattle.op_text.specs.OpText.{trap_text, bit_text, cond_text, operand_text, angles_text, next_word, item_text}
use Rattle.op_text.proofs.Sending.{sent_grown}
use Rattle.op_text.proofs.writing.send_item.Goals as goal

abbrev gate : ℕ → ItemData → List ℕ
gate number item = codes "item " ++ decimal number ++ next_word (item.name ++ angles_text item.angles)

abbrev place : TrapId → List Qubit → List ℕ → List ℕ
place t qs at = next_word (trap_text t) ++ flat_map (λ operand. next_word (operand_text operand)) (zip qs at)

abbrev end : List Bit → Option Cond → List ℕ
end bs c = flat_map (λ b. next_word (bit_text b)) bs ++ cond_text c

regroup : (a b c d e : List ℕ) → (a ++ (b ++ c)) ++ (d ++ e) ≡ a ++ b ++ c ++ d ++ e
regroup a b c d e = simp append_assoc

shape : (number : ℕ) (t : TrapId) (item : ItemData) (at : List ℕ) → (gate number item ++ place t item.qubits at) ++ end item.bits item.cond ≡ item_text number t item at
shape number t item at =
    regroup (gate number item) (next_word (trap_text t)) (flat_map (λ operand. next_word (operand_text operand)) (zip item.qubits at))
    (flat_map (λ b. next_word (bit_text b)) item.bits) (cond_text item.cond)

pub returns-in_err-send_gate : goal.returns-in_err-send_gate
returns-in_err-send_gate g c =
    let a = gate c.args.number c.args.item.now in
    let b = place c.args.trap c.args.item.now.qubits c.args.at.now in
    subst (λ (text : List ℕ). Sends g.S.Sink.taken g.S.Sink.faults g.S.Sink.behind c.args.sink.now c.send_gate.new.sink c.from_residual.result text) (shape c.args.number c.args.trap c.args.item.now c.args.at.now)
    (sent_last c.from_residual.result _ (sent_grown (a ++ b) (end c.args.item.now.bits c.args.item.now.cond) (sent_grown a b c.in_err-send_gate.ensures)) c.from_residual.ensures.1)

pub returns-in_err-send_place : goal.returns-in_err-send_place
returns-in_err-send_place g c =
    let a = gate c.args.number c.args.item.now in
    let b = place c.args.trap c.args.item.now.qubits c.args.at.now in
    let failed = subst (λ (qs : List Qubit). Sends {T = Unit {0}} g.S.Sink.taken g.S.Sink.faults g.S.Sink.behind c.send_gate.new.sink c.send_place.new.sink (Err c.in_err-send_place.field-0.0) (place c.args.trap qs c.args.at.now)) (c.as_slice.ensures ∙ c.qubits.ensures) c.in_err-send_place.ensures in
    subst (λ (text : List ℕ). Sends g.S.Sink.taken g.S.Sink.faults g.S.Sink.behind c.args.sink.now c.send_place.new.sink c.from_residual-in_err-send_place.result text) (shape c.args.number c.args.trap c.args.item.now c.args.at.now)
    (sent_last c.from_residual-in_err-send_place.result _ (sent_grown (a ++ b) (end c.args.item.now.bits c.args.item.now.cond) (sent_next (Err c.in_err-send_place.field-0.0) a b c.in_ok-send_gate.ensures failed)) c.from_residual-in_err-send_place.ensures.1)

pub returns : goal.returns
returns g c =
    let a = gate c.args.number c.args.item.now in
    let b = place c.args.trap c.args.item.now.qubits c.args.at.now in
    let placed = subst (λ (qs : List Qubit). Sends {T = Unit {0}} {E = Failed} g.S.Sink.taken g.S.Sink.faults g.S.Sink.behind c.send_gate.new.sink c.send_place.new.sink (Ok tt) (place c.args.trap qs c.args.at.now)) (c.as_slice.ensures ∙ c.qubits.ensures) c.in_ok-send_place.ensures in
    subst (λ (text : List ℕ). Sends g.S.Sink.taken g.S.Sink.faults g.S.Sink.behind c.args.sink.now c.send_end.new.sink c.send_end.result text) (shape c.args.number c.args.trap c.args.item.now c.args.at.now)
    (sent_next c.send_end.result (a ++ b) (end c.args.item.now.bits c.args.item.now.cond) (sent_next (Ok tt) a b c.in_ok-send_gate.ensures placed)
    (subst (λ (bs : List Bit). Sends g.S.Sink.taken g.S.Sink.faults g.S.Sink.behind c.send_place.new.sink c.send_end.new.sink c.send_end.result (end bs c.args.item.now.cond)) (c.as_slice-2.ensures ∙ c.bits.ensures)
    (subst (λ (k : Option Cond). Sends g.S.Sink.taken g.S.Sink.faults g.S.Sink.behind c.send_place.new.sink c.send_end.new.sink c.send_end.result (end c.as_slice-2.result.now k)) c.cond.ensures c.send_end.ensures)))
