use Rattle.std.proofs.Common.{◌≡◌, ℕ, List, ◌++◌, codes, decimal, Ok, Err, ◌∙◌, subst, append_assoc}
use Rattle.qccd_io.specs.declared.failed.Failed.{Failed}
use Rattle.qccd_io.specs.Sends.{Sends}
use Rattle.qccd_io.proofs.Sent.{sent_next, sent_last}
use Rattle.op_text.specs.OpText.{angles_text, next_word}
use Rattle.op_text.proofs.Sending.{sent_grown}
use Rattle.op_text.proofs.writing.send_gate.Goals as goal

abbrev front : ℕ → List ℕ → List ℕ
front number name = codes "item " ++ decimal number ++ next_word name

shape : (number : ℕ) (name angles : List ℕ) → front number name ++ angles ≡ codes "item " ++ decimal number ++ next_word (name ++ angles)
shape number name angles = append_assoc (codes "item " ++ decimal number) (next_word name) angles

pub returns-in_err-send_name : goal.returns-in_err-send_name
returns-in_err-send_name g c =
    let failed = subst (λ (name : List ℕ). Sends {T = Unit {0}} {E = Failed} g.S.Sink.taken g.S.Sink.faults g.S.Sink.behind c.args.sink.now c.send_name.new.sink (Err c.in_err-send_name.field-0.0) (front c.args.number name)) (c.as_slice.ensures ∙ c.name.ensures) c.in_err-send_name.ensures in
    subst (λ (text : List ℕ). Sends g.S.Sink.taken g.S.Sink.faults g.S.Sink.behind c.args.sink.now c.send_name.new.sink c.from_residual.result text) (shape c.args.number c.args.item.now.name (angles_text c.args.item.now.angles))
    (sent_last c.from_residual.result _ (sent_grown (front c.args.number c.args.item.now.name) (angles_text c.args.item.now.angles) failed) c.from_residual.ensures.1)

pub returns : goal.returns
returns g c =
    let named = subst (λ (name : List ℕ). Sends {T = Unit {0}} {E = Failed} g.S.Sink.taken g.S.Sink.faults g.S.Sink.behind c.args.sink.now c.send_name.new.sink (Ok tt) (front c.args.number name)) (c.as_slice.ensures ∙ c.name.ensures) c.in_ok-send_name.ensures in
    subst (λ (text : List ℕ). Sends g.S.Sink.taken g.S.Sink.faults g.S.Sink.behind c.args.sink.now c.send_angles.new.sink c.send_angles.result text) (shape c.args.number c.args.item.now.name (angles_text c.args.item.now.angles))
    (sent_next c.send_angles.result (front c.args.number c.args.item.now.name) (angles_text c.args.item.now.angles) named
    (subst (λ (angles : List (List ℕ)). Sends g.S.Sink.taken g.S.Sink.faults g.S.Sink.behind c.send_name.new.sink c.send_angles.new.sink c.send_angles.result (angles_text angles)) (c.as_slice-2.ensures ∙ c.angles.ensures) c.send_angles.ensures))
