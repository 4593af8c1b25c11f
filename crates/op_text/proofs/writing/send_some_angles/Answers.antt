use Rattle.std.proofs.Common.{◌≡◌, ℕ, List, ◌∷◌, ◌++◌, codes, Ok, Err, sym, ap, subst}
use Rattle.std.specs.Prelude.{flat_map}
use Rattle.qccd_io.specs.Sends.{Sends}
use Rattle.qccd_io.proofs.Sent.{sent_next, sent_last}
use Rattle.op_text.specs.OpText.{angles_text}
use Rattle.op_text.proofs.Sending.{sent_grown, join_rest}
use Rattle.op_text.proofs.writing.send_some_angles.Goals as goal

abbrev front : List ℕ → List ℕ
front first = codes "(" ++ first

abbrev rest_text : List (List ℕ) → List ℕ
rest_text rest = flat_map (λ angle. codes "," ++ angle) rest

angles_are : (first : List ℕ) (rest : List (List ℕ)) → (front first ++ rest_text rest) ++ codes ")" ≡ angles_text (first ∷ rest)
angles_are first rest = ap (λ (text : List ℕ). (40 ∷ text) ++ codes ")") (sym (join_rest 44 first rest))

abbrev first_text : List ℕ → List (List ℕ) → List ℕ
first_text first rest = front first ++ rest_text rest

pub returns-in_err-send_first_angle : goal.returns-in_err-send_first_angle
returns-in_err-send_first_angle g c =
    subst (λ (text : List ℕ). Sends g.S.Sink.taken g.S.Sink.faults g.S.Sink.behind c.args.sink.now c.send_first_angle.new.sink c.from_residual.result text) (angles_are c.args.first.now c.args.rest.now)
    (sent_last c.from_residual.result _ (sent_grown (first_text c.args.first.now c.args.rest.now) (codes ")") (sent_grown (front c.args.first.now) (rest_text c.args.rest.now) c.in_err-send_first_angle.ensures)) c.from_residual.ensures.1)

pub returns-in_err-send_further_angles : goal.returns-in_err-send_further_angles
returns-in_err-send_further_angles g c =
    subst (λ (text : List ℕ). Sends g.S.Sink.taken g.S.Sink.faults g.S.Sink.behind c.args.sink.now c.send_further_angles.new.sink c.from_residual-in_err-send_further_angles.result text) (angles_are c.args.first.now c.args.rest.now)
    (sent_last c.from_residual-in_err-send_further_angles.result _
    (sent_grown (first_text c.args.first.now c.args.rest.now) (codes ")") (sent_next (Err c.in_err-send_further_angles.field-0.0) (front c.args.first.now) (rest_text c.args.rest.now) c.in_ok-send_first_angle.ensures c.in_err-send_further_angles.ensures))
    c.from_residual-in_err-send_further_angles.ensures.1)

pub returns : goal.returns
returns g c =
    subst (λ (text : List ℕ). Sends g.S.Sink.taken g.S.Sink.faults g.S.Sink.behind c.args.sink.now c.send.new.sink c.send.result text) (angles_are c.args.first.now c.args.rest.now)
    (sent_next c.send.result (first_text c.args.first.now c.args.rest.now) (codes ")")
    (sent_next (Ok tt) (front c.args.first.now) (rest_text c.args.rest.now) c.in_ok-send_first_angle.ensures c.in_ok-send_further_angles.ensures) c.send.ensures)
