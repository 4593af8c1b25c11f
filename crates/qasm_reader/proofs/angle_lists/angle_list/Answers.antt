-- Each angle leads to the next, and the last one to the operands.
use Rattle.std.proofs.Common.{◌≡◌, ℕ, ◌∙◌, inr, List, ◌∷◌, ◌++◌, [], length, refl, sym, ap, arith}
use Rattle.std.specs.List.{list_all}
use Rattle.std.proofs.lemmas.Bool.{and_from, eq-eqb, ne_eqb}
use Rattle.std.proofs.lemmas.List.{length-append}
use Rattle.std.proofs.lemmas.List.Folds.{list_all-append}
use Rattle.qccd_circuit.specs.Item.{is_angle}
use Rattle.qasm_reader.specs.Expected.{Call, call, with_angle, within_angle}
use Rattle.qasm_reader.specs.declared.angle.Phase.TheVariants.{Whole}
use Rattle.qasm_reader.specs.Angle.{angle_state}
use Rattle.qasm_reader.specs.Code.{answer_from}
use Rattle.qasm_reader.specs.Named.{shape}
use Rattle.qasm_reader.proofs.Leading.{leads_exit, leads_exit_later, tells_before}
use Rattle.qasm_reader.proofs.angle_lists.angle_list.Goals as goal

pub returns-in_err-text-clause-leads : goal.returns-in_err-text-clause-leads
returns-in_err-text-clause-leads c = λ k. leads_exit _ _ _ _ c.from_residual.ensures.1 (c.in_err-text.ensures.leads k (call (shape c.args.gate.now)))

pub returns-then-wanted-len-clause-leads : goal.returns-then-wanted-len-clause-leads
returns-then-wanted-len-clause-leads c = λ k.
    let l = c.loop-next in
    let so_far : Call = record (call (shape c.args.gate.now)) { angles = l.angles.items } in
    tells_before _ _ c.surplus.result (l.invariant.leads k ∙ c.in-Some.ensures.found k so_far l.text.items)
    (c.surplus.ensures k (with_angle so_far l.text.items) (omega (arith, c.if-wanted-len.true, c.len.ensures, c.from-wanted.ensures, length-append l.angles.items (l.text.items ∷ []))))

pub returns-in_err-further-clause-leads : goal.returns-in_err-further-clause-leads
returns-in_err-further-clause-leads c = λ k.
    let l = c.loop-next in
    let so_far : Call = record (call (shape c.args.gate.now)) { angles = l.angles.items } in
    leads_exit_later _ _ _ _ _ c.from_residual-in_err-further.ensures.1 (l.invariant.leads k ∙ c.in-Some.ensures.found k so_far l.text.items)
    (c.in_err-further.ensures.leads k (with_angle so_far l.text.items))

pub loop-next-preserved : goal.loop-next-preserved
loop-next-preserved c =
    let l = c.loop-next in
    let so_far : Call = record (call (shape c.args.gate.now)) { angles = l.angles.items } in
    let one_more : c.push.new.self.items ≡ l.angles.items ++ l.text.items ∷ [] = c.in_ok-push.ensures.items ∙ ap (λ (x : List ℕ). l.angles.items ++ x ∷ []) c.of.ensures in
    record {
      each = ap (list_all is_angle) one_more ∙ list_all-append is_angle l.angles.items (l.text.items ∷ []) ∙ and_from _ _ l.invariant.each (and_from _ _ l.invariant.last refl);
      last = c.in_ok-further.ensures.fits;
      few = inr (omega (arith, c.if-wanted-len.false, c.len.ensures, ap length one_more, length-append l.angles.items (l.text.items ∷ [])));
      end = c.in_ok-further.ensures.end;
      shorter = omega (arith, l.invariant.shorter, c.in-Some.ensures.shorter, c.in_ok-further.ensures.shorter);
      leads = λ k. l.invariant.leads k ∙ c.in-Some.ensures.found k so_far l.text.items ∙ c.in_ok-further.ensures.leads k (with_angle so_far l.text.items)
          ∙ ap (λ (angles : List (List ℕ)). answer_from k (within_angle (record (call (shape c.args.gate.now)) { angles = angles }) (angle_state Whole 0) c.in_ok-further.further.items) c.in_ok-further.behind)
          (sym one_more);
    }

pub returns-then-len-wanted-clause-leads : goal.returns-then-len-wanted-clause-leads
returns-then-len-wanted-clause-leads c = λ k.
    let l = c.loop-next in
    let so_far : Call = record (call (shape c.args.gate.now)) { angles = l.angles.items } in
    tells_before _ _ c.wrong_count.result (l.invariant.leads k) (c.wrong_count.ensures k so_far l.text.items (ne_eqb _ _ (λ same. c.if-len-wanted.true (omega (arith, same, c.len-2.ensures, c.from-wanted.ensures)))))

pub returns-in_err-rest-clause-leads : goal.returns-in_err-rest-clause-leads
returns-in_err-rest-clause-leads c = λ k.
    let l = c.loop-next in
    let so_far : Call = record (call (shape c.args.gate.now)) { angles = l.angles.items } in
    leads_exit_later _ _ _ _ _ c.from_residual-in_err-rest.ensures.1 (l.invariant.leads k) (c.in_err-rest.ensures.leads k so_far l.text.items (eq-eqb _ _ (omega (arith, c.if-len-wanted.false, c.len-2.ensures, c.from-wanted.ensures))))
