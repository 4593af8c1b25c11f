use Rattle.std.proofs.Common.{arith, ◌≡◌, ◌-◌, ◌∙◌, ◌∷◌, sym, ap, subst, ℕ, List, length, drop, Some, None}
use Rattle.std.specs.Prelude.{IfNone}
use Rattle.std.proofs.lemmas.List.{drop_all}
use Rattle.qccd_circuit.specs.Item.{ItemData}
use Rattle.op_table.specs.declared.kinds.OpKind.{OpKind}
use Rattle.op_table.specs.Run.{item_in, items_in}
use Rattle.qccd_circuit.specs.Sharing.{shares}
use Rattle.meaning_check.specs.Least.{AreLeast, least_of}
use Rattle.meaning_check.specs.Verdict.{NoneOvertakes}
use Rattle.meaning_check.proofs.Going.{items_back, has_rows}
use Rattle.meaning_check.proofs.Leasts.{AreLeast-none}
use Rattle.meaning_check.proofs.Overtakes.{Found, found_nothing, found_front, found_further}
use Rattle.meaning_check.proofs.overtaking.first_to_overtake.Goals as goal
use Rattle.meaning_check.proofs.overtaking.first_to_overtake.Goals.{then-least-number, else-least-number}

pub loop-k-init : goal.loop-k-init
loop-k-init c =
    let none = drop_all (length c.args.ops.now) c.args.ops.now (omega arith) in
    record {
      rows = rw (ap items_in none) AreLeast-none;
      found = subst (λ (ops : List OpKind). Found (items_in ops) None) (sym none) found_nothing;
    }

pub least_sharing-least-requires : goal.least_sharing-least-requires
least_sharing-least-requires c =
    let does : item_in c.index-ops-k.result ≡ Some (c.in-Some.number, c.in-Some.item.now) = sym c.in-Some.ensures.value in
    record { within = has_rows c.args.ops.now (c.loop-k.k - 1) c.index-ops-k.result (c.in-Some.number, c.in-Some.item.now) c.requires.within (omega arith) c.index-ops-k.is does }

pub put-requires : goal.put-requires
put-requires c =
    let does : item_in c.index-ops-k.result ≡ Some (c.in-Some.number, c.in-Some.item.now) = sym c.in-Some.ensures.value in
    record { within = has_rows c.args.ops.now (c.loop-k.k - 1) c.index-ops-k.result (c.in-Some.number, c.in-Some.item.now) c.requires.within (omega arith) c.index-ops-k.is does }

pub loop-k-preserved-in-Some : goal.loop-k-preserved-in-Some
loop-k-preserved-in-Some c =
    let does : item_in c.index-ops-k.result ≡ Some (c.in-Some.number, c.in-Some.item.now) = sym c.in-Some.ensures.value in
    let same = items_back c.args.ops.now c.loop-k.k c.index-ops-k.result (Some (c.in-Some.number, c.in-Some.item.now)) (omega arith) (omega arith) c.index-ops-k.is does in
    let list = items_in (drop c.loop-k.k c.args.ops.now) in
    let e : ℕ × ItemData = (c.in-Some.number, c.in-Some.item.now) in
    let least : c.least_sharing-least.result ≡ least_of (λ d. shares d c.in-Some.item.now) list = c.least_sharing-least.ensures list c.loop-k.invariant.rows in
    let next : Found (e ∷ list) c.if-least-number.found = elim c.if-least-number.branch [
      | then-least-number w ↦
          subst (Found (e ∷ list)) (sym (w.found-is ∙ ap (λ (n : ℕ). Some (n, c.in-Some.number)) least))
          (found_front e list (omega (arith, least, w.if-least-number.true)) c.in-Some.ensures.small)
      | else-least-number w ↦
          subst (Found (e ∷ list)) (sym w.found-is) (found_further e list c.loop-k.found (omega (arith, least, w.if-least-number.false)) c.loop-k.invariant.found)
    ] in
    record {
      rows = subst (λ (list : List (ℕ × ItemData)). AreLeast list c.put.new.rows) (sym same) (c.put.ensures list c.loop-k.invariant.rows);
      found = subst (λ (l : List (ℕ × ItemData)). Found l c.if-least-number.found) (sym same) next;
    }

pub loop-k-preserved : goal.loop-k-preserved
loop-k-preserved c =
    let does : item_in c.index-ops-k.result ≡ None = sym c.in_default.ensures.value in
    let same = items_back c.args.ops.now c.loop-k.k c.index-ops-k.result None (omega arith) (omega arith) c.index-ops-k.is does in
    record {
      rows = subst (λ (list : List (ℕ × ItemData)). AreLeast list c.loop-k.rows) (sym same) c.loop-k.invariant.rows;
      found = subst (λ (list : List (ℕ × ItemData)). Found list c.loop-k.found) (sym same) c.loop-k.invariant.found;
    }

pub returns-clause-none : goal.returns-clause-none
returns-clause-none c =
    let all : c.loop-k.k ≡ 0 = omega arith in
    subst (λ (k : ℕ). IfNone c.loop-k.found (NoneOvertakes (items_in (drop k c.args.ops.now)))) all c.loop-k.invariant.found.none
