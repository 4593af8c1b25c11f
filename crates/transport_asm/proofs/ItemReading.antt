-- Items and fences, as the code reads them.
use Rattle.std.proofs.Common.{◌≡◌, ℕ, Bool, true, false, not, ◌&&◌, ◌||◌, ◌==◌, List, [], ◌∷◌, length, codes, Option, Some, None, Ok, refl, sym, ◌∙◌, subst, arith}
use Rattle.std.specs.Prelude.{bytes_eq, option_copied, is_some}
use Rattle.std.specs.List.{slice_split}
use Rattle.std.proofs.lemmas.Bool.{ne_eqb}
use denote.Ref.{Bor}
use Rattle.qccd_base.specs.declared.names.Qubit.{Qubit}
use Rattle.qccd_base.specs.declared.names.Bit.{Bit}
use Rattle.qccd_circuit.specs.declared.kinds.Cond.{Cond}
use Rattle.qccd_circuit.specs.Item.{are_distinct}
use Rattle.op_table.specs.declared.kinds.OpKind.{OpKind}
use Rattle.transport_asm.specs.Parts.{angles_left}
use Rattle.op_text.specs.Shapes.{is_end, whole}
use Rattle.op_text.specs.Steps.{◌>>=◌}
use Rattle.op_text.specs.Operations.{Tail, item_op, item_at, fence_at, is_right, keeping_rules, finished}
use Rattle.transport_asm.specs.Writable.{IsWritable}
use Rattle.transport_asm.proofs.Cut.{has_word}
use Rattle.transport_asm.proofs.Fitting.{Head, FitsItem, FitsFence}
use Rattle.transport_asm.proofs.SlotLaws.{bind_ok}
use Rattle.transport_asm.proofs.ItemLaws.{item_takes, fence_takes}
use Rattle.transport_asm.proofs.OpLaws.{whole_ok, right_ok}
use Rattle.transport_asm.proofs.Rule.{item_writable, fence_writable}

pub right_bare : (head : Head) (tail : Tail) → (bytes_eq head.1.0.name (codes "measure") || bytes_eq head.1.0.name (codes "reset")) ≡ true → is_right (item_op head tail) ≡ (length head.1.0.angles == 0)
right_bare head tail bare = by_name (bytes_eq head.1.0.name (codes "measure")) (bytes_eq head.1.0.name (codes "reset")) refl refl bare
  where
    by_name : (m r : Bool) → bytes_eq head.1.0.name (codes "measure") ≡ m → bytes_eq head.1.0.name (codes "reset") ≡ r → (m || r) ≡ true → is_right (item_op head tail) ≡ (length head.1.0.angles == 0)
    by_name true r is is' some = rw is refl
    by_name false true is is' some = rw (is, is') refl
    by_name false false is is' some = absurd cc

pub neither : (m r : Bool) → (m || r) ≡ false → (m ≡ false) × (r ≡ false)
neither true r e = absurd cc
neither false r e = (refl, e)

pub right_one : (head : Head) (bits : List Bit) (c : Option Cond) → (bytes_eq head.1.0.name (codes "measure") || bytes_eq head.1.0.name (codes "reset")) ≡ false
    → is_right (item_op head (record { second = []; bits = bits; cond = c })) ≡ not (bytes_eq head.1.0.name (codes "barrier"))
right_one head bits c other = let n = neither (bytes_eq head.1.0.name (codes "measure")) (bytes_eq head.1.0.name (codes "reset")) other in rw (n.0, n.1) refl

pub right_two : (head : Head) (q : Qubit × ℕ) (bits : List Bit) (c : Option Cond) → (bytes_eq head.1.0.name (codes "measure") || bytes_eq head.1.0.name (codes "reset")) ≡ false
    → is_right (item_op head (record { second = q ∷ []; bits = bits; cond = c })) ≡ (are_distinct (head.1.1.1.0 ∷ q.0 ∷ []) && not (bytes_eq head.1.0.name (codes "barrier")))
right_two head q bits c other = let n = neither (bytes_eq head.1.0.name (codes "measure")) (bytes_eq head.1.0.name (codes "reset")) other in rw (n.0, n.1) refl

-- there are angles where there is a parenthesis
pub none_left : (angles : Option (Bor (List ℕ))) (r : Bool) → is_some angles ≡ not r → r ≡ (length (angles_left (option_copied angles)) == 0)
none_left None true e = refl
none_left None false e = absurd cc
none_left (Some text) true e = absurd cc
none_left (Some text) false e = some_end (slice_split (λ c. c == 44) text.now) (has_word (λ c. c == 44) text.now)
  where
    some_end : (parts : List (List ℕ)) → is_end parts ≡ false → false ≡ (length parts == 0)
    some_end [] e = absurd cc
    some_end (p ∷ parts) e = sym (ne_eqb (length (p ∷ parts)) 0 (λ is. absurd (omega (arith, is))))

-- what was read keeps the rules
pub item_kept : (words : List (List ℕ)) (op : OpKind) → finished (item_at words) ≡ Ok op → IsWritable op
item_kept words op e =
    let a = bind_ok (item_at words) (λ op. whole op.0 op.1 >>= keeping_rules) op e in
    let b = bind_ok (whole a.0.0 a.0.1) keeping_rules op a.2 in
    let w = whole_ok a.0.0 a.0.1 b.0 b.1 in
    let r = right_ok b.0 op b.2 in
    let is : a.0.0 ≡ op = w.1 ∙ r.1 in
    item_writable op (subst (λ (o : OpKind). FitsItem o) is (item_takes words a.0.0 a.0.1 a.1).1) (subst (λ (o : OpKind). is_right o ≡ true) r.1 r.0)

pub fence_kept : (words : List (List ℕ)) (op : OpKind) → finished (fence_at words) ≡ Ok op → IsWritable op
fence_kept words op e =
    let a = bind_ok (fence_at words) (λ op. whole op.0 op.1 >>= keeping_rules) op e in
    let b = bind_ok (whole a.0.0 a.0.1) keeping_rules op a.2 in
    let w = whole_ok a.0.0 a.0.1 b.0 b.1 in
    let r = right_ok b.0 op b.2 in
    let is : a.0.0 ≡ op = w.1 ∙ r.1 in
    fence_writable op (subst (λ (o : OpKind). FitsFence o) is (fence_takes words a.0.0 a.0.1 a.1).1) (subst (λ (o : OpKind). is_right o ≡ true) r.1 r.0)
