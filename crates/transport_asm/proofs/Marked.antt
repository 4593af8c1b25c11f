-- The qubits of a list that were seen.
use Rattle.std.proofs.Common.{◌≡◌, ℕ, ◌<◌, nat_lt, Bool, true, false, cond, not, ◌&&◌, ◌||◌, ◌==◌, List, [], ◌∷◌, ◌++◌, length, Option, Some, None, Ok, Err, refl, sym, ap, ap₂, ◌∙◌, subst, arith, append_assoc}
use Rattle.std.specs.List.{list_any}
use Rattle.std.specs.BTreeMap.{is_at}
use Rattle.std.specs.BTreeSet.{BTreeSet, contains, keys, Updates}
use Rattle.std.specs.Ordering.{nat_cmp, is_eq}
use Rattle.std.specs.declared.cmp.Ordering.TheVariants.{Equal, Greater}
use Rattle.std.proofs.Common.{inl, inr}
use Rattle.std.specs.Prelude.{if◌then◌else◌, is_some, option_copied}
use denote.Ref.{Bor}
use Rattle.transport_asm.specs.Lines.{words_of}
use Rattle.op_text.specs.Shapes.{is_end}
use Rattle.transport_asm.proofs.Cut.{has_word}
use Rattle.std.proofs.lemmas.List.{append-nil}
use Rattle.std.proofs.lemmas.Bool.{cases_Bool, ltb-true, ne_eqb}
use Rattle.std.proofs.lemmas.Bool.Decides.{eqb_tells}
use Rattle.qccd_base.specs.Names.{qubit}
use Rattle.qccd_base.specs.declared.names.Qubit.{Qubit}
use Rattle.qccd_circuit.specs.Item.{are_distinct, has_qubit}
use Rattle.op_text.specs.declared.kind.AsmKind.{AsmKind}
use Rattle.op_text.specs.Steps.{◌>>=◌}
use Rattle.op_text.specs.Slots.{qubit_slot}
use Rattle.op_text.specs.Shapes.{Reading, read_one}
use Rattle.op_text.specs.Operations.{qubits_at}
use Rattle.transport_asm.specs.Cursor.{words_left}
use Rattle.transport_asm.specs.Marks.{AreMarked, IsKept, when_distinct}
use Rattle.transport_asm.proofs.SlotLaws.{bind_ok, ok_is}

-- ---- one qubit more at the end

has-push : (qs : List Qubit) (q r : Qubit) → has_qubit (qs ++ q ∷ []) r ≡ (has_qubit qs r || (q.0 == r.0))
has-push [] q r = or-false (q.0 == r.0)
  where
    or-false : (b : Bool) → (b || false) ≡ b
    or-false true = refl
    or-false false = refl
has-push (p ∷ qs) q r = by_test (p.0 == r.0) (has-push qs q r)
  where
    by_test : (t : Bool) → has_qubit (qs ++ q ∷ []) r ≡ (has_qubit qs r || (q.0 == r.0)) → (t || has_qubit (qs ++ q ∷ []) r) ≡ ((t || has_qubit qs r) || (q.0 == r.0))
    by_test true e = refl
    by_test false e = e

eqb-flip : (m n : ℕ) → (m == n) ≡ (n == m)
eqb-flip m n = elim (eqb_tells m n) [
  | inl is ↦ is.0 ∙ sym (same n m (sym is.1))
  | inr other ↦ other.0 ∙ sym (ne_eqb n m (λ e. other.1 (sym e)))
]
  where
    same : (a b : ℕ) → a ≡ b → (a == b) ≡ true
    same a b is = elim (eqb_tells a b) [ inl both ↦ both.0 | inr other ↦ absurd (other.1 is) ]

distinct-push : (qs : List Qubit) (q : Qubit) → are_distinct (qs ++ q ∷ []) ≡ (are_distinct qs && not (has_qubit qs q))
distinct-push [] q = refl
distinct-push (p ∷ qs) q =
    let x = has-push qs q p ∙ ap (λ (b : Bool). has_qubit qs p || b) (eqb-flip q.0 p.0) in
    ap (λ (b : Bool). not b && are_distinct (qs ++ q ∷ [])) x
    ∙ ap (λ (b : Bool). not (has_qubit qs p || (p.0 == q.0)) && b) (distinct-push qs q)
    ∙ shuffle (has_qubit qs p) (p.0 == q.0) (are_distinct qs) (has_qubit qs q)
  where
    shuffle : (a x d b : Bool) → (not (a || x) && (d && not b)) ≡ ((not a && d) && not (x || b))
    shuffle true x d b = refl
    shuffle false true true b = refl
    shuffle false true false b = refl
    shuffle false false true b = refl
    shuffle false false false b = refl

pub dropped : (front : List Qubit) (broken : Bool) (seen : BTreeSet ℕ) (qubits : List Qubit) (q : Qubit) → broken ≡ true → IsKept front broken seen qubits → are_distinct (front ++ q ∷ []) ≡ false
dropped front true seen qubits q is kept = distinct-push front q ∙ rw kept refl
dropped front false seen qubits q is kept = absurd cc

pub kept_so : (front : List Qubit) (broken : Bool) (seen : BTreeSet ℕ) (qubits : List Qubit) → broken ≡ false → IsKept front broken seen qubits → AreMarked front seen qubits
kept_so front true seen qubits is kept = absurd cc
kept_so front false seen qubits is kept = kept

pub same_key : (a b : ℕ) → is_eq (nat_cmp a b) ≡ (a == b)
same_key a b = elim (cases_Bool (nat_lt a b)) [
  | inl below ↦ rw below (elim (eqb_tells a b) [ inl same ↦ absurd (omega (arith, ltb-true a b below, same.1)) | inr apart ↦ sym apart.0 ])
  | inr not_below ↦ rw not_below (by_test (a == b))
]
  where
    by_test : (t : Bool) → is_eq (cond t Equal Greater) ≡ t
    by_test true = refl
    by_test false = refl

pub twice : (front : List Qubit) (q : Qubit) (seen : BTreeSet ℕ) (qubits : List Qubit) → AreMarked front seen qubits → contains nat_cmp seen q.0 ≡ true → are_distinct (front ++ q ∷ []) ≡ false
twice front q seen qubits marked is =
    let has : has_qubit front q ≡ true = sym (marked.marks q.0) ∙ is in
    distinct-push front q ∙ rw (marked.distinct, has) refl

pub once : (front : List Qubit) (q : Qubit) (old new : BTreeSet ℕ) (qubits : List Qubit) → AreMarked front old qubits → contains nat_cmp old q.0 ≡ false → Updates nat_cmp old new q.0 true
    → AreMarked (front ++ q ∷ []) new (qubits ++ q ∷ [])
once front q old new qubits marked is updates =
    let has : has_qubit front q ≡ false = sym (marked.marks q.0) ∙ is in
    record {
      kept = ap (λ (qs : List Qubit). qs ++ q ∷ []) marked.kept;
      distinct = distinct-push front q ∙ rw (marked.distinct, has) refl;
      marks = λ n. updates.0 n ∙ ap₂ (λ (t b : Bool). cond t true b) (same_key q.0 n) (marked.marks n) ∙ by_test (q.0 == n) (has_qubit front (qubit n)) ∙ sym (has-push front q (qubit n));
    }
  where
    by_test : (t b : Bool) → cond t true b ≡ (b || t)
    by_test true true = refl
    by_test true false = refl
    by_test false true = refl
    by_test false false = refl

-- ---- reading the qubits one by one

abbrev pub with_front : List Qubit → Reading (List Qubit) → Reading (List Qubit)
with_front front read = read >>= λ x. Ok (front ++ x.0, x.1)

pub record SoFar (broken : Bool) (seen : BTreeSet ℕ) (qubits : List Qubit) (rest total : Reading (List Qubit)) : Type 0 where
  pub front : List Qubit
  pub read : with_front front rest ≡ total
  pub kept : IsKept front broken seen qubits

regroup : (front : List Qubit) (q : Qubit) (read : Reading (List Qubit)) → with_front front (read >>= λ x. Ok (q ∷ x.0, x.1)) ≡ with_front (front ++ q ∷ []) read
regroup front q (Ok x) = ap (λ (qs : List Qubit). Ok (qs, x.1)) (simp append_assoc)
regroup front q (Err e) = refl

step : (q : Qubit) (ws more : List (List ℕ)) (front : List Qubit) → read_one qubit_slot ws ≡ Ok (q, more) → with_front front (qubits_at ws) ≡ with_front (front ++ q ∷ []) (qubits_at more)
step q [] more front e = absurd cc
step q (word ∷ ws) more front e =
    let b = bind_ok (qubit_slot.read word) (λ v. Ok (v, ws)) (q, more) e in
    let pair = ok_is (b.0, ws) (q, more) b.2 in
    let is : b.0 ≡ q = ap (λ (p : Qubit × List (List ℕ)). p.0) pair in
    let rest : ws ≡ more = ap (λ (p : Qubit × List (List ℕ)). p.1) pair in
    rw b.1 (subst (λ (p : Qubit × List (List ℕ)). with_front front (qubits_at ws >>= λ qs. Ok (b.0 ∷ qs.0, qs.1)) ≡ with_front (front ++ p.0 ∷ []) (qubits_at p.1)) pair (regroup front b.0 (qubits_at ws)))

step_err : (kind : AsmKind) (ws : List (List ℕ)) (front : List Qubit) → 0 < length ws → read_one qubit_slot ws ≡ Err kind → with_front front (qubits_at ws) ≡ Err kind
step_err kind [] front some e = absurd (omega arith)
step_err kind (word ∷ ws) front some e = rw e refl

pub SoFar-refused : (broken : Bool) (seen : BTreeSet ℕ) (qubits : List Qubit) (kind : AsmKind) (ws : List (List ℕ)) (total : Reading (List Qubit)) → 0 < length ws → read_one qubit_slot ws ≡ Err kind → SoFar broken seen qubits (qubits_at ws) total
    → (total >>= when_distinct) ≡ Err kind
SoFar-refused broken seen qubits kind ws total some e so_far = rw (sym so_far.read ∙ step_err kind ws so_far.front some e) refl

pub SoFar-ends : (broken : Bool) (seen : BTreeSet ℕ) (qubits : List Qubit) (total : Reading (List Qubit)) → SoFar broken seen qubits (Ok ([], [])) total → (total >>= when_distinct) ≡ Ok (if broken then None else Some qubits)
SoFar-ends true seen qubits total so_far =
    let read : total ≡ Ok (so_far.front ++ [], []) = sym so_far.read in
    rw (read, append-nil so_far.front, so_far.kept) refl
SoFar-ends false seen qubits total so_far =
    let read : total ≡ Ok (so_far.front ++ [], []) = sym so_far.read in
    rw (read, append-nil so_far.front, so_far.kept.distinct, so_far.kept.kept) refl

again : (read : Reading (List Qubit)) → with_front [] read ≡ read
again (Ok x) = refl
again (Err e) = refl

pub SoFar-begins : (seen : BTreeSet ℕ) (read : Reading (List Qubit)) → keys seen ≡ [] → SoFar false seen [] read read
SoFar-begins seen read empty =
    record { front = []; read = again read; kept = record { kept = refl; distinct = refl; marks = λ n. ap (list_any (is_at (nat_cmp n))) empty } }

pub SoFar-next : (broken now : Bool) (seen seen_now : BTreeSet ℕ) (qubits qubits_now : List Qubit) (q : Qubit) (ws more : List (List ℕ)) (total : Reading (List Qubit)) → read_one qubit_slot ws ≡ Ok (q, more)
    → ((front : List Qubit) → IsKept front broken seen qubits → IsKept (front ++ q ∷ []) now seen_now qubits_now)
    → SoFar broken seen qubits (qubits_at ws) total → SoFar now seen_now qubits_now (qubits_at more) total
SoFar-next broken now seen seen_now qubits qubits_now q ws more total e kept so_far =
    record { front = so_far.front ++ q ∷ []; read = sym (step q ws more so_far.front e) ∙ so_far.read; kept = kept so_far.front so_far.kept }

pub left_some : (x : Option (Bor (List ℕ))) → is_some x ≡ true → 0 < length (words_left (option_copied x))
left_some None is = absurd cc
left_some (Some line) is = some_end (words_of line.now) (has_word (λ b. b == 32) line.now)
  where
    some_end : (ws : List (List ℕ)) → is_end ws ≡ false → 0 < length ws
    some_end [] e = absurd cc
    some_end (w ∷ ws) e = omega arith

pub finish : (broken : Bool) (seen : BTreeSet ℕ) (qubits : List Qubit) (x : Option (Bor (List ℕ))) (total : Reading (List Qubit)) → is_some x ≡ false → SoFar broken seen qubits (qubits_at (words_left (option_copied x))) total
    → (total >>= when_distinct) ≡ Ok (if broken then None else Some qubits)
finish broken seen qubits None total is so_far = SoFar-ends broken seen qubits total so_far
finish broken seen qubits (Some line) total is so_far = absurd cc
