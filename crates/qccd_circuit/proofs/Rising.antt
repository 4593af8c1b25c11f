-- A list of numbers is in the same order exactly where each next number is not yet listed and not below the
-- marks before it.
use Rattle.std.proofs.Common.{◌≡◌, ℕ, zero, suc, ◌+◌, ◌<◌, ◌≤◌, ◌==◌, max, Bool, true, false, cond, eqb, ltb, leb, ◌&&◌, not, List, [], ◌∷◌, length, get_or, drop, Option, Some, None, refl, sym, ◌∙◌, ap, arith, inl, inr, ◌⊎◌, subst}
use Rattle.std.specs.Prelude.{count_by, slice_get, replicate}
use Rattle.std.proofs.Math.Bool.{and-false}
use Rattle.std.proofs.Math.ListN.{set}
use Rattle.std.specs.List.{list_any}
use Rattle.std.proofs.lemmas.Bool.{cases_Bool, cases_lt, cases_eq, eqb-true, eq-eqb, ne_eqb, lt-ltb, le-ltb, leb-true, le-leb, lt-leb, and_parts, and_from, or_right, or_cases, false_from_ne_true, not-true, false≢true}
use Rattle.std.proofs.lemmas.Bool.Decides.{nat_tests}
use Rattle.std.proofs.lemmas.List.{length-replicate, get_or-replicate, length-set, get_or-set_same, get_or-set_other, drop_more, drop_all}
use Rattle.std.proofs.lemmas.List.Sums.{sum_by-cons}
use Rattle.std.proofs.lemmas.Option.{slice_get_within, slice_get_past, slice_get_cases, same_Some}
use Rattle.qccd_circuit.specs.Item.{ItemData}
use Rattle.qccd_circuit.specs.Marks.{Marked, AreMarks, mark_before}
use Rattle.qccd_circuit.specs.Order.{SameOrder, stands_before}
use Rattle.qccd_circuit.specs.Sharing.{shares}
use Rattle.qccd_circuit.proofs.Shared.{shares-sym}

pub count_by-cons : {X : Type 0} (p : X → Bool) (x : X) (xs : List X) → count_by p (x ∷ xs) ≡ cond (p x) 1 0 + count_by p xs
count_by-cons p x xs = sum_by-cons (λ y. cond (p y) 1 0) x xs

-- how often a number stands in a list
abbrev pub times : ℕ → List ℕ → ℕ
times k v = count_by (λ n. n == k) v

times_same : (k n : ℕ) (v : List ℕ) → n ≡ k → times k (n ∷ v) ≡ 1 + times k v
times_same k n v same = count_by-cons (λ m. m == k) n v ∙ rw (eq-eqb n k same) refl

times_other : (k n : ℕ) (v : List ℕ) → (n ≡ k → ⊥) → times k (n ∷ v) ≡ times k v
times_other k n v apart = count_by-cons (λ m. m == k) n v ∙ rw (ne_eqb n k apart) (omega arith)

pub among_once : (k : ℕ) (v : List ℕ) → 1 ≤ times k v → list_any (λ n. n == k) v ≡ true
among_once k [] some = absurd (omega arith)
among_once k (n ∷ v) some = elim (cases_eq n k) [
  | inl same ↦ rw (eq-eqb n k same) refl
  | inr apart ↦ or_right (eqb n k) (list_any (λ m. m == k) v) (among_once k v (omega (arith, times_other k n v apart)))
]

pub once_among : (k : ℕ) (v : List ℕ) → list_any (λ n. n == k) v ≡ true → 1 ≤ times k v
once_among k [] has = cc
once_among k (n ∷ v) has = elim (cases_eq n k) [
  | inl same ↦ omega (arith, times_same k n v same)
  | inr apart ↦ omega (arith, times_other k n v apart, once_among k v (rw (ne_eqb n k apart) at has))
]

pub before_any : (i j : ℕ) (v : List ℕ) → stands_before i j v ≡ true → list_any (λ n. n == j) v ≡ true
before_any i j [] h = cc
before_any i j (k ∷ v) h = elim (cases_Bool (eqb k i)) [
  | inl is ↦ or_right (eqb k j) (list_any (λ n. n == j) v) (rw is at h)
  | inr not_k ↦ or_right (eqb k j) (list_any (λ n. n == j) v) (before_any i j v (rw not_k at h))
]

-- ---- how many numbers a list has

abbrev pub total : ℕ → List ℕ → ℕ
total zero v = 0
total (suc m) v = times m v + total m v

total-nil : (n : ℕ) → total n [] ≡ 0
total-nil zero = refl
total-nil (suc m) = omega (arith, total-nil m)

total-cons : (n x : ℕ) (v : List ℕ) → total n (x ∷ v) ≡ cond (ltb x n) 1 0 + total n v
total-cons zero x v = rw (le-ltb x 0 (omega arith)) refl
total-cons (suc m) x v =
    let rest : total m (x ∷ v) ≡ cond (ltb x m) 1 0 + total m v = total-cons m x v in
    let here : times m (x ∷ v) ≡ cond (eqb x m) 1 0 + times m v = count_by-cons (λ n. n == m) x v in
    let both : cond {A = ℕ} (ltb x (suc m)) 1 0 ≡ cond (eqb x m) 1 0 + cond (ltb x m) 1 0 = grind (arith, nat_tests) in
    omega (arith, rest, here, both)

length-total : (n : ℕ) (v : List ℕ) → ((k : ℕ) → 1 ≤ times k v → k < n) → length v ≡ total n v
length-total n [] within = sym (total-nil n)
length-total n (x ∷ v) within =
    let small : x < n = within x (omega (arith, times_same x x v refl)) in
    let rest : length v ≡ total n v = length-total n v (λ k some. within k (omega (arith, count_by-cons (λ m. m == k) x v))) in
    let here : cond {A = ℕ} (ltb x n) 1 0 ≡ 1 = ap (λ b. cond b 1 0) (lt-ltb x n small) in
    omega (arith, rest, here, total-cons n x v)

total_all : (n : ℕ) (v : List ℕ) → ((k : ℕ) → k < n → times k v ≡ 1) → total n v ≡ n
total_all zero v all = refl
total_all (suc m) v all = omega (arith, all m (omega arith), total_all m v (λ k h. all k (omega arith)))

total_most : (n : ℕ) (v : List ℕ) → ((k : ℕ) → times k v ≤ 1) → total n v ≤ n
total_most zero v few = omega arith
total_most (suc m) v few = omega (arith, few m, total_most m v few)

-- as many numbers as items, none twice: each is there
each_once : (n : ℕ) (v : List ℕ) → ((k : ℕ) → times k v ≤ 1) → total n v ≡ n → (k : ℕ) → k < n → times k v ≡ 1
each_once zero v few full k within = absurd (omega arith)
each_once (suc m) v few full k within = elim (cases_eq k m) [
  | inl same ↦
      let e : times k v ≡ times m v = ap (λ x. times x v) same in
      omega (arith, few m, total_most m v few)
  | inr apart ↦ each_once m v few (omega (arith, few m, total_most m v few)) k (omega arith)
]

-- ---- the check, one number after another

-- the items of these numbers, each marked with one more than its number
abbrev pub marked_with : Option ItemData → ℕ → List Marked → List Marked
marked_with None n marked = marked
marked_with (Some d) n marked = record { item = d; mark = n + 1 } ∷ marked

abbrev pub marked_of : List ItemData → List ℕ → List Marked
marked_of items [] = []
marked_of items (n ∷ listed) = marked_with (slice_get items n) n (marked_of items listed)

-- the number is that of an item and not yet listed, and the items before that share with it have lesser numbers
abbrev pub may_follow : Option ItemData → List Marked → List ℕ → ℕ → Bool
may_follow None marked listed n = false
may_follow (Some d) marked listed n = not (list_any (λ m. m == n) listed) && leb (mark_before marked d) n

-- each number of the list may follow those before it
abbrev pub rises : List ItemData → List ℕ → List ℕ → Bool
rises items listed [] = true
rises items listed (n ∷ v) = may_follow (slice_get items n) (marked_of items listed) listed n && rises items (n ∷ listed) v

below_mark : (items : List ItemData) (listed : List ℕ) (d : ItemData) (n m : ℕ) (a : ItemData) → mark_before (marked_of items listed) d ≤ n
    → list_any (λ k. k == m) listed ≡ true → slice_get items m ≡ Some a → shares a d ≡ true → m < n
below_mark items [] d n m a low has is share = cc
below_mark items (k ∷ listed) d n m a low has is share = elim (cases_eq k m) [
  | inl same ↦
      let here : slice_get items k ≡ Some a = ap (λ x. slice_get items x) same ∙ is in
      let low' : mark_before (record { item = a; mark = k + 1 } ∷ marked_of items listed) d ≤ n = rw here at low in
      let most : max (k + 1) (mark_before (marked_of items listed) d) ≤ n = rw share at low' in
      omega arith
  | inr apart ↦
      let rest : list_any (λ x. x == m) listed ≡ true = rw (ne_eqb k m apart) at has in
      below_mark items listed d n m a (less items k listed d n low) rest is share
]
  where
    less_one : (o : Option ItemData) (k : ℕ) (marked : List Marked) (d : ItemData) (n : ℕ) → mark_before (marked_with o k marked) d ≤ n → mark_before marked d ≤ n
    less_one None k marked d n low = low
    less_one (Some b) k marked d n low = elim (cases_Bool (shares b d)) [
      | inl is ↦ let most : max (k + 1) (mark_before marked d) ≤ n = rw is at low in omega arith
      | inr not_b ↦ rw not_b at low
    ]

    less : (items : List ItemData) (k : ℕ) (listed : List ℕ) (d : ItemData) (n : ℕ) → mark_before (marked_of items (k ∷ listed)) d ≤ n → mark_before (marked_of items listed) d ≤ n
    less items k listed d n low = less_one (slice_get items k) k (marked_of items listed) d n low

mark_below : (items : List ItemData) (listed : List ℕ) (d : ItemData) (n : ℕ)
    → ((m : ℕ) (a : ItemData) → list_any (λ k. k == m) listed ≡ true → slice_get items m ≡ Some a → shares a d ≡ true → m < n)
    → mark_before (marked_of items listed) d ≤ n
mark_below items [] d n all = omega arith
mark_below items (k ∷ listed) d n all =
    let rest : mark_before (marked_of items listed) d ≤ n = mark_below items listed d n (λ m a has. all m a (or_right (eqb k m) (list_any (λ x. x == m) listed) has)) in
    one (slice_get items k) (marked_of items listed) rest (λ a is. all k a (rw (eq-eqb k k refl) refl) is)
  where
    one : (o : Option ItemData) (marked : List Marked) → mark_before marked d ≤ n → ((a : ItemData) → o ≡ Some a → shares a d ≡ true → k < n) → mark_before (marked_with o k marked) d ≤ n
    one None marked low here = low
    one (Some b) marked low here = elim (cases_Bool (shares b d)) [
      | inl is ↦ let small : k < n = here b refl is in rw is (omega arith)
      | inr not_b ↦ rw not_b low
    ]

-- what the rest of a list keeps to, behind the numbers that are listed
pub record Fine (items : List ItemData) (listed v : List ℕ) : Type 0 where
  pub within : (k : ℕ) → 1 ≤ times k v → k < length items
  pub single : (k : ℕ) → times k v ≤ 1
  pub fresh : (k : ℕ) → list_any (λ n. n == k) listed ≡ true → times k v ≡ 0
  pub late :
      (i j : ℕ) (a b : ItemData) → i < j → slice_get items i ≡ Some a → slice_get items j ≡ Some b → shares a b ≡ true
      → list_any (λ n. n == j) listed ≡ true → times i v ≡ 0
  pub kept :
      (i j : ℕ) (a b : ItemData) → i < j → slice_get items i ≡ Some a → slice_get items j ≡ Some b → shares a b ≡ true
      → 1 ≤ times i v → 1 ≤ times j v → stands_before i j v ≡ true

follows : (o : Option ItemData) (marked : List Marked) (listed : List ℕ) (n : ℕ) → may_follow o marked listed n ≡ true
    → (d : ItemData) × (o ≡ Some d) × (list_any (λ m. m == n) listed ≡ false) × (mark_before marked d ≤ n)
follows None marked listed n h = cc
follows (Some d) marked listed n h =
    let parts = and_parts (not (list_any (λ m. m == n) listed)) (leb (mark_before marked d) n) h in
    (d, refl, not-true (list_any (λ m. m == n) listed) parts.0, leb-true (mark_before marked d) n parts.1)

not_listed : (k n : ℕ) (listed : List ℕ) → list_any (λ m. m == n) listed ≡ false → list_any (λ m. m == k) listed ≡ true → n ≡ k → ⊥
not_listed k n listed none has same =
    false≢true (sym none ∙ subst (λ (x : ℕ). list_any (λ m. m == x) listed ≡ true) (sym same) has)

pub fine_from_rises : (items : List ItemData) (listed v : List ℕ) → rises items listed v ≡ true → Fine items listed v
fine_from_rises items listed [] h = record {
  within = λ k some. absurd (omega arith);
  single = λ k. omega arith;
  fresh = λ k has. refl;
  late = λ i j a b less first second share has. refl;
  kept = λ i j a b less first second share some more. absurd (omega arith);
}
fine_from_rises items listed (n ∷ v) h =
    let parts = and_parts (may_follow (slice_get items n) (marked_of items listed) listed n) (rises items (n ∷ listed) v) h in
    let rest : Fine items (n ∷ listed) v = fine_from_rises items (n ∷ listed) v parts.1 in
    let here = follows (slice_get items n) (marked_of items listed) listed n parts.0 in
    let own : list_any (λ m. m == n) (n ∷ listed) ≡ true = rw (eq-eqb n n refl) refl in
    record {
      within = λ k some. elim (cases_eq n k) [
        | inl same ↦ subst (λ (x : ℕ). x < length items) same (slice_get_within items n here.0 here.1)
        | inr apart ↦ rest.within k (omega (arith, times_other k n v apart))
      ];
      single = λ k. elim (cases_eq n k) [
        | inl same ↦ omega (arith, times_same k n v same, subst (λ (x : ℕ). times x v ≡ 0) same (rest.fresh n own))
        | inr apart ↦ omega (arith, times_other k n v apart, rest.single k)
      ];
      fresh = λ k has.
          times_other k n v (not_listed k n listed here.2 has) ∙ rest.fresh k (or_right (eqb n k) (list_any (λ m. m == k) listed) has);
      late = λ i j a b less first second share has. elim (cases_eq n i) [
        | inl same ↦
            let at_n : slice_get items n ≡ Some a = ap (λ (x : ℕ). slice_get items x) same ∙ first in
            let twin : here.0 ≡ a = same_Some here.0 a (sym here.1 ∙ at_n) in
            let low : j < n = below_mark items listed here.0 n j b here.3 has second (subst (λ (x : ItemData). shares b x ≡ true) (sym twin) (shares-sym b a ∙ share)) in
            absurd (omega arith)
        | inr apart ↦ times_other i n v apart ∙ rest.late i j a b less first second share (or_right (eqb n j) (list_any (λ m. m == j) listed) has)
      ];
      kept = λ i j a b less first second share some more. elim (cases_eq n i) [
        | inl same ↦
            let other : n ≡ j → ⊥ = λ e. absurd (omega arith) in
            rw (eq-eqb n i same) (among_once j v (omega (arith, times_other j n v other)))
        | inr apart ↦
            let there : 1 ≤ times i v = omega (arith, times_other i n v apart) in
            elim (cases_eq n j) [
              | inl same ↦ absurd (omega (arith, rest.late i j a b less first second share (rw (eq-eqb n j same) refl)))
              | inr other ↦ rw (ne_eqb n i apart) (rest.kept i j a b less first second share there (omega (arith, times_other j n v other)))
            ]
      ];
    }

no_more : (k n : ℕ) (v : List ℕ) → times k (n ∷ v) ≡ 0 → times k v ≡ 0
no_more k n v none = omega (arith, count_by-cons (λ m. m == k) n v)

pub rises_from_fine : (items : List ItemData) (listed v : List ℕ) → Fine items listed v → rises items listed v ≡ true
rises_from_fine items listed [] fine = refl
rises_from_fine items listed (n ∷ v) fine =
    let own : times n (n ∷ v) ≡ 1 + times n v = times_same n n v refl in
    let fresh : list_any (λ m. m == n) listed ≡ false = false_from_ne_true (list_any (λ m. m == n) listed) (λ has. absurd (omega (arith, fine.fresh n has))) in
    let there = at (slice_get_cases items n).1 (fine.within n (omega arith)) in
    let low : mark_before (marked_of items listed) there.0 ≤ n =
    mark_below items listed there.0 n (λ m a has is share. elim (cases_lt m n) [
      | inl less ↦ less
      | inr more ↦ elim (cases_eq n m) [
        | inl same ↦ absurd (not_listed m n listed fresh has same)
        | inr apart ↦ absurd (omega (arith, fine.late n m there.0 a (omega arith) there.1 is (shares-sym there.0 a ∙ share) has))
      ]
    ]) in
    let step : may_follow (slice_get items n) (marked_of items listed) listed n ≡ true =
    rw (there.1, fresh) (le-leb (mark_before (marked_of items listed) there.0) n low) in
    and_from (may_follow (slice_get items n) (marked_of items listed) listed n) (rises items (n ∷ listed) v) step
    (rises_from_fine items (n ∷ listed) v (record {
      within = λ k some. fine.within k (omega (arith, count_by-cons (λ m. m == k) n v));
      single = λ k. omega (arith, fine.single k, count_by-cons (λ m. m == k) n v);
      fresh = λ k has. elim (or_cases (eqb n k) (list_any (λ m. m == k) listed) has) [
        | inl is ↦ omega (arith, times_same k n v (eqb-true n k is), fine.single k)
        | inr has' ↦ no_more k n v (fine.fresh k has')
      ];
      late = λ i j a b less first second share has. elim (or_cases (eqb n j) (list_any (λ m. m == j) listed) has) [
        | inl is ↦ first_only i j a b less first second share (eqb-true n j is)
        | inr has' ↦ no_more i n v (fine.late i j a b less first second share has')
      ];
      kept = λ i j a b less first second share some more.
          let both : stands_before i j (n ∷ v) ≡ true =
          fine.kept i j a b less first second share (omega (arith, count_by-cons (λ m. m == i) n v)) (omega (arith, count_by-cons (λ m. m == j) n v)) in
          let apart : n ≡ i → ⊥ = λ same. absurd (omega (arith, times_same i n v same, fine.single i)) in
          rw (ne_eqb n i apart) at both;
    }))
  where
    at : ((x : ItemData) × (n < length items) × (slice_get items n ≡ Some x) × (get_or items n x ≡ x)) ⊎ ((length items ≤ n) × (slice_get items n ≡ None)) → n < length items
        → (x : ItemData) × (slice_get items n ≡ Some x)
    at (inl found) within = (found.0, found.2)
    at (inr past) within = absurd (omega (arith, past.0))

    first_only : (i j : ℕ) (a b : ItemData) → i < j → slice_get items i ≡ Some a → slice_get items j ≡ Some b → shares a b ≡ true → n ≡ j → times i v ≡ 0
    first_only i j a b less first second share same = elim (cases_lt 0 (times i v)) [
      | inl some ↦
          let both : stands_before i j (n ∷ v) ≡ true =
          fine.kept i j a b less first second share (omega (arith, count_by-cons (λ m. m == i) n v)) (omega (arith, times_same j n v same)) in
          let apart : n ≡ i → ⊥ = λ e. absurd (omega arith) in
          let behind : stands_before i j v ≡ true = rw (ne_eqb n i apart) at both in
          absurd (omega (arith, once_among j v (before_any i j v behind), times_same j n v same, fine.single j))
      | inr none ↦ omega arith
    ]

-- ---- the whole list

pub same_order_from_rises : (items : List ItemData) (v : List ℕ) → length v ≡ length items → rises items [] v ≡ true → SameOrder items v
same_order_from_rises items v size h =
    let fine : Fine items [] v = fine_from_rises items [] v h in
    let full : total (length items) v ≡ length items = sym (length-total (length items) v fine.within) ∙ size in
    let there : (k : ℕ) → k < length items → times k v ≡ 1 = each_once (length items) v fine.single full in
    record {
      once = λ k. elim (cases_lt k (length items)) [
        | inl within ↦ rw (lt-ltb k (length items) within) (there k within)
        | inr past ↦ rw (le-ltb k (length items) past) (none k (cases_lt 0 (times k v)) fine.within past)
      ];
      kept = λ i j a b less first second share.
          fine.kept i j a b less first second share (omega (arith, there i (slice_get_within items i a first))) (omega (arith, there j (slice_get_within items j b second)));
    }
  where
    none : (k : ℕ) → (0 < times k v) ⊎ (times k v ≤ 0) → ((n : ℕ) → 1 ≤ times n v → n < length items) → length items ≤ k → times k v ≡ 0
    none k (inl some) within past = absurd (omega (arith, within k (omega arith)))
    none k (inr nothing) within past = omega arith

times_past : (items : List ItemData) (v : List ℕ) → SameOrder items v → (k : ℕ) → length items ≤ k → times k v ≡ 0
times_past items v order k past = order.once k ∙ rw (le-ltb k (length items) past) refl

times_within : (items : List ItemData) (v : List ℕ) → SameOrder items v → (k : ℕ) → 1 ≤ times k v → k < length items
times_within items v order k some = elim (cases_lt k (length items)) [
  | inl within ↦ within
  | inr past ↦ absurd (omega (arith, times_past items v order k past))
]

times_there : (items : List ItemData) (v : List ℕ) → SameOrder items v → (k : ℕ) → k < length items → times k v ≡ 1
times_there items v order k within = order.once k ∙ rw (lt-ltb k (length items) within) refl

pub times_single : (items : List ItemData) (v : List ℕ) → SameOrder items v → (k : ℕ) → times k v ≤ 1
times_single items v order k = elim (cases_lt k (length items)) [
  | inl within ↦ omega (arith, times_there items v order k within)
  | inr past ↦ omega (arith, times_past items v order k past)
]

pub length-same_order : (items : List ItemData) (v : List ℕ) → SameOrder items v → length v ≡ length items
length-same_order items v order =
    length-total (length items) v (times_within items v order) ∙ total_all (length items) v (times_there items v order)

pub rises_from_same_order : (items : List ItemData) (v : List ℕ) → SameOrder items v → rises items [] v ≡ true
rises_from_same_order items v order = rises_from_fine items [] v (record {
  within = times_within items v order;
  single = times_single items v order;
  fresh = λ k has. cc;
  late = λ i j a b less first second share has. cc;
  kept = λ i j a b less first second share some more. order.kept i j a b less first second share;
})

-- ---- the loop over the list

-- of the first p numbers of a list: what is left decides, their truth values are set, and their items are marked
pub record Placed (items : List ItemData) (set_values : List Bool) (rows v : List ℕ) (p : ℕ) : Type 0 where
  pub done : List ℕ
  pub rest : rises items [] v ≡ rises items done (drop p v)
  pub size : length set_values ≡ length items
  pub listed : (k : ℕ) → k < length items → get_or set_values k false ≡ list_any (λ n. n == k) done
  pub marks : AreMarks (marked_of items done) rows

pub Placed-none : (items : List ItemData) (rows v : List ℕ) → AreMarks [] rows → Placed items (replicate (length items) false) rows v 0
Placed-none items rows v shows = record {
  done = [];
  rest = refl;
  size = length-replicate (length items) false;
  listed = λ k within. get_or-replicate (length items) k false false within;
  marks = shows;
}

next_of : (items : List ItemData) (done v : List ℕ) (p n : ℕ) → p < length v → n ≡ get_or v p 0
    → rises items done (drop p v) ≡ (may_follow (slice_get items n) (marked_of items done) done n && rises items (n ∷ done) (drop (p + 1) v))
next_of items done v p n within is =
    let cut : drop p v ≡ n ∷ drop (p + 1) v = drop_more v p 0 within ∙ ap (λ (x : ℕ). x ∷ drop (p + 1) v) (sym is) in
    ap (λ (xs : List ℕ). rises items done xs) cut

pub Placed-next :
    (items : List ItemData) (set_values : List Bool) (rows new v : List ℕ) (p n : ℕ) (d : ItemData) → p < length v → n ≡ get_or v p 0
    → (placed : Placed items set_values rows v p) → slice_get items n ≡ Some d → get_or set_values n false ≡ false → mark_before (marked_of items placed.done) d ≤ n
    → AreMarks (record { item = d; mark = n + 1 } ∷ marked_of items placed.done) new → Placed items (set set_values n true) new v (p + 1)
Placed-next items set_values rows new v p n d within is placed there unset low shows =
    let small : n < length items = slice_get_within items n d there in
    let fresh : list_any (λ m. m == n) placed.done ≡ false = sym (placed.listed n small) ∙ unset in
    let step : may_follow (slice_get items n) (marked_of items placed.done) placed.done n ≡ true =
    rw (there, fresh) (le-leb (mark_before (marked_of items placed.done) d) n low) in
    record {
      done = n ∷ placed.done;
      rest = placed.rest ∙ next_of items placed.done v p n within is ∙ rw step refl;
      size = length-set set_values n true ∙ placed.size;
      listed = λ k h. elim (cases_eq n k) [
        | inl same ↦
            let here : get_or (set set_values n true) k false ≡ true = subst (λ (x : ℕ). get_or (set set_values n true) x false ≡ true) same (get_or-set_same set_values n true false (omega (arith, placed.size))) in
            rw (eq-eqb n k same) here
        | inr apart ↦ rw (ne_eqb n k apart) (get_or-set_other set_values n k true false (λ e. apart (sym e)) ∙ placed.listed k h)
      ];
      marks = rw there shows;
    }

pub Placed-fails :
    (items : List ItemData) (set_values : List Bool) (rows v : List ℕ) (p n : ℕ) → p < length v → n ≡ get_or v p 0 → (placed : Placed items set_values rows v p)
    → may_follow (slice_get items n) (marked_of items placed.done) placed.done n ≡ false → SameOrder items v → ⊥
Placed-fails items set_values rows v p n within is placed fails order =
    false≢true (sym (placed.rest ∙ next_of items placed.done v p n within is ∙ rw fails refl) ∙ rises_from_same_order items v order)

pub past_fails : (items : List ItemData) (marked : List Marked) (listed : List ℕ) (n : ℕ) → length items ≤ n → may_follow (slice_get items n) marked listed n ≡ false
past_fails items marked listed n past = rw (slice_get_past items n past) refl

pub set_fails :
    (items : List ItemData) (set_values : List Bool) (rows v : List ℕ) (p n : ℕ) → (placed : Placed items set_values rows v p) → n < length items → get_or set_values n false ≡ true
    → may_follow (slice_get items n) (marked_of items placed.done) placed.done n ≡ false
set_fails items set_values rows v p n placed within is = either (slice_get items n)
  where
    either : (o : Option ItemData) → may_follow o (marked_of items placed.done) placed.done n ≡ false
    either None = refl
    either (Some d) = rw (sym (placed.listed n within) ∙ is) refl

pub mark_fails : (items : List ItemData) (marked : List Marked) (listed : List ℕ) (n : ℕ) (d : ItemData) → slice_get items n ≡ Some d → n < mark_before marked d
    → may_follow (slice_get items n) marked listed n ≡ false
mark_fails items marked listed n d there high = rw (there, lt-leb (mark_before marked d) n high) (and-false (not (list_any (λ m. m == n) listed)))

pub Placed-all : (items : List ItemData) (set_values : List Bool) (rows v : List ℕ) (p : ℕ) → Placed items set_values rows v p → length v ≤ p → length v ≡ length items → SameOrder items v
Placed-all items set_values rows v p placed past size =
    same_order_from_rises items v size (placed.rest ∙ ap (λ (xs : List ℕ). rises items placed.done xs) (drop_all p v past))
