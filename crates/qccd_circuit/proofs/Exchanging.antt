-- A list is in the same order exactly where exchanges of neighbours that do not share reach it.
use Rattle.std.proofs.Common.{◌≡◌, ℕ, ◌+◌, ◌≤◌, ◌==◌, Bool, true, false, cond, eqb, ◌||◌, List, [], ◌∷◌, ◌++◌, length, refl, sym, ◌∙◌, ap, arith, inl, inr, subst, Some}
use Rattle.std.specs.Prelude.{count_by, slice_get}
use Rattle.std.specs.List.{range_with_len, list_any}
use Rattle.std.proofs.lemmas.Bool.{cases_Bool, cases_eq, eq-eqb, ne_eqb, or_left, or_right, false≢true}
use Rattle.std.proofs.lemmas.List.Folds.{list_any-append}
use Rattle.qccd_circuit.specs.Exchanges.{AreApart, Reaches, nothing, exchange}
use Rattle.qccd_circuit.specs.Item.{ItemData}
use Rattle.qccd_circuit.specs.Order.{SameOrder, stands_before}
use Rattle.qccd_circuit.specs.Sharing.{shares}
use Rattle.qccd_circuit.proofs.Rising.{count_by-cons, times, among_once, once_among, before_any, times_single}
use Rattle.qccd_circuit.proofs.OwnOrder.{same_order-own, before_range-lt}

-- ---- an exchange keeps the same order

count_swapped : (p : ℕ → Bool) (front : List ℕ) (i j : ℕ) (rest : List ℕ) → count_by p (front ++ i ∷ j ∷ rest) ≡ count_by p (front ++ j ∷ i ∷ rest)
count_swapped p [] i j rest = omega (arith, count_by-cons p i (j ∷ rest), count_by-cons p j rest, count_by-cons p j (i ∷ rest), count_by-cons p i rest)
count_swapped p (k ∷ front) i j rest = omega (arith, count_swapped p front i j rest, count_by-cons p k (front ++ i ∷ j ∷ rest), count_by-cons p k (front ++ j ∷ i ∷ rest))

any_swapped : (p : ℕ → Bool) (front : List ℕ) (i j : ℕ) (rest : List ℕ) → list_any p (front ++ i ∷ j ∷ rest) ≡ list_any p (front ++ j ∷ i ∷ rest)
any_swapped p [] i j rest = swapped (p i) (p j) (list_any p rest)
  where
    swapped : (a b c : Bool) → (a || (b || c)) ≡ (b || (a || c))
    swapped true true c = refl
    swapped true false c = refl
    swapped false true c = refl
    swapped false false c = refl
any_swapped p (k ∷ front) i j rest = ap (λ (b : Bool). p k || b) (any_swapped p front i j rest)

either : (b c d : Bool) → b ≡ c → (c || d) ≡ true → (b || d) ≡ true
either b c d same h = ap (λ (x : Bool). x || d) same ∙ h

twice : (i j y : ℕ) → i ≡ j → eqb i y ≡ eqb j y
twice i j y same = ap (λ n. eqb n y) same

-- x stays before y, unless these two are exchanged
before_swapped : (front : List ℕ) (i j : ℕ) (rest : List ℕ) (x y : ℕ) → ((i ≡ x) × (j ≡ y) → ⊥) → stands_before x y (front ++ i ∷ j ∷ rest) ≡ true → stands_before x y (front ++ j ∷ i ∷ rest) ≡ true
before_swapped [] i j rest x y apart h = elim (cases_eq j x) [
  | inl same_j ↦ elim (cases_eq i x) [
    | inl same_i ↦ rw (eq-eqb j x same_j) (either (eqb i y) (eqb j y) (list_any (λ n. n == y) rest) (twice i j y (same_i ∙ sym same_j)) (rw (eq-eqb i x same_i) at h))
    | inr apart_i ↦ rw (eq-eqb j x same_j) (or_right (eqb i y) (list_any (λ n. n == y) rest) (rw (ne_eqb i x apart_i, eq-eqb j x same_j) at h))
  ]
  | inr apart_j ↦ elim (cases_eq i x) [
    | inl same_i ↦
        let other : eqb j y ≡ false = ne_eqb j y (λ same. apart (same_i, same)) in
        rw (ne_eqb j x apart_j, eq-eqb i x same_i) (rw (eq-eqb i x same_i, other) at h)
    | inr apart_i ↦ rw (ne_eqb j x apart_j, ne_eqb i x apart_i) (rw (ne_eqb i x apart_i, ne_eqb j x apart_j) at h)
  ]
]
before_swapped (k ∷ front) i j rest x y apart h = elim (cases_Bool (eqb k x)) [
  | inl is ↦ rw is (sym (any_swapped (λ n. n == y) front i j rest) ∙ (rw is at h))
  | inr not_k ↦ rw not_k (before_swapped front i j rest x y apart (rw not_k at h))
]

same_swapped : (items : List ItemData) (front : List ℕ) (i j : ℕ) (rest : List ℕ) → AreApart items i j → SameOrder items (front ++ i ∷ j ∷ rest) → SameOrder items (front ++ j ∷ i ∷ rest)
same_swapped items front i j rest apart order = record {
  once = λ k. sym (count_swapped (λ n. n == k) front i j rest) ∙ order.once k;
  kept = λ x y a b less first second share. before_swapped front i j rest x y
      (λ both. false≢true (sym (apart a b (ap (λ n. slice_get items n) both.0 ∙ first) (ap (λ n. slice_get items n) both.1 ∙ second)) ∙ share))
      (order.kept x y a b less first second share);
}

reached_same : (items : List ItemData) (u v : List ℕ) → Reaches items u v → SameOrder items u → SameOrder items v
reached_same items u v (nothing w) order = order
reached_same items u v (exchange front i j rest w apart more) order = reached_same items (front ++ j ∷ i ∷ rest) v more (same_swapped items front i j rest apart order)

-- ---- exchanges one after another, and behind a first number

reaches_on : (items : List ItemData) (u v w : List ℕ) → Reaches items u v → Reaches items v w → Reaches items u w
reaches_on items u v w (nothing x) more = more
reaches_on items u v w (exchange front i j rest x apart next) more = exchange front i j rest w apart (reaches_on items (front ++ j ∷ i ∷ rest) v w next more)

reaches_behind : (items : List ItemData) (k : ℕ) (u v : List ℕ) → Reaches items u v → Reaches items (k ∷ u) (k ∷ v)
reaches_behind items k u v (nothing x) = nothing (k ∷ x)
reaches_behind items k u v (exchange front i j rest x apart next) = exchange (k ∷ front) i j rest (k ∷ x) apart (reaches_behind items k (front ++ j ∷ i ∷ rest) v next)

-- a number goes to the front past those from which it is apart
to_front : (items : List ItemData) (front : List ℕ) (n : ℕ) (rest : List ℕ) → ((m : ℕ) → list_any (λ k. k == m) front ≡ true → AreApart items m n) → Reaches items (front ++ n ∷ rest) (n ∷ front ++ rest)
to_front items [] n rest apart = nothing (n ∷ rest)
to_front items (m ∷ front) n rest apart =
    reaches_on items (m ∷ front ++ n ∷ rest) (m ∷ n ∷ front ++ rest) (n ∷ m ∷ front ++ rest)
    (reaches_behind items m (front ++ n ∷ rest) (n ∷ front ++ rest) (to_front items front n rest (λ k has. apart k (or_right (eqb m k) (list_any (λ x. x == k) front) has))))
    (exchange [] m n (front ++ rest) (n ∷ m ∷ front ++ rest) (apart m (rw (eq-eqb m m refl) refl)) (nothing (n ∷ m ∷ front ++ rest)))

-- ---- a list with the same numbers, and those that share in the same order, is reached

record Split (n : ℕ) (u : List ℕ) : Type 0 where
  pub front : List ℕ
  pub rest : List ℕ
  pub is : u ≡ front ++ n ∷ rest

split : (n : ℕ) (u : List ℕ) → list_any (λ k. k == n) u ≡ true → Split n u
split n [] has = cc
split n (m ∷ u) has = elim (cases_eq m n) [
  | inl same ↦ record { front = []; rest = u; is = ap (λ (x : ℕ). x ∷ u) same }
  | inr apart ↦
      let more : Split n u = split n u (rw (ne_eqb m n apart) at has) in
      record { front = m ∷ more.front; rest = more.rest; is = ap (λ (xs : List ℕ). m ∷ xs) more.is }
]

-- both have the same numbers, each once at most, and numbers that share stand in v as in u
record Agrees (items : List ItemData) (u v : List ℕ) : Type 0 where
  pub same : (k : ℕ) → times k u ≡ times k v
  pub single : (k : ℕ) → times k v ≤ 1
  pub order :
      (i j : ℕ) (a b : ItemData) → slice_get items i ≡ Some a → slice_get items j ≡ Some b → shares a b ≡ true
      → stands_before i j u ≡ true → stands_before i j v ≡ true

times_middle : (k : ℕ) (front : List ℕ) (n : ℕ) (rest : List ℕ) → times k (front ++ n ∷ rest) ≡ cond (eqb n k) 1 0 + times k (front ++ rest)
times_middle k [] n rest = count_by-cons (λ m. m == k) n rest
times_middle k (m ∷ front) n rest =
    omega (arith, times_middle k front n rest, count_by-cons (λ x. x == k) m (front ++ n ∷ rest), count_by-cons (λ x. x == k) m (front ++ rest))

-- a number more changes nothing between two others
any_more : (p : ℕ → Bool) (front : List ℕ) (n : ℕ) (rest : List ℕ) → list_any p (front ++ rest) ≡ true → list_any p (front ++ n ∷ rest) ≡ true
any_more p [] n rest h = or_right (p n) (list_any p rest) h
any_more p (m ∷ front) n rest h = elim (cases_Bool (p m)) [ inl is ↦ rw is refl | inr not_m ↦ rw not_m (any_more p front n rest (rw not_m at h)) ]

before_middle : (x y : ℕ) (front : List ℕ) (n : ℕ) (rest : List ℕ) → (n ≡ x → ⊥) → stands_before x y (front ++ rest) ≡ true → stands_before x y (front ++ n ∷ rest) ≡ true
before_middle x y [] n rest apart h = rw (ne_eqb n x apart) h
before_middle x y (m ∷ front) n rest apart h = elim (cases_Bool (eqb m x)) [
  | inl is ↦
      let behind : list_any (λ k. k == y) (front ++ rest) ≡ true = rw is at h in
      rw is (any_more (λ k. k == y) front n rest behind)
  | inr not_m ↦ rw not_m (before_middle x y front n rest apart (rw not_m at h))
]

before_front : (m n : ℕ) (front rest : List ℕ) → list_any (λ k. k == m) front ≡ true → stands_before m n (front ++ n ∷ rest) ≡ true
before_front m n [] rest has = cc
before_front m n (k ∷ front) rest has = elim (cases_Bool (eqb k m)) [
  | inl is ↦ rw is (list_any-append (λ x. x == n) front (n ∷ rest) ∙ or_right (list_any (λ x. x == n) front) (list_any (λ x. x == n) (n ∷ rest)) (rw (eq-eqb n n refl) refl))
  | inr not_k ↦ rw not_k (before_front m n front rest (rw not_k at has))
]

before_first : (i j : ℕ) (v : List ℕ) → stands_before i j v ≡ true → list_any (λ n. n == i) v ≡ true
before_first i j [] h = cc
before_first i j (k ∷ v) h = elim (cases_Bool (eqb k i)) [
  | inl is ↦ or_left (eqb k i) (list_any (λ n. n == i) v) is
  | inr not_k ↦ or_right (eqb k i) (list_any (λ n. n == i) v) (before_first i j v (rw not_k at h))
]

any_front : (p : ℕ → Bool) (front rest : List ℕ) → list_any p front ≡ true → list_any p (front ++ rest) ≡ true
any_front p front rest h = list_any-append p front rest ∙ or_left (list_any p front) (list_any p rest) h

-- what is left of a list that agrees with n ∷ v when n is taken out
record Without (items : List ItemData) (n : ℕ) (front rest v : List ℕ) : Type 0 where
  pub apart : (m : ℕ) → list_any (λ k. k == m) front ≡ true → AreApart items m n
  pub agrees : Agrees items (front ++ rest) v

without : (items : List ItemData) (n : ℕ) (front rest v : List ℕ) → Agrees items (front ++ n ∷ rest) (n ∷ v) → Without items n front rest v
without items n front rest v agrees = record {
  apart = λ m has a b first second. elim (cases_Bool (shares a b)) [
    | inr not_a ↦ not_a
    | inl share ↦
        let behind : stands_before m n (n ∷ v) ≡ true = agrees.order m n a b first second share (before_front m n front rest has) in
        elim (cases_eq n m) [
          | inl same ↦ absurd (omega (arith, gone, once_among n (front ++ rest) (subst (λ (x : ℕ). list_any (λ k. k == x) (front ++ rest) ≡ true) (sym same) (any_front (λ k. k == m) front rest has))))
          | inr other ↦
              let later : stands_before m n v ≡ true = rw (ne_eqb n m other) at behind in
              absurd (omega (arith, once_among n v (before_any m n v later), single))
        ]
  ];
  agrees = record {
    same = λ k. omega (arith, agrees.same k, times_middle k front n rest, count_by-cons (λ m. m == k) n v);
    single = λ k. omega (arith, agrees.single k, count_by-cons (λ m. m == k) n v);
    order = λ i j a b first second share h.
        let other : n ≡ i → ⊥ = λ same. absurd (omega (arith, gone, once_among n (front ++ rest) (subst (λ (x : ℕ). list_any (λ k. k == x) (front ++ rest) ≡ true) (sym same) (before_first i j (front ++ rest) h)))) in
        let both : stands_before i j (n ∷ v) ≡ true = agrees.order i j a b first second share (before_middle i j front n rest other h) in
        rw (ne_eqb n i other) at both;
  };
}
  where
    own : cond {A = ℕ} (eqb n n) 1 0 ≡ 1
    own = ap (λ b. cond b 1 0) (eq-eqb n n refl)

    single : times n v ≡ 0
    single = omega (arith, agrees.single n, count_by-cons (λ m. m == n) n v, own)

    gone : times n (front ++ rest) ≡ 0
    gone = omega (arith, agrees.same n, times_middle n front n rest, count_by-cons (λ m. m == n) n v, own, single)

reached_from_agrees : (items : List ItemData) (v u : List ℕ) → Agrees items u v → Reaches items u v
reached_from_agrees items [] [] agrees = nothing []
reached_from_agrees items [] (m ∷ u) agrees =
    absurd (let own : cond {A = ℕ} (eqb m m) 1 0 ≡ 1 = ap (λ b. cond b 1 0) (eq-eqb m m refl) in omega (arith, agrees.same m, count_by-cons (λ k. k == m) m u, own))
reached_from_agrees items (n ∷ v) u agrees =
    let own : cond {A = ℕ} (eqb n n) 1 0 ≡ 1 = ap (λ b. cond b 1 0) (eq-eqb n n refl) in
    let some : 1 ≤ times n u = omega (arith, agrees.same n, count_by-cons (λ m. m == n) n v, own) in
    let parts : Split n u = split n u (among_once n u some) in
    let left : Without items n parts.front parts.rest v = without items n parts.front parts.rest v (subst (λ (x : List ℕ). Agrees items x (n ∷ v)) parts.is agrees) in
    let moved : Reaches items (parts.front ++ n ∷ parts.rest) (n ∷ v) =
    reaches_on items (parts.front ++ n ∷ parts.rest) (n ∷ parts.front ++ parts.rest) (n ∷ v) (to_front items parts.front n parts.rest left.apart)
    (reaches_behind items n (parts.front ++ parts.rest) v (reached_from_agrees items v (parts.front ++ parts.rest) left.agrees)) in
    subst (λ (x : List ℕ). Reaches items x (n ∷ v)) (sym parts.is) moved

pub reached_from_same_order : (items : List ItemData) (v : List ℕ) → SameOrder items v → Reaches items (range_with_len 0 (length items)) v
reached_from_same_order items v order = reached_from_agrees items v (range_with_len 0 (length items)) (record {
  same = λ k. (same_order-own items).once k ∙ sym (order.once k);
  single = times_single items v order;
  order = λ i j a b first second share h. order.kept i j a b (before_range-lt 0 (length items) i j h) first second share;
})

pub same_order_from_reached : (items : List ItemData) (v : List ℕ) → Reaches items (range_with_len 0 (length items)) v → SameOrder items v
same_order_from_reached items v reached = reached_same items (range_with_len 0 (length items)) v reached (same_order-own items)
