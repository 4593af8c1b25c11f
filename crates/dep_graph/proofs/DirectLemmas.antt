-- Which items stand directly before an item, and that these decide for all that share with it.
use Rattle.std.proofs.Common.{◌≡◌, ℕ, zero, suc, ◌+◌, ◌-◌, ◌<◌, ◌≤◌, ◌==◌, Bool, true, false, cond, eqb, leb, ◌||◌, ◌&&◌, not, List, [], ◌∷◌, length, refl, sym, ◌∙◌, ap, arith, Option, Some, None, inl, inr, subst}
use Rattle.std.specs.Prelude.{slice_get}
use Rattle.std.specs.List.{list_any, range_with_len}
use Rattle.std.proofs.lemmas.Bool.{cases_Bool, cases_eq, cases_lt, eq-eqb, ne_eqb, le-leb, lt-leb, leb-true, and_parts, or_right, or_left, false≢true}
use Rattle.std.proofs.lemmas.Option.{slice_get_past}
use Rattle.qccd_circuit.specs.Item.{ItemData}
use Rattle.qccd_circuit.specs.Operands.{operands_of, uses}
use Rattle.qccd_circuit.proofs.Shared.{shares-operands}
use Rattle.dep_graph.specs.Direct.{used_by, uses_at, operands_in, share_both, shares_at, is_first, directly_before}

-- ---- the first item from a number on

pub uses_within : (items : List ItemData) (i o : ℕ) → uses_at items i o ≡ true → i < length items
uses_within items i o is = elim (cases_lt i (length items)) [
  | inl within ↦ within
  | inr past ↦ absurd (false≢true (sym (ap (λ (x : Option ItemData). used_by x o) (slice_get_past items i past)) ∙ is))
]

-- an item that uses the operand is the first one, and else the first one comes later
pub first-step : (items : List ItemData) (i o j : ℕ) → is_first items i o j ≡ cond (uses_at items i o) (i == j) (is_first items (i + 1) o j)
first-step items i o j = elim (cases_lt j i) [
  | inl less ↦
      let here : leb i j ≡ false = lt-leb i j less in
      let later : leb (i + 1) j ≡ false = lt-leb (i + 1) j (omega arith) in
      rw (here, later, ne_eqb i j (λ e. absurd (omega arith))) (sym (both (uses_at items i o)))
  | inr more ↦ elim (cases_eq i j) [
    | inl same ↦
        let here : leb i j ≡ true = le-leb i j (omega arith) in
        let later : leb (i + 1) j ≡ false = lt-leb (i + 1) j (omega arith) in
        let nothing : j - i ≡ 0 = omega arith in
        rw (here, later, eq-eqb i j same, nothing) (subst (λ (x : ℕ). (uses_at items x o && true) ≡ cond (uses_at items i o) true false) same (one (uses_at items i o)))
    | inr apart ↦
        let here : leb i j ≡ true = le-leb i j (omega arith) in
        let later : leb (i + 1) j ≡ true = le-leb (i + 1) j (omega arith) in
        let more : j - i ≡ suc (j - (i + 1)) = omega arith in
        rw (here, later, ne_eqb i j apart, more) (split (uses_at items i o) (uses_at items j o) (list_any (λ k. uses_at items k o) (range_with_len (i + 1) (j - (i + 1)))))
  ]
]
  where
    both : (b : Bool) → cond b false false ≡ false
    both true = refl
    both false = refl

    one : (b : Bool) → (b && true) ≡ cond b true false
    one true = refl
    one false = refl

    split : (b c d : Bool) → (c && not (b || d)) ≡ cond b false (c && not d)
    split true true d = refl
    split true false d = refl
    split false c d = refl

pub first-end : (items : List ItemData) (o j : ℕ) → is_first items (length items) o j ≡ false
first-end items o j = elim (cases_Bool (is_first items (length items) o j)) [
  | inl is ↦
      let parts = and_parts (leb (length items) j && uses_at items j o) (not (list_any (λ k. uses_at items k o) (range_with_len (length items) (j - length items)))) is in
      let low = and_parts (leb (length items) j) (uses_at items j o) parts.0 in
      absurd (omega (arith, leb-true (length items) j low.0, uses_within items j o low.1))
  | inr not_first ↦ not_first
]

-- what a first item is
pub record First (items : List ItemData) (from o j : ℕ) : Type 0 where
  pub low : from ≤ j
  pub within : j < length items
  pub has : uses_at items j o ≡ true

pub first_is : (items : List ItemData) (from o j : ℕ) → is_first items from o j ≡ true → First items from o j
first_is items from o j is =
    let parts = and_parts (leb from j && uses_at items j o) (not (list_any (λ k. uses_at items k o) (range_with_len from (j - from)))) is in
    let low = and_parts (leb from j) (uses_at items j o) parts.0 in
    record { low = leb-true from j low.0; within = uses_within items j o low.1; has = low.1 }

-- ---- operands and sharing

pub any_common : (p : ℕ → Bool) (xs : List ℕ) (o : ℕ) → list_any (λ n. n == o) xs ≡ true → p o ≡ true → list_any p xs ≡ true
any_common p [] o has passes = cc
any_common p (x ∷ xs) o has passes = elim (cases_eq x o) [
  | inl same ↦ or_left (p x) (list_any p xs) (subst (λ (n : ℕ). p n ≡ true) (sym same) passes)
  | inr apart ↦ or_right (p x) (list_any p xs) (any_common p xs o (rw (ne_eqb x o apart) at has) passes)
]

pub record Common (p : ℕ → Bool) (xs : List ℕ) : Type 0 where
  pub o : ℕ
  pub has : list_any (λ n. n == o) xs ≡ true
  pub passes : p o ≡ true

pub common_of : (p : ℕ → Bool) (xs : List ℕ) → list_any p xs ≡ true → Common p xs
common_of p [] is = cc
common_of p (x ∷ xs) is = elim (cases_Bool (p x)) [
  | inl here ↦ record { o = x; has = or_left (eqb x x) (list_any (λ n. n == x) xs) (eq-eqb x x refl); passes = here }
  | inr not_x ↦
      let rest : Common p xs = common_of p xs (rw not_x at is) in
      record { o = rest.o; has = or_right (eqb x rest.o) (list_any (λ n. n == rest.o) xs) rest.has; passes = rest.passes }
]

pub shares_by : (items : List ItemData) (i j o : ℕ) → uses_at items i o ≡ true → uses_at items j o ≡ true → shares_at items i j ≡ true
shares_by items i j o first second = both (slice_get items i) (slice_get items j) first second
  where
    both : (a b : Option ItemData) → used_by a o ≡ true → used_by b o ≡ true → share_both a b ≡ true
    both None b first second = cc
    both (Some a) None first second = cc
    both (Some a) (Some b) first second = shares-operands a b ∙ any_common (uses b) (operands_of a) o first second

pub record Shared (items : List ItemData) (i j : ℕ) : Type 0 where
  pub o : ℕ
  pub first : uses_at items i o ≡ true
  pub second : uses_at items j o ≡ true

pub shared_of : (items : List ItemData) (i j : ℕ) → shares_at items i j ≡ true → Shared items i j
shared_of items i j share = let found = both (slice_get items i) (slice_get items j) share in record { o = found.0; first = found.1; second = found.2 }
  where
    both : (a b : Option ItemData) → share_both a b ≡ true → (o : ℕ) × (used_by a o ≡ true) × (used_by b o ≡ true)
    both None b share = cc
    both (Some a) None share = cc
    both (Some a) (Some b) share =
        let common : Common (uses b) (operands_of a) = common_of (uses b) (operands_of a) (sym (shares-operands a b) ∙ share) in
        (common.o, common.has, common.passes)

has_operand : (a : Option ItemData) (o : ℕ) → used_by a o ≡ true → list_any (λ n. n == o) (operands_in a) ≡ true
has_operand None o is = cc
has_operand (Some d) o is = is

operand_has : (a : Option ItemData) (o : ℕ) → list_any (λ n. n == o) (operands_in a) ≡ true → used_by a o ≡ true
operand_has None o is = cc
operand_has (Some d) o is = is

-- an item that stands directly before another is earlier and shares with it
pub record Directly (items : List ItemData) (i j : ℕ) : Type 0 where
  pub less : i < j
  pub within : j < length items
  pub share : shares_at items i j ≡ true

pub directly_is : (items : List ItemData) (i j : ℕ) → directly_before items i j ≡ true → Directly items i j
directly_is items i j is =
    let common : Common (λ o. is_first items (i + 1) o j) (operands_in (slice_get items i)) = common_of (λ o. is_first items (i + 1) o j) (operands_in (slice_get items i)) is in
    let first : First items (i + 1) common.o j = first_is items (i + 1) common.o j common.passes in
    record {
      less = omega (arith, first.low);
      within = first.within;
      share = shares_by items i j common.o (operand_has (slice_get items i) common.o common.has) first.has;
    }

-- ---- the last item before j that uses an operand

record InRange (p : ℕ → Bool) (a m : ℕ) : Type 0 where
  pub k : ℕ
  pub low : a ≤ k
  pub high : k < a + m
  pub passes : p k ≡ true

in_range : (p : ℕ → Bool) (a m : ℕ) → list_any p (range_with_len a m) ≡ true → InRange p a m
in_range p a zero is = cc
in_range p a (suc m) is = elim (cases_Bool (p a)) [
  | inl here ↦ record { k = a; low = omega arith; high = omega arith; passes = here }
  | inr not_a ↦
      let rest : InRange p (a + 1) m = in_range p (a + 1) m (rw not_a at is) in
      record { k = rest.k; low = omega (arith, rest.low); high = omega (arith, rest.high); passes = rest.passes }
]

pub record Latest (items : List ItemData) (i j o : ℕ) : Type 0 where
  pub k : ℕ
  pub low : i ≤ k
  pub less : k < j
  pub has : uses_at items k o ≡ true
  pub directly : directly_before items k j ≡ true

latest : (items : List ItemData) (fuel i j o : ℕ) → j ≤ i + fuel → i < j → uses_at items i o ≡ true → uses_at items j o ≡ true → Latest items i j o
latest items zero i j o enough less first second = absurd (omega arith)
latest items (suc fuel) i j o enough less first second = elim (cases_Bool (list_any (λ k. uses_at items k o) (range_with_len (i + 1) (j - (i + 1))))) [
  | inl some ↦
      let next : InRange (λ k. uses_at items k o) (i + 1) (j - (i + 1)) = in_range (λ k. uses_at items k o) (i + 1) (j - (i + 1)) some in
      let rest : Latest items next.k j o = latest items fuel next.k j o (omega (arith, next.low)) (omega (arith, next.low, next.high)) next.passes second in
      record { k = rest.k; low = omega (arith, rest.low, next.low); less = rest.less; has = rest.has; directly = rest.directly }
  | inr none ↦
      let is : is_first items (i + 1) o j ≡ true = rw (le-leb (i + 1) j (omega arith), second, none) refl in
      record {
        k = i;
        low = omega arith;
        less = less;
        has = first;
        directly = any_common (λ x. is_first items (i + 1) x j) (operands_in (slice_get items i)) o (has_operand (slice_get items i) o first) is;
      }
]

pub latest_before : (items : List ItemData) (i j o : ℕ) → i < j → uses_at items i o ≡ true → uses_at items j o ≡ true → Latest items i j o
latest_before items i j o less first second = latest items j i j o (omega arith) less first second
