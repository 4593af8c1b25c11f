-- The first number that passes a test, and what none passes; how many pass a test of a list.
use Rattle.std.proofs.Common.{◌≡◌, ℕ, zero, suc, ◌+◌, ◌<◌, ◌≤◌, Bool, true, false, cond, List, [], ◌∷◌, ◌++◌, refl, sym, subst, arith, Some, None, inl, inr, ◌⊎◌}
use Rattle.std.specs.Prelude.{find, count_by}
use Rattle.std.specs.List.{list_any, range_with_len}
use Rattle.std.proofs.lemmas.Bool.{cases_Bool}
use Rattle.op_table.proofs.Counts.{count_by-cons}

pub none_passes : (p : ℕ → Bool) (a n : ℕ) → ((i : ℕ) → a ≤ i → i < a + n → p i ≡ false) → find p (range_with_len a n) ≡ None
none_passes p a zero none = refl
none_passes p a (suc n) none = rw (none a (omega arith) (omega arith)) (none_passes p (a + 1) n (λ i low high. none i (omega (arith, low)) (omega (arith, high))))

pub some_none : {X : Type 0} {x : X} → Some x ≡ None → ⊥
some_none e = cc

pub true_false : true ≡ false → ⊥
true_false e = cc

cases_place : (a k : ℕ) → a ≤ k → (a ≡ k) ⊎ (a < k)
cases_place a k low = grind arith

pub one_passes : (p : ℕ → Bool) (a n k : ℕ) → a ≤ k → k < a + n → ((i : ℕ) → a ≤ i → i < k → p i ≡ false) → p k ≡ true → find p (range_with_len a n) ≡ Some k
one_passes p a zero k low high before passes = absurd (omega (arith, low, high))
one_passes p a (suc n) k low high before passes = elim (cases_place a k low) [
  | inl here ↦ subst (λ (i : ℕ). find p (range_with_len a (suc n)) ≡ Some i) here (rw (subst (λ (i : ℕ). p i ≡ true) (sym here) passes) refl)
  | inr later ↦ rw (before a (omega arith) later) (one_passes p (a + 1) n k (omega (arith, later)) (omega (arith, high)) (λ i from below. before i (omega (arith, from)) below) passes)
]

pub none_found : (p : ℕ → Bool) (a n : ℕ) → find p (range_with_len a n) ≡ None → (i : ℕ) → a ≤ i → i < a + n → p i ≡ false
none_found p a zero none i low high = absurd (omega (arith, low, high))
none_found p a (suc n) none i low high = elim (cases_Bool (p a)) [
  | inl here ↦ absurd (some_none (rw here at none))
  | inr not_here ↦ elim (cases_place a i low) [
    | inl same ↦ subst (λ (j : ℕ). p j ≡ false) same not_here
    | inr later ↦ none_found p (a + 1) n (rw not_here at none) i (omega (arith, later)) (omega (arith, high))
  ]
]

-- ---- how many pass

one_if : (b : Bool) → b ≡ true → ◌≡◌ {A = ℕ} (cond b 1 0) 1
one_if true e = refl
one_if false e = absurd cc

none_if : (b : Bool) → b ≡ false → ◌≡◌ {A = ℕ} (cond b 1 0) 0
none_if true e = absurd cc
none_if false e = refl

pub some_counted : {X : Type 0} (p : X → Bool) (xs : List X) → list_any p xs ≡ true → 1 ≤ count_by p xs
some_counted p [] any = absurd cc
some_counted p (x ∷ xs) any = elim (cases_Bool (p x)) [
  | inl here ↦ omega (arith, count_by-cons p x xs, one_if (p x) here)
  | inr not_here ↦ let rest : 1 ≤ count_by p xs = some_counted p xs (rw not_here at any) in omega (arith, count_by-cons p x xs, rest)
]

pub none_counted : {X : Type 0} (p : X → Bool) (xs : List X) → list_any p xs ≡ false → count_by p xs ≡ 0
none_counted p [] none = refl
none_counted p (x ∷ xs) none = elim (cases_Bool (p x)) [
  | inl here ↦ absurd (true_false (rw here at none))
  | inr not_here ↦ let rest : count_by p xs ≡ 0 = none_counted p xs (rw not_here at none) in omega (arith, count_by-cons p x xs, none_if (p x) not_here, rest)
]

pub count_parts : {X : Type 0} (p : X → Bool) (xs ys : List X) → count_by p (xs ++ ys) ≡ count_by p xs + count_by p ys
count_parts p [] ys = let none : count_by p [] ≡ 0 = refl in omega (arith, none)
count_parts p (x ∷ xs) ys =
    let rest = count_parts p xs ys in
    omega (arith, count_by-cons p x (xs ++ ys), count_by-cons p x xs, rest)
