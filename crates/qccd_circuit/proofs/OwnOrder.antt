-- The items in their own order.
use Rattle.std.proofs.Common.{◌≡◌, ℕ, zero, suc, ◌+◌, ◌<◌, ◌-◌, true, cond, eqb, ltb, List, length, refl, arith, inl, inr}
use Rattle.std.specs.Prelude.{count_by}
use Rattle.std.specs.List.{range_with_len, list_any}
use Rattle.std.proofs.lemmas.Bool.{ne_eqb, eq-eqb, cases_eq}
use Rattle.std.proofs.lemmas.Bool.Decides.{nat_tests}
use Rattle.std.proofs.lemmas.Option.{slice_get_within}
use Rattle.qccd_circuit.specs.Item.{ItemData}
use Rattle.qccd_circuit.specs.Order.{SameOrder, stands_before}
use Rattle.qccd_circuit.proofs.Rising.{count_by-cons}

-- how often a number stands in a range
pub count_range : (a n k : ℕ) → count_by (λ i. eqb i k) (range_with_len a n) ≡ cond (ltb k a) 0 (cond (ltb k (a + n)) 1 0)
count_range a zero k = grind (arith, nat_tests)
count_range a (suc n) k =
    let rest = count_range (a + 1) n k in
    let here = count_by-cons (λ i. eqb i k) a (range_with_len (a + 1) n) in
    grind (arith, nat_tests)

once-range : (n k : ℕ) → count_by (λ i. eqb i k) (range_with_len 0 n) ≡ cond (ltb k n) 1 0
once-range n k = let all = count_range 0 n k in grind (arith, nat_tests)

any_range : (a n k j : ℕ) → j ≡ a + k → k < n → list_any (λ m. eqb m j) (range_with_len a n) ≡ true
any_range a zero k j is h = absurd (omega arith)
any_range a (suc n) zero j is h = rw (eq-eqb a j (omega arith)) refl
any_range a (suc n) (suc k) j is h = rw (ne_eqb a j (λ e. absurd (omega arith)), any_range (a + 1) n k j (omega arith) (omega arith)) refl

-- in a range the lesser number stands first
before_range : (a n k i j : ℕ) → i ≡ a + k → i < j → j < a + n → stands_before i j (range_with_len a n) ≡ true
before_range a zero k i j is less high = absurd (omega arith)
before_range a (suc n) zero i j is less high = rw (eq-eqb a i (omega arith), any_range (a + 1) n (j - (a + 1)) j (omega arith) (omega arith)) refl
before_range a (suc n) (suc k) i j is less high = rw (ne_eqb a i (λ e. absurd (omega arith)), before_range (a + 1) n k i j (omega arith) less (omega arith)) refl

above : (b m j i : ℕ) → list_any (λ k. eqb k j) (range_with_len b m) ≡ true → i < b → i < j
above b zero j i has low = cc
above b (suc m) j i has low = elim (cases_eq b j) [
  | inl same ↦ omega arith
  | inr apart ↦ above (b + 1) m j i (rw (ne_eqb b j apart) at has) (omega arith)
]

-- and only the lesser one does
pub before_range-lt : (a n i j : ℕ) → stands_before i j (range_with_len a n) ≡ true → i < j
before_range-lt a zero i j h = cc
before_range-lt a (suc n) i j h = elim (cases_eq a i) [
  | inl same ↦ above (a + 1) n j i (rw (eq-eqb a i same) at h) (omega arith)
  | inr apart ↦ before_range-lt (a + 1) n i j (rw (ne_eqb a i apart) at h)
]

pub same_order-own : (items : List ItemData) → SameOrder items (range_with_len 0 (length items))
same_order-own items = record {
  once = once-range (length items);
  kept = λ i j a b less at_i at_j shared. before_range 0 (length items) i i j (omega arith) less (omega (arith, slice_get_within items j b at_j));
}
