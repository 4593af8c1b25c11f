-- What is in the list need not be mentioned again.
use Rattle.std.proofs.Common.{◌≡◌, ℕ, ◌+◌, ◌<◌, ◌==◌, Bool, true, false, ◌||◌, ◌⊎◌, inl, inr, List, [], ◌∷◌, ◌++◌, length, Option, Some, None, refl, ap, subst, sym, ◌∙◌, arith}
use Rattle.std.specs.Prelude.{get_or, if◌then◌else◌, suc, zero}
use Rattle.std.specs.List.{range_with_len}
use Rattle.std.proofs.lemmas.Bool.{cases_eq, eq-eqb, or_right}
use Rattle.std.proofs.lemmas.List.{get_or-set_same, get_or-set_other}
use Rattle.std.proofs.lemmas.List.Folds.{list_any-append}
use Rattle.std.proofs.Math.ListN.{set}
use Rattle.qasm_reader.specs.declared.kinds.Operand.{Operand}
use Rattle.qasm_reader.specs.declared.kinds.Register.{Register}
use Rattle.qasm_reader.specs.Operand.{cell_count, cells, first_cell, with_mention, with_mentions}
use Rattle.qasm_reader.specs.Mentioned.{AreReached, is_mentioned}
use Rattle.qasm_reader.proofs.Mentions.{mention_old}

keep_one : (found : List ℕ) (n m : ℕ) → is_mentioned n found ≡ true → is_mentioned n (with_mention found m) ≡ true
keep_one found n m is = by_test (is_mentioned m found)
  where
    by_test : (b : Bool) → is_mentioned n (if b then found else found ++ m ∷ []) ≡ true
    by_test true = is
    by_test false = list_any-append (λ x. x == n) found (m ∷ []) ∙ ap (λ (b : Bool). b || ((m == n) || false)) is

has_new : (found : List ℕ) (n : ℕ) → is_mentioned n (with_mention found n) ≡ true
has_new found n = by_test (is_mentioned n found) refl
  where
    by_test : (b : Bool) → is_mentioned n found ≡ b → is_mentioned n (if b then found else found ++ n ∷ []) ≡ true
    by_test true is = is
    by_test false is = list_any-append (λ x. x == n) found (n ∷ []) ∙ or_right _ _ (ap (λ (b : Bool). b || false) (eq-eqb n n refl))

-- a number stays mentioned
keep_all : (found ms : List ℕ) (n : ℕ) → is_mentioned n found ≡ true → is_mentioned n (with_mentions found ms) ≡ true
keep_all found [] n is = is
keep_all found (m ∷ ms) n is = keep_all (with_mention found m) ms n (keep_one found n m is)

-- each number of a range is mentioned behind it
has_all : (found : List ℕ) (first count i : ℕ) → i < count → is_mentioned (first + i) (with_mentions found (range_with_len first count)) ≡ true
has_all found first zero i less = absurd (omega (arith, less))
has_all found first (suc count) zero less =
    let same : first ≡ first + 0 = omega arith in
    subst (λ (n : ℕ). is_mentioned n (with_mentions (with_mention found first) (range_with_len (first + 1) count)) ≡ true) same
    (keep_all (with_mention found first) (range_with_len (first + 1) count) first (has_new found first))
has_all found first (suc count) (suc i) less =
    let same : first + 1 + i ≡ first + suc i = omega arith in
    subst (λ (n : ℕ). is_mentioned n (with_mentions (with_mention found first) (range_with_len (first + 1) count)) ≡ true) same
    (has_all (with_mention found first) (first + 1) count i (omega (arith, less)))

-- nothing is added where each is there
pub all_there : (found : List ℕ) (first count : ℕ) → ((i : ℕ) → i < count → is_mentioned (first + i) found ≡ true) → with_mentions found (range_with_len first count) ≡ found
all_there found first zero there = refl
all_there found first (suc count) there =
    let same : first + 0 ≡ first = omega arith in
    let now : is_mentioned first found ≡ true = subst (λ (n : ℕ). is_mentioned n found ≡ true) same (there 0 (omega arith)) in
    ap (λ (f : List ℕ). with_mentions f (range_with_len (first + 1) count)) (mention_old found first now)
    ∙ all_there found (first + 1) count (λ i less. shifted i (there (suc i) (omega (arith, less))))
  where
    shifted : (i : ℕ) → is_mentioned (first + suc i) found ≡ true → is_mentioned (first + 1 + i) found ≡ true
    shifted i is = let same : first + suc i ≡ first + 1 + i = omega arith in subst (λ (n : ℕ). is_mentioned n found ≡ true) same is

-- behind a range
pub reached_next :
    (reach ns : List ℕ) (first count : ℕ) → first < length reach → AreReached reach ns
    → AreReached (set reach first count) (with_mentions ns (range_with_len first count))
reached_next reach ns first count within reached n i few less = by_case (cases_eq n first)
  where
    more : List ℕ
    more = with_mentions ns (range_with_len first count)

    by_case : (n ≡ first) ⊎ (n ≡ first → ⊥) → is_mentioned (n + i) more ≡ true
    by_case (inl same) =
        let below : i < count = subst (λ (m : ℕ). i < m) (ap (λ (k : ℕ). get_or (set reach first count) k 0) same ∙ get_or-set_same reach first count 0 within) less in
        subst (λ (m : ℕ). is_mentioned (m + i) more ≡ true) (sym same) (has_all ns first count i below)
    by_case (inr other) = keep_all ns (range_with_len first count) (n + i) (reached n i few (subst (λ (m : ℕ). i < m) (get_or-set_other reach first n count 0 other) less))

-- the cells of an operand are a range
pub cells_are : (o : Operand) → cells o ≡ range_with_len (first_cell o) (cell_count o)
cells_are o = by_index o.register o.index
  where
    by_index : (r : Register) (index : Option ℕ) → cells (record { register = r; index = index }) ≡ range_with_len (first_cell (record { register = r; index = index })) (cell_count (record { register = r; index = index }))
    by_index r None = refl
    by_index r (Some i) = refl
