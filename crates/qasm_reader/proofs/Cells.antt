-- The cells that operands have.
use Rattle.std.proofs.Common.{◌≡◌, ℕ, ◌+◌, ◌<◌, ◌≤◌, ◌==◌, Bool, true, false, not, ◌&&◌, ◌||◌, List, [], ◌∷◌, ◌++◌, map, All, Option, Some, None, refl, sym, ap, subst, ◌∙◌, arith}
use Rattle.std.specs.Prelude.{nat_lt, if◌then◌else◌}
use Rattle.std.specs.List.{list_any, range_with_len}
use Rattle.std.proofs.lemmas.Bool.{false≢true, eqb-true, lt-ltb, and_from, or_parts}
use Rattle.std.proofs.lemmas.List.Elements.{All-cons, All-head, All-nil, All-tail, All-weaker}
use Rattle.std.proofs.lemmas.List.Folds.{list_any-append}
use Rattle.qccd_base.specs.Names.{qubit}
use Rattle.qccd_circuit.specs.Item.{are_distinct, has_qubit}
use Rattle.qasm_reader.specs.declared.kinds.Operand.{Operand}
use Rattle.qasm_reader.specs.Operand.{cell_count, cell_of, differ, first_cell, is_whole, share, times}
use Rattle.qasm_reader.specs.Sound.{AreApart, HasCell, LiesBelow}

-- ---- operands apart

-- one operand more
pub apart_more : (os : List Operand) (o : Operand) → AreApart os → list_any (differ o) os ≡ false → list_any (share o) os ≡ false → AreApart (os ++ o ∷ [])
apart_more [] o apart sizes cells = (refl, refl, tt)
apart_more (x ∷ os) o apart sizes cells =
    let size = or_parts (differ o x) (list_any (differ o) os) sizes in
    let cell = or_parts (share o x) (list_any (share o) os) cells in (
      list_any-append (λ (p : Operand). share p x) os (o ∷ []) ∙ ap (λ (b : Bool). b || (share o x || false)) apart.0 ∙ ap (λ (b : Bool). b || false) cell.0,
      list_any-append (λ (p : Operand). differ p x) os (o ∷ []) ∙ ap (λ (b : Bool). b || (differ o x || false)) apart.1 ∙ ap (λ (b : Bool). b || false) size.0,
      apart_more os o apart.2 size.1 cell.1,
    )

-- ---- the cells of one application

-- registers of one size
same_size : (i : ℕ) (o p : Operand) → is_whole o ≡ true → i < o.register.size → differ p o ≡ false → HasCell i p
same_size i o p whole few alike whole_p = by_size (p.register.size == o.register.size) refl
  where
    by_size : (b : Bool) → (p.register.size == o.register.size) ≡ b → i < p.register.size
    by_size true is_b = omega (arith, few, eqb-true p.register.size o.register.size is_b)
    by_size false is_b =
        absurd (false≢true (sym alike
        ∙ ap (λ (b : Bool). b && (is_whole o && not (p.register.size == o.register.size))) whole_p
        ∙ ap (λ (b : Bool). b && not (p.register.size == o.register.size)) whole
        ∙ ap not is_b))

same_sizes : (i : ℕ) (o : Operand) (os : List Operand) → is_whole o ≡ true → i < o.register.size → list_any (λ p. differ p o) os ≡ false → All (HasCell i) os
same_sizes i o [] whole few alike = All-nil (HasCell i)
same_sizes i o (p ∷ os) whole few alike =
    let parts = or_parts (differ p o) (list_any (λ p. differ p o) os) alike in
    All-cons (HasCell i) p os (same_size i o p whole few parts.0) (same_sizes i o os whole few parts.1)

-- each register has a cell for each application
pub each_has_cell : (i : ℕ) (os : List Operand) → AreApart os → i < times os → All (HasCell i) os
each_has_cell i [] apart few = All-nil (HasCell i)
each_has_cell i (o ∷ os) apart few = by_whole (is_whole o) refl (each_has_cell i os apart.2)
  where
    count : Bool → ℕ
    count b = if b then o.register.size else times os

    by_whole : (b : Bool) → is_whole o ≡ b → (i < times os → All (HasCell i) os) → All (HasCell i) (o ∷ os)
    by_whole true is_b others =
        let here : i < o.register.size = subst (λ (n : ℕ). i < n) (ap count is_b) few in
        All-cons (HasCell i) o os (λ _. here) (same_sizes i o os is_b here apart.1)
    by_whole false is_b others =
        All-cons (HasCell i) o os (λ whole. absurd (false≢true (sym is_b ∙ whole))) (others (subst (λ (n : ℕ). i < n) (ap count is_b) few))

-- the cell is one of the operand's
pub record IsCellOf (i : ℕ) (o : Operand) : Type 0 where
  pub from : first_cell o ≤ cell_of i o
  pub below : cell_of i o < first_cell o + cell_count o

pub is_cell : (i : ℕ) (o : Operand) → HasCell i o → IsCellOf i o
is_cell i o has = by_index o.register.first o.register.size o.index has
  where
    by_index :
        (first size : ℕ) (index : Option ℕ)
        → (Rattle.std.specs.Prelude.is_none index ≡ true → i < size)
        → IsCellOf i (record { register = record o.register { first = first; size = size }; index = index })
    by_index first size None has = record { from = omega arith; below = omega (arith, has refl) }
    by_index first size (Some j) has = record { from = omega arith; below = omega arith }

apart_cells : (i : ℕ) (o p : Operand) → HasCell i o → HasCell i p → share p o ≡ false → (cell_of i p == cell_of i o) ≡ false
apart_cells i o p has_o has_p apart = by_equal (cell_of i p == cell_of i o) refl
  where
    by_equal : (b : Bool) → (cell_of i p == cell_of i o) ≡ b → b ≡ false
    by_equal false is_b = refl
    by_equal true is_b =
        let same : cell_of i p ≡ cell_of i o = eqb-true (cell_of i p) (cell_of i o) is_b in
        let mine = is_cell i o has_o in
        let other = is_cell i p has_p in
        absurd (false≢true (sym apart
        ∙ and_from _ _ (lt-ltb (first_cell p) (first_cell o + cell_count o) (omega (arith, same, mine.below, other.from)))
        (lt-ltb (first_cell o) (first_cell p + cell_count p) (omega (arith, same, mine.from, other.below)))))

none_equal :
    (i : ℕ) (o : Operand) (os : List Operand) → HasCell i o → All (HasCell i) os → list_any (λ p. share p o) os ≡ false
    → has_qubit (map qubit (map (cell_of i) os)) (qubit (cell_of i o)) ≡ false
none_equal i o [] has each apart = refl
none_equal i o (p ∷ os) has each apart =
    let parts = or_parts (share p o) (list_any (λ p. share p o) os) apart in
    ap (λ (b : Bool). b || has_qubit (map qubit (map (cell_of i) os)) (qubit (cell_of i o))) (apart_cells i o p has (All-head (HasCell i) p os each) parts.0)
    ∙ none_equal i o os has (All-tail (HasCell i) p os each) parts.1

-- the cells of one application are distinct
pub distinct_cells : (i : ℕ) (os : List Operand) → AreApart os → All (HasCell i) os → are_distinct (map qubit (map (cell_of i) os)) ≡ true
distinct_cells i [] apart each = refl
distinct_cells i (o ∷ os) apart each =
    ap (λ (b : Bool). not b && are_distinct (map qubit (map (cell_of i) os))) (none_equal i o os (All-head (HasCell i) o os each) (All-tail (HasCell i) o os each) apart.0)
    ∙ distinct_cells i os apart.2 (All-tail (HasCell i) o os each)

-- and below the count
pub cells_below : (i n : ℕ) (os : List Operand) → All (LiesBelow n) os → All (HasCell i) os → All (λ m. m < n) (map (cell_of i) os)
cells_below i n [] below each = All-nil (λ m. m < n)
cells_below i n (o ∷ os) below each =
    let here = All-head (LiesBelow n) o os below in
    All-cons (λ m. m < n) (cell_of i o) (map (cell_of i) os) (omega (arith, here.below, (is_cell i o (All-head (HasCell i) o os each)).below))
    (cells_below i n os (All-tail (LiesBelow n) o os below) (All-tail (HasCell i) o os each))

-- no cell is above the last number of a cell
pub cells_few : (i n : ℕ) (os : List Operand) → n ≤ 256 → All (LiesBelow n) os → All (HasCell i) os → All (λ m. m < 256) (map (cell_of i) os)
cells_few i n os few below each = All-weaker (λ m. m < n) (λ m. m < 256) (λ m under. omega (arith, few, under)) (map (cell_of i) os) (cells_below i n os below each)
