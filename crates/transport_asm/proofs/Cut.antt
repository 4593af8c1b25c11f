-- Texts cut at a byte, and joined by it.
use Rattle.std.proofs.Common.{◌≡◌, ℕ, ◌+◌, ◌-◌, ◌<◌, Bool, true, false, cond, not, ◌==◌, List, [], ◌∷◌, length, take, drop, Some, None, refl, sym, ap, ◌∙◌, subst, arith, inl, inr}
use Rattle.std.specs.List.{list_all, slice_split, onto_first, join_with_byte, position, position_or_len, AllByRecursion}
use Rattle.op_text.specs.Shapes.{is_end}
use Rattle.std.proofs.lemmas.List.Splits.{slice_split_none, slice_split_at, slice_split_first}
use Rattle.std.proofs.lemmas.List.Sums.{fails_before_first}
use Rattle.std.proofs.lemmas.List.Elements.{All-from_recursion}
use Rattle.std.proofs.lemmas.Bool.{cases_lt, lt-ltb, ltb-true, and_parts}
use Rattle.std.proofs.lemmas.Bool.Decides.{eqb_tells}
use Rattle.std.proofs.lemmas.Grind.{common_steps}
use Rattle.std.proofs.lemmas.Option.{cond_some, none-some}

-- where the byte is found
pub split_found : (p : ℕ → Bool) (xs : List ℕ) (i : ℕ) → position p xs ≡ Some i → slice_split p xs ≡ take i xs ∷ slice_split p (drop (i + 1) xs)
split_found p xs i found =
    let parts = cond_some _ _ _ found in
    let e = slice_split_first p xs 0 (ltb-true _ _ parts.0) in
    subst (λ (k : ℕ). slice_split p xs ≡ take k xs ∷ slice_split p (drop (k + 1) xs)) parts.1 e

here : (p : ℕ → Bool) (xs : List ℕ) → position_or_len p xs < length xs → position p xs ≡ Some (position_or_len p xs)
here p xs lt = rw (lt-ltb _ _ lt) refl

-- where it is not
pub split_missed : (p : ℕ → Bool) (xs : List ℕ) → position p xs ≡ None → slice_split p xs ≡ xs ∷ []
split_missed p xs missed =
    elim (cases_lt (position_or_len p xs) (length xs)) [
      | inl lt ↦ absurd (none-some (position_or_len p xs) (sym missed ∙ here p xs lt))
      | inr le ↦ slice_split_none p xs (λ k d below. fails_before_first p xs k d (omega arith))
    ]

-- ---- words and lines without the byte

abbrev pub lacks : ℕ → List ℕ → Bool
lacks c word = list_all (λ b. not (b == c)) word

pub All-lacks : (c : ℕ) (word : List ℕ) → lacks c word ≡ true → AllByRecursion (λ b. (b == c) ≡ false) word
All-lacks c [] l = tt
All-lacks c (b ∷ word) l = let parts = and_parts _ _ l in (not-true _ parts.0, All-lacks c word parts.1)
  where
    not-true : (t : Bool) → not t ≡ true → t ≡ false
    not-true true e = absurd cc
    not-true false e = refl

abbrev pub EachLacks : ℕ → List (List ℕ) → Type 0
EachLacks c words = AllByRecursion (λ word. lacks c word ≡ true) words

same : (c : ℕ) → (c == c) ≡ true
same c = elim (eqb_tells c c) [ inl is ↦ is.0 | inr other ↦ absurd (other.1 refl) ]

-- what a range of a slice to its end is
pub rest_of : (n : ℕ) (xs : List ℕ) → take (length xs - n) (drop n xs) ≡ drop n xs
rest_of n xs = grind (arith, common_steps)

-- words that are joined are cut again
pub split-join : (c : ℕ) (word : List ℕ) (words : List (List ℕ)) → lacks c word ≡ true → EachLacks c words
    → slice_split (λ b. b == c) (join_with_byte c (word ∷ words)) ≡ word ∷ words
split-join c word [] l ls = slice_split_none (λ b. b == c) word (All-from_recursion (λ b. (b == c) ≡ false) word (All-lacks c word l))
split-join c word (next ∷ words) l ls =
    slice_split_at (λ b. b == c) word c (join_with_byte c (next ∷ words)) (All-from_recursion (λ b. (b == c) ≡ false) word (All-lacks c word l)) (same c)
    ∙ ap (λ (ws : List (List ℕ)). word ∷ ws) (split-join c next words ls.0 ls.1)

-- a line has a word
pub has_word : (p : ℕ → Bool) (bytes : List ℕ) → is_end (slice_split p bytes) ≡ false
has_word p [] = refl
has_word p (b ∷ bytes) = by_test (p b) (slice_split p bytes)
  where
    by_test : (t : Bool) (parts : List (List ℕ)) → is_end (cond t ([] ∷ parts) (onto_first b parts)) ≡ false
    by_test true parts = refl
    by_test false [] = refl
    by_test false (part ∷ parts) = refl
