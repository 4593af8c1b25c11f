-- What a word says.
use Rattle.std.proofs.Common.{◌≡◌, ℕ, ◌+◌, ◌*◌, ◌/◌, ◌%◌, ◌<◌, ◌⊎◌, inl, inr, refl, ◌∙◌, ap, arith, Option, Some, None, nat_lt, is_some}
use Rattle.std.proofs.lemmas.Bool.{lt-ltb}
use Rattle.claim_core.specs.declared.board.Slot.{Slot}
use Rattle.claim_board.specs.View.{mark_of, word_of, turn_in, held_in}

pub cases_Option : (o : Option ℕ) → (o ≡ None) ⊎ ((w : ℕ) × (o ≡ Some w))
cases_Option None = inl refl
cases_Option (Some w) = inr (w, refl)

quotient : (t m : ℕ) → m < 32 → (32 * t + m) / 32 ≡ t
quotient t m h = omega arith

remainder : (t m : ℕ) → m < 32 → (32 * t + m) % 32 ≡ m
remainder t m h = omega arith

pub turn-word : (s : Slot) → mark_of s.holder < 32 → turn_in (word_of s) ≡ s.turn
turn-word s small = quotient s.turn (mark_of s.holder) small

pub held-word : (s : Slot) → mark_of s.holder < 32 → held_in (word_of s) ≡ is_some s.holder
held-word s small = ap (λ (n : ℕ). nat_lt 0 n) (remainder s.turn (mark_of s.holder) small) ∙ held s.holder
  where
    held : (o : Option ℕ) → nat_lt 0 (mark_of o) ≡ is_some o
    held None = refl
    held (Some w) = lt-ltb 0 (w + 1) (omega arith)

no_mark : (o : Option ℕ) → mark_of o ≡ 0 → o ≡ None
no_mark None h = refl
no_mark (Some w) h = absurd (omega arith)

parts : (t n m : ℕ) → m < 32 → 32 * t + m ≡ 32 * n → (t ≡ n) × (m ≡ 0)
parts t n m small h = (omega arith, omega arith)

-- the word is that of a free resource at this turn
pub free-word : (s : Slot) (n : ℕ) → mark_of s.holder < 32 → word_of s ≡ 32 * n → (s.holder ≡ None) × (s.turn ≡ n)
free-word s n small h = let both = parts s.turn n (mark_of s.holder) small h in (no_mark s.holder both.1, both.0)

pub word-free : (s : Slot) → s.holder ≡ None → word_of s ≡ 32 * s.turn
word-free s h = omega (arith, ap mark_of h)
