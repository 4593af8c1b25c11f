-- On a sound board the test is enabled.
use Rattle.std.proofs.Common.{◌≡◌, ℕ, ◌<◌, ◌≤◌, ◌⊎◌, inl, inr, true, refl, sym, ◌∙◌, ap, arith, Option, Some, None}
use Rattle.std.proofs.lemmas.Bool.{le-leb, leb-true, false≢true, ltb-true, lt-ltb}
use Rattle.std.proofs.lemmas.Option.{same_Some}
use Rattle.qccd_base.specs.declared.names.Res.{Res}
use Rattle.qccd_base.specs.Resource.{among}
use Rattle.op_table.specs.Touch.{nth}
use Rattle.qccd_program.specs.Program.{ProgramData}
use Rattle.claim_core.specs.Board.{BoardData, turn_at, holder_at}
use Rattle.claim_core.specs.Event.{touched}
use Rattle.claim_core.specs.Sound.{Sound, HandFits, read, Finished}
use Rattle.claim_core.specs.Enabled.{IsEnabled, IsReady}
use Rattle.claim_core.specs.Coded.{has_come, has_passed, is_enabled, is_finished}
use Rattle.claim_core.proofs.Kept.{cases_ℕ}
use Rattle.claim_core.proofs.Turns.{nth_same}
use Rattle.claim_core.proofs.Written.{all_or_one}

-- a resource is ready exactly where it has come to the operation's turn or past it
pub ready-true : (p : ProgramData) (b : BoardData) (k : ℕ) (r : Res) → Sound p.ops (read p b) → IsReady p b k r → has_come p b k r ≡ true
ready-true p b k r s ready = elim ready [
  | inl free ↦ le-leb (nth p.ops k r) (turn_at p b r) (omega (arith, free.1))
  | inr (inl mine) ↦
      let held = s.held r mine.0 mine.2 in
      let turn : turn_at p b r ≡ nth p.ops k r = held.turn ∙ ap (λ (j : ℕ). nth p.ops j r) (same_Some held.op k (sym held.hand ∙ mine.1)) in
      le-leb (nth p.ops k r) (turn_at p b r) (omega (arith, turn))
  | inr (inr given) ↦ le-leb (nth p.ops k r) (turn_at p b r) (omega (arith, given))
]

pub at_or_past : (n m : ℕ) → n ≤ m → (m ≡ n) ⊎ (n < m)
at_or_past n m h = elim (cases_ℕ m n) [
  | inl e ↦ inl e
  | inr other ↦ inr (omega arith)
]

pub ready-from : (p : ProgramData) (b : BoardData) (k : ℕ) (r : Res) → Sound p.ops (read p b) → among (touched p.ops k) r ≡ true → has_come p b k r ≡ true → IsReady p b k r
ready-from p b k r s at h = elim (at_or_past (nth p.ops k r) (turn_at p b r) (leb-true (nth p.ops k r) (turn_at p b r) h)) [
  | inr past ↦ inr (inr past)
  | inl own ↦ go (holder_at p b r) refl own
]
  where
    go : (o : Option ℕ) → holder_at p b r ≡ o → turn_at p b r ≡ nth p.ops k r → IsReady p b k r
    go None free own = inl (free, own)
    go (Some w) by own =
        let held = s.held r w by in
        let fits : HandFits p.ops (read p b) w held.op = s.hands w held.op held.hand in
        let is : held.op ≡ k = nth_same p.ops held.op k r (fits.got r held.got) at (sym held.turn ∙ own) in
        inr (inl (w, held.hand ∙ ap Some is, by))

pub enabled-true : (p : ProgramData) (b : BoardData) (k : ℕ) → Sound p.ops (read p b) → IsEnabled p b k → is_enabled p b k ≡ true
enabled-true p b k s e = elim (all_or_one (has_come p b k) (touched p.ops k)) [
  | inl all ↦ all.0
  | inr one ↦ absurd (false≢true (sym one.1.2 ∙ ready-true p b k one.1.0 s (e one.1.0 one.1.1)))
]

pub enabled-from : (p : ProgramData) (b : BoardData) (k : ℕ) → Sound p.ops (read p b) → is_enabled p b k ≡ true → IsEnabled p b k
enabled-from p b k s h r at = elim (all_or_one (has_come p b k) (touched p.ops k)) [
  | inl all ↦ ready-from p b k r s at (all.1 r at)
  | inr one ↦ absurd (false≢true (sym one.0 ∙ h))
]

pub finished-from : (p : ProgramData) (b : BoardData) (k : ℕ) → is_finished p b k ≡ true → Finished p.ops (read p b) k
finished-from p b k h r at = elim (all_or_one (has_passed p b k) (touched p.ops k)) [
  | inl all ↦ ltb-true (nth p.ops k r) (turn_at p b r) (all.1 r at)
  | inr one ↦ absurd (false≢true (sym one.0 ∙ h))
]

pub finished-true : (p : ProgramData) (b : BoardData) (k : ℕ) → Finished p.ops (read p b) k → is_finished p b k ≡ true
finished-true p b k h = elim (all_or_one (has_passed p b k) (touched p.ops k)) [
  | inl all ↦ all.0
  | inr one ↦ absurd (false≢true (sym one.1.2 ∙ lt-ltb (nth p.ops k one.1.0) (turn_at p b one.1.0) (h one.1.0 one.1.1)))
]
