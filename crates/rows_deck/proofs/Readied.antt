-- Passes as they are dealt, between two claims, and when the deck is closed.
use Rattle.std.proofs.Common.{◌≡◌, ℕ, zero, suc, ◌+◌, ◌<◌, List, [], ◌∷◌, length, get_or, refl, sym, ◌∙◌, ap, subst, arith, Some, Ok, Err, IfOk, Result, Vec, Global}
use Rattle.std.proofs.lemmas.Option.{slice_get-get_or}
use Rattle.qccd_base.specs.declared.names.NoMemory.{NoMemory}
use Rattle.claim_board.specs.declared.deck.Deck.{Deck}
use Rattle.claim_board.specs.declared.pass.Pass.{Pass}
use Rattle.claim_board.specs.Deck.{AreAll, AreDealt, IsDealt, Together, program_of, workers_of}
use Rattle.qccd_program.specs.Program.{ProgramData}
use Rattle.rows_deck.specs.Ready.{AreReady}

dealt_at : (deck : Deck) (p : ProgramData) (n : ℕ) (qs : List Pass) (k : ℕ) (d : Pass) → AreDealt deck p n qs → k < length qs → IsDealt deck p (n + k) (get_or qs k d)
dealt_at deck p n [] k d h less = absurd (omega arith)
dealt_at deck p n (q ∷ qs) zero d h less = subst (λ (m : ℕ). IsDealt deck p m q) (omega arith) h.0
dealt_at deck p n (q ∷ qs) (suc k) d h less = subst (λ (m : ℕ). IsDealt deck p m (get_or qs k d)) (omega arith) (dealt_at deck p (n + 1) qs k d h.1 (omega (arith, less)))

ready-dealt : (deck : Deck) (p : ProgramData) (qs : List Pass) → program_of deck ≡ p → length qs ≡ workers_of deck → AreDealt deck p 0 qs → AreReady deck p qs
ready-dealt deck p qs same long h = record {
  program = same;
  long = long;
  at = λ k d less. let one = dealt_at deck p 0 qs k d h less in ((one.together, one.empty), one.numbered ∙ from_zero k);
}
  where
    from_zero : (k : ℕ) → 0 + k ≡ k
    from_zero k = omega arith

pub ready-answer : (p : ProgramData) (w : ℕ) (answer : Result (Deck × Vec Pass Global) NoMemory) → IfOk answer (λ r. (program_of r.0 ≡ p) × (workers_of r.0 ≡ w)) → IfOk answer (λ r. (length r.1.items ≡ w) × AreDealt r.0 p 0 r.1.items) → IfOk answer (λ r. AreReady r.0 p r.1.items)
ready-answer p w (Ok r) deck passes = ready-dealt r.0 p r.1.items deck.0 (passes.0 ∙ sym deck.1) passes.1
ready-answer p w (Err e) deck passes = tt

first_of : (qs : List Pass) (n : ℕ) → n < length qs → Pass
first_of [] n less = absurd (omega arith)
first_of (q ∷ qs) n less = q

pub all-ready : (deck : Deck) (p : ProgramData) (qs : List Pass) → AreReady deck p qs → AreAll deck qs
all-ready deck p qs h = record {
  each = λ k d less.
      let one = h.at k d less in
      (subst (λ (q : ProgramData). Together deck q (get_or qs k d)) (sym h.program) one.0.0, one.0.1);
  all = λ n less.
      let below : n < length qs = omega (arith, less, h.long) in
      let d : Pass = first_of qs n below in
      (n, get_or qs n d, slice_get-get_or qs n d below, (h.at n d below).1);
}
