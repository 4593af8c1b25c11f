-- Both workers' passes, when the deck is closed.
use Rattle.std.proofs.Common.{◌≡◌, ℕ, zero, suc, ◌<◌, List, [], ◌∷◌, refl, sym, ◌∙◌, ap, subst, arith, Some}
use Rattle.std.specs.Prelude.{slice_get}
use Rattle.std.proofs.lemmas.List.Elements.{All-from_recursion}
use Rattle.claim_board.specs.declared.deck.Deck.{Deck}
use Rattle.claim_board.specs.declared.pass.Pass.{Pass}
use Rattle.claim_board.specs.Deck.{AreAll, IsEmpty, Together, program_of, view_of}
use Rattle.qccd_program.specs.Program.{ProgramData}
use Rattle.workers.specs.declared.worker.Worker.{Worker}
use Rattle.workers.specs.Worker.{pass_of}
use Rattle.rows_workers.specs.Pair.{AreReady, IsReady}

own : (deck : Deck) (p : ProgramData) (n : ℕ) (w : Worker) → program_of deck ≡ p → IsReady deck p n w → Together deck (program_of deck) (pass_of w) × IsEmpty (pass_of w)
own deck p n w same ready = (subst (λ (q : ProgramData). Together deck q (pass_of w)) (sym same) ready.together, ready.empty)

numbered : (deck : Deck) (p : ProgramData) (a b : Worker) → AreReady deck p a b → (n : ℕ) → n < 2 → (i : ℕ) × (q : Pass) × (slice_get (pass_of a ∷ pass_of b ∷ []) i ≡ Some q) × ((view_of q).number ≡ n)
numbered deck p a b ready zero less = (0, pass_of a, refl, ready.first_is.numbered)
numbered deck p a b ready (suc zero) less = (1, pass_of b, refl, ready.second_is.numbered)
numbered deck p a b ready (suc (suc n)) less = absurd (omega (arith, less))

both : (deck : Deck) (p : ProgramData) (a b : Worker) → AreReady deck p a b → AreAll deck (pass_of a ∷ pass_of b ∷ [])
both deck p a b ready = record {
  each =
      All-from_recursion (λ (q : Pass). Together deck (program_of deck) q × IsEmpty q) (pass_of a ∷ pass_of b ∷ [])
      (own deck p 0 a ready.program ready.first_is, (own deck p 1 b ready.program ready.second_is, tt));
  all = λ n less. numbered deck p a b ready n (subst (λ (m : ℕ). n < m) ready.two less);
}

pub all-both : (deck : Deck) (p : ProgramData) (a b : Worker) (x y : Pass) (passes : List Pass) → AreReady deck p a b → x ≡ pass_of a → y ≡ pass_of b → passes ≡ x ∷ y ∷ [] → AreAll deck passes
all-both deck p a b x y passes ready is_x is_y is =
    subst (AreAll deck) (sym (is ∙ ap (λ (q : Pass). q ∷ y ∷ []) is_x ∙ ap (λ (q : Pass). pass_of a ∷ q ∷ []) is_y)) (both deck p a b ready)
