-- Workers of a deck.
use Rattle.std.proofs.Common.{◌≡◌, ℕ, zero, suc, ◌+◌, ◌<◌, true, false, ◌==◌, List, [], ◌∷◌, ◌++◌, length, map, get_or, refl, sym, ◌∙◌, ap, subst, arith, Some}
use Rattle.std.specs.Prelude.{slice_get}
use Rattle.std.specs.List.{AllByRecursion}
use Rattle.std.proofs.lemmas.Bool.{eqb-true, false≢true}
use Rattle.std.proofs.lemmas.List.Elements.{All-from_recursion}
use Rattle.qccd_program.specs.Program.{ProgramData}
use Rattle.claim_board.specs.declared.deck.Deck.{Deck}
use Rattle.claim_board.specs.declared.pass.Pass.{Pass}
use Rattle.claim_board.specs.Deck.{AreAll, AreDealt, IsEmpty, Together, program_of, view_of, workers_of}
use Rattle.workers.specs.declared.worker.Worker.{Worker}
use Rattle.workers.specs.Worker.{pass_of}
use Rattle.executive.specs.Team.{IsReady, IsTeam}

dealt_at : (deck : Deck) (p : ProgramData) (n : ℕ) (qs : List Pass) (k : ℕ) (d : Pass) → AreDealt deck p n qs → k < length qs → IsReady deck p (n + k) (get_or qs k d)
dealt_at deck p n [] k d h less = absurd (omega (arith, less))
dealt_at deck p n (q ∷ qs) zero d h less = record { together = h.0.together; empty = h.0.empty; numbered = omega (arith, h.0.numbered) }
dealt_at deck p n (q ∷ qs) (suc k) d h less = let next = dealt_at deck p (n + 1) qs k d h.1 (omega (arith, less)) in record { together = next.together; empty = next.empty; numbered = omega (arith, next.numbered) }

passes_long : (ws : List Worker) → length (map pass_of ws) ≡ length ws
passes_long [] = refl
passes_long (w ∷ ws) = ap suc (passes_long ws)

pass_at : (ws : List Worker) (k : ℕ) (d : Worker) → k < length ws → get_or (map pass_of ws) k (pass_of d) ≡ pass_of (get_or ws k d)
pass_at [] k d less = absurd (omega (arith, less))
pass_at (w ∷ ws) zero d less = refl
pass_at (w ∷ ws) (suc k) d less = pass_at ws k d (omega (arith, less))

-- a worker for each pass, as they were dealt
pub team-dealt : (deck : Deck) (p : ProgramData) (team : List Worker) (qs : List Pass) → map pass_of team ≡ qs → program_of deck ≡ p → length qs ≡ workers_of deck → AreDealt deck p 0 qs → IsTeam deck p team
team-dealt deck p team qs same program long h = record {
  program = program;
  long = sym (passes_long team) ∙ ap (λ (xs : List Pass). length xs) same ∙ long;
  each = λ k d less.
      let one = dealt_at deck p 0 (map pass_of team) k (pass_of d) (subst (AreDealt deck p 0) (sym same) h) (subst (λ (n : ℕ). k < n) (sym (passes_long team)) less) in
      let numbered : (view_of (get_or (map pass_of team) k (pass_of d))).number ≡ k = omega (arith, one.numbered) in
      subst (λ (q : Pass). IsReady deck p k q) (pass_at team k d less) (record { together = one.together; empty = one.empty; numbered = numbered });
}

-- the worker at k, whose pass stands at k among all passes
worker_at : (ws : List Worker) (k : ℕ) → k < length ws → (w : Worker) × (slice_get (map pass_of ws) k ≡ Some (pass_of w)) × ((d : Worker) → get_or ws k d ≡ w)
worker_at [] k less = absurd (omega (arith, less))
worker_at (w ∷ ws) zero less = (w, refl, λ d. refl)
worker_at (w ∷ ws) (suc k) less = worker_at ws k (omega (arith, less))

each_pass : (P : Pass → Type 0) (ws : List Worker) → ((k : ℕ) (d : Worker) → k < length ws → P (pass_of (get_or ws k d))) → AllByRecursion P (map pass_of ws)
each_pass P [] h = tt
each_pass P (w ∷ ws) h = (h 0 w (omega arith), each_pass P ws (λ k d less. h (suc k) d (omega (arith, less))))

-- the passes of a team are all passes of the deck
pub team-all : (deck : Deck) (p : ProgramData) (team : List Worker) (qs : List Pass) → qs ≡ map pass_of team → IsTeam deck p team → AreAll deck qs
team-all deck p team qs same h = subst (AreAll deck) (sym same) (record {
  each = All-from_recursion (λ q. Together deck (program_of deck) q × IsEmpty q) (map pass_of team) (each_pass (λ q. Together deck (program_of deck) q × IsEmpty q) team (λ k d less.
      let one = h.each k d less in
      (subst (λ (z : ProgramData). Together deck z (pass_of (get_or team k d))) (sym h.program) one.together, one.empty)));
  all = λ n less.
      let below : n < length team = omega (arith, less, h.long) in
      let x = worker_at team n below in
      (n, pass_of x.0, x.1, subst (λ (w : Worker). (view_of (pass_of w)).number ≡ n) (x.2 x.0) (h.each n x.0 below).numbered);
})

-- the next of the passes that were dealt
pub dealt-empty : (deck : Deck) (p : ProgramData) (before rest all : List Pass) (q : Pass) → AreDealt deck p 0 all → before ++ rest ≡ all → (length rest == 0) ≡ false → q ≡ get_or rest 0 q → IsEmpty q
dealt-empty deck p before rest all q h same some is = go 0 before rest (subst (AreDealt deck p 0) (sym same) h) some is
  where
    go : (n : ℕ) (before rest : List Pass) → AreDealt deck p n (before ++ rest) → (length rest == 0) ≡ false → q ≡ get_or rest 0 q → IsEmpty q
    go n [] [] h some is = absurd (false≢true (sym some))
    go n [] (x ∷ rest) h some is = subst IsEmpty (sym is) h.0.empty
    go n (x ∷ before) rest h some is = go (n + 1) before rest h.1 some is

pub none-left : {X : Type 0} (xs : List X) → (length xs == 0) ≡ true → xs ≡ []
none-left [] none = refl
none-left (x ∷ xs) none = absurd (let zero_long = eqb-true (length (x ∷ xs)) 0 none in omega (arith, zero_long))
