-- Workers of a deck, before and after they sweep.
use Rattle.std.specs.Prelude.{◌≡◌, ℕ, ◌<◌, List, length, slice_index_or}
use Rattle.qccd_program.specs.Program.{ProgramData}
use Rattle.claim_board.specs.declared.deck.Deck.{Deck}
use Rattle.claim_board.specs.declared.pass.Pass.{Pass}
use Rattle.claim_board.specs.Deck.{IsEmpty, Together, program_of, view_of, workers_of}
use Rattle.workers.specs.declared.worker.Worker.{Worker}
use Rattle.workers.specs.Sweep.{HasSwept, most_claims}
use Rattle.workers.specs.Worker.{kind_of, pass_of}

-- the pass belongs to the deck, has this number, and has nothing in hand
pub record IsReady (deck : Deck) (p : ProgramData) (number : ℕ) (pass : Pass) : Type 0 where
  pub together : Together deck p pass
  pub empty : IsEmpty pass
  pub numbered : (view_of pass).number ≡ number

-- these workers have all passes of the deck, in the order of their numbers
pub record IsTeam (deck : Deck) (p : ProgramData) (team : List Worker) : Type 0 where
  pub program : program_of deck ≡ p
  pub long : length team ≡ workers_of deck
  pub each : (k : ℕ) (d : Worker) → k < length team → IsReady deck p k (pass_of (slice_index_or team k d))

-- a worker before and after a sweep
pub record SweepsOnce (p : ProgramData) (old new : Worker) : Type 0 where
  pub done : ℕ
  pub claims : ℕ
  pub swept : HasSwept p (kind_of old) (most_claims p) (view_of (pass_of old)) (view_of (pass_of new)) done claims
  pub kind : kind_of new ≡ kind_of old
