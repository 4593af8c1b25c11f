-- Two workers between two sweeps.
use Rattle.std.specs.Prelude.{◌≡◌, ℕ}
use Rattle.claim_board.specs.declared.deck.Deck.{Deck}
use Rattle.claim_board.specs.Deck.{IsEmpty, Together, program_of, view_of, workers_of}
use Rattle.qccd_program.specs.Program.{ProgramData}
use Rattle.workers.specs.declared.worker.Worker.{Worker}
use Rattle.workers.specs.Worker.{pass_of}

-- the worker has the deck's pass of that number, with nothing in hand
pub record IsReady (deck : Deck) (p : ProgramData) (number : ℕ) (worker : Worker) : Type 0 where
  pub together : Together deck p (pass_of worker)
  pub empty : IsEmpty (pass_of worker)
  pub numbered : (view_of (pass_of worker)).number ≡ number

-- these are the deck's two workers
pub record AreReady (deck : Deck) (p : ProgramData) (first second : Worker) : Type 0 where
  pub program : program_of deck ≡ p
  pub two : workers_of deck ≡ 2
  pub first_is : IsReady deck p 0 first
  pub second_is : IsReady deck p 1 second
