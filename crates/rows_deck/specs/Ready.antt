-- Passes between two claims.
use Rattle.std.specs.Prelude.{◌≡◌, ℕ, ◌<◌, List, length, slice_index_or}
use Rattle.claim_board.specs.declared.deck.Deck.{Deck}
use Rattle.claim_board.specs.declared.pass.Pass.{Pass}
use Rattle.claim_board.specs.Deck.{IsEmpty, Together, program_of, view_of, workers_of}
use Rattle.qccd_program.specs.Program.{ProgramData}

-- the pass belongs to the deck and has nothing in hand
abbrev pub IsReady : Deck → ProgramData → Pass → Type 0
IsReady deck p pass = Together deck p pass × IsEmpty pass

-- all passes of the deck, in the order of their numbers
pub record AreReady (deck : Deck) (p : ProgramData) (passes : List Pass) : Type 0 where
  pub program : program_of deck ≡ p
  pub long : length passes ≡ workers_of deck
  pub at : (k : ℕ) (d : Pass) → k < length passes → IsReady deck p (slice_index_or passes k d) × ((view_of (slice_index_or passes k d)).number ≡ k)
