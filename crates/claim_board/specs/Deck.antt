-- What contracts see of a deck and of its passes.
use Rattle.std.specs.Prelude.{◌≡◌, ◌⊎◌, ℕ, ◌+◌, ◌<◌, ◌≤◌, true, List, [], ◌∷◌, length, sum_by, All, Some, None, slice_get}
use Rattle.qccd_base.specs.declared.names.Res.{Res}
use Rattle.op_cells.specs.declared.cells.Held.{Held}
use Rattle.qccd_program.specs.Program.{ProgramData}
use Rattle.claim_core.specs.Board.{is_there, width}
use Rattle.claim_core.specs.Event.{touched}
use Rattle.claim_board.specs.declared.deck.Deck.{Deck}
use Rattle.claim_board.specs.declared.pass.Pass.{Pass}
use Rattle.claim_board.specs.declared.view.View.{View}
use Rattle.claim_board.specs.Pass.{AreCells, next_turn}
use Rattle.claim_board.specs.Rule.{stands}
use Rattle.claim_board.specs.View.{seen_of}

-- what a pass knows, and the cells in its hand
abbrev pub view_of : Pass → View
view_of pass = pass.place.me.0

abbrev pub cells_of : Pass → List Held
cells_of pass = pass.cells.items

-- the program of a deck, and for how many workers it was dealt
abbrev pub program_of : Deck → ProgramData
program_of deck = deck.words.shared.key.program.value

abbrev pub workers_of : Deck → ℕ
workers_of deck = deck.words.shared.key.workers

-- the deck, the program and the pass belong together
pub record Together (deck : Deck) (p : ProgramData) (pass : Pass) : Type 0 where
  pub place : pass.place.table_id ≡ deck.words.shared.table_id
  pub program : (view_of pass).program ≡ p

-- the pass has nothing in hand
abbrev pub IsEmpty : Pass → Type 0
IsEmpty pass = (view_of pass).op ≡ None

-- the pass has an operation in hand, with the cells of its resources just after it
pub record HoldsNext (p : ProgramData) (pass : Pass) : Type 0 where
  pub op : ℕ
  pub hand : (view_of pass).op ≡ Some op
  pub cells : AreCells p (next_turn p op) (touched p.ops op) (cells_of pass)

-- the pass with that number as it was dealt
pub record IsDealt (deck : Deck) (p : ProgramData) (number : ℕ) (pass : Pass) : Type 0 where
  pub together : Together deck p pass
  pub numbered : (view_of pass).number ≡ number
  pub empty : IsEmpty pass
  pub begun : (view_of pass).begun ≡ 0
  pub looks : (view_of pass).looks ≡ 0
  pub ended : (view_of pass).ended ≡ []
  pub seen : (r : Res) → is_there p r ≡ true → seen_of (view_of pass) r ≡ 0

-- these are all passes of the deck, each with nothing in hand
pub record AreAll (deck : Deck) (passes : List Pass) : Type 0 where
  pub each : All (λ q. Together deck (program_of deck) q × IsEmpty q) passes
  pub all : (n : ℕ) → n < workers_of deck → (i : ℕ) × (q : Pass) × (slice_get passes i ≡ Some q) × ((view_of q).number ≡ n)

-- these are the passes numbered from n on, as they were dealt
abbrev pub AreDealt : Deck → ProgramData → ℕ → List Pass → Type 0
AreDealt deck p n [] = Unit {0}
AreDealt deck p n (q ∷ qs) = IsDealt deck p n q × AreDealt deck p (n + 1) qs

-- the view of a pass that has taken in all these, itself among them
pub record HasJoined (p : ProgramData) (v : View) (passes : List Pass) : Type 0 where
  pub live : v.live ≡ true
  pub empty : v.op ≡ None
  pub program : v.program ≡ p
  pub begun : v.begun ≡ sum_by (λ q. (view_of q).begun) passes
  pub ended : (i : ℕ) (q : Pass) → slice_get passes i ≡ Some q → (v.number ≡ (view_of q).number) ⊎ (stands (view_of q).number v.ended ≡ true)
  pub seen : (i : ℕ) (q : Pass) (r : Res) → slice_get passes i ≡ Some q → is_there p r ≡ true → seen_of (view_of q) r ≤ seen_of v r
  pub long : length v.seen ≡ width p
