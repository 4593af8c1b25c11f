-- A pass, after a write through `cells`.
use Rattle.std.specs.Prelude.{List}
use Rattle.std.specs.Borrow.{Lends, MutBor, Fml, Array}
use Rattle.std.specs.Vec.{with_items}
use Rattle.op_cells.specs.contracts.cells.Held.{the_row as held_row}
use Rattle.op_cells.specs.declared.cells.Held.{Held}
use Rattle.claim_board.specs.contracts.pass.Pass.{the_row}
use Rattle.claim_board.specs.declared.pass.Pass.{Pass}

-- the pass with these cells in hand
abbrev pub with_cells : Pass → List Held → Pass
with_cells s held = record s { cells = with_items s.cells held }

abbrev pub LendsCells : MutBor Pass → MutBor (List Held) → Fml
LendsCells s r = Lends the_row (Array held_row 0) s r (with_cells s.now)
