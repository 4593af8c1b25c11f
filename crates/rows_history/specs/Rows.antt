-- The boards that the rows speak of.
use Rattle.std.specs.Prelude.{◌≡◌, length}
use Rattle.qccd_program.specs.Program.{ProgramData}
use Rattle.claim_core.specs.Board.{BoardData}
use Rattle.claim_core.specs.History.{IsBoardOf}

-- a board of the program, with two workers
pub record IsOfTwo (p : ProgramData) (b : BoardData) : Type 0 where
  pub board : IsBoardOf p b
  pub workers : length b.hands ≡ 2
