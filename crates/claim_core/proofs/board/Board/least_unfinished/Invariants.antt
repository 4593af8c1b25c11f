use Rattle.std.proofs.Common.{◌≡◌, ◌<◌, ℕ, true}
use Rattle.claim_core.specs.Coded.{is_finished}
use Rattle.claim_core.proofs.board.Board.least_unfinished.Given as goal

abbrev pub invariant-loop-k : goal.invariant-loop-k
invariant-loop-k l = (j : ℕ) → j < l.k → is_finished l.program l.self j ≡ true
