use Rattle.rows_history.specs.Rows.{IsOfTwo}
use Rattle.rows_history.proofs.histories.board_after.Given as goal

abbrev pub invariant-loop-event : goal.invariant-loop-event
invariant-loop-event l = IsOfTwo l.program l.board
