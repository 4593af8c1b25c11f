use Rattle.rows_history.specs.Rows.{IsOfTwo}
use Rattle.rows_history.proofs.show_lines.Given as goal

abbrev pub invariant-loop-line : goal.invariant-loop-line
invariant-loop-line g l =
    (goal.iterator-loop-line g).can_next l.line-iterator ×
    (goal.iterator-loop-line g).is_finite l.line-iterator ×
    IsOfTwo l.program l.board
