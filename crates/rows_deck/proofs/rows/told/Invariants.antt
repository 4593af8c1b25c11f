use Rattle.rows_deck.specs.Ready.{IsReady}
use Rattle.rows_deck.proofs.rows.told.Given as goal

abbrev pub invariant-loop-word : goal.invariant-loop-word
invariant-loop-word l =
    goal.iterator-loop-word.can_next l.word-iterator ×
    goal.iterator-loop-word.is_finite l.word-iterator ×
    IsReady l.deck l.program l.pass
