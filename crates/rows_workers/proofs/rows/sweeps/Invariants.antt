use Rattle.rows_workers.specs.Pair.{AreReady}
use Rattle.rows_workers.proofs.rows.sweeps.Given as goal

abbrev pub invariant-loop-word : goal.invariant-loop-word
invariant-loop-word l =
    goal.iterator-loop-word.can_next l.word-iterator ×
    goal.iterator-loop-word.is_finite l.word-iterator ×
    AreReady l.deck l.program l.first l.second
