use Rattle.claim_board.specs.Close.{turn_of}
use Rattle.executive.proofs.CaughtUp.{HasCaughtUp}
use Rattle.executive.proofs.finishing.finish.Given as goal

abbrev pub invariant-loop-k : goal.invariant-loop-k
invariant-loop-k l = HasCaughtUp l.fn.program (turn_of l.fn.program l.fn.closed.turns.items) l.k l.cells
