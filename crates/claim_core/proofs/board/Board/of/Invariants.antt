use Rattle.std.proofs.Common.{◌≡◌, replicate, None, false}
use Rattle.claim_core.proofs.board.Board.of.Given as goal

abbrev pub invariant-loop : goal.invariant-loop
invariant-loop l = l.hands.items ≡ replicate l.counter (record { op = None; got = replicate l.count false; gave = replicate l.count false })
