use Rattle.std.proofs.Common.{◌≡◌, drop}
use Rattle.std.specs.List.{list_all}
use Rattle.claim_core.specs.Coded.{has_come}
use Rattle.claim_core.proofs.board.Board.are_ready.Given as goal

abbrev pub invariant-loop-i : goal.invariant-loop-i
invariant-loop-i l = list_all (has_come l.program l.self l.op) l.touched ≡ list_all (has_come l.program l.self l.op) (drop l.i l.touched)
