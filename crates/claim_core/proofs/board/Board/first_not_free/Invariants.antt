use Rattle.std.proofs.Common.{◌≡◌, drop, map}
use Rattle.qccd_base.specs.FirstFailing.{first_failing}
use Rattle.claim_core.specs.Event.{is_free, not_free}
use Rattle.claim_core.proofs.board.Board.first_not_free.Given as goal

abbrev pub invariant-loop-i : goal.invariant-loop-i
invariant-loop-i l =
    first_failing (map (λ q. (not_free l.program l.self l.op q, is_free l.program l.self l.op q)) l.touched)
    ≡ first_failing (map (λ q. (not_free l.program l.self l.op q, is_free l.program l.self l.op q)) (drop l.i l.touched))
