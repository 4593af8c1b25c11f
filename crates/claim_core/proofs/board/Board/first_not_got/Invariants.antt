use Rattle.std.proofs.Common.{◌≡◌, drop, map}
use Rattle.qccd_base.specs.FirstFailing.{first_failing}
use Rattle.claim_core.specs.declared.event.ActFault.TheVariants.{NotGot}
use Rattle.claim_core.specs.Board.{got_at}
use Rattle.claim_core.proofs.board.Board.first_not_got.Given as goal

abbrev pub invariant-loop-r : goal.invariant-loop-r
invariant-loop-r l =
    first_failing (map (λ q. (NotGot q, got_at l.program l.self l.worker q)) l.touched)
    ≡ first_failing (map (λ q. (NotGot q, got_at l.program l.self l.worker q)) (drop l.r-index l.touched))
