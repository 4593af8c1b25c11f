use Rattle.claim_board.proofs.Applying.{applied-next, may-apply}
use Rattle.claim_board.proofs.laws.got_cells_apply.Goals as goal

pub returns-clause-may : goal.returns-clause-may
returns-clause-may c p k op held valid legal is are = may-apply p k op held valid legal is are

pub returns-clause-next : goal.returns-clause-next
returns-clause-next c p k op old new valid legal is are did = applied-next p k op old new valid legal is are did
