use Rattle.std.proofs.Common.{sym, subst}
use Rattle.claim_core.specs.Board.{BoardData}
use Rattle.claim_core.specs.Sound.{IsSound}
use Rattle.claim_core.proofs.Ends.{board-sound}
use Rattle.claim_core.proofs.Events.{opening-sound, event-sound}
use Rattle.claim_core.proofs.Legally.{claims-legal}
use Rattle.claim_core.proofs.laws.boards_are_sound.Goals as goal

pub returns-clause-opening : goal.returns-clause-opening
returns-clause-opening c p workers = opening-sound p workers

pub returns-clause-kept : goal.returns-clause-kept
returns-clause-kept c p b d e legal sound allowed =
    subst (λ (x : BoardData). IsSound p x) (sym allowed.leaves) (event-sound p b e (claims-legal p legal) sound allowed.there allowed.granted)

pub returns-clause-history : goal.returns-clause-history
returns-clause-history c p b legal is = board-sound p b legal is
