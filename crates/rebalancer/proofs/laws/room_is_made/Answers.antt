use Rattle.rebalancer.proofs.Results.{room_done}
use Rattle.rebalancer.proofs.laws.room_is_made.Goals as goal

pub returns-clause-makes : goal.returns-clause-makes
returns-clause-makes c = λ m s t free keep mode valid safe nothing there room first second apart. (room_done m s t free keep mode valid safe nothing there room first second apart).0

pub returns-clause-short : goal.returns-clause-short
returns-clause-short c = λ m s t free keep mode valid safe nothing there room first second apart. (room_done m s t free keep mode valid safe nothing there room first second apart).1
