use Rattle.std.proofs.lemmas.Bool.{ne_eqb}
use Rattle.router.proofs.LeastPath.{hop_path_found}
use Rattle.router.proofs.laws.neighbours_by_any_path.Goals as goal

pub returns : goal.returns
returns c = λ w a b path wiring apart. hop_path_found w a b path wiring (ne_eqb a b apart)
