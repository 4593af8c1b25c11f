use Rattle.ion_mapping.proofs.Firsts.{use_once}
use Rattle.ion_mapping.proofs.laws.each_qubit_once.Goals as goal

pub returns : goal.returns
returns c = use_once
