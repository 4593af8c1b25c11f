use Rattle.ion_mapping.proofs.Filling.{placed_long, placed_fits, placed_once}
use Rattle.ion_mapping.proofs.laws.placed_is_a_start.Goals as goal

pub returns-clause-chains : goal.returns-clause-chains
returns-clause-chains c = placed_long

pub returns-clause-capacities : goal.returns-clause-capacities
returns-clause-capacities c = placed_fits

pub returns-clause-once : goal.returns-clause-once
returns-clause-once c = placed_once
