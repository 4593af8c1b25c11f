-- By computation.
use Rattle.std.proofs.Common.{refl}
use Rattle.std.specs.Fmt.{digits}
use Rattle.toml.proofs.OnLiterals.{toml_on_literals}
use Rattle.machine_text.specs.Place.{places}
use Rattle.machine_text.proofs.Computed.{refused}
use Rattle.machine_text.proofs.worked.traps.Goals as goal

pub returns-clause-capacity : goal.returns-clause-capacity
unfolding toml_on_literals places digits
returns-clause-capacity c = refused _ _ refl refl refl

pub returns-clause-text : goal.returns-clause-text
unfolding toml_on_literals places digits
returns-clause-text c = refused _ _ refl refl refl

pub returns-clause-negative : goal.returns-clause-negative
unfolding toml_on_literals places digits
returns-clause-negative c = refused _ _ refl refl refl

pub returns-clause-name : goal.returns-clause-name
unfolding toml_on_literals places digits
returns-clause-name c = refused _ _ refl refl refl

pub returns-clause-name_first : goal.returns-clause-name_first
unfolding toml_on_literals places digits
returns-clause-name_first c = refused _ _ refl refl refl

pub returns-clause-one_by_one : goal.returns-clause-one_by_one
unfolding toml_on_literals places digits
returns-clause-one_by_one c = refused _ _ refl refl refl
