-- By computation.
use Rattle.std.proofs.Common.{refl}
use Rattle.std.specs.Fmt.{digits}
use Rattle.toml.proofs.OnLiterals.{toml_on_literals}
use Rattle.machine_text.specs.Place.{places}
use Rattle.machine_text.proofs.Computed.{refused}
use Rattle.machine_text.proofs.worked.times.Goals as goal

pub returns-clause-array : goal.returns-clause-array
unfolding toml_on_literals places digits
returns-clause-array c = refused _ _ refl refl refl

pub returns-clause-field_of_the_code : goal.returns-clause-field_of_the_code
unfolding toml_on_literals places digits
returns-clause-field_of_the_code c = refused _ _ refl refl refl

pub returns-clause-move_ : goal.returns-clause-move_
unfolding toml_on_literals places digits
returns-clause-move_ c = refused _ _ refl refl refl

pub returns-clause-large : goal.returns-clause-large
unfolding toml_on_literals places digits
returns-clause-large c = refused _ _ refl refl refl

pub returns-clause-in_order : goal.returns-clause-in_order
unfolding toml_on_literals places digits
returns-clause-in_order c = refused _ _ refl refl refl
