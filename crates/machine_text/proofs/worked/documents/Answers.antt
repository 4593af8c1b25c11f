-- By computation.
use Rattle.std.proofs.Common.{refl}
use Rattle.std.specs.Fmt.{digits}
use Rattle.toml.proofs.OnLiterals.{toml_on_literals}
use Rattle.machine_text.specs.Place.{places}
use Rattle.machine_text.proofs.Computed.{refused}
use Rattle.machine_text.proofs.worked.documents.Goals as goal

pub returns-clause-trap : goal.returns-clause-trap
unfolding toml_on_literals places digits
returns-clause-trap c = refused _ _ refl refl refl

pub returns-clause-name : goal.returns-clause-name
unfolding toml_on_literals places digits
returns-clause-name c = refused _ _ refl refl refl

pub returns-clause-negative : goal.returns-clause-negative
unfolding toml_on_literals places digits
returns-clause-negative c = refused _ _ refl refl refl

pub returns-clause-real : goal.returns-clause-real
unfolding toml_on_literals places digits
returns-clause-real c = refused _ _ refl refl refl

pub returns-clause-trap_table : goal.returns-clause-trap_table
unfolding toml_on_literals places digits
returns-clause-trap_table c = refused _ _ refl refl refl

pub returns-clause-no_table : goal.returns-clause-no_table
unfolding toml_on_literals places digits
returns-clause-no_table c = refused _ _ refl refl refl
