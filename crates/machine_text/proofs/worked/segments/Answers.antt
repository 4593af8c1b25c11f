-- By computation.
use Rattle.std.proofs.Common.{refl}
use Rattle.std.specs.Fmt.{digits}
use Rattle.toml.proofs.OnLiterals.{toml_on_literals}
use Rattle.machine_text.specs.Place.{places}
use Rattle.machine_text.proofs.Computed.{refused}
use Rattle.machine_text.proofs.worked.segments.Goals as goal

pub returns-clause-missing_a : goal.returns-clause-missing_a
unfolding toml_on_literals places digits
returns-clause-missing_a c = refused _ _ refl refl refl

pub returns-clause-missing_b : goal.returns-clause-missing_b
unfolding toml_on_literals places digits
returns-clause-missing_b c = refused _ _ refl refl refl

pub returns-clause-zero : goal.returns-clause-zero
unfolding toml_on_literals places digits
returns-clause-zero c = refused _ _ refl refl refl

pub returns-clause-far : goal.returns-clause-far
unfolding toml_on_literals places digits
returns-clause-far c = refused _ _ refl refl refl

pub returns-clause-upper : goal.returns-clause-upper
unfolding toml_on_literals places digits
returns-clause-upper c = refused _ _ refl refl refl

pub returns-clause-bare : goal.returns-clause-bare
unfolding toml_on_literals places digits
returns-clause-bare c = refused _ _ refl refl refl

pub returns-clause-table : goal.returns-clause-table
unfolding toml_on_literals places digits
returns-clause-table c = refused _ _ refl refl refl
