-- By computation.
use Rattle.std.proofs.Common.{refl}
use Rattle.std.specs.Fmt.{digits}
use Rattle.toml.proofs.OnLiterals.{toml_on_literals}
use Rattle.machine_text.specs.Place.{places}
use Rattle.machine_text.proofs.Computed.{refused}
use Rattle.machine_text.proofs.worked.first_of_two.Goals as goal

pub returns-clause-name_then_junctions : goal.returns-clause-name_then_junctions
unfolding toml_on_literals places digits
returns-clause-name_then_junctions c = refused _ _ refl refl refl

pub returns-clause-junctions_then_trap : goal.returns-clause-junctions_then_trap
unfolding toml_on_literals places digits
returns-clause-junctions_then_trap c = refused _ _ refl refl refl

pub returns-clause-trap_then_segment : goal.returns-clause-trap_then_segment
unfolding toml_on_literals places digits
returns-clause-trap_then_segment c = refused _ _ refl refl refl

pub returns-clause-capacity_then_segment : goal.returns-clause-capacity_then_segment
unfolding toml_on_literals places digits
returns-clause-capacity_then_segment c = refused _ _ refl refl refl

pub returns-clause-segment_then_time : goal.returns-clause-segment_then_time
unfolding toml_on_literals places digits
returns-clause-segment_then_time c = refused _ _ refl refl refl

pub returns-clause-b_then_time : goal.returns-clause-b_then_time
unfolding toml_on_literals places digits
returns-clause-b_then_time c = refused _ _ refl refl refl

pub returns-clause-name_then_time : goal.returns-clause-name_then_time
unfolding toml_on_literals places digits
returns-clause-name_then_time c = refused _ _ refl refl refl

pub returns-clause-time_then_parts : goal.returns-clause-time_then_parts
unfolding toml_on_literals places digits
returns-clause-time_then_parts c = refused _ _ refl refl refl
