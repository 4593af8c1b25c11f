-- By computation.
use Rattle.std.proofs.Common.{refl}
use Rattle.toml.proofs.OnLiterals.{toml_on_literals}
use Rattle.machine_text.proofs.Computed.{not_toml}
use Rattle.machine_text.proofs.worked.no_toml.Goals as goal

pub returns-clause-cut_off : goal.returns-clause-cut_off
unfolding toml_on_literals
returns-clause-cut_off c = not_toml _ refl

pub returns-clause-twice : goal.returns-clause-twice
unfolding toml_on_literals
returns-clause-twice c = not_toml _ refl

pub returns-clause-past_64_bits : goal.returns-clause-past_64_bits
unfolding toml_on_literals
returns-clause-past_64_bits c = not_toml _ refl
