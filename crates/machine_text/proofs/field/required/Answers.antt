use Rattle.machine_text.specs.declared.fault.TextFault.TheVariants.{MissingField}
use Rattle.machine_text.proofs.Fields.{required-ok, required-missing}
use Rattle.machine_text.proofs.field.required.Goals as goal

pub returns-clause-ok : goal.returns-clause-ok
returns-clause-ok c = rw c.ok_or.ensures.value (required-ok c.field.result (MissingField c.args.spot) _ c.field.ensures)

pub returns-clause-missing : goal.returns-clause-missing
returns-clause-missing c = rw c.ok_or.ensures.value (required-missing c.field.result (MissingField c.args.spot) _ c.field.ensures)
