use Rattle.meaning_check.proofs.Examples.{other_number, other_item}
use Rattle.meaning_check.proofs.worked.differing_before_missing.Goals as goal

pub returns-clause-number : goal.returns-clause-number
returns-clause-number c = other_number

pub returns-clause-item : goal.returns-clause-item
returns-clause-item c = other_item
