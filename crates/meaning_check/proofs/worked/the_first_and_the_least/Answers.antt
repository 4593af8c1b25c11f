use Rattle.meaning_check.proofs.Examples.{first_and_least}
use Rattle.meaning_check.proofs.worked.the_first_and_the_least.Goals as goal

pub returns : goal.returns
returns c = first_and_least
