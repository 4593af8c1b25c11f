use Rattle.meaning_check.proofs.Verdicts.{one_at_least, one_at_most}
use Rattle.meaning_check.proofs.laws.one_verdict.Goals as goal

pub returns-clause-there : goal.returns-clause-there
returns-clause-there c = one_at_least

pub returns-clause-unique : goal.returns-clause-unique
returns-clause-unique c = one_at_most
