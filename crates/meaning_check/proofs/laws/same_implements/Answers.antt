use Rattle.meaning_check.proofs.Implementing.{implements_from, same_from}
use Rattle.meaning_check.proofs.laws.same_implements.Goals as goal

pub returns : goal.returns
returns c = λ circuit p m legal on. (λ same. implements_from circuit p m legal on same.0 same.1, λ does. same_from circuit p m does)
