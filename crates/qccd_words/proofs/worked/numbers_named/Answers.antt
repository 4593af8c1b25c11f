-- By computation.
use Rattle.std.proofs.Common.{refl}
use Rattle.std.specs.Fmt.{digits}
use Rattle.qccd_words.proofs.worked.numbers_named.Goals as goal

pub returns-clause-least : goal.returns-clause-least
unfolding digits
returns-clause-least c = refl

pub returns-clause-greatest : goal.returns-clause-greatest
unfolding digits
returns-clause-greatest c = refl

pub returns-clause-greater : goal.returns-clause-greater
unfolding digits
returns-clause-greater c = refl

pub returns-clause-less : goal.returns-clause-less
unfolding digits
returns-clause-less c = refl

pub returns-clause-leading_zero : goal.returns-clause-leading_zero
unfolding digits
returns-clause-leading_zero c = refl

pub returns-clause-sign : goal.returns-clause-sign
unfolding digits
returns-clause-sign c = refl

pub returns-clause-letter : goal.returns-clause-letter
unfolding digits
returns-clause-letter c = refl

pub returns-clause-empty : goal.returns-clause-empty
unfolding digits
returns-clause-empty c = refl
