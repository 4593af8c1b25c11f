-- By computation.
use Rattle.std.proofs.Common.{refl}
use Rattle.std.specs.Fmt.{digits}
use Rattle.op_text.proofs.worked.splits_and_merges.Goals as goal

pub returns-clause-split_left : goal.returns-clause-split_left
unfolding digits
returns-clause-split_left c = refl

pub returns-clause-split_right : goal.returns-clause-split_right
unfolding digits
returns-clause-split_right c = refl

pub returns-clause-merge_left : goal.returns-clause-merge_left
unfolding digits
returns-clause-merge_left c = refl

pub returns-clause-merge_right : goal.returns-clause-merge_right
unfolding digits
returns-clause-merge_right c = refl
