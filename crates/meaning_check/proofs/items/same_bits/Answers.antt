use Rattle.std.proofs.lemmas.Slice.Eq.{slice_eq-Decides}
use Rattle.meaning_check.proofs.Deciding.{bit_same}
use Rattle.meaning_check.proofs.items.same_bits.Goals as goal

pub returns : goal.returns
returns c = slice_eq-Decides bit_same c.args.a.now c.args.b.now c.eq.result c.eq.ensures
