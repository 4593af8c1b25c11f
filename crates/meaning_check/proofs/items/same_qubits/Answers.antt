use Rattle.std.proofs.lemmas.Slice.Eq.{slice_eq-Decides}
use Rattle.meaning_check.proofs.Deciding.{qubit_same}
use Rattle.meaning_check.proofs.items.same_qubits.Goals as goal

pub returns : goal.returns
returns c = slice_eq-Decides qubit_same c.args.a.now c.args.b.now c.eq.result c.eq.ensures
