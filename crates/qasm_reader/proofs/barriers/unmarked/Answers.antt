use Rattle.std.proofs.Common.{false}
use Rattle.std.proofs.lemmas.List.{get_or-replicate}
use Rattle.qasm_reader.proofs.barriers.unmarked.Goals as goal

pub returns : goal.returns
returns c = λ n few. get_or-replicate 256 n false false few
