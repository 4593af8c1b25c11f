use Rattle.std.proofs.Common.{ℕ, ◌<◌, subst, arith}
use Rattle.std.proofs.lemmas.List.{get_or-replicate}
use Rattle.qasm_reader.proofs.barriers.unreached.Goals as goal

pub returns : goal.returns
returns c = λ ns n i few less. absurd (omega (arith, subst (λ (m : ℕ). i < m) (get_or-replicate 256 n 0 0 few) less))
