use Rattle.std.proofs.Common.{sym, ◌∙◌, ap, map, false}
use Rattle.std.proofs.lemmas.List.{get_or-replicate}
use Rattle.ion_mapping.specs.Taking.{has}
use Rattle.ion_mapping.proofs.taking.Taking.with_room.Goals as goal

pub invariant_of-result : goal.invariant_of-result
invariant_of-result c = λ k less. get_or-replicate 256 k false false less ∙ sym (ap (λ xs. has (map (λ x. x.0) xs) k) c.in_ok-with_capacity.ensures.items)
