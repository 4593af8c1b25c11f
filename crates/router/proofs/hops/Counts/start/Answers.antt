use Rattle.std.proofs.Common.{◌∙◌, ap, None, Some, replicate}
use Rattle.std.specs.Prelude.{slice_index_or, slice_set}
use Rattle.router.proofs.Along.{few_parts}
use Rattle.router.proofs.Hopping.{counts_start}
use Rattle.router.proofs.hops.Counts.start.Goals as goal

pub returns : goal.returns
returns c = λ a less.
    ap (λ k. slice_index_or (slice_set (replicate 32 None) k (Some 0)) a None) c.from.ensures
    ∙ counts_start c.args.wiring.now c.args.to.0 c.requires (few_parts c.args.wiring.now c.traps-traps.ensures.wiring).0 a less
