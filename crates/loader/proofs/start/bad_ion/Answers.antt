use Rattle.std.proofs.Common.{false}
use Rattle.std.proofs.lemmas.List.{length-replicate, get_or-replicate}
use Rattle.loader.proofs.Starts.{none_seen}
use Rattle.loader.proofs.start.bad_ion.Goals as goal

pub stray_of-astray-requires-clause-unseen : goal.stray_of-astray-requires-clause-unseen
stray_of-astray-requires-clause-unseen c = none_seen _ (length-replicate 256 false) (λ i below. get_or-replicate 256 i false false below)
