use Rattle.std.proofs.Common.{◌≡◌, drop}
use Rattle.qccd_base.specs.Resource.{among}
use Rattle.claim_core.proofs.flags.is_among.Given as goal

abbrev pub invariant-loop-q : goal.invariant-loop-q
invariant-loop-q l = among l.list l.r ≡ among (drop l.q-index l.list) l.r
