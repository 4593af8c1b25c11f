use Rattle.std.proofs.Common.{◌≡◌, drop, map}
use Rattle.qccd_base.specs.declared.names.End.TheVariants.{Left}
use Rattle.rebalancer.specs.Room.{first_free, pair_of}
use Rattle.rebalancer.proofs.making.first_from_left.Given as goal

abbrev pub invariant-loop-entry : goal.invariant-loop-entry
invariant-loop-entry l = first_free (map (λ e. e.qubit) l.chain) Left (pair_of l.keep) ≡ first_free (map (λ e. e.qubit) (drop l.entry-index l.chain)) Left (pair_of l.keep)
