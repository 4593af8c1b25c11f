use Rattle.std.proofs.Common.{◌≡◌, map, take}
use Rattle.qccd_base.specs.declared.names.End.TheVariants.{Right}
use Rattle.rebalancer.specs.Room.{first_free, pair_of}
use Rattle.rebalancer.proofs.making.first_from_right.Given as goal

abbrev pub invariant-loop-index : goal.invariant-loop-index
invariant-loop-index l = first_free (map (λ e. e.qubit) l.chain) Right (pair_of l.keep) ≡ first_free (map (λ e. e.qubit) (take l.index l.chain)) Right (pair_of l.keep)
