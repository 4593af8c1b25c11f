use Rattle.std.proofs.Common.{◌≡◌, ℕ, ◌<◌, false, [], get_or, length, nat_lt}
use Rattle.loader.proofs.start.overfull.Given as goal

abbrev pub invariant-loop-trap : goal.invariant-loop-trap
invariant-loop-trap l = (t : ℕ) → t < l.trap → nat_lt (get_or l.machine.capacities t 0) (length (get_or l.chains t [])) ≡ false
