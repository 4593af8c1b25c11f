use Rattle.std.proofs.Common.{◌≡◌, ℕ, ◌<◌, true, false, get_or}
use Rattle.loader.proofs.start.missing_of.Given as goal

abbrev pub invariant-loop-ion : goal.invariant-loop-ion
invariant-loop-ion l = (i : ℕ) → i < l.ion → get_or l.seen i false ≡ true
