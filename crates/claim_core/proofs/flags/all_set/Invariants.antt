use Rattle.std.proofs.Common.{◌≡◌, drop}
use Rattle.std.specs.List.{list_all}
use Rattle.claim_core.specs.Board.{flag_at}
use Rattle.claim_core.proofs.flags.all_set.Given as goal

abbrev pub invariant-loop-r : goal.invariant-loop-r
invariant-loop-r l = list_all (flag_at l.program l.flags) l.touched ≡ list_all (flag_at l.program l.flags) (drop l.r-index l.touched)
