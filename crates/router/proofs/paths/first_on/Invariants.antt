use Rattle.std.proofs.Common.{◌≡◌, ℕ, ◌<◌, false}
use Rattle.qccd_machine.specs.Machine.{site}
use Rattle.router.proofs.Rounds.{some_behind}
use Rattle.router.proofs.paths.first_on.Given as goal

-- no segment so far begins such a path
abbrev pub invariant-loop-number : goal.invariant-loop-number
invariant-loop-number l = (h : ℕ) → h < l.number → some_behind l.wiring l.to.0 l.left (site l.place) h ≡ false
