-- The whole text is stuck where it is stuck from here on.
use Rattle.std.proofs.Common.{◌≡◌, ◌-◌, ◌≤◌, length}
use Rattle.qasm_lex.proofs.LeftLemmas.{stuck_left}
use Rattle.qasm_lex.proofs.lexing.check.Given as goal

abbrev pub invariant-loop-token : goal.invariant-loop-token
invariant-loop-token l = record { within : l.from ≤ length l.text; same : stuck_left l.text 0 ≡ stuck_left l.text l.from }

abbrev pub decreases-loop-token : goal.decreases-loop-token
decreases-loop-token l = length l.text - l.from
