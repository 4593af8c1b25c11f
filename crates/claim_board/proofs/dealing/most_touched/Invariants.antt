use Rattle.std.proofs.Common.{◌<◌, ◌≤◌, ℕ, length}
use Rattle.claim_core.specs.Event.{touched}
use Rattle.claim_board.proofs.dealing.most_touched.Given as goal

abbrev pub invariant-loop-op : goal.invariant-loop-op
invariant-loop-op l = (k : ℕ) → k < l.op-index → length (touched l.program.ops k) ≤ l.most
