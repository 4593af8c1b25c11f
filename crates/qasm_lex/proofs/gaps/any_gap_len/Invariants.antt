-- A gap behind what was passed so far is one with it.
use Rattle.std.proofs.Common.{ℕ, ◌+◌, ◌-◌, ◌≤◌, length, drop}
use Rattle.qasm_lex.specs.Fronts.{GapAtFront}
use Rattle.qasm_lex.proofs.gaps.any_gap_len.Given as goal

abbrev pub invariant-loop-piece : goal.invariant-loop-piece
invariant-loop-piece l = record {
  fits : l.len ≤ length l.text;
  goes_on : (more : ℕ) → GapAtFront (drop l.len l.text) more → GapAtFront l.text (l.len + more);
}

abbrev pub decreases-loop-piece : goal.decreases-loop-piece
decreases-loop-piece l = length l.text - l.len
