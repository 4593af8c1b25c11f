use Rattle.std.proofs.Common.{◌≡◌, ◌++◌, ◌+◌, ◌≤◌, length, map}
use Rattle.std.specs.Prelude.{vec_capacity}
use Rattle.workers.specs.Worker.{pass_of}
use Rattle.executive.proofs.team.passes_of.Given as goal

abbrev pub invariant-loop-team : goal.invariant-loop-team
invariant-loop-team l = record {
  made : l.back.items ++ map pass_of l.team.items ≡ map pass_of l.fn.team.items;
  room : length l.back.items + length l.team.items ≤ vec_capacity l.back;
}

abbrev pub decreases-loop-team : goal.decreases-loop-team
decreases-loop-team l = length l.team.items
