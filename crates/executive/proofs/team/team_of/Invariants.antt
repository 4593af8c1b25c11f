use Rattle.std.proofs.Common.{◌≡◌, ◌++◌, ◌+◌, ◌≤◌, length, map}
use Rattle.std.specs.Prelude.{vec_capacity}
use Rattle.workers.specs.Worker.{pass_of}
use Rattle.executive.specs.Kind.{HaveKinds}
use Rattle.executive.proofs.team.team_of.Given as goal

abbrev pub invariant-loop-passes : goal.invariant-loop-passes
invariant-loop-passes l = record {
  made : map pass_of l.team.items ++ l.passes.items ≡ l.fn.passes.items;
  kinds : HaveKinds (length l.fn.passes.items) l.team.items;
  room : length l.team.items + length l.passes.items ≤ vec_capacity l.team;
}

abbrev pub decreases-loop-passes : goal.decreases-loop-passes
decreases-loop-passes l = length l.passes.items
