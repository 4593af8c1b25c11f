use Rattle.std.proofs.Common.{◌≡◌, ◌≤◌, ◌+◌, ◌-◌, length}
use Rattle.op_table.specs.Run.{IsRun}
use Rattle.op_plan.specs.Plan.{state_of, wired, with_ops, Agrees, Continues}
use Rattle.chain_reorder.specs.Reorder.{rots_up}
use Rattle.chain_reorder.proofs.bring.go_up.Given as goal

abbrev pub invariant-loop-position : goal.invariant-loop-position
invariant-loop-position l = record {
  whole : with_ops l.plan (rots_up l.trap.0 l.position (l.last - l.position)) ≡ with_ops l.fn.plan (rots_up l.trap.0 l.at (l.last - l.at));
  run : IsRun (wired l.plan) (state_of l.plan) (rots_up l.trap.0 l.position (l.last - l.position));
  so_far : Continues l.fn.plan l.plan;
  agrees : Agrees l.machine l.plan;
  room : length l.plan.ops + (l.last - l.position) ≤ 4194304;
}

abbrev pub decreases-loop-position : goal.decreases-loop-position
decreases-loop-position l = l.last - l.position
