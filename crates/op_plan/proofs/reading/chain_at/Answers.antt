use Rattle.std.proofs.Common.{◌∙◌, ap}
use Rattle.op_table.specs.Act.{chain_in}
use Rattle.op_plan.specs.Cold.{cold}
use Rattle.op_plan.specs.Plan.{state_of, wired}
use Rattle.op_plan.proofs.Cold.{chain_cold}
use Rattle.op_plan.proofs.reading.chain_at.Goals as goal

pub held-requires : goal.held-requires
held-requires c = let r = c.requires in (wired r.0, cold (state_of r.0), r.2.shows, r.3)

pub returns : goal.returns
returns c p traps keeps there =
    c.chain_in.ensures ∙ ap chain_in (c.held.ensures (wired p) (cold (state_of p)) keeps.shows there) ∙ chain_cold (state_of p) c.args.trap.0
