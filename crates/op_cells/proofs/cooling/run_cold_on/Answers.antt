use Rattle.std.proofs.Common.{map, length, sym, subst}
use Rattle.op_table.specs.Act.{acted}
use Rattle.op_table.specs.Touch.{touches}
use Rattle.op_cells.specs.Places.{content_at, holding, AreWithin}
use Rattle.op_cells.proofs.ColdRuns.{in_turn_cold, ran-cold}
use Rattle.op_cells.proofs.OneRuns.{within-after}
use Rattle.op_cells.proofs.cooling.run_cold_on.Goals as goal

pub act_at-requires-clause-in_turn : goal.act_at-requires-clause-in_turn
act_at-requires-clause-in_turn c = in_turn_cold c.args.machine.now c.args.op.now c.args.cells.now c.requires

pub cool_all_at-requires : goal.cool_all_at-requires
cool_all_at-requires c =
    let machine = c.args.machine.now in
    let op = c.args.op.now in
    let old = c.args.cells.now in
    subst (AreWithin machine (length c.act_at.new.cells)) (sym c.touches-touched.ensures)
    (within-after machine op (map holding (acted machine op (map (content_at machine old) (touches op)))) old c.act_at.new.cells c.act_at.ensures c.requires.within)

pub returns : goal.returns
returns c =
    ran-cold c.args.machine.now c.args.op.now c.touches-touched.result.now c.args.cells.now c.act_at.new.cells c.cool_all_at.new.cells c.requires c.touches-touched.ensures c.act_at.ensures c.cool_all_at.ensures
