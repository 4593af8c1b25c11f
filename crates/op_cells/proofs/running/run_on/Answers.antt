use Rattle.std.proofs.Common.{◌+◌, List, [], ◌∷◌, map, length, sym, ◌∙◌, ap, subst, arith}
use Rattle.qccd_base.specs.Greatest.{greatest}
use Rattle.qccd_base.specs.declared.names.Res.{Res}
use Rattle.op_table.specs.Act.{acted}
use Rattle.op_table.specs.Touch.{touches}
use Rattle.op_cells.specs.declared.cells.Done.{Done}
use Rattle.op_cells.specs.Places.{adjust_all, clock_at, content_at, free_from, holding, AreWithin}
use Rattle.op_cells.specs.Settled.{noted}
use Rattle.op_cells.proofs.OneRuns.{free-read, heats, in_turn, legal, ran, room-read, start-small, within, within-after}
use Rattle.op_cells.proofs.running.run_on.Goals as goal

pub start_at-start-requires : goal.start_at-start-requires
start_at-start-requires c =
    subst (AreWithin c.args.machine.now (length c.args.cells.now)) (sym c.touches-touched.ensures) (within c.args.machine.now c.args.op.now c.args.cells.now c.requires)

pub overflow_add-finish : goal.overflow_add-finish
overflow_add-finish c =
    let start = c.start_at-start.ensures ∙ ap (λ (rs : List Res). greatest (map (clock_at c.args.machine.now c.args.cells.now) rs)) c.touches-touched.ensures in
    let small = start-small c.args.machine.now c.args.op.now c.args.cells.now c.requires in
    omega (arith, start, small, c.time_of.ensures.small)

pub act_at-requires-clause-within : goal.act_at-requires-clause-within
act_at-requires-clause-within c = within c.args.machine.now c.args.op.now c.args.cells.now c.requires

pub act_at-requires-clause-in_turn : goal.act_at-requires-clause-in_turn
act_at-requires-clause-in_turn c = in_turn c.args.machine.now c.args.op.now c.args.cells.now c.requires

pub act_at-requires-clause-legal : goal.act_at-requires-clause-legal
act_at-requires-clause-legal c = legal c.args.machine.now c.args.op.now c.args.cells.now c.requires

pub act_at-requires-clause-heats : goal.act_at-requires-clause-heats
act_at-requires-clause-heats c = heats c.args.machine.now c.args.op.now c.args.cells.now c.requires

pub free_all_at-requires : goal.free_all_at-requires
free_all_at-requires c =
    let machine = c.args.machine.now in
    let op = c.args.op.now in
    let old = c.args.cells.now in
    subst (AreWithin machine (length c.act_at.new.cells)) (sym c.touches-touched.ensures)
    (within-after machine op (map holding (acted machine op (map (content_at machine old) (touches op)))) old c.act_at.new.cells c.act_at.ensures (within machine op old c.requires))

pub note_first_at-requires-clause-within : goal.note_first_at-requires-clause-within
note_first_at-requires-clause-within c =
    let machine = c.args.machine.now in
    let op = c.args.op.now in
    let old = c.args.cells.now in
    let finish = c.start_at-start.result + c.time_of.result in
    let mid = within-after machine op (map holding (acted machine op (map (content_at machine old) (touches op)))) old c.act_at.new.cells c.act_at.ensures (within machine op old c.requires) in
    subst (AreWithin machine (length c.free_all_at.new.cells)) (sym c.touches-touched.ensures)
    (within-after machine op (map (λ (r : Res). free_from finish) (touches op)) c.act_at.new.cells c.free_all_at.new.cells
    (free-read machine op c.touches-touched.result.now c.act_at.new.cells c.free_all_at.new.cells finish c.touches-touched.ensures c.free_all_at.ensures) mid)

pub note_first_at-requires-clause-room : goal.note_first_at-requires-clause-room
note_first_at-requires-clause-room c =
    let machine = c.args.machine.now in
    let op = c.args.op.now in
    let finish = c.start_at-start.result + c.time_of.result in
    room-read machine op c.touches-touched.result.now c.args.cells.now c.act_at.new.cells c.free_all_at.new.cells finish c.touches-touched.ensures c.requires c.act_at.ensures
    (free-read machine op c.touches-touched.result.now c.act_at.new.cells c.free_all_at.new.cells finish c.touches-touched.ensures c.free_all_at.ensures)

pub returns : goal.returns
returns c =
    let machine = c.args.machine.now in
    let op = c.args.op.now in
    let old = c.args.cells.now in
    let ts = c.touches-touched.result.now in
    let finish = c.start_at-start.result + c.time_of.result in
    let done : Done = record { op = c.args.k; start = c.start_at-start.result; finish = finish } in
    ran machine c.args.k op old c.act_at.new.cells c.free_all_at.new.cells c.note_first_at.new.cells c.start_at-start.result c.time_of.result c.requires
    (c.start_at-start.ensures ∙ ap (λ (rs : List Res). greatest (map (clock_at machine old) rs)) c.touches-touched.ensures) c.time_of.ensures.value c.act_at.ensures
    (free-read machine op ts c.act_at.new.cells c.free_all_at.new.cells finish c.touches-touched.ensures c.free_all_at.ensures)
    (c.note_first_at.ensures ∙ ap (λ (rs : List Res). adjust_all machine rs (noted done ∷ []) c.free_all_at.new.cells) c.touches-touched.ensures)
