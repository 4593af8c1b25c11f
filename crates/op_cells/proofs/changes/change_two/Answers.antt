use Rattle.std.proofs.Common.{subst, [], ◌∷◌}
use Rattle.op_cells.proofs.Rooms.{merge_room}
use Rattle.op_cells.proofs.changes.change_two.Goals as goal

pub merge-requires-clause-room : goal.merge-requires-clause-room
merge-requires-clause-room c =
    merge_room c.args.machine.now c.args.op.now (c.args.first.now ∷ c.args.second.now ∷ []) c.in-Merge.seg c.in-Merge.trap c.in-Merge.end c.traps-traps.ensures.valid (Rattle.std.proofs.Common.◌∙◌ (Rattle.std.proofs.Common.sym c.kind.ensures.value) c.in-Merge.is) c.requires.legal
