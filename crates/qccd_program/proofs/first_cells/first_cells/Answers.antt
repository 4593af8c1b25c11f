use Rattle.std.proofs.Common.{◌+◌, ap, subst, refl, length, sym}
use Rattle.qccd_program.specs.First.{FirstCells}
use Rattle.qccd_program.proofs.FirstCells.{next-first}
use Rattle.qccd_program.proofs.first_cells.first_cells.Goals as goal

pub loop-room-preserved : goal.loop-room-preserved
loop-room-preserved c =
    subst (FirstCells c.args.program.now (c.loop-room.room-index + 1)) (sym c.in_ok-push.ensures.items)
    (next-first c.args.program.now c.loop-room.room-index (length c.as_slice.result.now) c.loop-room.cells.items
    (record { content = c.first_content-content.result; free_at = 0; log = c.in_ok-log.log }) c.rooms-rooms.result.now c.rooms-rooms.result.now
    c.rooms-rooms.ensures c.loop-room.invariant (ap (λ xs. length xs) c.as_slice.ensures.value) c.first_content-content.ensures refl refl c.in_ok-log.ensures)
