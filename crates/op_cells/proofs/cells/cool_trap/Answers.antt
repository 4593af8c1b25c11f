use Rattle.std.proofs.Common.{◌∙◌, ap, drop, length, ℕ, ◌+◌, slice_get}
use Rattle.op_cells.specs.Places.{adjust, clock_or}
use Rattle.op_cells.specs.Rested.{cool_time, rested}
use Rattle.op_cells.proofs.RestedTraps.{rests-kept}
use Rattle.op_cells.proofs.cells.cool_trap.Goals as goal

pub returns : goal.returns
returns c m bits there =
    rests-kept m bits c.args.trap c.rest_at.result c.args.cells.now c.as_mut_slice.result.now c.rest_at.new.cells (drop (length c.rest_at.new.cells) c.cells.inside.cells.items) c.cells.inside.cells.len
    (c.as_mut_slice.ensures.value ∙ c.cells.view_is) c.as_mut_slice.ensures.len (c.rest_at.ensures.cell ∙ ap (adjust rested c.as_mut_slice.result.now) c.from.ensures)
    (c.rest_at.ensures.times ∙ ap (λ (i : ℕ). record { start = clock_or (slice_get c.as_mut_slice.result.now i); finish = clock_or (slice_get c.as_mut_slice.result.now i) + cool_time }) c.from.ensures) there
