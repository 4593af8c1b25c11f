-- Where a list of cells keeps each kind of resource.
use Rattle.std.specs.Prelude.{ℕ, ◌+◌, Bool, true, false, List}
use Rattle.std.specs.List.{prefix_len}
use Rattle.qccd_base.specs.declared.names.Res.{Res}
use Rattle.qccd_base.specs.declared.names.Res.TheVariants as res
use Rattle.op_table.specs.declared.contents.Content.{Content}
use Rattle.op_table.specs.declared.contents.Content.TheVariants as holds
use Rattle.op_cells.specs.declared.cells.Cell.{Cell}

-- the kinds in their order
abbrev pub is_trap : Content → Bool
is_trap (holds.Trap chain heat) = true
is_trap (holds.Seg rider) = false
is_trap (holds.Junc carry) = false
is_trap holds.Bit = false

abbrev pub is_up_to_segment : Content → Bool
is_up_to_segment (holds.Trap chain heat) = true
is_up_to_segment (holds.Seg rider) = true
is_up_to_segment (holds.Junc carry) = false
is_up_to_segment holds.Bit = false

abbrev pub is_up_to_junction : Content → Bool
is_up_to_junction (holds.Trap chain heat) = true
is_up_to_junction (holds.Seg rider) = true
is_up_to_junction (holds.Junc carry) = true
is_up_to_junction holds.Bit = false

-- where the traps end, and the segments, and the junctions
abbrev pub traps_end : List Cell → ℕ
traps_end cells = prefix_len (λ c. is_trap c.content) cells

abbrev pub segments_end : List Cell → ℕ
segments_end cells = prefix_len (λ c. is_up_to_segment c.content) cells

abbrev pub junctions_end : List Cell → ℕ
junctions_end cells = prefix_len (λ c. is_up_to_junction c.content) cells

-- the place of a resource: those of a kind stand behind those of the kinds before it
abbrev pub place_of : List Cell → Res → ℕ
place_of cells (res.Trap t) = t.0
place_of cells (res.Seg g) = traps_end cells + g.0
place_of cells (res.Junc j) = segments_end cells + j.0
place_of cells (res.Bit b) = junctions_end cells + b.0
