-- Contents without their heats, and an operation on what cells hold.
use Rattle.std.specs.Prelude.{◌≡◌, ℕ, ◌<◌, ◌^◌, false, List, map, length, option_map, slice_get}
use Rattle.std.specs.List.{AllByRecursion}
use Rattle.qccd_base.specs.declared.names.Res.{Res}
use Rattle.qccd_base.specs.Resource.{among}
use Rattle.qccd_machine.specs.Machine.{MachineData}
use Rattle.op_table.specs.declared.kinds.OpKind.{OpKind}
use Rattle.op_table.specs.declared.contents.Rider.{Rider}
use Rattle.op_table.specs.declared.contents.Carry.{Carry}
use Rattle.op_table.specs.declared.contents.Content.{Content}
use Rattle.op_table.specs.declared.contents.Content.TheVariants as holds
use Rattle.op_table.specs.Act.{acted}
use Rattle.op_table.specs.Contents.{heat_held}
use Rattle.op_table.specs.Touch.{touches}
use Rattle.op_cells.specs.declared.cells.Cell.{Cell}
use Rattle.op_cells.specs.Numbering.{index_of, IsThere}
use Rattle.op_cells.specs.Places.{content_at, AreWithin}
use Rattle.op_cells.specs.Settled.{IsLegalOn}

abbrev pub cold_rider : Rider → Rider
cold_rider r = record r { heat = 0 }

abbrev pub cold_carry : Carry → Carry
cold_carry c = record c { heat = 0 }

-- the same entries, with every heat 0
abbrev pub cooled : Content → Content
cooled (holds.Trap chain heat) = holds.Trap chain 0
cooled (holds.Seg rider) = holds.Seg (option_map cold_rider rider)
cooled (holds.Junc carry) = holds.Junc (option_map cold_carry carry)
cooled holds.Bit = holds.Bit

abbrev pub chilled : Cell → Cell
chilled c = record c { content = cooled c.content }

-- the operation may be done on what these cells hold
pub record MayRunCold (m : MachineData) (op : OpKind) (cells : List Cell) : Type 0 where
  pub within : AreWithin m (length cells) (touches op)
  pub legal : IsLegalOn m op (map (content_at m cells) (touches op))
  pub heats : AllByRecursion (λ r. heat_held (content_at m cells r) < 2 ^ 62) (touches op)

-- it was done on what they hold, which is cold afterwards; all else stayed
pub record RanCold (m : MachineData) (bits : ℕ) (op : OpKind) (old new : List Cell) : Type 0 where
  pub long : length new ≡ length old
  pub touched : map (content_at m new) (touches op) ≡ map cooled (acted m op (map (content_at m old) (touches op)))
  pub others : (r : Res) → IsThere m bits r → among (touches op) r ≡ false → slice_get new (index_of m r) ≡ slice_get old (index_of m r)
  pub clocks : (i : ℕ) → option_map (λ c. c.free_at) (slice_get new i) ≡ option_map (λ c. c.free_at) (slice_get old i)
  pub logs : (i : ℕ) → option_map (λ c. c.log) (slice_get new i) ≡ option_map (λ c. c.log) (slice_get old i)
