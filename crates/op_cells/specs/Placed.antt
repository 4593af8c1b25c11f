-- The first thing that an operation needs, and the others.
use Rattle.std.specs.Prelude.{ℕ, ◌+◌, ◌≡◌, Bool, true, ◌&&◌, nat_lt, List, drop, length}
use Rattle.std.specs.List.{list_all}
use Rattle.qccd_circuit.specs.Item.{ItemData, bits_of}
use Rattle.qccd_machine.specs.Machine.{MachineData}
use Rattle.op_table.specs.declared.kinds.OpKind.{OpKind}
use Rattle.op_table.specs.declared.kinds.OpKind.TheVariants.{Split, Move, Enter, Leave, Merge, Rot, GSwap, Item, Fence}
use Rattle.op_table.specs.declared.kinds.Why.{Why}
use Rattle.op_table.specs.declared.contents.Content.{Content}
use Rattle.op_table.specs.Act.{needs_on}
use Rattle.op_table.specs.Step.{has_trap, has_segment, has_junction}

-- each bit of the item is below so many
abbrev pub bits_below : ℕ → ItemData → Bool
bits_below bits item = list_all (λ b. nat_lt b.0 bits) (bits_of item)

-- what the operation names is there
abbrev pub names_parts_there : MachineData → ℕ → OpKind → Bool
names_parts_there m bits (Split t e g) = has_trap m t.0 && has_segment m g.0
names_parts_there m bits (Move g) = has_segment m g.0
names_parts_there m bits (Enter g j) = has_segment m g.0 && has_junction m j.0
names_parts_there m bits (Leave j g) = has_segment m g.0 && has_junction m j.0
names_parts_there m bits (Merge g t e) = has_trap m t.0 && has_segment m g.0
names_parts_there m bits (Rot t p) = has_trap m t.0
names_parts_there m bits (GSwap t low high) = has_trap m t.0
names_parts_there m bits (Item number t item at) = has_trap m t.0 && bits_below bits item
names_parts_there m bits (Fence number item traps) = list_all (λ t. has_trap m t.0) traps && bits_below bits item

-- the same, for some number of bits
abbrev pub IsPlaced : MachineData → OpKind → Type 0
IsPlaced m op = (bits : ℕ) × (names_parts_there m bits op ≡ true)

-- what it needs besides, of the contents that it touches; no bits are asked for
abbrev pub needs_there : MachineData → OpKind → List Content → List (Why × Bool)
needs_there m op cs = drop 1 (needs_on m 0 op cs)

-- how many resources come before the bits
abbrev pub bits_start : MachineData → ℕ
bits_start m = length m.capacities + length m.segments + m.junctions
