-- The resources of a machine, numbered in their order.
use Rattle.std.specs.Prelude.{ℕ, ◌+◌, ◌<◌, length}
use Rattle.qccd_base.specs.declared.names.Res.{Res}
use Rattle.qccd_base.specs.declared.names.Res.TheVariants as res
use Rattle.qccd_machine.specs.Machine.{MachineData}

-- how many resources there are, with so many bits
abbrev pub count_of : MachineData → ℕ → ℕ
count_of m bits = length m.capacities + length m.segments + m.junctions + bits

-- the number of a resource: traps come first, then segments, junctions and bits
abbrev pub index_of : MachineData → Res → ℕ
index_of m (res.Trap t) = t.0
index_of m (res.Seg g) = length m.capacities + g.0
index_of m (res.Junc j) = length m.capacities + length m.segments + j.0
index_of m (res.Bit b) = length m.capacities + length m.segments + m.junctions + b.0

-- the resource is there
abbrev pub IsThere : MachineData → ℕ → Res → Type 0
IsThere m bits (res.Trap t) = t.0 < length m.capacities
IsThere m bits (res.Seg g) = g.0 < length m.segments
IsThere m bits (res.Junc j) = j.0 < m.junctions
IsThere m bits (res.Bit b) = b.0 < bits
