use Rattle.std.specs.Prelude.{◌≡◌, ℕ, ◌+◌, ◌-◌, ◌*◌, ◌<◌, ◌≤◌, Bool, true, false, cond, ◌&&◌, ◌==◌, ◌⊎◌, ◌≢◌, List, [], ◌∷◌, length, Some, slice_get, All, count_by, flat_map, sum}
use Rattle.qccd_base.specs.declared.names.TrapId.{TrapId}
use Rattle.qccd_base.specs.declared.names.JuncId.{JuncId}
use Rattle.qccd_base.specs.declared.names.End.{End}
use Rattle.qccd_base.specs.declared.names.End.TheVariants.{Left, Right}
use Rattle.qccd_base.specs.declared.names.Res.{Res}
use Rattle.qccd_base.specs.declared.names.Res.TheVariants as res
use Rattle.qccd_base.specs.declared.times.Times.{Times}
use Rattle.qccd_base.specs.Greatest.{greatest}
use Rattle.qccd_base.specs.Names.{trap, junction}
use Rattle.qccd_base.specs.Times.{times_of}
use Rattle.qccd_machine.specs.declared.place.Place.{Place}
use Rattle.qccd_machine.specs.declared.place.Place.TheVariants.{TrapEnd, Junction}

-- a machine's parts: the capacity of each trap, how many junctions there are, the two ends of each
-- segment (end A first), and the times
pub record MachineData : Type 0 where
  pub capacities : List ℕ
  pub junctions : ℕ
  pub segments : List (Place × Place)
  pub times : Times

abbrev pub machine_data : List ℕ → ℕ → List (Place × Place) → Times → MachineData
machine_data capacities junctions segments times =
    record { capacities = capacities; junctions = junctions; segments = segments; times = times }

-- the place is at a trap or a junction that is there
abbrev pub IsThere : MachineData → Place → Type 0
IsThere m (TrapEnd t end) = t.0 < length m.capacities
IsThere m (Junction j) = j.0 < m.junctions

-- the trap or the junction of a place
abbrev pub site : Place → Res
site (TrapEnd t end) = res.Trap t
site (Junction j) = res.Junc j

abbrev pub same_end : End → End → Bool
same_end Left Left = true
same_end Left Right = false
same_end Right Left = false
same_end Right Right = true

abbrev pub same_place : Place → Place → Bool
same_place (TrapEnd t e) (TrapEnd u f) = (t.0 == u.0) && same_end e f
same_place (TrapEnd t e) (Junction j) = false
same_place (Junction j) (TrapEnd t e) = false
same_place (Junction i) (Junction j) = i.0 == j.0

-- how many ends of these segments are at a place
abbrev pub count_at : List (Place × Place) → Place → ℕ
count_at segments p = count_by (same_place p) (flat_map (λ s. s.0 ∷ s.1 ∷ []) segments)

-- how many ends of segments are at a place
abbrev pub ends_at : MachineData → Place → ℕ
ends_at m p = count_at m.segments p

-- how many ends of segments a junction joins
abbrev pub degree_of : MachineData → ℕ → ℕ
degree_of m j = ends_at m (Junction (junction j))

-- segment s joins the traps or junctions a and b
abbrev pub Joins : MachineData → ℕ → Res → Res → Type 0
Joins m s a b = (ends : Place × Place) × (slice_get m.segments s ≡ Some ends)
    × (((site ends.0 ≡ a) × (site ends.1 ≡ b)) ⊎ ((site ends.0 ≡ b) × (site ends.1 ≡ a)))

-- the segments, in turn, lead from a to b
abbrev pub Leads : MachineData → Res → List ℕ → Res → Type 0
Leads m a [] b = a ≡ b
Leads m a (s ∷ path) b = (mid : Res) × Joins m s a mid × Leads m mid path b

abbrev pub first_trap : Res
first_trap = res.Trap (trap 0)

-- there is a path from the first trap
abbrev pub IsReached : MachineData → Res → Type 0
IsReached m r = (path : List ℕ) × Leads m first_trap path r

-- what makes a machine of parts
pub record IsValid (m : MachineData) : Type 0 where
  pub some_trap : 0 < length m.capacities
  pub few_traps : length m.capacities ≤ 32
  pub few_segments : length m.segments ≤ 128
  pub few_junctions : m.junctions ≤ 64
  pub capacities : All (λ c. (2 ≤ c) × (c ≤ 32)) m.capacities
  pub ends_there : All (λ s. IsThere m s.0 × IsThere m s.1) m.segments
  pub two_sites : All (λ s. site s.0 ≢ site s.1) m.segments
  -- no two segments share an end of a trap
  pub ends_free : (t : TrapId) (end : End) → ends_at m (TrapEnd t end) ≤ 1
  pub degrees : (j : ℕ) → j < m.junctions → (2 ≤ degree_of m j) × (degree_of m j ≤ 4)
  pub traps_reached : (t : TrapId) → t.0 < length m.capacities → IsReached m (res.Trap t)
  pub junctions_reached : (j : JuncId) → j.0 < m.junctions → IsReached m (res.Junc j)
  pub times : All (λ t. t ≤ 1000000) (times_of m.times)

-- how many qubits the machine takes: one place stays free, where there is more than one trap
abbrev pub slots_of : MachineData → ℕ
slots_of m = cond (length m.capacities == 1) (sum m.capacities) (sum m.capacities - 1)

-- the bound that is stated for the operations of one hop of a qubit: it goes to the end of its chain, a
-- split, a move and a merge, and for each junction on the way an enter, a leave and a move
abbrev pub hop_bound : MachineData → ℕ
hop_bound m = (greatest m.capacities - 1) + 3 + 3 * m.junctions

-- the bound that is stated for the operations of one item
abbrev pub worst_of : MachineData → ℕ
worst_of m = length m.capacities * (length m.capacities - 1) * hop_bound m + 1
