-- States in which every ion is in a trap.
use Rattle.std.specs.Prelude.{◌≡◌, ℕ, None}
use Rattle.op_table.specs.State.{State, ion_on_segment, ion_in_junction}

-- nothing is on a segment or in a junction
pub record NothingOutside (s : State) : Type 0 where
  pub segments : (g : ℕ) → ion_on_segment s g ≡ None
  pub junctions : (j : ℕ) → ion_in_junction s j ≡ None
