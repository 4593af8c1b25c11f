-- What each step does to the heat of traps and ions, in thousandths.
use Rattle.std.specs.Prelude.{ℕ, ◌+◌, ◌-◌, ◌/◌}

-- a split of a chain of n ions with heat H: what the ion takes along, and what the trap keeps
abbrev pub split_ion_heat : ℕ → ℕ → ℕ
split_ion_heat H n = H / n + 100

abbrev pub split_trap_heat : ℕ → ℕ → ℕ
split_trap_heat H n = H - H / n + 100

-- a merge of an ion with heat h
abbrev pub merged_heat : ℕ → ℕ → ℕ
merged_heat H h = H + h + 100

-- an exchange of two neighbours
abbrev pub rotated_heat : ℕ → ℕ
rotated_heat H = H + 200

-- a move along a segment
abbrev pub moved_heat : ℕ → ℕ
moved_heat h = h + 10

-- an enter into a junction; a leave changes nothing
abbrev pub entered_heat : ℕ → ℕ
entered_heat h = h + 50
