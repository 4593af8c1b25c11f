-- Wirings of worked examples.
use Rattle.std.specs.Prelude.{ℕ, List, [], ◌∷◌}
use Rattle.qccd_machine.specs.declared.place.Place.{Place}
use Rattle.qccd_machine.specs.declared.place.Preset.TheVariants.{L6, G2x3, Single}
use Rattle.qccd_machine.specs.Preset.{at_junction, at_left, at_right, preset_of}
use Rattle.router.specs.Wiring.{WiringData, wiring_of}

-- the machines that are known by name
abbrev pub six_in_line : WiringData
six_in_line = wiring_of (preset_of L6 5)

abbrev pub two_by_three : WiringData
two_by_three = wiring_of (preset_of G2x3 4)

abbrev pub one_alone : WiringData
one_alone = wiring_of (preset_of Single 4)

-- so many traps and junctions, joined by these segments
abbrev pub joined_by : ℕ → ℕ → List (Place × Place) → WiringData
joined_by traps junctions segments = record { traps = traps; junctions = junctions; segments = segments }

-- four traps in a ring
abbrev pub ring : WiringData
ring = joined_by 4 0 ((at_right 0, at_left 1) ∷ (at_right 1, at_left 2) ∷ (at_right 2, at_left 3) ∷ (at_right 3, at_left 0) ∷ [])

-- three traps in a line, and a segment from the first to the last
abbrev pub triangle : WiringData
triangle = joined_by 3 0 ((at_right 0, at_left 1) ∷ (at_right 1, at_left 2) ∷ (at_left 0, at_right 2) ∷ [])

-- two traps joined by two segments, at the left ends and at the right ones, numbered against the order of the ends
abbrev pub twice_joined : WiringData
twice_joined = joined_by 2 0 ((at_right 1, at_right 0) ∷ (at_left 0, at_left 1) ∷ [])

-- two traps joined through a junction by the first two segments, and by one segment more
abbrev pub around : WiringData
around = joined_by 2 1 ((at_right 0, at_junction 0) ∷ (at_junction 0, at_left 1) ∷ (at_left 0, at_right 1) ∷ [])

-- two traps with two parallel segments between their junctions, and the way back numbered against the order
abbrev pub parallel : WiringData
parallel = joined_by 2 2 ((at_junction 1, at_left 1) ∷ (at_junction 0, at_junction 1) ∷ (at_junction 1, at_junction 0) ∷ (at_right 0, at_junction 0) ∷ [])

-- a trap with both ends at a junction, from which a segment leads to a second trap
abbrev pub looped : WiringData
looped = joined_by 2 1 ((at_junction 0, at_left 0) ∷ (at_right 0, at_junction 0) ∷ (at_right 1, at_junction 0) ∷ [])

-- two traps joined through junction 0 and 1, or through 0, 2 and 1
abbrev pub three_junctions : WiringData
three_junctions = joined_by 2 3 ((at_right 0, at_junction 0) ∷ (at_junction 0, at_junction 2) ∷ (at_junction 2, at_junction 1) ∷ (at_junction 0, at_junction 1) ∷ (at_junction 1, at_left 1) ∷ [])
