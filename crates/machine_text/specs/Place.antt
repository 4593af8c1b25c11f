-- How a machine's file writes the places of a segment's ends.
use Rattle.std.specs.Prelude.{ℕ, List, [], ◌∷◌, ◌++◌, Option, codes, decimal, find, flat_map}
use Rattle.std.specs.List.{range_with_len}
use Rattle.std.specs.Str.{bytes_eq}
use Rattle.qccd_base.specs.declared.names.End.TheVariants.{Left, Right}
use Rattle.qccd_machine.specs.declared.place.Place.{Place}
use Rattle.qccd_machine.specs.declared.place.Place.TheVariants.{TrapEnd, Junction}

-- the text of a place, as T0.left or J3
abbrev pub place_text : Place → List ℕ
place_text (TrapEnd trap Left) = codes "T" ++ (decimal trap.0 ++ codes ".left")
place_text (TrapEnd trap Right) = codes "T" ++ (decimal trap.0 ++ codes ".right")
place_text (Junction junction) = codes "J" ++ decimal junction.0

-- the places of one number
abbrev pub places_at : ℕ → List Place
places_at n =
    TrapEnd (record { 0 = n }) Left ∷ TrapEnd (record { 0 = n }) Right ∷ Junction (record { 0 = n }) ∷ []

-- the places that a text may name: those with numbers up to 255
unfoldable pub places : List Place
places = flat_map places_at (range_with_len 0 256)

-- the place that has this text
abbrev pub place_named : List ℕ → Option Place
place_named text = find (λ place. bytes_eq text (place_text place)) places
