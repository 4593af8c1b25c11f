-- What the times of a machine are called.
use Rattle.std.specs.Prelude.{ℕ, List, [], ◌∷◌, codes, unwrap_or, slice_get}

-- in the order of their fields
abbrev pub time_names : List (List ℕ)
time_names = codes "split" ∷ codes "merge" ∷ codes "move" ∷ codes "cross2" ∷ codes "cross3" ∷ codes "cross4"
    ∷ codes "rot" ∷ codes "gate1" ∷ codes "measure" ∷ codes "reset" ∷ codes "gate2" ∷ codes "between" ∷ []

-- the name of a field, and nothing past the last
abbrev pub time_name_of : ℕ → List ℕ
time_name_of field = unwrap_or (slice_get time_names field) []
