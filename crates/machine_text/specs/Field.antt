-- What a table has under a name.
use Rattle.std.specs.Prelude.{ℕ, pos, nat_le, Bool, true, false, ◌&&◌, if◌then◌else◌, List, [], ◌∷◌, Option, None, Some, option_and_then}
use Rattle.std.specs.List.{list_any}
use Rattle.std.specs.Str.{bytes_eq}
use Rattle.toml.specs.Data.{Data, string, integer, array, table, Items, no_items, item, Members, no_members, member, get_member}
use Rattle.qccd_machine.specs.declared.place.Place.{Place}
use Rattle.machine_text.specs.Place.{place_named}

-- no value, a value of another form than is wanted, or the value
pub data Found (A : Type 0) : Type 0 where
  absent : Found A
  wrong : Found A
  given : (value : A) → Found A

-- some value
abbrev pub is_there : {A : Type 0} → Found A → Bool
is_there absent = false
is_there wrong = true
is_there (given value) = true

-- no value, or one of the form that is wanted
abbrev pub is_not_wrong : {A : Type 0} → Found A → Bool
is_not_wrong absent = true
is_not_wrong wrong = false
is_not_wrong (given value) = true

-- the value that is given, and another where none is
abbrev pub given_or : {A : Type 0} → A → Found A → A
given_or usual absent = usual
given_or usual wrong = usual
given_or usual (given value) = value

abbrev pub as_found : {A : Type 0} → Option A → Found A
as_found None = wrong
as_found (Some value) = given value

abbrev pub read_as : {A : Type 0} → (Data → Option A) → Option Data → Found A
read_as form None = absent
read_as form (Some value) = as_found (form value)

-- what stands under the name, where a value of this form is wanted
abbrev pub found : {A : Type 0} → (Data → Option A) → List ℕ → Members → Found A
found form name fields = read_as form (get_member name fields)

-- each field has one of these names
abbrev pub has_only : List (List ℕ) → Members → Bool
has_only names no_members = true
has_only names (member name value fields) = list_any (bytes_eq name) names && has_only names fields

-- ---- forms of values

-- a whole number from 0
abbrev pub whole_number : Data → Option ℕ
whole_number (integer (pos n)) = Some n
whole_number _ = None

-- a time in microseconds: a whole number from 0 to 4,294,967,295
abbrev pub time_number : Data → Option ℕ
time_number value =
    option_and_then (λ n. if nat_le n 4294967295 then Some n else None) (whole_number value)

-- the text of a place
abbrev pub place_in : Data → Option Place
place_in (string text) = place_named text
place_in _ = None

-- an array of tables
abbrev pub are_tables : Items → Bool
are_tables no_items = true
are_tables (item (table fields) more) = are_tables more
are_tables (item _ more) = false

abbrev pub fields_in : Data → Members
fields_in (table fields) = fields
fields_in _ = no_members

abbrev pub rows_in : Items → List Members
rows_in no_items = []
rows_in (item value more) = fields_in value ∷ rows_in more

abbrev pub tables_in : Data → Option (List Members)
tables_in (array items) = if are_tables items then Some (rows_in items) else None
tables_in _ = None
