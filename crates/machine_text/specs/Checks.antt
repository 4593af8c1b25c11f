-- What has to hold of the table of a machine's file, in the order in which it is looked at.
use Rattle.std.specs.Prelude.{◌≢◌, ℕ, ◌+◌, Bool, List, [], ◌∷◌, ◌++◌, codes, flat_map}
use Rattle.std.specs.List.{range_with_len}
use Rattle.toml.specs.Data.{Members, no_members, as_table}
use Rattle.qccd_base.specs.FirstFailing.{IsFirstFailing}
use Rattle.qccd_machine.specs.TimeName.{time_names, time_name_of}
use Rattle.qccd_machine.specs.declared.place.Place.{Place}
use Rattle.machine_text.specs.declared.fault.Part.{Part}
use Rattle.machine_text.specs.declared.fault.Part.TheVariants.{Top, Junctions, Trap, Capacity, Segment, EndA, EndB, Time, TimeField}
use Rattle.machine_text.specs.declared.fault.Spot.{Spot}
use Rattle.machine_text.specs.declared.fault.TextFault.{TextFault}
use Rattle.machine_text.specs.declared.fault.TextFault.TheVariants.{MissingField, WrongValue, UnknownField, NoMemory}
use Rattle.machine_text.specs.Field.{Found, found, is_there, is_not_wrong, given_or, has_only, whole_number, time_number, place_in, tables_in}

-- a check: the refusal, and the test that has to pass
abbrev pub Check : Type 0
Check = TextFault × Bool

-- the refusal of the first check that fails, unless memory ran out, of which nothing is said
abbrev pub IsFirstOrNoMemory : List Check → TextFault → Type 0
IsFirstOrNoMemory checks fault = fault ≢ NoMemory → IsFirstFailing checks fault

abbrev pub spot : Part → ℕ → Spot
spot part row = record { part = part; row = row }

-- of a table: it has no field of another name
abbrev pub known_checks : Spot → List (List ℕ) → Members → List Check
known_checks at names fields = (UnknownField at, has_only names fields) ∷ []

-- of a field that may be absent
abbrev pub optional_checks : {A : Type 0} → Spot → Found A → List Check
optional_checks at value = (WrongValue at, is_not_wrong value) ∷ []

-- of a field that has to be there
abbrev pub required_checks : {A : Type 0} → Spot → Found A → List Check
required_checks at value = (MissingField at, is_there value) ∷ (WrongValue at, is_not_wrong value) ∷ []

-- of the tables of an array, one after another
abbrev pub row_checks : (ℕ → Members → List Check) → ℕ → List Members → List Check
row_checks checks row [] = []
row_checks checks row (fields ∷ more) = checks row fields ++ row_checks checks (row + 1) more

-- ---- traps

abbrev pub capacity_in : Members → Found ℕ
capacity_in trap = found whole_number (codes "capacity") trap

abbrev pub trap_names : List (List ℕ)
trap_names = codes "capacity" ∷ []

abbrev pub trap_checks : ℕ → Members → List Check
trap_checks row trap =
    known_checks (spot Trap row) trap_names trap
    ++ required_checks (spot Capacity row) (capacity_in trap)

abbrev pub traps_in : Members → Found (List Members)
traps_in fields = found tables_in (codes "trap") fields

-- their tables
abbrev pub trap_rows : Members → List Members
trap_rows fields = given_or [] (traps_in fields)

abbrev pub all_trap_checks : Members → List Check
all_trap_checks fields =
    required_checks (spot Trap 0) (traps_in fields) ++ row_checks trap_checks 0 (trap_rows fields)

-- ---- segments

abbrev pub end_a_in : Members → Found Place
end_a_in segment = found place_in (codes "a") segment

abbrev pub end_b_in : Members → Found Place
end_b_in segment = found place_in (codes "b") segment

-- what stands under the names of the two ends
abbrev pub ends_in : Members → Found Place × Found Place
ends_in segment = (end_a_in segment, end_b_in segment)

abbrev pub segment_names : List (List ℕ)
segment_names = codes "a" ∷ codes "b" ∷ []

abbrev pub segment_checks : ℕ → Members → List Check
segment_checks row segment =
    known_checks (spot Segment row) segment_names segment
    ++ (required_checks (spot EndA row) (end_a_in segment)
    ++ required_checks (spot EndB row) (end_b_in segment))

abbrev pub segments_in : Members → Found (List Members)
segments_in fields = found tables_in (codes "segment") fields

-- their tables, none where nothing is said of segments
abbrev pub segment_rows : Members → List Members
segment_rows fields = given_or [] (segments_in fields)

abbrev pub all_segment_checks : Members → List Check
all_segment_checks fields =
    optional_checks (spot Segment 0) (segments_in fields)
    ++ row_checks segment_checks 0 (segment_rows fields)

-- ---- times

-- the time at this place among the fields of `Times`
abbrev pub time_in : ℕ → Members → Found ℕ
time_in field times = found time_number (time_name_of field) times

abbrev pub time_check : Members → ℕ → List Check
time_check times field = optional_checks (spot (TimeField field) 0) (time_in field times)

abbrev pub time_table_checks : Members → List Check
time_table_checks times =
    known_checks (spot Time 0) time_names times ++ flat_map (time_check times) (range_with_len 0 12)

abbrev pub times_in : Members → Found Members
times_in fields = found as_table (codes "time") fields

-- their table, with no field where nothing is said of times
abbrev pub time_table : Members → Members
time_table fields = given_or no_members (times_in fields)

abbrev pub all_time_checks : Members → List Check
all_time_checks fields =
    optional_checks (spot Time 0) (times_in fields) ++ time_table_checks (time_table fields)

-- ---- the document

abbrev pub junctions_in : Members → Found ℕ
junctions_in fields = found whole_number (codes "junctions") fields

abbrev pub junction_checks : Members → List Check
junction_checks fields = optional_checks (spot Junctions 0) (junctions_in fields)

abbrev pub document_names : List (List ℕ)
document_names = codes "junctions" ∷ codes "trap" ∷ codes "segment" ∷ codes "time" ∷ []

abbrev pub document_checks : Members → List Check
document_checks fields =
    known_checks (spot Top 0) document_names fields
    ++ (junction_checks fields
    ++ (all_trap_checks fields ++ (all_segment_checks fields ++ all_time_checks fields)))
