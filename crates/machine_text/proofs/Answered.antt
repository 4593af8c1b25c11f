-- A text has one answer: it is that of a machine or is refused, and never both.
use Rattle.std.proofs.Common.{◌≡◌, ℕ, ◌+◌, ◌⊎◌, inl, inr, List, [], ◌∷◌, ◌++◌, map, Option, Some, None, IsUtf8, refl, sym, ap, subst, ◌∙◌}
use Rattle.std.specs.Str.{is_utf8}
use Rattle.std.proofs.lemmas.Bool.{cases_Bool, false≢true}
use Rattle.std.proofs.lemmas.Option.{same_Some, none-some}
use Rattle.std.proofs.lemmas.Str.{IsUtf8-from_is_utf8, is_utf8-from_IsUtf8}
use Rattle.toml.specs.Data.{Members, no_members}
use Rattle.toml.specs.Parse.{parse_document}
use Rattle.qccd_base.specs.declared.times.Times.{Times}
use Rattle.qccd_base.proofs.FirstFailing.{first_failing-split, one_first_failing}
use Rattle.qccd_machine.specs.declared.fault.MachineFault.{MachineFault}
use Rattle.qccd_machine.specs.declared.place.Place.{Place}
use Rattle.qccd_machine.specs.Machine.{MachineData, machine_data}
use Rattle.qccd_machine.specs.Fault.{IsFirst}
use Rattle.qccd_machine.proofs.Every.{every_parts}
use Rattle.qccd_machine.proofs.Sound.{none_applies, one_first}
use Rattle.machine_text.specs.declared.fault.TextFault.{TextFault}
use Rattle.machine_text.specs.declared.fault.TextFault.TheVariants.{NotToml, MissingField, WrongValue, UnknownField, Machine, NoMemory}
use Rattle.machine_text.specs.declared.fault.Spot.{Spot}
use Rattle.machine_text.specs.declared.fault.Part.TheVariants.{Top, Trap, Segment, Capacity, EndA, EndB, Junctions}
use Rattle.machine_text.specs.Field.{Found, absent, wrong, given, given_or}
use Rattle.qccd_base.specs.FirstFailing.{first_failing, NoneFails, IsFirstFailing}
use Rattle.machine_text.specs.Checks.{spot, known_checks, optional_checks, required_checks, row_checks, trap_names, segment_names, document_names, capacity_in, traps_in, trap_checks, all_trap_checks, end_a_in, end_b_in, ends_in, segments_in, segment_checks, all_segment_checks, times_in, all_time_checks, junctions_in, document_checks}
use Rattle.machine_text.specs.Machine.{IsTableOf, Describes, IsDescription, IsMachineOf, IsRefusedParts, IsRefusedField, IsRefusalOf, given_ends, described_times}
use Rattle.machine_text.proofs.Refusals.{refused-field}

-- ---- one answer at most

one_table : (text : List ℕ) (fields others : Members) → IsTableOf text fields → IsTableOf text others → fields ≡ others
one_table text fields others first second = same_Some fields others (sym first.1 ∙ second.1)

given-injective : {A : Type 0} (x y : A) → given x ≡ given y → x ≡ y
given-injective x y same = ap (given_or x) same

map-injective : {A B : Type 0} (f : A → B) → ((x y : A) → f x ≡ f y → x ≡ y) → (xs ys : List A) → map f xs ≡ map f ys → xs ≡ ys
map-injective f one [] [] same = refl
map-injective f one [] (y ∷ ys) same = cc
map-injective f one (x ∷ xs) [] same = cc
map-injective f one (x ∷ xs) (y ∷ ys) same =
    let heads : f x ≡ f y = cc in
    let tails : map f xs ≡ map f ys = cc in
    let first = one x y heads in
    let rest = map-injective f one xs ys tails in cc

given_ends-injective : (x y : Place × Place) → given_ends x ≡ given_ends y → x ≡ y
given_ends-injective x y same = ap (λ (e : Found Place × Found Place). (given_or x.0 e.0, given_or x.1 e.1)) same

one_description : (fields : Members) (m n : MachineData) → Describes fields m → Describes fields n → m ≡ n
one_description fields m n first second =
    let capacities = map-injective given given-injective m.capacities n.capacities (sym first.capacities ∙ second.capacities) in
    let segments = map-injective given_ends given_ends-injective m.segments n.segments (sym first.segments ∙ second.segments) in
    let junctions = sym first.junctions ∙ second.junctions in
    let times = sym first.times ∙ second.times in
    ap (λ (cs : List ℕ). machine_data cs m.junctions m.segments m.times) capacities
    ∙ ap (λ (n' : ℕ). machine_data n.capacities n' m.segments m.times) junctions
    ∙ ap (λ (es : List (Place × Place)). machine_data n.capacities n.junctions es m.times) segments
    ∙ ap (λ (ts : Times). machine_data n.capacities n.junctions n.segments ts) times

pub one_parts : (text : List ℕ) (m n : MachineData) → IsDescription text m → IsDescription text n → m ≡ n
one_parts text m n first second =
    one_description first.fields m n first.describes
    (subst (λ (f : Members). Describes f n) (one_table text second.fields first.fields second.is_table first.is_table) second.describes)

one_field : (text : List ℕ) (fault other : TextFault) → IsRefusedField text fault → IsRefusedField text other → fault ≡ other
one_field text fault other first second =
    one_first_failing (document_checks first.fields) fault other first.first
    (subst (λ (f : Members). IsFirstFailing (document_checks f) other) (one_table text second.fields first.fields second.is_table first.is_table) second.first)

-- a text with a description is refused for no field
no_field : (text : List ℕ) (parts : MachineData) (fault : TextFault) → IsDescription text parts → IsRefusedField text fault → ⊥
no_field text parts fault description refused =
    none-some fault (sym description.none_wrong
    ∙ subst (λ (f : Members). IsFirstFailing (document_checks f) fault) (one_table text refused.fields description.fields refused.is_table description.is_table) refused.first)

-- a refusal is that of a text that is no TOML, of a field, or of parts
abbrev Kinds : List ℕ → TextFault → Type 0
Kinds text fault = ((fault ≡ NotToml) × IsRefusalOf text NotToml)
    ⊎ (IsRefusedField text fault ⊎ ((parts : MachineFault) × (fault ≡ Machine parts) × IsRefusedParts text parts))

kinds_of : (text : List ℕ) (fault : TextFault) → IsRefusalOf text fault → Kinds text fault
kinds_of text NotToml refused = inl (refl, refused)
kinds_of text (MissingField at) refused = inr (inl refused)
kinds_of text (WrongValue at) refused = inr (inl refused)
kinds_of text (UnknownField at) refused = inr (inl refused)
kinds_of text (Machine fault) refused = inr (inr (fault, refl, refused))
kinds_of text NoMemory refused = absurd refused

one_kind : (text : List ℕ) (fault other : TextFault) → Kinds text fault → Kinds text other → fault ≡ other
one_kind text fault other (inl (is, none)) (inl (is', none')) = is ∙ sym is'
one_kind text fault other (inl (is, none)) (inr (inl field)) = absurd (none field.fields field.is_table)
one_kind text fault other (inl (is, none)) (inr (inr (parts, is', refused))) = absurd (none refused.description.fields refused.description.is_table)
one_kind text fault other (inr (inl field)) (inl (is, none)) = absurd (none field.fields field.is_table)
one_kind text fault other (inr (inl field)) (inr (inl field')) = one_field text fault other field field'
one_kind text fault other (inr (inl field)) (inr (inr (parts, is, refused))) = absurd (no_field text refused.parts fault refused.description field)
one_kind text fault other (inr (inr (parts, is, refused))) (inl (is', none)) = absurd (none refused.description.fields refused.description.is_table)
one_kind text fault other (inr (inr (parts, is, refused))) (inr (inl field)) = absurd (no_field text refused.parts other refused.description field)
one_kind text fault other (inr (inr (parts, is, refused))) (inr (inr (parts', is', refused'))) =
    is
    ∙ ap (λ (f : MachineFault). Machine f)
    (one_first refused.parts parts parts' refused.first
    (subst (λ (p : MachineData). IsFirst p parts') (one_parts text refused'.parts refused.parts refused'.description refused.description) refused'.first))
    ∙ sym is'

pub one_refusal : (text : List ℕ) (fault other : TextFault) → IsRefusalOf text fault → IsRefusalOf text other → fault ≡ other
one_refusal text fault other first second = one_kind text fault other (kinds_of text fault first) (kinds_of text other second)

pub not_both : (text : List ℕ) (m : MachineData) (fault : TextFault) → IsMachineOf text m → IsRefusalOf text fault → ⊥
not_both text m NotToml machine refused = refused machine.description.fields machine.description.is_table
not_both text m (MissingField at) machine refused = no_field text m (MissingField at) machine.description refused
not_both text m (WrongValue at) machine refused = no_field text m (WrongValue at) machine.description refused
not_both text m (UnknownField at) machine refused = no_field text m (UnknownField at) machine.description refused
not_both text m (Machine fault) machine refused =
    none_applies m fault machine.valid
    (subst (λ (p : MachineData). IsFirst p fault) (one_parts text refused.parts m refused.description machine.description) refused.first).applies
not_both text m NoMemory machine refused = refused

-- ---- a table in which nothing is wrong describes some parts

required_given : {A : Type 0} (at : Spot) (value : Found A) → NoneFails (required_checks at value) → (x : A) × (value ≡ given x)
required_given at absent none = cc
required_given at wrong none = cc
required_given at (given x) none = (x, refl)

capacities_given : (row : ℕ) (traps : List Members) → NoneFails (row_checks trap_checks row traps) → (cs : List ℕ) × (map capacity_in traps ≡ map given cs)
capacities_given row [] none = ([], refl)
capacities_given row (trap ∷ more) none =
    let both = first_failing-split (trap_checks row trap) (row_checks trap_checks (row + 1) more) none in
    let own = first_failing-split (known_checks (spot Trap row) trap_names trap) (required_checks (spot Capacity row) (capacity_in trap)) both.0 in
    let (c, is) = required_given (spot Capacity row) (capacity_in trap) own.1 in
    let (cs, are) = capacities_given (row + 1) more both.1 in
    (c ∷ cs, ap (λ (f : Found ℕ). f ∷ map capacity_in more) is ∙ ap (λ (fs : List (Found ℕ)). given c ∷ fs) are)

ends_given : (row : ℕ) (segments : List Members) → NoneFails (row_checks segment_checks row segments)
    → (es : List (Place × Place)) × (map ends_in segments ≡ map given_ends es)
ends_given row [] none = ([], refl)
ends_given row (segment ∷ more) none =
    let both = first_failing-split (segment_checks row segment) (row_checks segment_checks (row + 1) more) none in
    let first = required_checks (spot EndA row) (end_a_in segment) in
    let second = required_checks (spot EndB row) (end_b_in segment) in
    let own = first_failing-split (known_checks (spot Segment row) segment_names segment) (first ++ second) both.0 in
    let ends = first_failing-split first second own.1 in
    let (a, is) = required_given (spot EndA row) (end_a_in segment) ends.0 in
    let (b, is') = required_given (spot EndB row) (end_b_in segment) ends.1 in
    let (es, are) = ends_given (row + 1) more both.1 in (
      (a, b) ∷ es,
      ap (λ (f : Found Place). (f, end_b_in segment) ∷ map ends_in more) is
          ∙ ap (λ (f : Found Place). (given a, f) ∷ map ends_in more) is'
          ∙ ap (λ (fs : List (Found Place × Found Place)). (given a, given b) ∷ fs) are,
    )

described : (fields : Members) → NoneFails (document_checks fields) → (m : MachineData) × Describes fields m
described fields none =
    let first = optional_checks (spot Junctions 0) (junctions_in fields) in
    let traps = all_trap_checks fields in
    let segments = all_segment_checks fields in
    let times = all_time_checks fields in
    let after_known = first_failing-split (known_checks (spot Top 0) document_names fields) (first ++ (traps ++ (segments ++ times))) none in
    let after_junctions = first_failing-split first (traps ++ (segments ++ times)) after_known.1 in
    let after_traps = first_failing-split traps (segments ++ times) after_junctions.1 in
    let after_segments = first_failing-split segments times after_traps.1 in
    let trap_rows = first_failing-split (required_checks (spot Trap 0) (traps_in fields)) (row_checks trap_checks 0 (given_or [] (traps_in fields))) after_traps.0 in
    let segment_rows = first_failing-split (optional_checks (spot Segment 0) (segments_in fields)) (row_checks segment_checks 0 (given_or [] (segments_in fields))) after_segments.0 in
    let (cs, capacities) = capacities_given 0 (given_or [] (traps_in fields)) trap_rows.1 in
    let (es, ends) = ends_given 0 (given_or [] (segments_in fields)) segment_rows.1 in (
      machine_data cs (given_or 0 (junctions_in fields)) es (described_times (given_or no_members (times_in fields))),
      record { capacities = capacities; junctions = refl; segments = ends; times = refl },
    )

-- ---- what a text is

abbrev Answered : List ℕ → Type 0
Answered text = IsRefusalOf text NotToml ⊎ (((fault : TextFault) × IsRefusedField text fault) ⊎ ((parts : MachineData) × IsDescription text parts))

of_table : (text : List ℕ) (fields : Members) → IsTableOf text fields → (first : Option TextFault) → first_failing (document_checks fields) ≡ first → Answered text
of_table text fields is_table (Some fault) is = inr (inl (fault, record { fields = fields; is_table = is_table; first = is }))
of_table text fields is_table None is =
    let (parts, describes) = described fields is in
    inr (inr (parts, record { fields = fields; is_table = is_table; none_wrong = is; describes = describes }))

of_characters : (text : List ℕ) → IsUtf8 text → (there : Option Members) → parse_document text ≡ there → Answered text
of_characters text characters None is = inl (λ fields is_table. none-some fields (sym is ∙ is_table.1))
of_characters text characters (Some fields) is = of_table text fields (characters, is) (first_failing (document_checks fields)) refl

answered : (text : List ℕ) → Answered text
answered text = elim (cases_Bool (is_utf8 text)) [
  | inl characters ↦ of_characters text (IsUtf8-from_is_utf8 text characters) (parse_document text) refl
  | inr other ↦ inl (λ fields is_table. false≢true (sym other ∙ is_utf8-from_IsUtf8 text is_table.0))
]

-- the parts that it describes are valid or have a first fault
of_description : (text : List ℕ) (parts : MachineData) → IsDescription text parts → ((m : MachineData) × IsMachineOf text m) ⊎ ((fault : TextFault) × IsRefusalOf text fault)
of_description text parts description = elim (every_parts parts) [
  | inl valid ↦ inl (parts, record { description = description; valid = valid })
  | inr (fault, first) ↦ inr (Machine fault, record { parts = parts; description = description; first = first })
]

pub every_text : (text : List ℕ) → ((m : MachineData) × IsMachineOf text m) ⊎ ((fault : TextFault) × IsRefusalOf text fault)
every_text text = elim (answered text) [
  | inl no_toml ↦ inr (NotToml, no_toml)
  | inr table ↦ elim table [
    | inl (fault, refused) ↦ inr (fault, refused-field text fault refused)
    | inr (parts, description) ↦ of_description text parts description
  ]
]
