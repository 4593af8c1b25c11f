-- The checks of a table refuse a field and nothing else.
use Rattle.std.proofs.Common.{◌≡◌, ◌≢◌, ℕ, ◌+◌, true, false, List, [], ◌∷◌, ◌++◌, Result, Ok, Err, IfErr, IsErrAnd, refl, sym, ◌∙◌, subst}
use Rattle.std.specs.Prelude.{MatchResult}
use Rattle.qccd_machine.specs.declared.fault.MachineFault.{MachineFault}
use Rattle.qccd_machine.specs.declared.fault.MachineFault.TheVariants as machine
use Rattle.qccd_machine.specs.Fault.{IsFirst}
use Rattle.qccd_machine.specs.Machine.{MachineData}
use Rattle.toml.specs.Data.{Members, no_members}
use Rattle.machine_text.specs.declared.fault.TextFault.{TextFault}
use Rattle.machine_text.specs.declared.fault.TextFault.TheVariants.{NotToml, MissingField, WrongValue, UnknownField, Machine, NoMemory}
use Rattle.machine_text.specs.Field.{given_or}
use Rattle.qccd_base.specs.FirstFailing.{IsFirstFailing}
use Rattle.machine_text.specs.Checks.{Check, row_checks, traps_in, trap_checks, all_trap_checks, segments_in, segment_checks, all_segment_checks, times_in, time_table_checks, all_time_checks, document_checks}
use Rattle.machine_text.specs.Machine.{IsDescription, IsRefusedParts, IsRefusedField, IsRefusalOf, text_fault_of}

-- the refusal is of a field
abbrev IsOfField : TextFault → Type 0
IsOfField NotToml = ⊥
IsOfField (MissingField at) = Unit {0}
IsOfField (WrongValue at) = Unit {0}
IsOfField (UnknownField at) = Unit {0}
IsOfField (Machine fault) = ⊥
IsOfField NoMemory = ⊥

abbrev AreOfFields : List Check → Type 0
AreOfFields [] = Unit {0}
AreOfFields (check ∷ more) = IsOfField check.0 × AreOfFields more

both : (front back : List Check) → AreOfFields front → AreOfFields back → AreOfFields (front ++ back)
both [] back first second = second
both (check ∷ front) back first second = (first.0, both front back first.1 second)

rows : (checks : ℕ → Members → List Check) → ((row : ℕ) (fields : Members) → AreOfFields (checks row fields)) → (row : ℕ) (tables : List Members) → AreOfFields (row_checks checks row tables)
rows checks each row [] = tt
rows checks each row (fields ∷ more) = both (checks row fields) (row_checks checks (row + 1) more) (each row fields) (rows checks each (row + 1) more)

of_trap : (row : ℕ) (fields : Members) → AreOfFields (trap_checks row fields)
of_trap row fields = (tt, (tt, (tt, tt)))

of_segment : (row : ℕ) (fields : Members) → AreOfFields (segment_checks row fields)
of_segment row fields = (tt, (tt, (tt, (tt, (tt, tt)))))

of_times : (times : Members) → AreOfFields (time_table_checks times)
of_times times = (tt, (tt, (tt, (tt, (tt, (tt, (tt, (tt, (tt, (tt, (tt, (tt, (tt, tt)))))))))))))

of_document : (fields : Members) → AreOfFields (document_checks fields)
of_document fields = (
  tt,
  (
    tt,
    both (all_trap_checks fields) (all_segment_checks fields ++ all_time_checks fields)
        (tt, (tt, rows trap_checks of_trap 0 (given_or [] (traps_in fields))))
        (both (all_segment_checks fields) (all_time_checks fields)
        (tt, rows segment_checks of_segment 0 (given_or [] (segments_in fields)))
        (tt, of_times (given_or no_members (times_in fields)))),
  ),
)

first_is : (checks : List Check) (fault : TextFault) → AreOfFields checks → IsFirstFailing checks fault → IsOfField fault
first_is [] fault fields first = cc
first_is ((other, true) ∷ more) fault fields first = first_is more fault fields.1 first
first_is ((other, false) ∷ more) fault fields first = let is : other ≡ fault = cc in subst IsOfField is fields.0

by_fault : (text : List ℕ) (fault : TextFault) → IsOfField fault → IsRefusedField text fault → IsRefusalOf text fault
by_fault text NotToml field refused = absurd field
by_fault text (MissingField at) field refused = refused
by_fault text (WrongValue at) field refused = refused
by_fault text (UnknownField at) field refused = refused
by_fault text (Machine fault) field refused = absurd field
by_fault text NoMemory field refused = absurd field

-- a text is refused for the first check of its table that fails
pub refused-field : (text : List ℕ) (fault : TextFault) → IsRefusedField text fault → IsRefusalOf text fault
refused-field text fault refused =
    by_fault text fault (first_is (document_checks refused.fields) fault (of_document refused.fields) refused.first) refused

-- parts that make no machine, as a refusal of their text
of_parts : (text : List ℕ) (fault : MachineFault) → text_fault_of fault ≢ NoMemory → (fault ≢ machine.NoMemory → IsRefusedParts text fault) → IsRefusalOf text (text_fault_of fault)
of_parts text machine.NoTrap other refused = refused (λ e. cc)
of_parts text (machine.TooMany what) other refused = refused (λ e. cc)
of_parts text (machine.Capacity t) other refused = refused (λ e. cc)
of_parts text (machine.EndTaken s) other refused = refused (λ e. cc)
of_parts text (machine.BadEnd s) other refused = refused (λ e. cc)
of_parts text (machine.SelfJoined s) other refused = refused (λ e. cc)
of_parts text (machine.JunctionDegree j) other refused = refused (λ e. cc)
of_parts text (machine.NotConnected place) other refused = refused (λ e. cc)
of_parts text (machine.TableRange field) other refused = refused (λ e. cc)
of_parts text machine.NoMemory other refused = absurd (other refl)

-- what is told where building refuses the parts
pub refused-parts : {M : Type 0} (text : List ℕ) (parts : MachineData) (built : Result M MachineFault) (told : Result M TextFault) (Told : MachineFault → TextFault → Type 0)
    → ((fault : MachineFault) (e : TextFault) → Told fault e → e ≡ text_fault_of fault) → IsDescription text parts
    → IfErr built (λ f. f ≢ machine.NoMemory → IsFirst parts f) → MatchResult built (λ x. told ≡ Ok x) (λ f. IsErrAnd told (Told f))
    → IfErr told (λ e. e ≢ NoMemory → IsRefusalOf text e)
refused-parts text parts (Ok x) (Ok y) Told means description first is = tt
refused-parts text parts (Ok x) (Err e) Told means description first is = cc
refused-parts text parts (Err fault) (Ok y) Told means description first is = absurd is
refused-parts text parts (Err fault) (Err e) Told means description first is = λ other.
    let same : e ≡ text_fault_of fault = means fault e is in
    subst (IsRefusalOf text) (sym same) (of_parts text fault (λ none. other (same ∙ none)) (λ present. record { parts = parts; description = description; first = first present }))
