-- The first check that fails, at the exits of the code and over the fields of the table of times.
use Rattle.std.proofs.Common.{◌≡◌, ℕ, suc, ◌+◌, List, ◌++◌, Option, Some, Result, Ok, Err, IsErrAnd, IfErr, sym, ap, subst}
use Rattle.std.specs.List.{flat_map, range_with_len}
use Rattle.qccd_base.proofs.FirstFailing.{first_failing-after, first_failing-at}
use Rattle.toml.specs.Data.{Data, Members, no_members}
use Rattle.qccd_base.specs.declared.times.Times.{Times}
use Rattle.machine_text.specs.declared.fault.Spot.{Spot}
use Rattle.machine_text.specs.declared.fault.TextFault.{TextFault}
use Rattle.qccd_base.specs.FirstFailing.{first_failing, NoneFails, IsFirstFailing}
use Rattle.machine_text.specs.Checks.{Check, known_checks, optional_checks, spot, time_check, time_table_checks}
use Rattle.machine_text.specs.declared.fault.Part.TheVariants.{Time}
use Rattle.machine_text.specs.Field.{Found, given, given_or, as_found, read_as}

-- what the exit of a `?` tells
pub exit : {T : Type 0} (r : Result T TextFault) (e : TextFault) (P : TextFault → Type 0) → IsErrAnd r (λ y. y ≡ e) → P e → IfErr r P
exit (Ok x) e P is holds = tt
exit (Err y) e P is holds = subst P (sym is) holds

pub known_at : (at this : Spot) (names : List (List ℕ)) (fields : Members) → at ≡ this → NoneFails (known_checks at names fields) → NoneFails (known_checks this names fields)
known_at at this names fields is none = subst (λ (s : Spot). NoneFails (known_checks s names fields)) is none

-- ---- times

-- the checks of n times, from that at a on
abbrev pub times_from : Members → ℕ → ℕ → List Check
times_from times a n = flat_map (time_check times) (range_with_len a n)

pub past : (times : Members) (a n : ℕ) → NoneFails (time_check times a) → first_failing (times_from times a (suc n)) ≡ first_failing (times_from times (a + 1) n)
past times a n none = first_failing-after (time_check times a) (times_from times (a + 1) n) none

pub here : (times : Members) (a n : ℕ) (fault : TextFault) → IsFirstFailing (time_check times a) fault → first_failing (times_from times a (suc n)) ≡ Some fault
here times a n fault first = first_failing-at (time_check times a) (times_from times (a + 1) n) fault first

-- a value of the wanted form is found
pub found_given : {A : Type 0} (form : Data → Option A) (there : Option Data) (d : Data) (a : A) → Some d ≡ there → Some a ≡ form d → read_as form there ≡ given a
found_given form there d a is value = subst (λ (o : Option Data). read_as form o ≡ given a) is (ap as_found (sym value))

-- where the table of times is given, its checks are those of the times
pub times_given :
    (found : Found Members) (times : Members) (r : Result Times TextFault) → found ≡ given times → IfErr r (IsFirstFailing (time_table_checks times))
    → IfErr r (IsFirstFailing (optional_checks (spot Time 0) found ++ time_table_checks (given_or no_members found)))
times_given found times r is refused =
    subst (λ (v : Found Members). IfErr r (IsFirstFailing (optional_checks (spot Time 0) v ++ time_table_checks (given_or no_members v)))) (sym is) refused
