-- When chains are a start: no ion is astray, none is missing, and no chain is above its capacity.
use Rattle.std.proofs.Common.{◌≡◌, ℕ, ◌+◌, ◌<◌, ◌≤◌, Bool, true, false, cond, not, ◌||◌, ◌==◌, List, [], ◌∷◌, ◌++◌, length, get_or, refl, sym, ◌∙◌, ap, subst, arith, Option, Some, None, option_map, inl, inr, append_assoc, nat_lt, if◌then◌else◌}
use Rattle.std.specs.Prelude.{count_by}
use Rattle.std.specs.Option.{option_or}
use Rattle.std.proofs.lemmas.Bool.{cases_Bool, ltb-true, lt-ltb, cases_lt, eqb-true}
use Rattle.std.proofs.lemmas.List.Folds.{list_any-append}
use Rattle.std.proofs.lemmas.List.{get_or_past}
use Rattle.std.proofs.lemmas.Bool.Decides.{eqb_tells}
use Rattle.qccd_base.specs.declared.names.Ion.{Ion}
use Rattle.qccd_base.specs.declared.names.TrapId.{TrapId}
use Rattle.qccd_machine.specs.Machine.{MachineData}
use Rattle.op_table.proofs.Counts.{count_by-cons}
use Rattle.loader.specs.Refusal.{has_ion, is_stray, stray_behind, missing_ion, bad_ion, overfull_trap, first_below}
use Rattle.loader.proofs.Firsts.{some_none, true_false, none_passes, none_found, some_counted, none_counted, count_parts}

abbrev times : ℕ → List Ion → ℕ
times i ions = count_by (λ (x : Ion). x.0 == i) ions

abbrev once : ℕ → ℕ → ℕ
once qubits i = if nat_lt i qubits then 1 else 0

-- how often an ion may stand behind others
abbrev room : ℕ → List Ion → ℕ → ℕ
room qubits earlier i = if has_ion earlier i then 0 else once qubits i

not_stray : (qubits : ℕ) (earlier : List Ion) (x : Ion) → is_stray qubits earlier x ≡ false → (nat_lt x.0 qubits ≡ true) × (has_ion earlier x.0 ≡ false)
not_stray qubits earlier x e = by_tests (nat_lt x.0 qubits) (has_ion earlier x.0) e
  where
    by_tests : (a b : Bool) → (not a || b) ≡ false → (a ≡ true) × (b ≡ false)
    by_tests true true e = absurd cc
    by_tests true false e = (refl, refl)
    by_tests false b e = absurd cc

pub has_more : (earlier : List Ion) (x : Ion) (i : ℕ) → has_ion (earlier ++ x ∷ []) i ≡ (has_ion earlier i || (x.0 == i))
has_more earlier x i = list_any-append (λ (y : Ion). y.0 == i) earlier (x ∷ []) ∙ ap (λ b. has_ion earlier i || b) (or_none (x.0 == i))
  where
    or_none : (b : Bool) → (b || false) ≡ b
    or_none true = refl
    or_none false = refl

one_if : (b : Bool) → b ≡ true → ◌≡◌ {A = ℕ} (if b then 1 else 0) 1
one_if true e = refl
one_if false e = absurd (true_false (sym e))

none_if : (b : Bool) → b ≡ false → ◌≡◌ {A = ℕ} (if b then 1 else 0) 0
none_if true e = absurd (true_false e)
none_if false e = refl

counted_here : (b h : Bool) (n o c : ℕ) → n ≤ (if h || b then 0 else o) → c ≡ cond b 1 0 + n → (b ≡ true → (h ≡ false) × (o ≡ 1)) → c ≤ (if h then 0 else o)
counted_here true true n o c few is own = absurd (true_false (own refl).0)
counted_here true false n o c few is own = let one = (own refl).1 in omega (arith, few, is, one)
counted_here false true n o c few is own = omega (arith, few, is)
counted_here false false n o c few is own = omega (arith, few, is)

own_room : (qubits : ℕ) (earlier : List Ion) (x : Ion) (i : ℕ) → is_stray qubits earlier x ≡ false → (x.0 == i) ≡ true → (has_ion earlier i ≡ false) × (once qubits i ≡ 1)
own_room qubits earlier x i ok same =
    let at : x.0 ≡ i = eqb-true x.0 i same in
    let parts = not_stray qubits earlier x ok in
    (subst (λ (n : ℕ). has_ion earlier n ≡ false) at parts.1, one_if (nat_lt i qubits) (subst (λ (n : ℕ). nat_lt n qubits ≡ true) at parts.0))

-- where no ion is astray, each stands as often as it may at most
within_room : (qubits : ℕ) (earlier ions : List Ion) → stray_behind qubits earlier ions ≡ None → (i : ℕ) → times i ions ≤ room qubits earlier i
within_room qubits earlier [] none i = omega arith
within_room qubits earlier (x ∷ ions) none i = elim (cases_Bool (is_stray qubits earlier x)) [
  | inl stray ↦ absurd (some_none (rw stray at none))
  | inr ok ↦
      let rest : times i ions ≤ room qubits (earlier ++ x ∷ []) i = within_room qubits (earlier ++ x ∷ []) ions (rw ok at none) i in
      counted_here (x.0 == i) (has_ion earlier i) (times i ions) (once qubits i) (times i (x ∷ ions))
      (subst (λ (b : Bool). times i ions ≤ (if b then 0 else once qubits i)) (has_more earlier x i) rest) (count_by-cons (λ (y : Ion). y.0 == i) x ions) (own_room qubits earlier x i ok)
]

double : (b : Bool) → not b ≡ false → b ≡ true
double true e = refl
double false e = absurd (true_false e)

parts_none : (a b : Option Ion) → option_or a b ≡ None → (a ≡ None) × (b ≡ None)
parts_none None b e = (refl, e)
parts_none (Some x) b e = absurd (some_none e)

ion_none : (o : Option ℕ) → option_map {U = Ion} (λ n. record { 0 = n }) o ≡ None → o ≡ None
ion_none None e = refl
ion_none (Some n) e = absurd (some_none e)

-- where none is missing either, each stands as often as it has to
pub counted : (qubits : ℕ) (ions : List Ion) → bad_ion qubits ions ≡ None → (i : ℕ) → times i ions ≡ once qubits i
counted qubits ions none i =
    let both = parts_none (stray_behind qubits [] ions) (missing_ion qubits ions) none in
    let most : times i ions ≤ once qubits i = within_room qubits [] ions both.0 i in
    elim (cases_Bool (nat_lt i qubits)) [
      | inl below ↦
          let there : not (has_ion ions i) ≡ false = none_found (λ k. not (has_ion ions k)) 0 qubits (ion_none (first_below (λ k. not (has_ion ions k)) qubits) both.1) i (omega arith) (omega (arith, ltb-true i qubits below)) in
          let one : once qubits i ≡ 1 = one_if (nat_lt i qubits) below in
          let some : 1 ≤ times i ions = some_counted (λ (x : Ion). x.0 == i) ions (double (has_ion ions i) there) in
          omega (arith, most, one, some)
      | inr past ↦
          let none_once : once qubits i ≡ 0 = none_if (nat_lt i qubits) past in
          omega (arith, most, none_once)
    ]

-- ---- and back

twice_none : (qubits : ℕ) (earlier ions : List Ion) → ((i : ℕ) → times i (earlier ++ ions) ≤ once qubits i) → stray_behind qubits earlier ions ≡ None
twice_none qubits earlier [] few = refl
twice_none qubits earlier (x ∷ ions) few =
    rw (stands_well) (twice_none qubits (earlier ++ x ∷ []) ions (λ i. subst (λ (xs : List Ion). times i xs ≤ once qubits i) (sym (append_assoc earlier (x ∷ []) ions)) (few i)))
  where
    total : times x.0 (earlier ++ x ∷ ions) ≡ times x.0 earlier + (1 + times x.0 ions)
    total =
        let here : (x.0 == x.0) ≡ true = elim (eqb_tells x.0 x.0) [ inl is ↦ is.0 | inr other ↦ absurd (other.1 refl) ] in
        count_parts (λ (y : Ion). y.0 == x.0) earlier (x ∷ ions) ∙ ap (λ n. times x.0 earlier + n) (count_by-cons (λ (y : Ion). y.0 == x.0) x ions ∙ ap (λ (b : Bool). ◌+◌ (cond {A = ℕ} b 1 0) (times x.0 ions)) here)

    below : nat_lt x.0 qubits ≡ true
    below = elim (cases_Bool (nat_lt x.0 qubits)) [
      | inl yes_below ↦ yes_below
      | inr past ↦ let none : once qubits x.0 ≡ 0 = none_if (nat_lt x.0 qubits) past in absurd (omega (arith, few x.0, total, none))
    ]

    not_earlier : has_ion earlier x.0 ≡ false
    not_earlier = elim (cases_Bool (has_ion earlier x.0)) [
      | inl there ↦
          let one : 1 ≤ times x.0 earlier = some_counted (λ (y : Ion). y.0 == x.0) earlier there in
          let most : once qubits x.0 ≡ 1 = one_if (nat_lt x.0 qubits) below in
          absurd (omega (arith, few x.0, total, one, most))
      | inr absent ↦ absent
    ]

    stands_well : is_stray qubits earlier x ≡ false
    stands_well = ap (λ (b : Bool). not b || has_ion earlier x.0) below ∙ not_earlier

all_there : (qubits : ℕ) (ions : List Ion) → ((i : ℕ) → times i ions ≡ once qubits i) → missing_ion qubits ions ≡ None
all_there qubits ions is =
    ap (option_map {U = Ion} (λ n. record { 0 = n })) (none_passes (λ k. not (has_ion ions k)) 0 qubits (λ i low high. there i high))
  where
    there : (i : ℕ) → i < 0 + qubits → not (has_ion ions i) ≡ false
    there i high = elim (cases_Bool (has_ion ions i)) [
      | inl h ↦ ap not h
      | inr absent ↦
          let none : times i ions ≡ 0 = none_counted (λ (x : Ion). x.0 == i) ions absent in
          let one : once qubits i ≡ 1 = one_if (nat_lt i qubits) (lt-ltb i qubits (omega (arith, high))) in
          absurd (omega (arith, none, one, is i))
    ]

pub none_bad : (qubits : ℕ) (ions : List Ion) → ((i : ℕ) → times i ions ≡ once qubits i) → bad_ion qubits ions ≡ None
none_bad qubits ions is =
    ap (λ o. option_or o (missing_ion qubits ions)) (twice_none qubits [] ions (λ i. omega (arith, is i))) ∙ all_there qubits ions is

-- ---- capacities

trap_none : (o : Option ℕ) → option_map {U = TrapId} (λ n. record { 0 = n }) o ≡ None → o ≡ None
trap_none None e = refl
trap_none (Some n) e = absurd (some_none e)

le_from : (a b : ℕ) → nat_lt a b ≡ false → b ≤ a
le_from a b other = elim (cases_lt a b) [ inl lt ↦ absurd (true_false (sym (lt-ltb a b lt) ∙ other)) | inr le ↦ le ]

pub from_le : (a b : ℕ) → b ≤ a → nat_lt a b ≡ false
from_le a b le = elim (cases_Bool (nat_lt a b)) [ inl lt ↦ absurd (omega (arith, le, ltb-true a b lt)) | inr other ↦ other ]

pub fits_all : (m : MachineData) (chains : List (List Ion)) → overfull_trap m chains ≡ None → (t : ℕ) → length (get_or chains t []) ≤ get_or m.capacities t 0
fits_all m chains none t = elim (cases_lt t (length chains)) [
  | inl within ↦
      le_from (get_or m.capacities t 0) (length (get_or chains t []))
      (none_found (λ k. nat_lt (get_or m.capacities k 0) (length (get_or chains k []))) 0 (length chains) (trap_none (first_below (λ k. nat_lt (get_or m.capacities k 0) (length (get_or chains k []))) (length chains)) none) t (omega arith) (omega (arith, within)))
  | inr past ↦ subst (λ (chain : List Ion). length chain ≤ get_or m.capacities t 0) (sym (get_or_past chains t [] past)) (omega arith)
]

pub none_overfull : (m : MachineData) (chains : List (List Ion)) → ((t : ℕ) → length (get_or chains t []) ≤ get_or m.capacities t 0) → overfull_trap m chains ≡ None
none_overfull m chains fits =
    ap (option_map {U = TrapId} (λ n. record { 0 = n })) (none_passes (λ k. nat_lt (get_or m.capacities k 0) (length (get_or chains k []))) 0 (length chains) (λ t low high. from_le (get_or m.capacities t 0) (length (get_or chains t [])) (fits t)))
