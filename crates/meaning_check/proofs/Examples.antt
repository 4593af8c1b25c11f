-- The programs of the examples are legal, and their verdicts.
use Rattle.std.proofs.Common.{◌≡◌, ◌≢◌, ◌≤◌, ◌<◌, ℕ, zero, suc, Bool, true, false, cond, eqb, not, ◌&&◌, if◌then◌else◌, nat_lt, get_or, List, [], ◌∷◌, length, Option, Some, None, refl, sym, ap, arith, ◌∙◌, inl, inr}
use Rattle.std.specs.Prelude.{codes, count_by, flat_map, ◌==◌}
use Rattle.std.specs.List.{AllByRecursion}
use Rattle.std.proofs.lemmas.Option.{none-some}
use Rattle.std.proofs.lemmas.Bool.{cases_eq, eq-eqb, ne_eqb, le-ltb, and_parts, not-true}
use Rattle.qccd_base.specs.declared.names.Qubit.{Qubit}
use Rattle.qccd_circuit.specs.Item.{Fits, IsGateName, ItemData}
use Rattle.qccd_circuit.specs.Example.{h_on, cx_on}
use Rattle.qccd_machine.specs.Preset.{single}
use Rattle.op_table.specs.declared.kinds.OpKind.{OpKind}
use Rattle.op_table.specs.Op.{IsOp, KeepsItemRule}
use Rattle.op_table.specs.Run.{IsRun, items_in}
use Rattle.op_table.specs.Start.{IsStart}
use Rattle.op_table.proofs.Counts.{count_by-cons}
use Rattle.qccd_program.specs.Program.{opening_of}
use Rattle.qccd_program.specs.Legal.{IsLegalProgram}
use Rattle.qccd_program.proofs.Modes.{without_mode}
use Rattle.meaning_check.specs.Verdict.{has_number, HasEach, IsVerdict}
use Rattle.meaning_check.specs.declared.verdict.Verdict.TheVariants.{Differs, Order}
use Rattle.meaning_check.specs.Example.{at, four_gates, in_one_trap, in_order, other_qubit, out_of_order, two_missing, two_others}
use Rattle.meaning_check.proofs.Overtakes.{found_front}

-- ---- the start

not_this : (k n : ℕ) → k < n → cond {A = ℕ} (k == n) 1 0 ≡ 0
not_this k n less = ap (λ (b : Bool). cond {A = ℕ} b 1 0) (ne_eqb k n (λ same. omega (arith, same, less)))

not_below : (k n : ℕ) → n ≤ k → cond {A = ℕ} (nat_lt k n) 1 0 ≡ 0
not_below k n past = ap (λ (b : Bool). cond {A = ℕ} b 1 0) (le-ltb k n past)

starts : (ops : List OpKind) → IsStart (single 4) 2 (in_one_trap ops).start
starts ops = record { chains = refl; capacities = within; once = one }
  where
    within : (t : ℕ) → length (get_or (in_one_trap ops).start t []) ≤ get_or (single 4).capacities t 0
    within zero = omega arith
    within (suc t) = omega arith

    one : (i : ℕ) → count_by (λ x. x.0 == i) (flat_map (λ chain. chain) (in_one_trap ops).start) ≡ (if nat_lt i 2 then 1 else 0)
    one zero = refl
    one (suc zero) = refl
    one (suc (suc i)) = let n : ℕ = suc (suc i) in omega (arith, not_this 0 n (omega arith), not_this 1 n (omega arith), not_below n 2 (omega arith))

-- ---- the items

other_length : (xs ys : List ℕ) → length xs ≢ length ys → xs ≢ ys
other_length xs ys apart same = apart (ap (λ (zs : List ℕ). length zs) same)

gate_name : (name : List ℕ) → length name ≤ 2 → IsGateName name
gate_name name short =
    (other_length name (codes "measure") (λ e. omega (arith, e, short)), other_length name (codes "reset") (λ e. omega (arith, e, short)), other_length name (codes "barrier") (λ e. omega (arith, e, short)))

pub cx_fits : Fits (cx_on 0 1)
cx_fits = record { name = (refl, omega arith); angles = (refl, omega arith); cond = tt; distinct = refl; kind = (refl, refl, gate_name (codes "cx") (omega arith)) }

pub h_fits : (q : ℕ) → Fits (h_on q)
h_fits q = record { name = (refl, omega arith); angles = (refl, omega arith); cond = tt; distinct = refl; kind = (refl, refl, gate_name (codes "h") (omega arith)) }

-- ---- each number once

abbrev pub no_number_twice : List (ℕ × ItemData) → Bool
no_number_twice [] = true
no_number_twice (e ∷ list) = not (has_number list e.0) && no_number_twice list

none_of : (list : List (ℕ × ItemData)) (n : ℕ) → has_number list n ≡ false → count_by (λ e. e.0 == n) list ≡ 0
none_of [] n none = refl
none_of (e ∷ list) n none = elim (cases_eq e.0 n) [
  | inl same ↦ absurd (let here : has_number (e ∷ list) n ≡ true = rw (eq-eqb e.0 n same) refl in cc)
  | inr apart ↦
      let fails : eqb e.0 n ≡ false = ne_eqb e.0 n apart in
      let here : cond {A = ℕ} (eqb e.0 n) 1 0 ≡ 0 = ap (λ (b : Bool). cond {A = ℕ} b 1 0) fails in
      omega (arith, count_by-cons (λ (x : ℕ × ItemData). x.0 == n) e list, here, none_of list n (rw fails at none))
]

once_each : (list : List (ℕ × ItemData)) → no_number_twice list ≡ true → (n : ℕ) → count_by (λ e. e.0 == n) list ≤ 1
once_each [] once n = omega arith
once_each (e ∷ list) once n =
    let parts = and_parts (not (has_number list e.0)) (no_number_twice list) once in
    elim (cases_eq e.0 n) [
      | inl same ↦
          let none : has_number list n ≡ false = ap (λ (m : ℕ). has_number list m) (sym same) ∙ not-true (has_number list e.0) parts.0 in
          let here : cond {A = ℕ} (eqb e.0 n) 1 0 ≡ 1 = ap (λ (b : Bool). cond {A = ℕ} b 1 0) (eq-eqb e.0 n same) in
          omega (arith, count_by-cons (λ (x : ℕ × ItemData). x.0 == n) e list, here, none_of list n none)
      | inr apart ↦
          let here : cond {A = ℕ} (eqb e.0 n) 1 0 ≡ 0 = ap (λ (b : Bool). cond {A = ℕ} b 1 0) (ne_eqb e.0 n apart) in
          omega (arith, count_by-cons (λ (x : ℕ × ItemData). x.0 == n) e list, here, once_each list parts.1 n)
    ]

pub legal_of : (ops : List OpKind) → length ops ≤ 4 → AllByRecursion IsOp ops → AllByRecursion KeepsItemRule ops → IsRun (single 4) (opening_of (in_one_trap [])) ops
    → no_number_twice (items_in ops) ≡ true → IsLegalProgram (in_one_trap ops)
legal_of ops few kinds rule run once = record {
  qubits = omega arith;
  bits = omega arith;
  few = omega (arith, few);
  start = starts ops;
  ops = kinds;
  items_fit = rule;
  run = run;
  once = once_each (items_in ops) once;
  of_mode = without_mode ops;
}

-- ---- the programs are legal

h_kind : (number q : ℕ) → IsOp (at number (h_on q))
h_kind number q = ((λ h. cc), refl)

cx_kind : (number : ℕ) → IsOp (at number (cx_on 0 1))
cx_kind number = ((λ h. cc), refl)

pub in_order-legal : IsLegalProgram (in_one_trap in_order)
in_order-legal =
    legal_of in_order (omega arith) (h_kind 1 1, (h_kind 0 0, (cx_kind 2, (h_kind 3 0, tt)))) (h_fits 1, (h_fits 0, (cx_fits, (h_fits 0, tt)))) (refl, (refl, (refl, (refl, tt)))) refl

pub out_of_order-legal : IsLegalProgram (in_one_trap out_of_order)
out_of_order-legal =
    legal_of out_of_order (omega arith) (h_kind 3 0, (cx_kind 2, (h_kind 0 0, (h_kind 1 1, tt)))) (h_fits 0, (cx_fits, (h_fits 0, (h_fits 1, tt)))) (refl, (refl, (refl, (refl, tt)))) refl

pub two_missing-legal : IsLegalProgram (in_one_trap two_missing)
two_missing-legal = legal_of two_missing (omega arith) (cx_kind 2, (h_kind 0 0, tt)) (cx_fits, (h_fits 0, tt)) (refl, (refl, tt)) refl

pub two_others-legal : IsLegalProgram (in_one_trap two_others)
two_others-legal = legal_of two_others (omega arith) (h_kind 0 0, (h_kind 9 0, (h_kind 1 0, tt))) (h_fits 0, (h_fits 0, (h_fits 0, tt))) (refl, (refl, (refl, tt))) refl

-- ---- the verdicts

each_of_four : HasEach 4 (items_in out_of_order)
each_of_four zero below = refl
each_of_four (suc zero) below = refl
each_of_four (suc (suc zero)) below = refl
each_of_four (suc (suc (suc zero))) below = refl
each_of_four (suc (suc (suc (suc n)))) below = absurd (omega (arith, below))

pub first_and_least : IsVerdict four_gates (in_one_trap out_of_order) (Order 0 3)
first_and_least = (
  record { sizes = (refl, refl); items = (refl, (refl, (refl, (refl, tt)))); each = each_of_four },
  (found_front (3, h_on 0) ((2, cx_on 0 1) ∷ (0, h_on 0) ∷ (1, h_on 1) ∷ []) (omega arith) (omega arith)).some,
)

pub other_number : IsVerdict four_gates (in_one_trap two_others) (Differs 1 9)
other_number = (
  (refl, refl),
  record { kind = at 9 (h_on 0); there = refl; other = record { item = h_on 0; does = refl; differs = λ e. none-some (h_on 0) e }; before = (refl, tt) },
)

first_qubit : Option ItemData → ℕ
first_qubit None = 0
first_qubit (Some d) = number_in d.qubits
  where
    number_in : List Qubit → ℕ
    number_in [] = 0
    number_in (q ∷ qs) = q.0

pub other_item : IsVerdict four_gates (in_one_trap other_qubit) (Differs 0 1)
unfolding first_qubit
other_item = (
  (refl, refl),
  record { kind = at 1 (h_on 0); there = refl; other = record { item = h_on 0; does = refl; differs = λ e. let one : 1 ≡ 0 = ap first_qubit e in omega (arith, one) }; before = tt },
)
