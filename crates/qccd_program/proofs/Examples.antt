-- The program of the example is legal.
use Rattle.std.proofs.lemmas.Bool.{ne_eqb, le-ltb, lt-ltb}
use Rattle.std.proofs.Common.{◌≡◌, ◌≢◌, ◌≤◌, ◌<◌, Bool, true, false, cond, not, ◌||◌, ◌&&◌, if◌then◌else◌, nat_lt, get_or, ℕ, zero, suc, List, [], ◌∷◌, length, refl, ap, arith, ◌∙◌}
use Rattle.std.specs.Prelude.{IsTrue, None, codes, count_by, flat_map, replicate, ◌==◌, ◌++◌, ◌+◌}
use Rattle.std.specs.List.{AllByRecursion}
use Rattle.qccd_circuit.specs.Item.{Fits, IsGateName, ItemData}
use Rattle.qccd_circuit.specs.Example.{cx_on}
use Rattle.qccd_base.specs.FirstFailing.{first_failing}
use Rattle.op_table.specs.declared.kinds.OpKind.{OpKind}
use Rattle.op_table.specs.declared.kinds.Why.TheVariants.{NoPlace, Position}
use Rattle.op_table.specs.State.{State, Stand, ions_in, is_in_trap}
use Rattle.op_table.specs.Step.{effect, swapped}
use Rattle.op_table.proofs.Counts.{count_by-map}
use Rattle.op_table.specs.Op.{IsOp, KeepsItemRule}
use Rattle.op_table.specs.Run.{IsRun, items_in}
use Rattle.op_table.specs.Start.{IsStart}
use Rattle.op_table.specs.Example.{pair}
use Rattle.qccd_program.specs.Example.{x_on, start_chains, eight_ops, two_gates_and_one, exchange, exchanges}
use Rattle.qccd_base.specs.declared.names.Ion.{Ion}
use Rattle.qccd_machine.specs.Machine.{MachineData}
use Rattle.qccd_program.specs.Mode.{is_of_mode}
use Rattle.qccd_program.specs.Program.{program_data, opening_of}
use Rattle.qccd_program.specs.Legal.{IsLegalProgram}

-- a number past these is none of them
not_this : (k n : ℕ) → k < n → cond {A = ℕ} (k == n) 1 0 ≡ 0
not_this k n less = ap (λ (b : Bool). cond {A = ℕ} b 1 0) (ne_eqb k n (λ same. omega (arith, same, less)))

not_below : (k n : ℕ) → n ≤ k → cond {A = ℕ} (nat_lt k n) 1 0 ≡ 0
not_below k n past = ap (λ (b : Bool). cond {A = ℕ} b 1 0) (le-ltb k n past)

starts_so : IsStart pair 4 start_chains
starts_so = record { chains = refl; capacities = within; once = one }
  where
    within : (t : ℕ) → length (get_or start_chains t []) ≤ get_or pair.capacities t 0
    within zero = omega arith
    within (suc zero) = omega arith
    within (suc (suc t)) = omega arith

    one : (i : ℕ) → count_by (λ x. x.0 == i) (flat_map (λ chain. chain) start_chains) ≡ (if nat_lt i 4 then 1 else 0)
    one zero = refl
    one (suc zero) = refl
    one (suc (suc zero)) = refl
    one (suc (suc (suc zero))) = refl
    one (suc (suc (suc (suc i)))) =
        let n : ℕ = suc (suc (suc (suc i))) in
        omega (arith, not_this 0 n (omega arith), not_this 1 n (omega arith), not_this 2 n (omega arith), not_this 3 n (omega arith), not_below n 4 (omega arith))

other_length : (xs ys : List ℕ) → length xs ≢ length ys → xs ≢ ys
other_length xs ys apart same = apart (ap (λ (zs : List ℕ). length zs) same)

gate_name : (name : List ℕ) → length name ≤ 2 → IsGateName name
gate_name name short =
    (other_length name (codes "measure") (λ e. omega (arith, e, short)), other_length name (codes "reset") (λ e. omega (arith, e, short)), other_length name (codes "barrier") (λ e. omega (arith, e, short)))

cx_fits : (p q : ℕ) → (q == p) ≡ false → Fits (cx_on p q)
cx_fits p q apart = record {
  name = (refl, omega arith);
  angles = (refl, omega arith);
  cond = tt;
  distinct = ap (λ (b : Bool). not (b || false) && true) apart;
  kind = (refl, refl, gate_name (codes "cx") (omega arith));
}

x_fits : (q : ℕ) → Fits (x_on q)
x_fits q = record {
  name = (refl, omega arith);
  angles = (refl, omega arith);
  cond = tt;
  distinct = refl;
  kind = (refl, refl, gate_name (codes "x") (omega arith));
}

once_each : (number : ℕ) → count_by (λ e. e.0 == number) (items_in eight_ops) ≤ 1
once_each zero = omega arith
once_each (suc zero) = omega arith
once_each (suc (suc zero)) = omega arith
once_each (suc (suc (suc number))) =
    let n : ℕ = suc (suc (suc number)) in
    omega (arith, not_this 0 n (omega arith), not_this 1 n (omega arith), not_this 2 n (omega arith))

pub example-legal : IsLegalProgram two_gates_and_one
example-legal = record {
  qubits = omega arith;
  bits = omega arith;
  few = omega arith;
  start = starts_so;
  ops = (((λ h. cc), refl), (((λ h. cc), refl), (tt, (tt, (tt, (tt, (tt, (((λ h. cc), refl), tt))))))));
  items_fit = (cx_fits 0 1 refl, (x_fits 2, (tt, (tt, (tt, (tt, (tt, (cx_fits 0 3 refl, tt))))))));
  run = (refl, (refl, (refl, (refl, (refl, (refl, (refl, (refl, tt))))))));
  once = once_each;
  of_mode = (refl, (refl, (refl, (refl, (refl, (refl, (refl, (refl, tt))))))));
}

exchange_run : (s : State) (n : ℕ) → 2 ≤ ions_in s 0 → IsRun pair s (replicate n exchange)
exchange_run s zero two = tt
exchange_run s (suc n) two =
    let both : nat_lt 1 (ions_in s 0) ≡ true = lt-ltb 1 (ions_in s 0) (omega (arith, two)) in
    let same : ions_in (effect pair s exchange) 0 ≡ ions_in s 0 = count_by-map (λ (w : Stand). is_in_trap 0 w.place) (λ (w : Stand). record w { qubit = swapped s 0 0 1 w }) s.ions in
    (ap (λ (b : Bool). first_failing ((NoPlace, true) ∷ (Position, b) ∷ [])) both, exchange_run (effect pair s exchange) n (omega (arith, same, two)))

all_replicated : (P : OpKind → Type 0) (n : ℕ) → P exchange → AllByRecursion P (replicate n exchange)
all_replicated P zero p = tt
all_replicated P (suc n) p = (p, all_replicated P n p)

no_items : (n : ℕ) → items_in (replicate n exchange) ≡ []
no_items zero = refl
no_items (suc n) = no_items n

length_replicated : (n : ℕ) → length (replicate n exchange) ≡ n
length_replicated zero = refl
length_replicated (suc n) = ap suc (length_replicated n)

pub exchanges-legal : (n : ℕ) → n ≤ 4194304 → IsLegalProgram (exchanges n)
exchanges-legal n few = record {
  qubits = omega arith;
  bits = omega arith;
  few = omega (arith, few, length_replicated n);
  start = starts_so;
  ops = all_replicated IsOp n (omega arith);
  items_fit = all_replicated KeepsItemRule n tt;
  run = exchange_run (opening_of two_gates_and_one) n (omega arith);
  once = λ number. let none = ap (λ (es : List (ℕ × ItemData)). count_by (λ (e : ℕ × ItemData). e.0 == number) es) (no_items n) in omega (arith, none);
  of_mode = all_replicated (λ op. IsTrue (is_of_mode None op)) n refl;
}

pub replicated-next : (ops : List OpKind) (n : ℕ) → ops ≡ replicate n exchange → ops ++ exchange ∷ [] ≡ replicate (n + 1) exchange
replicated-next ops n is = ap (λ (os : List OpKind). os ++ exchange ∷ []) is ∙ one_more n ∙ ap (λ (k : ℕ). replicate k exchange) (one n)
  where
    one : (n : ℕ) → suc n ≡ n + 1
    one n = omega arith

    one_more : (n : ℕ) → replicate n exchange ++ exchange ∷ [] ≡ replicate (suc n) exchange
    one_more zero = refl
    one_more (suc n) = ap (λ (os : List OpKind). exchange ∷ os) (one_more n)

pub exchanges-read : (m : MachineData) (start : List (List Ion)) (ops : List OpKind) (n k : ℕ) → m ≡ pair → start ≡ start_chains → ops ≡ replicate k exchange → k ≡ n → program_data m 4 0 None start ops ≡ exchanges n
exchanges-read m start ops n k machine chains made all = λ i. program_data (machine i) 4 0 None (chains i) ((made ∙ ap (λ (j : ℕ). replicate j exchange) all) i)
