-- The program of the example is legal, and its barrier is the least that is not finished.
use Rattle.std.proofs.Common.{◌≡◌, ◌≢◌, ◌≤◌, ◌<◌, inl, inr, Bool, true, false, cond, if◌then◌else◌, nat_lt, get_or, ℕ, zero, suc, List, [], ◌∷◌, length, refl, ap, subst, arith}
use Rattle.std.proofs.lemmas.Bool.{ne_eqb, le-ltb, false≢true, or_cases}
use Rattle.std.specs.Prelude.{codes, count_by, flat_map, ◌==◌}
use Rattle.qccd_base.specs.declared.names.Res.{Res}
use Rattle.qccd_base.specs.Resource.{among, same_res}
use Rattle.qccd_base.proofs.Resources.{same_res-true}
use Rattle.qccd_circuit.specs.Item.{Fits, IsGateName}
use Rattle.qccd_circuit.specs.Example.{h_on}
use Rattle.op_table.specs.Run.{items_in}
use Rattle.op_table.specs.Start.{IsStart}
use Rattle.qccd_program.specs.Legal.{IsLegalProgram}
use Rattle.claim_core.specs.Enabled.{IsEnabled, IsFinished, IsLeastUnfinished, IsReady}
use Rattle.claim_core.specs.Example.{both, fenced, fence_begun, first_trap, second_trap}

not_this : (k n : ℕ) → k < n → cond {A = ℕ} (k == n) 1 0 ≡ 0
not_this k n less = ap (λ (b : Bool). cond {A = ℕ} b 1 0) (ne_eqb k n (λ same. omega (arith, same, less)))

not_below : (k n : ℕ) → n ≤ k → cond {A = ℕ} (nat_lt k n) 1 0 ≡ 0
not_below k n past = ap (λ (b : Bool). cond {A = ℕ} b 1 0) (le-ltb k n past)

starts_so : IsStart fenced.machine 2 fenced.start
starts_so = record { chains = refl; capacities = within; once = one }
  where
    within : (t : ℕ) → length (get_or fenced.start t []) ≤ get_or fenced.machine.capacities t 0
    within zero = omega arith
    within (suc zero) = omega arith
    within (suc (suc zero)) = omega arith
    within (suc (suc (suc zero))) = omega arith
    within (suc (suc (suc (suc zero)))) = omega arith
    within (suc (suc (suc (suc (suc zero))))) = omega arith
    within (suc (suc (suc (suc (suc (suc t)))))) = omega arith

    one : (i : ℕ) → count_by (λ x. x.0 == i) (flat_map (λ chain. chain) fenced.start) ≡ (if nat_lt i 2 then 1 else 0)
    one zero = refl
    one (suc zero) = refl
    one (suc (suc i)) =
        let n : ℕ = suc (suc i) in omega (arith, not_this 0 n (omega arith), not_this 1 n (omega arith), not_below n 2 (omega arith))

other_length : (xs ys : List ℕ) → length xs ≢ length ys → xs ≢ ys
other_length xs ys apart same = apart (ap (λ (zs : List ℕ). length zs) same)

gate_name : (name : List ℕ) → length name ≤ 2 → IsGateName name
gate_name name short =
    (other_length name (codes "measure") (λ e. omega (arith, e, short)), other_length name (codes "reset") (λ e. omega (arith, e, short)), other_length name (codes "barrier") (λ e. omega (arith, e, short)))

pub h_fits : (q : ℕ) → Fits (h_on q)
h_fits q = record { name = (refl, omega arith); angles = (refl, omega arith); cond = tt; distinct = refl; kind = (refl, refl, gate_name (codes "h") (omega arith)) }

pub both_fits : Fits both
both_fits = record { name = (refl, omega arith); angles = (refl, omega arith); cond = tt; distinct = refl; kind = (omega arith, refl, refl, refl, refl) }

once_each : (number : ℕ) → count_by (λ e. e.0 == number) (items_in fenced.ops) ≤ 1
once_each zero = omega arith
once_each (suc zero) = omega arith
once_each (suc (suc zero)) = omega arith
once_each (suc (suc (suc number))) =
    let n : ℕ = suc (suc (suc number)) in omega (arith, not_this 0 n (omega arith), not_this 1 n (omega arith), not_this 2 n (omega arith))

pub fenced-legal : IsLegalProgram fenced
fenced-legal = record {
  qubits = omega arith;
  bits = omega arith;
  few = omega arith;
  start = starts_so;
  ops = (((λ h. cc), refl), ((refl, omega arith, refl), (((λ h. cc), refl), tt)));
  items_fit = (h_fits 0, (both_fits, (h_fits 1, tt)));
  run = (refl, (refl, (refl, tt)));
  once = once_each;
  of_mode = (refl, (refl, (refl, tt)));
}

one_trap : (P : Res → Type 0) (t r : Res) → P t → among (t ∷ []) r ≡ true → P r
one_trap P t r holds at = elim (or_cases (same_res t r) false at) [
  | inl is ↦ subst P (same_res-true t r is) holds
  | inr none ↦ absurd (false≢true none)
]

two_traps : (P : Res → Type 0) (t u r : Res) → P t → P u → among (t ∷ u ∷ []) r ≡ true → P r
two_traps P t u r first second at = elim (or_cases (same_res t r) (among (u ∷ []) r) at) [
  | inl is ↦ subst P (same_res-true t r is) first
  | inr rest ↦ one_trap P u r second rest
]

pub barrier-least : IsLeastUnfinished fenced fence_begun 1
barrier-least = record {
  there = omega arith;
  unfinished = λ done. let past = done first_trap refl in omega (arith, past);
  before = λ j less. first j less;
}
  where
    first : (j : ℕ) → j < 1 → IsFinished fenced fence_begun j
    first zero less r at = one_trap (λ q. Rattle.op_table.specs.Touch.nth fenced.ops 0 q < Rattle.claim_core.specs.Board.turn_at fenced fence_begun q) first_trap r (omega arith) at
    first (suc j) less r at = absurd (omega (arith, less))

pub barrier-enabled : IsEnabled fenced fence_begun 1
barrier-enabled r at = two_traps (IsReady fenced fence_begun 1) first_trap second_trap r (inr (inl (1, refl, refl))) (inl (refl, refl)) at
