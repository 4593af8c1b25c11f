-- What a plan tells of its places.
use Rattle.std.proofs.Common.{arith, ◌≡◌, ℕ, zero, suc, ◌<◌, ◌≤◌, ◌==◌, List, [], ◌∷◌, length, get_or, sym, ◌∙◌, ap, subst, Option, Some, None, position, slice_get, true}
use Rattle.std.proofs.lemmas.Option.{same_Some, slice_get-get_or}
use Rattle.qccd_base.specs.declared.names.Qubit.{Qubit}
use Rattle.qccd_base.specs.declared.names.TrapId.{TrapId}
use Rattle.op_table.specs.declared.contents.Entry.{Entry}
use Rattle.op_table.specs.Contents.{chain}
use Rattle.op_table.specs.State.{ions_in}
use Rattle.op_cells.specs.declared.cells.Cell.{Cell}
use Rattle.op_plan.specs.Kept.{Keeps}
use Rattle.op_plan.specs.Place.{home, stands_in, trap_and_position}
use Rattle.op_plan.specs.Plan.{PlanData, IsPlan, state_of, wired}
use Rattle.op_plan.proofs.Runs.{state_ions, state_safe}
use Rattle.op_plan.proofs.Stands.{Found, found_in, nowhere}

-- the trap that is noted
pub home_read : (p : PlanData) (cells : List Cell) (traps : List (Option TrapId)) (q : Qubit) (i : ℕ) (o d : Option TrapId) → Keeps p cells traps → q.0 < p.qubits → i ≡ q.0 → get_or traps i d ≡ o → home (state_of p) q ≡ o
home_read p cells traps q i o d keeps below at is =
    let within : q.0 < length traps = subst (λ (n : ℕ). q.0 < n) (sym keeps.homes.long) below in
    same_Some (home (state_of p) q) o
    (sym (keeps.homes.each q below) ∙ slice_get-get_or traps q.0 d within ∙ ap (λ (x : Option TrapId). Some x) (ap (λ (k : ℕ). get_or traps k d) (sym at) ∙ is))

pub found_there : (p : PlanData) (q : Qubit) (t : TrapId) → IsPlan p → q.0 < p.qubits → home (state_of p) q ≡ Some t → Found (state_of p) q t
found_there p q t plan below at = found_in (wired p) (state_of p) q t (state_safe p plan) (subst (λ (n : ℕ). q.0 < n) (sym (state_ions p)) below) at

within_list : (xs : List ℕ) (i : ℕ) → 0 < get_or xs i 0 → i < length xs
within_list [] i some = absurd (omega (arith, some))
within_list (x ∷ xs) zero some = omega arith
within_list (x ∷ xs) (suc i) some = omega (arith, within_list xs i some)

pub trap_there : (p : PlanData) (q : Qubit) (t : TrapId) → IsPlan p → q.0 < p.qubits → home (state_of p) q ≡ Some t → t.0 < length p.capacities
trap_there p q t plan below at =
    let found = found_there p q t plan below at in
    let fits = (state_safe p plan).capacities t.0 in
    let within = found.within in
    within_list p.capacities t.0 (omega (arith, fits, within))

-- the position that is found, which is below 32
pub record Told (p : PlanData) (q : Qubit) (t : TrapId) (o : Option ℕ) : Type 0 where
  pub index : ℕ
  pub is : o ≡ Some index
  pub small : index < 32
  pub stands : stands_in (state_of p) q ≡ Some (t, index)

pub told : (p : PlanData) (cells : List Cell) (traps : List (Option TrapId)) (q : Qubit) (t : TrapId) (o : Option ℕ) → Keeps p cells traps → q.0 < p.qubits → home (state_of p) q ≡ Some t
    → o ≡ position (λ (e : Entry). e.qubit.0 == q.0) (chain (state_of p) t.0) → Told p q t o
told p cells traps q t o keeps below at is =
    let found = found_there p q t keeps.plan below at in
    let fits : ions_in (state_of p) t.0 ≤ get_or p.capacities t.0 0 = (state_safe p keeps.plan).capacities t.0 in
    let most : get_or p.capacities t.0 0 ≤ 32 = keeps.sizes t.0 0 (trap_there p q t keeps.plan below at) in
    let within : found.index < ions_in (state_of p) t.0 = found.within in
    record {
      index = found.index;
      is = is ∙ found.first;
      small = omega (arith, fits, most, within);
      stands = ap trap_and_position found.place;
    }

-- where its chain is searched
pub told_by : (p : PlanData) (cells : List Cell) (traps : List (Option TrapId)) (q : Qubit) (t : TrapId) (es : List Entry) (o : Option ℕ) → Keeps p cells traps → q.0 < p.qubits → home (state_of p) q ≡ Some t
    → es ≡ chain (state_of p) t.0 → o ≡ position (λ (e : Entry). e.qubit.0 == q.0) es → Told p q t o
told_by p cells traps q t es o keeps below at read is =
    told p cells traps q t o keeps below at (is ∙ ap (position (λ (e : Entry). e.qubit.0 == q.0)) read)

-- it stands there once at most
pub once_there : (p : PlanData) (cells : List Cell) (traps : List (Option TrapId)) (q : Qubit) (t : TrapId) (es : List Entry) → Keeps p cells traps → q.0 < p.qubits → home (state_of p) q ≡ Some t → es ≡ chain (state_of p) t.0
    → (j k : ℕ) (x y : Entry) → slice_get es j ≡ Some x → slice_get es k ≡ Some y → (x.qubit.0 == q.0) ≡ true → (y.qubit.0 == q.0) ≡ true → j ≡ k
once_there p cells traps q t es keeps below at read j k x y at_j at_k first second =
    let found = found_there p q t keeps.plan below at in
    found.only j x (ap (λ (xs : List Entry). slice_get xs j) (sym read) ∙ at_j) first ∙ sym (found.only k y (ap (λ (xs : List Entry). slice_get xs k) (sym read) ∙ at_k) second)

pub no_trap : (p : PlanData) (q : Qubit) → home (state_of p) q ≡ None → None ≡ stands_in (state_of p) q
no_trap p q none = sym (nowhere (state_of p) q none)

pub place_told : (p : PlanData) (q : Qubit) (t : TrapId) (o : Option ℕ) (k : ℕ) → Told p q t o → o ≡ Some k → stands_in (state_of p) q ≡ Some (t, k)
place_told p q t o k told is = subst (λ (i : ℕ). stands_in (state_of p) q ≡ Some (t, i)) (same_Some told.index k (sym told.is ∙ is)) told.stands
