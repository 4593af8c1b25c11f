-- The answers of each check, over plain lists.
use Rattle.std.proofs.Common.{◌≡◌, ℕ, zero, suc, ◌+◌, ◌<◌, ◌≤◌, inl, inr, List, length, get_or, Some, sym, ◌∙◌, ap, arith}
use Rattle.std.specs.Prelude.{slice_get}
use Rattle.std.proofs.lemmas.Option.{get_or_from_slice_get, slice_get-get_or}
use Rattle.qccd_base.specs.declared.names.Res.TheVariants.{Trap, Junc}
use Rattle.qccd_base.specs.Times.{times_of}
use Rattle.qccd_machine.specs.declared.fault.MachineFault.TheVariants.{NotConnected, TableRange}
use Rattle.qccd_machine.specs.Machine.{MachineData, IsReached, degree_of}
use Rattle.qccd_machine.specs.Fault.{Applies, turn}
use Rattle.qccd_machine.specs.Search.{check, IsFirstWithin, NoneWithin}
use Rattle.qccd_machine.proofs.Turns.{none_joined, none_of_part, of_trap, of_junction}

-- a list of numbers, read at the place that a fault names
read : (xs ys : List ℕ) (k : ℕ) → xs ≡ ys → (found : (n : ℕ) × (slice_get ys k ≡ Some n) × Unit {0}) → get_or xs k 0 ≡ found.0
read xs ys k same found = ap (λ (zs : List ℕ). get_or zs k 0) same ∙ get_or_from_slice_get ys k found.0 0 found.1

pub capacity_passed : (m : MachineData) (xs : List ℕ) (t : ℕ) → xs ≡ m.capacities → 2 ≤ get_or xs t 0 → get_or xs t 0 ≤ 32
    → NoneWithin m (check 4) (turn 4 t 0) → NoneWithin m (check 4) (turn 4 (t + 1) 0)
capacity_passed m xs t xs_are low high before =
    none_joined m (check 4) (turn 4 t 0) (turn 4 (t + 1) 0) before
    (none_of_part m 4 t (λ q h.
    let same : get_or xs t 0 ≡ h.0 = read xs m.capacities t xs_are (h.0, h.1, tt) in
    elim h.2 [ inl less ↦ omega arith | inr more ↦ omega arith ]))

pub time_passed : (m : MachineData) (xs : List ℕ) (field : ℕ) → xs ≡ times_of m.times → get_or xs field 0 ≤ 1000000
    → NoneWithin m (check 9) (turn 9 field 0) → NoneWithin m (check 9) (turn 9 (field + 1) 0)
time_passed m xs field xs_are high before =
    none_joined m (check 9) (turn 9 field 0) (turn 9 (field + 1) 0) before
    (none_of_part m 9 field (λ q h. let same : get_or xs field 0 ≡ h.0 = read xs (times_of m.times) field xs_are (h.0, h.1, tt) in omega arith))

pub degree_passed : (m : MachineData) (j degree : ℕ) → degree ≡ degree_of m j → 2 ≤ degree → degree ≤ 4
    → NoneWithin m (check 6) (turn 6 j 0) → NoneWithin m (check 6) (turn 6 (j + 1) 0)
degree_passed m j degree is low high before =
    none_joined m (check 6) (turn 6 j 0) (turn 6 (j + 1) 0) before
    (none_of_part m 6 j (λ q h. elim h.1 [ inl less ↦ omega arith | inr more ↦ omega arith ]))

pub time_found : (m : MachineData) (xs : List ℕ) (field : ℕ) → xs ≡ times_of m.times → field < length xs → 1000000 < get_or xs field 0
    → NoneWithin m (check 9) (turn 9 field 0) → IsFirstWithin m (check 9) (check 10) (TableRange field)
time_found m xs field xs_are here long before = record {
  within = (λ e. omega arith, inl (omega arith));
  applies = (get_or xs field 0, ap (λ (ys : List ℕ). slice_get ys field) (sym xs_are) ∙ slice_get-get_or xs field 0 here, long);
  none_earlier = before;
}

pub trap_passed : (m : MachineData) (t : ℕ) → IsReached m (Trap (record { 0 = t })) → NoneWithin m (check 7) (turn 7 t 0) → NoneWithin m (check 7) (turn 7 (t + 1) 0)
trap_passed m t reached before = none_joined m (check 7) (turn 7 t 0) (turn 7 (t + 1) 0) before (none_of_part m 7 t passes) where
  passes : (q : ℕ) → Applies m (of_trap q t) → ⊥
  passes zero h = h.1 reached
  passes (suc q) h = h

pub junction_passed : (m : MachineData) (j : ℕ) → IsReached m (Junc (record { 0 = j })) → NoneWithin m (check 8) (turn 8 j 0) → NoneWithin m (check 8) (turn 8 (j + 1) 0)
junction_passed m j reached before = none_joined m (check 8) (turn 8 j 0) (turn 8 (j + 1) 0) before (none_of_part m 8 j passes) where
  passes : (q : ℕ) → Applies m (of_junction q j) → ⊥
  passes zero h = h.1 reached
  passes (suc q) h = h

pub trap_far : (m : MachineData) (t : ℕ) → t < length m.capacities → (IsReached m (Trap (record { 0 = t })) → ⊥) → NoneWithin m (check 7) (turn 7 t 0) → IsFirstWithin m (check 7) (check 8) (NotConnected (Trap (record { 0 = t })))
trap_far m t here far before = record { within = (λ e. omega arith, inl (omega arith)); applies = (here, far); none_earlier = before }

pub junction_far : (m : MachineData) (j : ℕ) → j < m.junctions → (IsReached m (Junc (record { 0 = j })) → ⊥) → NoneWithin m (check 8) (turn 8 j 0) → IsFirstWithin m (check 8) (check 9) (NotConnected (Junc (record { 0 = j })))
junction_far m j here far before = record { within = (λ e. omega arith, inl (omega arith)); applies = (here, far); none_earlier = before }
