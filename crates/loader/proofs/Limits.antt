-- Each number that an operation of a run names is within the limit of its word.
use Rattle.std.proofs.Common.{◌≡◌, ℕ, zero, suc, ◌+◌, ◌<◌, ◌≤◌, Bool, true, false, ◌&&◌, ◌||◌, ◌==◌, nat_lt, List, [], ◌∷◌, ◌++◌, length, refl, sym, ◌∙◌, ap, subst, arith, Option, Some, None, option_map, if◌then◌else◌}
use Rattle.std.specs.Prelude.{find}
use Rattle.std.specs.List.{list_all, list_any, AllByRecursion}
use Rattle.std.proofs.lemmas.Bool.{and_parts, ltb-true, eqb-true}
use Rattle.std.proofs.lemmas.List.Folds.{list_all-append}
use Rattle.std.proofs.lemmas.List.Sums.{count_by-le-length}
use Rattle.qccd_base.proofs.FirstFailing.{all_met}
use Rattle.qccd_base.specs.declared.names.Bit.{Bit}
use Rattle.qccd_base.specs.declared.names.Ion.{Ion}
use Rattle.qccd_base.specs.declared.names.Qubit.{Qubit}
use Rattle.qccd_base.specs.declared.names.TrapId.{TrapId}
use Rattle.qccd_circuit.specs.declared.kinds.Cond.{Cond}
use Rattle.qccd_circuit.specs.Item.{bits_from, cond_bits}
use Rattle.qccd_machine.specs.Machine.{MachineData, IsValid}
use Rattle.op_table.specs.declared.kinds.OpKind.{OpKind}
use Rattle.op_table.specs.declared.kinds.OpKind.TheVariants.{Split, Move, Enter, Leave, Merge, Rot, GSwap, Item, Fence}
use Rattle.op_table.specs.Op.{IsOp}
use Rattle.op_table.specs.Run.{IsRun, after}
use Rattle.op_table.specs.State.{Stand, State, ions_in, is_in_trap, is_at, opening, qubit_at}
use Rattle.op_table.specs.Step.{why, effect, needs, has_trap, has_segment, has_junction, carries, holds_qubit, is_qubit}
use Rattle.op_plan.specs.Plan.{PlanData, Agrees, begun, wired, state_of}
use Rattle.op_plan.proofs.Agreeing.{effect_agrees}
use Rattle.op_plan.proofs.Runs.{AreBelow, after_append, state_below, state_bits, state_ions}
use Rattle.transport_asm.specs.Writable.{KeepsCondLimits, KeepsLimits}
use Rattle.loader.specs.Written.{IsPlain, TellsValue}

-- ---- places

trap_small : (m : MachineData) (t : ℕ) → IsValid m → has_trap m t ≡ true → t ≤ 255
trap_small m t valid is = omega (arith, ltb-true t (length m.capacities) is, valid.few_traps)

segment_small : (m : MachineData) (g : ℕ) → IsValid m → has_segment m g ≡ true → g ≤ 255
segment_small m g valid is = omega (arith, ltb-true g (length m.segments) is, valid.few_segments)

junction_small : (m : MachineData) (j : ℕ) → IsValid m → has_junction m j ≡ true → j ≤ 255
junction_small m j valid is = omega (arith, ltb-true j m.junctions is, valid.few_junctions)

traps_small : (m : MachineData) (ts : List TrapId) → IsValid m → list_all (λ t. has_trap m t.0) ts ≡ true → AllByRecursion (λ t. t.0 ≤ 255) ts
traps_small m [] valid all = tt
traps_small m (t ∷ ts) valid all =
    let parts = and_parts (has_trap m t.0) (list_all (λ u. has_trap m u.0) ts) all in
    (trap_small m t.0 valid parts.0, traps_small m ts valid parts.1)

-- ---- positions and bits

positions_small : (n : ℕ) (ks : List ℕ) → n ≤ 256 → list_all (λ k. nat_lt k n) ks ≡ true → AllByRecursion (λ p. p ≤ 255) ks
positions_small n [] small all = tt
positions_small n (k ∷ ks) small all =
    let parts = and_parts (nat_lt k n) (list_all (λ i. nat_lt i n) ks) all in
    (omega (arith, ltb-true k n parts.0, small), positions_small n ks small parts.1)

bits_small : (n : ℕ) (bs more : List Bit) → n ≤ 256 → list_all (λ b. nat_lt b.0 n) (bs ++ more) ≡ true → AllByRecursion (λ b. b.0 ≤ 65535) bs
bits_small n [] more small all = tt
bits_small n (b ∷ bs) more small all =
    let parts = and_parts (nat_lt b.0 n) (list_all (λ c. nat_lt c.0 n) (bs ++ more)) all in
    (omega (arith, ltb-true b.0 n parts.0, small), bits_small n bs more small parts.1)

-- the bits of a condition stand side by side
end_below : (n first k : ℕ) → list_all (λ b. nat_lt b.0 n) (bits_from first (suc k)) ≡ true → first + suc k ≤ n
end_below n first zero all = omega (arith, ltb-true first n (and_parts (nat_lt first n) true all).0)
end_below n first (suc k) all =
    omega (arith, end_below n (first + 1) k (and_parts (nat_lt first n) (list_all (λ b. nat_lt b.0 n) (bits_from (first + 1) (suc k))) all).1)

cond_small : (n : ℕ) (bs : List Bit) (c : Option Cond) → n ≤ 256 → list_all (λ b. nat_lt b.0 n) (bs ++ cond_bits c) ≡ true → TellsValue c → KeepsCondLimits c
cond_small n bs None small all tells = tt
cond_small n bs (Some c) small all tells = (by_count c.first.0 c.count (and_parts _ _ (sym (list_all-append (λ b. nat_lt b.0 n) bs (bits_from c.first.0 c.count)) ∙ all)).1, tells)
  where
    by_count : (first k : ℕ) → list_all (λ b. nat_lt b.0 n) (bits_from first k) ≡ true → k ≤ 65535
    by_count first zero read = omega arith
    by_count first (suc k) read = omega (arith, end_below n first k read, small)

-- ---- qubits

found_below : (n : ℕ) (p : Stand → Bool) (ions : List Stand) (q : Qubit) → AreBelow n ions → is_qubit q (option_map (λ (w : Stand). w.qubit) (find p ions)) ≡ true → q.0 < n
found_below n p [] q all is = absurd cc
found_below n p (w ∷ ions) q all is = by_test (p w) (found_below n p ions q all.1) is
  where
    by_test : (b : Bool) → (is_qubit q (option_map (λ (v : Stand). v.qubit) (find p ions)) ≡ true → q.0 < n) → is_qubit q (option_map (λ (v : Stand). v.qubit) (if b then Some w else find p ions)) ≡ true → q.0 < n
    by_test true later is = subst (λ (k : ℕ). k < n) (eqb-true w.qubit.0 q.0 is) all.0
    by_test false later is = later is

carried_small : (n : ℕ) (s : State) (t : ℕ) (at : List ℕ) (qs : List Qubit) → n ≤ 256 → AreBelow n s.ions → carries s t at qs ≡ true → AllByRecursion (λ q. q.0 ≤ 65535) qs
carried_small n s t [] [] small all is = tt
carried_small n s t [] (q ∷ qs) small all is = absurd cc
carried_small n s t (k ∷ ks) [] small all is = tt
carried_small n s t (k ∷ ks) (q ∷ qs) small all is =
    let parts = and_parts (is_qubit q (qubit_at s t k)) (carries s t ks qs) is in
    (omega (arith, found_below n (λ (w : Stand). is_at t k w.place) s.ions q all parts.0, small), carried_small n s t ks qs small all parts.1)

held_below : (n t : ℕ) (ions : List Stand) (q : Qubit) → AreBelow n ions → list_any (λ w. is_in_trap t w.place && (w.qubit.0 == q.0)) ions ≡ true → q.0 < n
held_below n t [] q all is = absurd cc
held_below n t (w ∷ ions) q all is = by_tests (is_in_trap t w.place) (w.qubit.0 == q.0) refl (held_below n t ions q all.1) is
  where
    by_tests : (a b : Bool) → (w.qubit.0 == q.0) ≡ b → (list_any (λ (v : Stand). is_in_trap t v.place && (v.qubit.0 == q.0)) ions ≡ true → q.0 < n)
        → (a && b || list_any (λ (v : Stand). is_in_trap t v.place && (v.qubit.0 == q.0)) ions) ≡ true → q.0 < n
    by_tests true true same later is = subst (λ (k : ℕ). k < n) (eqb-true w.qubit.0 q.0 same) all.0
    by_tests true false same later is = later is
    by_tests false b same later is = later is

held_by_one : (n : ℕ) (s : State) (ts : List TrapId) (q : Qubit) → AreBelow n s.ions → list_any (λ t. holds_qubit s t.0 q) ts ≡ true → q.0 < n
held_by_one n s [] q all is = absurd cc
held_by_one n s (t ∷ ts) q all is = by_test (holds_qubit s t.0 q) refl (held_by_one n s ts q all) is
  where
    by_test : (b : Bool) → holds_qubit s t.0 q ≡ b → (list_any (λ (u : TrapId). holds_qubit s u.0 q) ts ≡ true → q.0 < n) → (b || list_any (λ (u : TrapId). holds_qubit s u.0 q) ts) ≡ true → q.0 < n
    by_test true held later is = held_below n t.0 s.ions q all held
    by_test false held later is = later is

held_small : (n : ℕ) (s : State) (ts : List TrapId) (qs : List Qubit) → n ≤ 256 → AreBelow n s.ions → list_all (λ q. list_any (λ t. holds_qubit s t.0 q) ts) qs ≡ true → AllByRecursion (λ q. q.0 ≤ 65535) qs
held_small n s ts [] small all is = tt
held_small n s ts (q ∷ qs) small all is =
    let parts = and_parts (list_any (λ t. holds_qubit s t.0 q) ts) (list_all (λ r. list_any (λ t. holds_qubit s t.0 r) ts) qs) is in
    (omega (arith, held_by_one n s ts q all parts.0, small), held_small n s ts qs small all parts.1)

-- ---- an operation

-- a state of so few ions, bits and qubits that a word can tell each of them
record IsSmall (s : State) : Type 0 where
  ions : length s.ions ≤ 256
  bits : s.bits ≤ 256
  below : AreBelow 256 s.ions

few_in : (s : State) (t : ℕ) → length s.ions ≤ 256 → ions_in s t ≤ 256
few_in s t few = omega (arith, few, count_by-le-length (λ (w : Stand). is_in_trap t w.place) s.ions)

op_limits : (m : MachineData) (s : State) (op : OpKind) → IsValid m → IsSmall s → IsOp op → IsPlain op → why m s op ≡ None → KeepsLimits op
op_limits m s (Split t e g) valid small kept plain legal =
    let met = all_met (needs m s (Split t e g)) legal in
    let there = and_parts _ _ met.0 in
    (trap_small m t.0 valid there.0, segment_small m g.0 valid there.1)
op_limits m s (Move g) valid small kept plain legal =
    let met = all_met (needs m s (Move g)) legal in
    segment_small m g.0 valid met.0
op_limits m s (Enter g j) valid small kept plain legal =
    let met = all_met (needs m s (Enter g j)) legal in
    let there = and_parts _ _ met.0 in
    (segment_small m g.0 valid there.0, junction_small m j.0 valid there.1)
op_limits m s (Leave j g) valid small kept plain legal =
    let met = all_met (needs m s (Leave j g)) legal in
    let there = and_parts _ _ met.0 in
    (junction_small m j.0 valid there.1, segment_small m g.0 valid there.0)
op_limits m s (Merge g t e) valid small kept plain legal =
    let met = all_met (needs m s (Merge g t e)) legal in
    let there = and_parts _ _ met.0 in
    (segment_small m g.0 valid there.1, trap_small m t.0 valid there.0)
op_limits m s (Rot t p) valid small kept plain legal =
    let met = all_met (needs m s (Rot t p)) legal in
    (trap_small m t.0 valid met.0, omega (arith, ltb-true (p + 1) (ions_in s t.0) met.1.0, few_in s t.0 small.ions))
op_limits m s (GSwap t low high) valid small kept plain legal =
    let met = all_met (needs m s (GSwap t low high)) legal in
    let within : high ≤ 255 = omega (arith, ltb-true high (ions_in s t.0) met.1.0, few_in s t.0 small.ions) in
    (trap_small m t.0 valid met.0, omega (arith, kept, within), within)
op_limits m s (Item number t item at) valid small kept plain legal =
    let met = all_met (needs m s (Item number t item at)) legal in
    let there = and_parts _ _ met.0 in (
      plain.0,
      trap_small m t.0 valid there.0,
      carried_small 256 s t.0 at item.qubits (omega arith) small.below met.1.1.0,
      bits_small s.bits item.bits (cond_bits item.cond) small.bits there.1,
      positions_small (ions_in s t.0) at (few_in s t.0 small.ions) met.1.0,
      cond_small s.bits item.bits item.cond small.bits there.1 plain.1,
    )
op_limits m s (Fence number item traps) valid small kept plain legal =
    let met = all_met (needs m s (Fence number item traps)) legal in
    let there = and_parts _ _ met.0 in
    let held = and_parts _ _ met.1.0 in
    (plain.0, traps_small m traps valid there.0, held_small 256 s traps item.qubits (omega arith) small.below held.0)

-- ---- a run

after_agrees : (m : MachineData) (p : PlanData) (s : State) (ops : List OpKind) → Agrees m p → after m s ops ≡ after (wired p) s ops
after_agrees m p s [] agrees = refl
after_agrees m p s (op ∷ ops) agrees = ap (λ (z : State). after m z ops) (effect_agrees m p s op agrees) ∙ after_agrees m p (effect (wired p) s op) ops agrees

below_more : (n : ℕ) (ions : List Stand) → n ≤ 256 → AreBelow n ions → AreBelow 256 ions
below_more n [] small all = tt
below_more n (w ∷ ions) small all = (omega (arith, all.0, small), below_more n ions small all.1)

small_after : (m : MachineData) (qubits bits : ℕ) (chains : List (List Ion)) (front : List OpKind) → qubits ≤ 256 → bits ≤ 256 → IsSmall (after m (opening qubits bits chains) front)
small_after m qubits bits chains front few_qubits few_bits =
    subst IsSmall (sym (after_agrees m plan (opening qubits bits chains) front agrees)) (record {
      ions = omega (arith, state_ions plan, few_qubits);
      bits = omega (arith, state_bits plan, few_bits);
      below = below_more qubits (state_of plan).ions few_qubits (state_below plan);
    })
  where
    plan : PlanData
    plan = record (begun m qubits bits chains) { ops = front }

    agrees : Agrees m plan
    agrees = record { capacities = refl; junctions = refl; segments = refl }

run_behind : (m : MachineData) (qubits bits : ℕ) (chains : List (List Ion)) (front ops : List OpKind) → IsValid m → qubits ≤ 256 → bits ≤ 256 → IsRun m (after m (opening qubits bits chains) front) ops
    → AllByRecursion IsOp ops → AllByRecursion IsPlain ops → AllByRecursion KeepsLimits ops
run_behind m qubits bits chains front [] valid few_qubits few_bits run kept plain = tt
run_behind m qubits bits chains front (op ∷ ops) valid few_qubits few_bits run kept plain = (
  op_limits m (after m (opening qubits bits chains) front) op valid (small_after m qubits bits chains front few_qubits few_bits) kept.0 plain.0 run.0,
  run_behind m qubits bits chains (front ++ op ∷ []) ops valid few_qubits few_bits (subst (λ (s : State). IsRun m s ops) (sym (after_append m (opening qubits bits chains) front (op ∷ []))) run.1) kept.1 plain.1,
)

pub run_limits : (m : MachineData) (qubits bits : ℕ) (chains : List (List Ion)) (ops : List OpKind) → IsValid m → qubits ≤ 256 → bits ≤ 256 → IsRun m (opening qubits bits chains) ops
    → AllByRecursion IsOp ops → AllByRecursion IsPlain ops → AllByRecursion KeepsLimits ops
run_limits m qubits bits chains ops = run_behind m qubits bits chains [] ops
