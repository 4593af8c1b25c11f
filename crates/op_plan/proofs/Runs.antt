-- Runs put together and cut, and what they keep.
use Rattle.std.proofs.Common.{arith, ◌≡◌, ℕ, zero, suc, ◌+◌, ◌<◌, List, [], ◌∷◌, ◌++◌, length, map, refl, sym, ◌∙◌, ap, subst, Some, None, find, slice_get, Bool, true, false, unwrap_or, option_map, append_assoc, if◌then◌else◌}
use Rattle.std.specs.List.{AllByRecursion, range_with_len}
use Rattle.std.proofs.lemmas.List.{length-map}
use Rattle.std.proofs.lemmas.Option.{same_Some, none-some}
use Rattle.qccd_base.specs.declared.names.Ion.{Ion}
use Rattle.qccd_base.specs.declared.names.Qubit.{Qubit}
use Rattle.qccd_machine.specs.Machine.{MachineData}
use Rattle.op_table.specs.declared.kinds.OpKind.{OpKind}
use Rattle.op_table.specs.declared.kinds.OpKind.TheVariants.{Split, Move, Enter, Leave, Merge, Rot, GSwap, Item, Fence}
use Rattle.op_table.specs.Op.{IsOp}
use Rattle.op_table.specs.Run.{IsRun, after}
use Rattle.op_table.specs.State.{Stand, State, is_at, place_from, qubit_at, IsSafe}
use Rattle.op_table.specs.Step.{why, effect, swapped}
use Rattle.op_table.proofs.Every.{safe-effect}
use Rattle.op_table.proofs.Neighbours.{bits_kept}
use Rattle.op_table.proofs.Openings.{opening-safe, opening_long}
use Rattle.op_plan.specs.Plan.{PlanData, IsPlan, Continues, wired, start_state, state_of, with_ops}

pub after_append : (m : MachineData) (s : State) (a b : List OpKind) → after m s (a ++ b) ≡ after m (after m s a) b
after_append m s [] b = refl
after_append m s (op ∷ a) b = after_append m (effect m s op) a b

pub run_append : (m : MachineData) (s : State) (a b : List OpKind) → IsRun m s a → IsRun m (after m s a) b → IsRun m s (a ++ b)
run_append m s [] b run more = more
run_append m s (op ∷ a) b run more = (run.0, run_append m (effect m s op) a b run.1 more)

-- the list so far, and the rest of it
pub run_front : (m : MachineData) (s : State) (a b : List OpKind) → IsRun m s (a ++ b) → IsRun m s a
run_front m s [] b run = tt
run_front m s (op ∷ a) b run = (run.0, run_front m (effect m s op) a b run.1)

pub run_back : (m : MachineData) (s : State) (a b : List OpKind) → IsRun m s (a ++ b) → IsRun m (after m s a) b
run_back m s [] b run = run
run_back m s (op ∷ a) b run = run_back m (effect m s op) a b run.1

pub state_more : (p : PlanData) (ops : List OpKind) → state_of (with_ops p ops) ≡ after (wired p) (state_of p) ops
state_more p ops = after_append (wired p) (start_state p) p.ops ops

-- one operation of a list is appended, and the others are left
pub one_less : (old cur new whole : PlanData) (op : OpKind) (left : List OpKind) → with_ops cur (op ∷ left) ≡ whole → IsRun (wired cur) (state_of cur) (op ∷ left) → Continues old cur → new ≡ with_ops cur (op ∷ [])
    → (with_ops new left ≡ whole) × IsRun (wired new) (state_of new) left × Continues old new
one_less old cur new whole op left all run so_far is = (
  ap (λ (p : PlanData). with_ops p left) is ∙ ap (λ (ops : List OpKind). record cur { ops = ops }) (append_assoc cur.ops (op ∷ []) left) ∙ all,
  subst (λ (p : PlanData). IsRun (wired p) (state_of p) left) (sym is) (subst (λ (s : State). IsRun (wired cur) s left) (sym (state_more cur (op ∷ []))) run.1),
  record {
    more = so_far.more ++ op ∷ [];
    run = run_append (wired old) (state_of old) so_far.more (op ∷ []) so_far.run (first_run so_far);
    is = is ∙ ap (λ (p : PlanData). with_ops p (op ∷ [])) so_far.is ∙ ap (λ (ops : List OpKind). record old { ops = ops }) (append_assoc old.ops so_far.more (op ∷ []));
  },
)
  where
    first_run : (so_far : Continues old cur) → IsRun (wired old) (after (wired old) (state_of old) so_far.more) (op ∷ [])
    first_run so_far = (subst (λ (s : State). why (wired old) s op ≡ None) (state_more old so_far.more) (subst (λ (p : PlanData). why (wired p) (state_of p) op ≡ None) so_far.is run.0), tt)

-- ---- what a run keeps

pub run_safe : (m : MachineData) (s : State) (ops : List OpKind) → IsSafe m s → AllByRecursion IsOp ops → IsRun m s ops → IsSafe m (after m s ops)
run_safe m s [] safe kept run = safe
run_safe m s (op ∷ ops) safe kept run = run_safe m (effect m s op) ops (safe-effect m s op safe kept.0 run.0) kept.1 run.1

ions_kept : (m : MachineData) (s : State) (op : OpKind) → length (effect m s op).ions ≡ length s.ions
ions_kept m s (Split t e g) = length-map s.ions _
ions_kept m s (Move g) = length-map s.ions _
ions_kept m s (Enter g j) = length-map s.ions _
ions_kept m s (Leave j g) = length-map s.ions _
ions_kept m s (Merge g t e) = length-map s.ions _
ions_kept m s (Rot t p) = length-map s.ions _
ions_kept m s (GSwap t low high) = length-map s.ions _
ions_kept m s (Item number t item at) = refl
ions_kept m s (Fence number item traps) = refl

pub ions_after : (m : MachineData) (s : State) (ops : List OpKind) → length (after m s ops).ions ≡ length s.ions
ions_after m s [] = refl
ions_after m s (op ∷ ops) = ions_after m (effect m s op) ops ∙ ions_kept m s op

bits_after : (m : MachineData) (s : State) (ops : List OpKind) → (after m s ops).bits ≡ s.bits
bits_after m s [] = refl
bits_after m s (op ∷ ops) = bits_after m (effect m s op) ops ∙ bits_kept m s op

-- each qubit that an ion carries is below n
abbrev pub AreBelow : ℕ → List Stand → Type 0
AreBelow n ions = AllByRecursion (λ (w : Stand). w.qubit.0 < n) ions

pub below_at : (n : ℕ) (ions : List Stand) (i : ℕ) (w : Stand) → AreBelow n ions → slice_get ions i ≡ Some w → w.qubit.0 < n
below_at n [] i w all is = absurd (none-some w is)
below_at n (v ∷ ions) zero w all is = subst (λ (x : Stand). x.qubit.0 < n) (same_Some v w is) all.0
below_at n (v ∷ ions) (suc i) w all is = below_at n ions i w all.1 is

below_mapped : (n : ℕ) (f : Stand → Stand) (ions : List Stand) → ((w : Stand) → w.qubit.0 < n → (f w).qubit.0 < n) → AreBelow n ions → AreBelow n (map f ions)
below_mapped n f [] kept all = tt
below_mapped n f (w ∷ ions) kept all = (kept w all.0, below_mapped n f ions kept all.1)

below_found : (n : ℕ) (p : Stand → Bool) (ions : List Stand) (d : Qubit) → d.0 < n → AreBelow n ions → (unwrap_or (option_map (λ (w : Stand). w.qubit) (find p ions)) d).0 < n
below_found n p [] d own all = own
below_found n p (w ∷ ions) d own all = by_test (p w) (below_found n p ions d own all.1)
  where
    by_test : (b : Bool) → (unwrap_or (option_map (λ (v : Stand). v.qubit) (find p ions)) d).0 < n → (unwrap_or (option_map (λ (v : Stand). v.qubit) (if b then Some w else find p ions)) d).0 < n
    by_test true later = all.0
    by_test false later = later

below_kept : (m : MachineData) (n : ℕ) (s : State) (op : OpKind) → AreBelow n s.ions → AreBelow n (effect m s op).ions
below_kept m n s (Split t e g) all = below_mapped n _ s.ions (λ w own. own) all
below_kept m n s (Move g) all = below_mapped n _ s.ions (λ w own. own) all
below_kept m n s (Enter g j) all = below_mapped n _ s.ions (λ w own. own) all
below_kept m n s (Leave j g) all = below_mapped n _ s.ions (λ w own. own) all
below_kept m n s (Merge g t e) all = below_mapped n _ s.ions (λ w own. own) all
below_kept m n s (Rot t p) all = below_mapped n _ s.ions (λ w own. own) all
below_kept m n s (GSwap t low high) all = below_mapped n (λ (w : Stand). record w { qubit = swapped s t.0 low high w }) s.ions either all
  where
    either : (w : Stand) → w.qubit.0 < n → (swapped s t.0 low high w).0 < n
    either w own = by_tests (is_at t.0 low w.place) (is_at t.0 high w.place)
      where
        by_tests : (a b : Bool) → (if a then unwrap_or (qubit_at s t.0 high) w.qubit else (if b then unwrap_or (qubit_at s t.0 low) w.qubit else w.qubit)).0 < n
        by_tests true b = below_found n (λ (v : Stand). is_at t.0 high v.place) s.ions w.qubit own all
        by_tests false true = below_found n (λ (v : Stand). is_at t.0 low v.place) s.ions w.qubit own all
        by_tests false false = own
below_kept m n s (Item number t item at) all = all
below_kept m n s (Fence number item traps) all = all

below_after : (m : MachineData) (n : ℕ) (s : State) (ops : List OpKind) → AreBelow n s.ions → AreBelow n (after m s ops).ions
below_after m n s [] all = all
below_after m n s (op ∷ ops) all = below_after m n (effect m s op) ops (below_kept m n s op all)

below_opening : (chains : List (List Ion)) (n a k : ℕ) → a + k ≡ n → AreBelow n (map (λ (i : ℕ). record { place = place_from 0 chains i; qubit = record { 0 = i } }) (range_with_len a k))
below_opening chains n a zero is = tt
below_opening chains n a (suc k) is = (omega (arith, is), below_opening chains n (a + 1) k (omega (arith, is)))

-- ---- of a plan

pub state_safe : (p : PlanData) → IsPlan p → IsSafe (wired p) (state_of p)
state_safe p plan = run_safe (wired p) (start_state p) p.ops (opening-safe (wired p) p.qubits p.bits p.start plan.start) plan.ops plan.run

pub state_ions : (p : PlanData) → length (state_of p).ions ≡ p.qubits
state_ions p = ions_after (wired p) (start_state p) p.ops ∙ opening_long p.qubits p.bits p.start

pub state_bits : (p : PlanData) → (state_of p).bits ≡ p.bits
state_bits p = bits_after (wired p) (start_state p) p.ops

pub state_below : (p : PlanData) → AreBelow p.qubits (state_of p).ions
state_below p = below_after (wired p) p.qubits (start_state p) p.ops (below_opening p.start p.qubits 0 p.qubits (omega arith))
