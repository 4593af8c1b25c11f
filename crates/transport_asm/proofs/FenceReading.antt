-- The words of fences, as the code reads them.
use Rattle.std.proofs.Common.{◌≡◌, ℕ, Bool, true, false, cond, ◌&&◌, List, [], ◌∷◌, ◌++◌, Option, Some, None, Result, Ok, Err, refl, sym, ap, ◌∙◌, subst, append_assoc}
use Rattle.std.specs.Prelude.{if◌then◌else◌}
use Rattle.std.proofs.lemmas.List.{append-nil}
use Rattle.qccd_base.specs.declared.names.TrapId.{TrapId}
use Rattle.qccd_base.specs.declared.names.Qubit.{Qubit}
use Rattle.qccd_circuit.specs.Item.{are_distinct}
use Rattle.op_table.specs.Op.{are_ascending}
use Rattle.op_table.specs.declared.kinds.OpKind.{OpKind}
use Rattle.op_table.specs.declared.kinds.OpKind.TheVariants.{Fence}
use Rattle.op_text.specs.declared.kind.AsmKind.{AsmKind}
use Rattle.op_text.specs.declared.kind.AsmKind.TheVariants.{Word}
use Rattle.transport_asm.specs.declared.faults.OpFault.{OpFault}
use Rattle.transport_asm.specs.declared.faults.OpFault.TheVariants.{Refused, NoMemory}
use Rattle.transport_asm.specs.Cursor.{FailsAt}
use Rattle.transport_asm.specs.Marks.{begins_trap, traps_at, traps_behind, when_distinct, some_qubits, fence_parts, is_below_first, fence_made}
use Rattle.op_text.specs.Operations.{begins_with, qubits_at, parts_at, barrier_over, fence_at, keeping_rules, finished}
use Rattle.op_text.specs.Shapes.{Reading, read_one, whole}
use Rattle.op_text.specs.Slots.{number_slot, greatest, trap_slot}
use Rattle.op_text.specs.Steps.{◌>>=◌}
use Rattle.transport_asm.proofs.ItemLaws.{qubits_take}
use Rattle.transport_asm.proofs.SlotLaws.{bind_ok, ok_is}

-- ---- the loop over traps

abbrev pub with_traps : List TrapId → Reading (List TrapId) → Reading (List TrapId)
with_traps front read = read >>= λ x. Ok (front ++ x.0, x.1)

regroup : (front : List TrapId) (t : TrapId) (read : Reading (List TrapId)) → with_traps front (read >>= λ x. Ok (t ∷ x.0, x.1)) ≡ with_traps (front ++ t ∷ []) read
regroup front t (Ok x) = ap (λ (ts : List TrapId). Ok (ts, x.1)) (simp append_assoc)
regroup front t (Err e) = refl

trap_step : (t : TrapId) (word : List ℕ) (ws : List (List ℕ)) (front : List TrapId) → begins_with 84 word ≡ true → trap_slot.read word ≡ Ok t
    → with_traps front (traps_at (word ∷ ws)) ≡ with_traps (front ++ t ∷ []) (traps_at ws)
trap_step t word ws front begins read = rw (begins, read) (regroup front t (traps_at ws))

pub trap_more : (t : TrapId) (ws more : List (List ℕ)) (front : List TrapId) (total : Reading (List TrapId)) → begins_trap ws ≡ true → read_one trap_slot ws ≡ Ok (t, more)
    → with_traps front (traps_at ws) ≡ total → with_traps (front ++ t ∷ []) (traps_at more) ≡ total
trap_more t [] more front total begins e so_far = absurd cc
trap_more t (word ∷ ws) more front total begins e so_far =
    let b = bind_ok (trap_slot.read word) (λ v. Ok (v, ws)) (t, more) e in
    let pair = ok_is (b.0, ws) (t, more) b.2 in
    subst (λ (p : TrapId × List (List ℕ)). with_traps (front ++ p.0 ∷ []) (traps_at p.1) ≡ total) pair (sym (trap_step b.0 word ws front begins b.1) ∙ so_far)

pub trap_wrong : (kind : AsmKind) (ws : List (List ℕ)) (front : List TrapId) (total : Reading (List TrapId)) → begins_trap ws ≡ true → read_one trap_slot ws ≡ Err kind
    → with_traps front (traps_at ws) ≡ total → total ≡ Err kind
trap_wrong kind [] front total begins e so_far = absurd cc
trap_wrong kind (word ∷ ws) front total begins e so_far =
    let one : with_traps front (traps_at (word ∷ ws)) ≡ Err kind = rw (begins, e) refl in
    sym so_far ∙ one

pub traps_end : (ws : List (List ℕ)) (front : List TrapId) (total : Reading (List TrapId)) → begins_trap ws ≡ false → with_traps front (traps_at ws) ≡ total → total ≡ Ok (front, ws)
traps_end [] front total begins so_far = sym so_far ∙ ap (λ (ts : List TrapId). Ok (ts, [])) (append-nil front)
traps_end (word ∷ ws) front total begins so_far =
    let one : with_traps front (traps_at (word ∷ ws)) ≡ Ok (front, word ∷ ws) = rw begins (ap (λ (ts : List TrapId). Ok (ts, word ∷ ws)) (append-nil front)) in
    sym so_far ∙ one

-- ---- the whole fence

abbrev qubits_behind : List (List ℕ) → Reading (List Qubit)
qubits_behind [] = Err Word
qubits_behind (word ∷ more) = qubits_at (word ∷ more)

abbrev join_parts : List TrapId → List Qubit × List (List ℕ) → Reading (List TrapId × List Qubit)
join_parts ts qs = Ok ((ts, qs.0), qs.1)

abbrev cons_trap : TrapId → List TrapId × List (List ℕ) → Reading (List TrapId)
cons_trap t ts = Ok (t ∷ ts.0, ts.1)

abbrev cons_first : TrapId → (List TrapId × List Qubit) × List (List ℕ) → Reading (List TrapId × List Qubit)
cons_first t rest = Ok ((t ∷ rest.0.0, rest.0.1), rest.1)

abbrev both_of : Reading (List TrapId) → Reading (List TrapId × List Qubit)
both_of read = read >>= λ ts. qubits_behind ts.1 >>= join_parts ts.0

both_more : (t : TrapId) (read : Reading (List TrapId)) → (both_of read >>= cons_first t) ≡ both_of (read >>= cons_trap t)
both_more t (Err e) = refl
both_more t (Ok ts) = in_qubits (qubits_behind ts.1)
  where
    in_qubits : (r : Reading (List Qubit)) → ((r >>= join_parts ts.0) >>= cons_first t) ≡ (r >>= join_parts (t ∷ ts.0))
    in_qubits (Err e) = refl
    in_qubits (Ok qs) = refl

in_first_trap : (ws : List (List ℕ)) → parts_at ws ≡ both_of (traps_at ws) → (r : Reading TrapId) → (r >>= λ t. parts_at ws >>= cons_first t.0) ≡ both_of (r >>= λ t. traps_at ws >>= cons_trap t.0)
in_first_trap ws more (Err e) = refl
in_first_trap ws more (Ok t) = ap (λ (p : Reading (List TrapId × List Qubit)). p >>= cons_first t.0) more ∙ both_more t.0 (traps_at ws)

parts_are : (ws : List (List ℕ)) → parts_at ws ≡ both_of (traps_at ws)
parts_are [] = refl
parts_are (word ∷ ws) = by_test (begins_with 84 word) (parts_are ws)
  where
    by_test : (t : Bool) → parts_at ws ≡ both_of (traps_at ws)
        → cond {A = Reading (List TrapId × List Qubit)} t (read_one trap_slot (word ∷ ws) >>= λ t. parts_at ws >>= cons_first t.0) (qubits_at (word ∷ ws) >>= join_parts [])
        ≡ both_of (cond {A = Reading (List TrapId)} t (read_one trap_slot (word ∷ ws) >>= λ t. traps_at ws >>= cons_trap t.0) (Ok ([], word ∷ ws)))
    by_test false more = refl
    by_test true more = in_first_trap ws more (read_one trap_slot (word ∷ ws))

-- the operation of the parts, or the refusal of a broken rule
by_rules : (n : ℕ) (ts : List TrapId) (qs : List Qubit) (d : Bool) → cond {A = Result OpKind AsmKind} (d && are_ascending ts) (Ok (Fence n (barrier_over qs) ts)) (Err Word) ≡ fence_made n ts (if d then Some qs else None)
by_rules n ts qs true = refl
by_rules n ts qs false = refl

abbrev op_of : ℕ → TrapId → (List TrapId × List Qubit) × List (List ℕ) → Reading OpKind
op_of n first parts = Ok (Fence n (barrier_over parts.0.1) (first ∷ parts.0.0), parts.1)

abbrev Parts : Type 0
Parts = ℕ × (List TrapId × Option (List Qubit))

abbrev parts_with : ℕ → List TrapId → Option (List Qubit) → Result Parts AsmKind
parts_with n ts qs = Ok (n, (ts, qs))

abbrev made_of : Parts → Result OpKind AsmKind
made_of p = fence_made p.0 p.1.0 p.1.1

in_qubits : (n : ℕ) (first : TrapId) (ts : List TrapId) (r : Reading (List Qubit)) → ((qs : List Qubit) (rest : List (List ℕ)) → r ≡ Ok (qs, rest) → rest ≡ [])
    → finished ((r >>= join_parts ts) >>= op_of n first) ≡ ((r >>= when_distinct) >>= fence_made n (first ∷ ts))
in_qubits n first ts (Err e) none = refl
in_qubits n first ts (Ok (qs, rest)) none =
    ap (λ (left : List (List ℕ)). whole (Fence n (barrier_over qs) (first ∷ ts)) left >>= keeping_rules) (none qs rest refl)
    ∙ by_rules n (first ∷ ts) qs (are_distinct qs)

apart : (n : ℕ) (ts : List TrapId) (r : Result (Option (List Qubit)) AsmKind) → ((r >>= parts_with n ts) >>= made_of) ≡ (r >>= fence_made n ts)
apart n ts (Ok qs) = refl
apart n ts (Err e) = refl

in_words : (n : ℕ) (first : TrapId) (ts : List TrapId) (ws : List (List ℕ))
    → finished ((qubits_behind ws >>= join_parts ts) >>= op_of n first) ≡ ((some_qubits ws >>= parts_with n (first ∷ ts)) >>= made_of)
in_words n first ts [] = refl
in_words n first ts (word ∷ ws) =
    in_qubits n first ts (qubits_at (word ∷ ws)) (λ qs rest e. (qubits_take (word ∷ ws) qs rest e).1)
    ∙ sym (apart n (first ∷ ts) (some_qubits (word ∷ ws)))

in_traps : (n : ℕ) (first : TrapId) (r : Reading (List TrapId))
    → finished (both_of r >>= op_of n first) ≡ (((r >>= cons_trap first) >>= λ ts. some_qubits ts.1 >>= parts_with n ts.0) >>= made_of)
in_traps n first (Err e) = refl
in_traps n first (Ok ts) = in_words n first ts.0 ts.1

in_first : (n : ℕ) (r : Reading TrapId)
    → finished (r >>= λ first. parts_at first.1 >>= op_of n first.0) ≡ ((r >>= λ first. traps_behind first.0 first.1 >>= λ ts. some_qubits ts.1 >>= parts_with n ts.0) >>= made_of)
in_first n (Err e) = refl
in_first n (Ok first) =
    ap (λ (read : Reading (List TrapId × List Qubit)). finished (read >>= op_of n first.0)) (parts_are first.1)
    ∙ in_traps n first.0 (traps_at first.1)

in_number : (r : Reading ℕ)
    → finished (r >>= λ n. read_one trap_slot n.1 >>= λ first. parts_at first.1 >>= op_of n.0 first.0)
    ≡ ((r >>= λ n. read_one trap_slot n.1 >>= λ first. traps_behind first.0 first.1 >>= λ ts. some_qubits ts.1 >>= parts_with n.0 ts.0) >>= made_of)
in_number (Err e) = refl
in_number (Ok n) = in_first n.0 (read_one trap_slot n.1)

fence_is : (ws : List (List ℕ)) → finished (fence_at ws) ≡ (fence_parts ws >>= made_of)
fence_is ws = in_number (read_one (number_slot greatest) ws)

pub fence_goes : (ws : List (List ℕ)) (n : ℕ) (ts : List TrapId) (qs : Option (List Qubit)) → fence_parts ws ≡ Ok (n, (ts, qs)) → finished (fence_at ws) ≡ fence_made n ts qs
fence_goes ws n ts qs e = fence_is ws ∙ ap (λ (r : Result Parts AsmKind). r >>= made_of) e

pub fence_fails : (ws : List (List ℕ)) (fault : OpFault) → FailsAt fault (fence_parts ws) → FailsAt fault (finished (fence_at ws))
fence_fails ws NoMemory e = tt
fence_fails ws (Refused kind) e = fence_is ws ∙ ap (λ (r : Result Parts AsmKind). r >>= made_of) e

pub ascending_cons : (t : TrapId) (ts : List TrapId) → are_ascending (t ∷ ts) ≡ (is_below_first t ts && are_ascending ts)
ascending_cons t [] = refl
ascending_cons t (u ∷ ts) = refl

pub fence_right : (n : ℕ) (ts : List TrapId) (qs : List Qubit) → are_ascending ts ≡ true → fence_made n ts (Some qs) ≡ Ok (Fence n (barrier_over qs) ts)
fence_right n ts qs right = rw right refl
