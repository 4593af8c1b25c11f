-- The trap of each qubit after an operation.
use Rattle.std.proofs.Common.{arith, ◌≡◌, ◌≢◌, ℕ, ◌-◌, ◌<◌, inl, inr, Bool, true, false, List, [], ◌∷◌, map, length, set, get_or, refl, sym, ◌∙◌, ap, ap₂, subst, Option, Some, None, option_map, slice_get, nat_lt, is_some, cond}
use Rattle.std.proofs.lemmas.Bool.{cases_Bool, cases_eq, eq-eqb, ne_eqb, ltb-true}
use Rattle.std.proofs.lemmas.Option.{same_Some, none-some, slice_get-get_or}
use Rattle.qccd_base.specs.declared.names.Qubit.{Qubit}
use Rattle.qccd_base.specs.declared.names.SegId.{SegId}
use Rattle.qccd_base.specs.declared.names.TrapId.{TrapId}
use Rattle.qccd_base.specs.declared.names.End.{End}
use Rattle.qccd_base.specs.declared.names.End.TheVariants.{Left, Right}
use Rattle.qccd_machine.specs.Machine.{MachineData}
use Rattle.op_table.specs.declared.contents.Entry.{Entry}
use Rattle.op_table.specs.declared.contents.Rider.{Rider}
use Rattle.op_table.specs.declared.kinds.OpKind.{OpKind}
use Rattle.op_table.specs.declared.kinds.OpKind.TheVariants.{Split, Move, Enter, Leave, Merge, Rot, GSwap, Item, Fence}
use Rattle.op_table.specs.Act.{end_index}
use Rattle.op_table.specs.Contents.{chain, content, rider, rider_of}
use Rattle.op_table.specs.Op.{IsOp}
use Rattle.op_table.specs.State.{State, Stand, ions_in, ion_on_segment, IsSafe}
use Rattle.op_table.specs.Step.{needs, why, effect}
use Rattle.op_table.specs.Touch.{touches}
use Rattle.op_table.proofs.Chains.{length-chain}
use Rattle.op_table.proofs.Every.{safe-effect}
use Rattle.op_table.proofs.Found.{chain_stand}
use Rattle.op_table.proofs.Shared.{all_met, set-get}
use Rattle.op_table.proofs.Splits.{needs_split}
use Rattle.op_cells.specs.Cold.{cold_rider}
use Rattle.op_plan.specs.Cold.{cold}
use Rattle.op_plan.specs.Kept.{AreHomes, mover, rehomed}
use Rattle.op_plan.specs.Place.{home}
use Rattle.op_plan.proofs.Cold.{chain_cold, rider_cold}
use Rattle.op_plan.proofs.Homes.{end_position, split_home, split_others, merge_home, merge_others, move_home, enter_home, leave_home, rot_home, gswap_home, rider_stand}
use Rattle.op_plan.proofs.Runs.{AreBelow, below_at}

-- the qubit of an entry is one of them
entry_below : (m : MachineData) (s : State) (n t k : ℕ) (x : Entry) → IsSafe m s → AreBelow n s.ions → slice_get (chain s t) k ≡ Some x → x.qubit.0 < n
entry_below m s n t k x safe below at =
    let found = chain_stand m s t k x safe at in
    subst (λ (y : Entry). y.qubit.0 < n) found.3 (below_at n s.ions found.0.0 found.0.1 below found.1)

rider_below : (s : State) (n g : ℕ) (x : Rider) → AreBelow n s.ions → rider s g ≡ Some x → x.entry.qubit.0 < n
rider_below s n g x below is =
    let found = rider_stand s g x is in
    subst (λ (y : Rider). y.entry.qubit.0 < n) found.3 (below_at n s.ions found.0.0 found.0.1 below found.1)

-- one qubit with another trap, and all others as they were
homes_set : (s z : State) (n : ℕ) (traps : List (Option TrapId)) (q : Qubit) (o : Option TrapId) → AreHomes s n traps → q.0 < n → home z q ≡ o → ((r : Qubit) → r.0 < n → r.0 ≢ q.0 → home z r ≡ home s r)
    → AreHomes z n (set traps q.0 o)
homes_set s z n traps q o homes below own others = record {
  long = Rattle.std.proofs.Common.length-set traps q.0 o ∙ homes.long;
  each = λ r less. set-get traps q.0 r.0 o (omega (arith, homes.long, below)) ∙ elim (cases_eq r.0 q.0) [
    | inl same ↦ ap (λ (b : Bool). cond b (Some o) (slice_get traps r.0)) (eq-eqb r.0 q.0 same) ∙ ap (λ (x : Option TrapId). Some x) (sym own ∙ ap (λ (i : ℕ). home z (record { 0 = i })) (sym same))
    | inr other ↦ ap (λ (b : Bool). cond b (Some o) (slice_get traps r.0)) (ne_eqb r.0 q.0 other) ∙ homes.each r less ∙ ap (λ (x : Option TrapId). Some x) (sym (others r less other))
  ];
}

homes_same : (s z : State) (n : ℕ) (traps : List (Option TrapId)) → AreHomes s n traps → ((r : Qubit) → r.0 < n → home z r ≡ home s r) → AreHomes z n traps
homes_same s z n traps homes same = record { long = homes.long; each = λ r less. homes.each r less ∙ ap (λ (x : Option TrapId). Some x) (sym (same r less)) }

end_is : (n : ℕ) (e : End) (c : List Entry) → length c ≡ n → end_index e c ≡ end_position n e
end_is n Left c long = refl
end_is n Right c long = ap (λ (k : ℕ). k - 1) long

end_within : (n : ℕ) (e : End) → 0 < n → end_position n e < n
end_within n Left some = some
end_within n Right some = omega (arith, some)

-- the entry at the end of a chain with any
end_there : (e : End) (c : List Entry) (k : ℕ) → k < length c → (x : Entry) × (slice_get c k ≡ Some x)
end_there e [] k within = absurd (omega (arith, within))
end_there e (x ∷ c) k within = (get_or (x ∷ c) k x, slice_get-get_or (x ∷ c) k x within)

some_there : (o : Option Rider) → is_some o ≡ true → (x : Rider) × (o ≡ Some x)
some_there None h = absurd (Rattle.std.proofs.lemmas.Bool.false≢true h)
some_there (Some x) h = (x, refl)

pub homes_next : (m : MachineData) (s : State) (op : OpKind) (n : ℕ) (traps : List (Option TrapId)) → IsSafe m s → IsOp op → why m s op ≡ None → length s.ions ≡ n → AreBelow n s.ions → AreHomes s n traps
    → AreHomes (effect m s op) n (rehomed (mover op (map (content (cold s)) (touches op))) traps)
homes_next m s (Split t e g) n traps safe kept legal long below homes =
    let some : 0 < ions_in s t.0 = (needs_split m s t e g legal).some in
    let count : length (chain s t.0) ≡ ions_in s t.0 = length-chain m s t.0 safe in
    let k : ℕ = end_position (ions_in s t.0) e in
    let found = end_there e (chain s t.0) k (subst (λ (i : ℕ). k < i) (sym count) (end_within (ions_in s t.0) e some)) in
    let x : Entry = found.0 in
    let moving : slice_get (chain (cold s) t.0) (end_index e (chain (cold s) t.0)) ≡ Some x =
    ap (λ (c : List Entry). slice_get c (end_index e c)) (chain_cold s t.0) ∙ ap (slice_get (chain s t.0)) (end_is (ions_in s t.0) e (chain s t.0) count) ∙ found.1 in
    let less : x.qubit.0 < n = entry_below m s n t.0 k x safe below found.1 in
    let within : x.qubit.0 < length s.ions = subst (λ (i : ℕ). x.qubit.0 < i) (sym long) less in
    subst (λ (o : Option Entry). AreHomes (effect m s (Split t e g)) n (rehomed (option_map (λ (y : Entry). (y.qubit, None)) o) traps)) (sym moving)
    (homes_set s (effect m s (Split t e g)) n traps x.qubit None homes less (split_home m s t e g x safe found.1 within)
    (λ r low other. split_others m s t e g x r safe found.1 (subst (λ (i : ℕ). r.0 < i) (sym long) low) other))
homes_next m s (Merge g t e) n traps safe kept legal long below homes =
    let found = some_there (rider s g.0) (merging m s g t e legal) in
    let x : Rider = found.0 in
    let less : x.entry.qubit.0 < n = rider_below s n g.0 x below found.1 in
    let within : x.entry.qubit.0 < length s.ions = subst (λ (i : ℕ). x.entry.qubit.0 < i) (sym long) less in
    let moving : rider (cold s) g.0 ≡ Some (cold_rider x) = rider_cold s g.0 ∙ ap (option_map cold_rider) found.1 in
    subst (λ (o : Option Rider). AreHomes (effect m s (Merge g t e)) n (rehomed (option_map (λ (y : Rider). (y.entry.qubit, Some t)) o) traps)) (sym moving)
    (homes_set s (effect m s (Merge g t e)) n traps x.entry.qubit (Some t) homes less (merge_home m s g t e x safe found.1 within)
    (λ r low other. merge_others m s g t e x r safe found.1 (subst (λ (i : ℕ). r.0 < i) (sym long) low) other))
  where
    stand_some : (o : Option (ℕ × Stand)) → is_some (Rattle.op_table.proofs.Seeking.stand_in o) ≡ true → is_some (option_map rider_of o) ≡ true
    stand_some None h = h
    stand_some (Some y) h = refl

    merging : (m : MachineData) (s : State) (g : SegId) (t : TrapId) (e : End) → why m s (Merge g t e) ≡ None → is_some (rider s g.0) ≡ true
    merging m s g t e legal =
        stand_some (Rattle.op_table.specs.Contents.seek (λ (w : Stand). Rattle.op_table.specs.State.is_on_segment g.0 w.place) s.ions)
        (ap is_some (Rattle.op_table.proofs.Seeking.seek-find (λ (w : Stand). Rattle.op_table.specs.State.is_on_segment g.0 w.place) s.ions) ∙ (all_met (needs m s (Merge g t e)) legal).1.0)
homes_next m s (Move g) n traps safe kept legal long below homes = homes_same s (effect m s (Move g)) n traps homes (λ r less. move_home m s g r)
homes_next m s (Enter g j) n traps safe kept legal long below homes = homes_same s (effect m s (Enter g j)) n traps homes (λ r less. enter_home m s g j r)
homes_next m s (Leave j g) n traps safe kept legal long below homes = homes_same s (effect m s (Leave j g)) n traps homes (λ r less. leave_home m s g j r)
homes_next m s (Rot t p) n traps safe kept legal long below homes = homes_same s (effect m s (Rot t p)) n traps homes (λ r less. rot_home m s t p r)
homes_next m s (GSwap t low high) n traps safe kept legal long below homes =
    let within : high < ions_in s t.0 = ltb-true high (ions_in s t.0) (all_met (needs m s (GSwap t low high)) legal).1.0 in
    homes_same s (effect m s (GSwap t low high)) n traps homes
    (λ r less. gswap_home m s t low high r safe (safe-effect m s (GSwap t low high) safe kept legal) kept within (subst (λ (i : ℕ). r.0 < i) (sym long) less))
homes_next m s (Item number t item at) n traps safe kept legal long below homes = homes
homes_next m s (Fence number item traps_) n traps safe kept legal long below homes = homes

-- where it moves a qubit, that is one of them
pub mover_below : (m : MachineData) (s : State) (op : OpKind) (n : ℕ) (x : Qubit × Option TrapId) → IsSafe m s → AreBelow n s.ions → mover op (map (content (cold s)) (touches op)) ≡ Some x → x.0.0 < n
mover_below m s (Split t e g) n x safe below is =
    by_entry (end_index e (chain (cold s) t.0)) (slice_get (chain s t.0) (end_index e (chain (cold s) t.0))) refl (ap (λ (c : List Entry). option_map (λ (y : Entry). (y.qubit, None)) (slice_get c (end_index e (chain (cold s) t.0)))) (sym (chain_cold s t.0)) ∙ is)
  where
    by_entry : (k : ℕ) (o : Option Entry) → slice_get (chain s t.0) k ≡ o → option_map (λ (y : Entry). (y.qubit, None)) o ≡ Some x → x.0.0 < n
    by_entry k None at e = absurd (none-some x e)
    by_entry k (Some y) at e = subst (λ (z : Qubit × Option TrapId). z.0.0 < n) (same_Some (y.qubit, None) x e) (entry_below m s n t.0 k y safe below at)
mover_below m s (Merge g t e) n x safe below is =
    by_rider (rider s g.0) refl (ap (option_map (λ (y : Rider). (y.entry.qubit, Some t))) (sym (rider_cold s g.0)) ∙ is)
  where
    by_rider : (o : Option Rider) → rider s g.0 ≡ o → option_map (λ (y : Rider). (y.entry.qubit, Some t)) (option_map cold_rider o) ≡ Some x → x.0.0 < n
    by_rider None at e = absurd (none-some x e)
    by_rider (Some y) at e = subst (λ (z : Qubit × Option TrapId). z.0.0 < n) (same_Some (y.entry.qubit, Some t) x e) (rider_below s n g.0 y below at)
mover_below m s (Move g) n x safe below is = absurd (none-some x is)
mover_below m s (Enter g j) n x safe below is = absurd (none-some x is)
mover_below m s (Leave j g) n x safe below is = absurd (none-some x is)
mover_below m s (Rot t p) n x safe below is = absurd (none-some x is)
mover_below m s (GSwap t low high) n x safe below is = absurd (none-some x is)
mover_below m s (Item number t item at) n x safe below is = absurd (none-some x is)
mover_below m s (Fence number item traps) n x safe below is = absurd (none-some x is)
