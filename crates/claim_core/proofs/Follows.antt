-- Where a qubit is, an operation that needs it touches; and it leaves only with an operation that touches.
use Rattle.std.proofs.Common.{◌≡◌, ◌≢◌, ℕ, zero, suc, ◌+◌, ◌<◌, ◌≤◌, ◌⊎◌, inl, inr, Bool, true, false, cond, ◌&&◌, ◌||◌, ◌==◌, List, [], ◌∷◌, length, map, take, refl, sym, ◌∙◌, ap, ap₂, subst, arith, Option, Some, None, option_map, unwrap_or, set}
use Rattle.std.specs.Prelude.{slice_get, count_by, find}
use Rattle.std.specs.List.{list_any, list_all}
use Rattle.std.proofs.lemmas.Bool.{cases_Bool, false≢true, or_cases, or_right, and_parts, eq-eqb, eqb-true}
use Rattle.std.proofs.lemmas.Option.{same_Some, none-some}
use Rattle.qccd_base.specs.Names.{trap}
use Rattle.qccd_base.specs.declared.names.Res.{Res}
use Rattle.qccd_base.specs.declared.names.Qubit.{Qubit}
use Rattle.qccd_base.specs.declared.names.TrapId.{TrapId}
use Rattle.qccd_base.specs.declared.names.SegEnd.TheVariants.{A}
use Rattle.qccd_base.specs.Resource.{among, same_res, ascending}
use Rattle.qccd_machine.specs.Machine.{MachineData}
use Rattle.qccd_machine.specs.declared.place.Place.TheVariants.{TrapEnd, Junction}
use Rattle.qccd_circuit.specs.Item.{ItemData, bits_of, has_qubit}
use Rattle.op_table.specs.declared.kinds.OpKind.{OpKind}
use Rattle.op_table.specs.declared.kinds.OpKind.TheVariants.{Split, Move, Enter, Leave, Merge, Rot, GSwap, Item, Fence}
use Rattle.op_table.specs.Op.{IsOp}
use Rattle.op_table.specs.State.{IonPlace, InTrap, OnSegment, InJunction, Stand, State, IsSafe, is_in_trap, is_at, ions_in, heat_of, qubit_at}
use Rattle.op_table.specs.Step.{why, needs, effect, carries, is_qubit, holds_qubit, end_at}
use Rattle.op_table.specs.Touch.{possible, touches}
use Rattle.time_heat.specs.Heat.{split_ion_heat}
use Rattle.op_table.proofs.Counts.{count_by-cons, find_some, find_passes}
use Rattle.op_table.proofs.Local.{Leaves, res_of}
use Rattle.op_table.proofs.Rotates.{leaves_rot}
use Rattle.op_table.proofs.Splits.{leaves_split}
use Rattle.op_table.proofs.Merges.{leaves_merge}
use Rattle.op_table.proofs.Crossings.{leaves_move, leaves_enter, leaves_leave}
use Rattle.op_table.proofs.Exchanges.{leaves_gswap}
use Rattle.qccd_base.proofs.FirstFailing.{all_met}
use Rattle.op_table.proofs.Needs.{touches-fence, touches-item}
use Rattle.qccd_base.proofs.Resources.{among-own}
use Rattle.qccd_base.specs.declared.names.Res.TheVariants as res

-- an operation changes each ion alone, and only where it touches
pub record Changes (m : MachineData) (s : State) (op : OpKind) : Type 0 where
  pub change : Stand → Stand
  pub ions : (effect m s op).ions ≡ map change s.ions
  pub leaves : Leaves (touches op) change

map_same : (ws : List Stand) → ws ≡ map (λ w. w) ws
map_same [] = refl
map_same (w ∷ ws) = ap (λ (xs : List Stand). w ∷ xs) (map_same ws)

pub changes : (m : MachineData) (s : State) (op : OpKind) → Changes m s op
changes m s (Split t e g) = record { change = _; ions = refl; leaves = leaves_split t.0 (ions_in s t.0) g.0 (split_ion_heat (heat_of s t.0) (ions_in s t.0)) e (unwrap_or (end_at m g.0 (TrapEnd t e)) A) }
changes m s (Move g) = record { change = _; ions = refl; leaves = leaves_move g.0 }
changes m s (Enter g j) = record { change = _; ions = refl; leaves = leaves_enter g.0 j.0 }
changes m s (Leave j g) = record { change = _; ions = refl; leaves = leaves_leave g.0 j.0 (unwrap_or (end_at m g.0 (Junction j)) A) }
changes m s (Merge g t e) = record { change = _; ions = refl; leaves = leaves_merge g.0 t.0 (ions_in s t.0) e }
changes m s (Rot t p) = record { change = _; ions = refl; leaves = leaves_rot t.0 p (p + 1) }
changes m s (GSwap t low high) = record { change = _; ions = refl; leaves = leaves_gswap s t.0 low high }
changes m s (Item number t item at) = record { change = λ w. w; ions = map_same s.ions; leaves = λ w. inl refl }
changes m s (Fence number item traps) = record { change = λ w. w; ions = map_same s.ions; leaves = λ w. inl refl }

-- an ion at r carries qubit q
pub record Sits (ions : List Stand) (q : ℕ) (r : Res) : Type 0 where
  pub index : ℕ
  pub stand : Stand
  pub is : slice_get ions index ≡ Some stand
  pub carries : stand.qubit.0 ≡ q
  pub at : res_of stand.place ≡ r

get-map : (f : Stand → Stand) (ws : List Stand) (i : ℕ) (w : Stand) → slice_get ws i ≡ Some w → slice_get (map f ws) i ≡ Some (f w)
get-map f [] i w h = absurd (none-some w h)
get-map f (v ∷ ws) zero w h = ap Some (ap f (same_Some v w h))
get-map f (v ∷ ws) (suc i) w h = get-map f ws i w h

get-unmap : (f : Stand → Stand) (ws : List Stand) (i : ℕ) (v : Stand) → slice_get (map f ws) i ≡ Some v → (w : Stand) × (slice_get ws i ≡ Some w) × (f w ≡ v)
get-unmap f [] i v h = absurd (none-some v h)
get-unmap f (w ∷ ws) zero v h = (w, refl, same_Some (f w) v h)
get-unmap f (w ∷ ws) (suc i) v h = get-unmap f ws i v h

counted : (p : Stand → Bool) (v : Stand) (ws : List Stand) → p v ≡ true → count_by p (v ∷ ws) ≡ suc (count_by p ws)
counted p v ws h = count_by-cons p v ws ∙ ap (λ (b : Bool). cond b 1 0 + count_by p ws) h ∙ one (count_by p ws)
  where
    one : (n : ℕ) → 1 + n ≡ suc n
    one n = omega arith

uncounted : (p : Stand → Bool) (v : Stand) (ws : List Stand) → p v ≡ false → count_by p (v ∷ ws) ≡ count_by p ws
uncounted p v ws h = count_by-cons p v ws ∙ ap (λ (b : Bool). cond b 1 0 + count_by p ws) h ∙ none (count_by p ws)
  where
    none : (n : ℕ) → 0 + n ≡ n
    none n = omega arith

none_passes : (p : Stand → Bool) (ws : List Stand) (i : ℕ) (w : Stand) → count_by p ws ≡ 0 → slice_get ws i ≡ Some w → p w ≡ true → ⊥
none_passes p [] i w none is pass = none-some w is
none_passes p (v ∷ ws) zero w none is pass =
    omega (arith, counted p v ws (ap p (same_Some v w is) ∙ pass), none)
none_passes p (v ∷ ws) (suc i) w none is pass = elim (cases_Bool (p v)) [
  | inl h ↦ omega (arith, counted p v ws h, none)
  | inr h ↦ none_passes p ws i w (sym (uncounted p v ws h) ∙ none) is pass
]

-- one passes only
one_passes : (p : Stand → Bool) (ws : List Stand) (i j : ℕ) (w v : Stand) → count_by p ws ≡ 1 → slice_get ws i ≡ Some w → slice_get ws j ≡ Some v → p w ≡ true → p v ≡ true → w ≡ v
one_passes p [] i j w v one is js pw pv = absurd (none-some w is)
one_passes p (x ∷ ws) zero zero w v one is js pw pv = same_Some w v (sym is ∙ js)
one_passes p (x ∷ ws) zero (suc j) w v one is js pw pv =
    absurd (none_passes p ws j v (omega (arith, counted p x ws (ap p (same_Some x w is) ∙ pw), one)) js pv)
one_passes p (x ∷ ws) (suc i) zero w v one is js pw pv =
    absurd (none_passes p ws i w (omega (arith, counted p x ws (ap p (same_Some x v js) ∙ pv), one)) is pw)
one_passes p (x ∷ ws) (suc i) (suc j) w v one is js pw pv = elim (cases_Bool (p x)) [
  | inl h ↦ absurd (none_passes p ws i w (omega (arith, counted p x ws h, one)) is pw)
  | inr h ↦ one_passes p ws i j w v (sym (uncounted p x ws h) ∙ one) is js pw pv
]

below_length : (ws : List Stand) (i : ℕ) (w : Stand) → slice_get ws i ≡ Some w → i < length ws
below_length [] i w h = absurd (none-some w h)
below_length (v ∷ ws) zero w h = omega arith
below_length (v ∷ ws) (suc i) w h = omega (arith, below_length ws i w h)

-- in a safe state a qubit is in one place
pub one_place : (m : MachineData) (s : State) (q : ℕ) (r z : Res) → IsSafe m s → q < length s.ions → Sits s.ions q r → Sits s.ions q z → r ≡ z
one_place m s q r z safe there a b =
    let same : a.stand ≡ b.stand = one_passes (λ w. w.qubit.0 == q) s.ions a.index b.index a.stand b.stand (safe.qubits q there) a.is b.is (eq-eqb a.stand.qubit.0 q a.carries) (eq-eqb b.stand.qubit.0 q b.carries) in
    sym a.at ∙ ap (λ (w : Stand). res_of w.place) same ∙ b.at

found_at : (p : Stand → Bool) (ws : List Stand) (w : Stand) → find p ws ≡ Some w → (i : ℕ) × (slice_get ws i ≡ Some w)
found_at p [] w h = absurd (none-some w h)
found_at p (v ∷ ws) w h = elim (cases_Bool (p v)) [
  | inl y ↦ (0, sym (ap (λ (b : Bool). if_found b v (find p ws)) y) ∙ h)
  | inr n ↦ let rest = found_at p ws w (sym (ap (λ (b : Bool). if_found b v (find p ws)) n) ∙ h) in (suc rest.0, rest.1)
]
  where
    if_found : Bool → Stand → Option Stand → Option Stand
    if_found b v rest = Rattle.std.proofs.Common.cond b (Some v) rest

-- and in some place
pub some_place : (m : MachineData) (s : State) (q : ℕ) → IsSafe m s → q < length s.ions → (r : Res) × Sits s.ions q r
some_place m s q safe there =
    let found = find_some (λ (w : Stand). w.qubit.0 == q) s.ions (omega (arith, safe.qubits q there)) in
    let i = found_at (λ (w : Stand). w.qubit.0 == q) s.ions found.0 found.1 in
    (res_of found.0.place, record { index = i.0; stand = found.0; is = i.1; carries = eqb-true found.0.qubit.0 q found.2; at = refl })

length-map : (f : Stand → Stand) (ws : List Stand) → length (map f ws) ≡ length ws
length-map f [] = refl
length-map f (w ∷ ws) = ap suc (length-map f ws)

pub ions_kept : (m : MachineData) (s : State) (op : OpKind) → length (effect m s op).ions ≡ length s.ions
ions_kept m s op = let c = changes m s op in ap length c.ions ∙ length-map c.change s.ions

-- where the operation doesn't touch, it stays
pub sits_untouched : (m : MachineData) (s : State) (op : OpKind) (q : ℕ) (r : Res) → among (touches op) r ≡ false → Sits s.ions q r → Sits (effect m s op).ions q r
sits_untouched m s op q r out a =
    let c = changes m s op in
    elim (c.leaves a.stand) [
      | inl same ↦ record {
        index = a.index;
        stand = a.stand;
        is = ap (λ (ws : List Stand). slice_get ws a.index) c.ions ∙ get-map c.change s.ions a.index a.stand a.is ∙ ap Some same;
        carries = a.carries;
        at = a.at;
      }
      | inr both ↦ absurd (false≢true (sym out ∙ ap (among (touches op)) (sym a.at) ∙ both.0))
    ]

-- where it touches, the qubit is afterwards at a touched place
pub sits_touched : (m : MachineData) (s : State) (op : OpKind) (q : ℕ) (r z : Res) → IsSafe m s → q < length s.ions → among (touches op) r ≡ true → Sits s.ions q r → Sits (effect m s op).ions q z → among (touches op) z ≡ true
sits_touched m s op q r z safe there on a b =
    let c = changes m s op in
    let old = get-unmap c.change s.ions b.index b.stand (ap (λ (ws : List Stand). slice_get ws b.index) (sym c.ions) ∙ b.is) in
    elim (c.leaves old.0) [
      | inr both ↦ ap (among (touches op)) (sym b.at ∙ sym (ap (λ (w : Stand). res_of w.place) old.2)) ∙ both.1
      | inl same ↦
          let is : old.0 ≡ b.stand = sym same ∙ old.2 in
          let was : Sits s.ions q z = record { index = b.index; stand = b.stand; is = old.1 ∙ ap Some is; carries = b.carries; at = b.at } in
          ap (among (touches op)) (sym (one_place m s q r z safe there a was)) ∙ on
    ]

-- a legal item finds its qubits where it touches
at_trap : (t k : ℕ) (place : IonPlace) → is_at t k place ≡ true → res_of place ≡ res.Trap (trap t)
at_trap t k (InTrap u i) h = ap (λ (n : ℕ). res.Trap (trap n)) (eqb-true u t (and_parts (u == t) (i == k) h).0)
at_trap t k (OnSegment g e d) h = absurd (false≢true h)
at_trap t k (InJunction j d) h = absurd (false≢true h)

in_trap : (t : ℕ) (place : IonPlace) → is_in_trap t place ≡ true → res_of place ≡ res.Trap (trap t)
in_trap t (InTrap u i) h = ap (λ (n : ℕ). res.Trap (trap n)) (eqb-true u t h)
in_trap t (OnSegment g e d) h = absurd (false≢true h)
in_trap t (InJunction j d) h = absurd (false≢true h)

carried : (s : State) (t k : ℕ) (q : Qubit) → is_qubit q (qubit_at s t k) ≡ true → Sits s.ions q.0 (res.Trap (trap t))
carried s t k q h = go (find (λ w. is_at t k w.place) s.ions) refl h
  where
    go : (o : Option Stand) → find (λ w. is_at t k w.place) s.ions ≡ o → is_qubit q (option_map (λ w. w.qubit) o) ≡ true → Sits s.ions q.0 (res.Trap (trap t))
    go None f h = absurd (false≢true h)
    go (Some w) f h =
        let i = found_at (λ w. is_at t k w.place) s.ions w f in
        record { index = i.0; stand = w; is = i.1; carries = eqb-true w.qubit.0 q.0 h; at = at_trap t k w.place (find_passes (λ w. is_at t k w.place) s.ions w f) }

carries_one : (s : State) (t : ℕ) (ks : List ℕ) (qs : List Qubit) (q : Qubit) → carries s t ks qs ≡ true → has_qubit qs q ≡ true → Sits s.ions q.0 (res.Trap (trap t))
carries_one s t ks [] q h has = absurd (false≢true has)
carries_one s t [] (x ∷ qs) q h has = absurd (false≢true h)
carries_one s t (k ∷ ks) (x ∷ qs) q h has =
    let parts = and_parts (is_qubit x (qubit_at s t k)) (carries s t ks qs) h in
    elim (or_cases (x.0 == q.0) (has_qubit qs q) has) [
      | inl is ↦ subst (λ (n : ℕ). Sits s.ions n (res.Trap (trap t))) (eqb-true x.0 q.0 is) (carried s t k x parts.0)
      | inr rest ↦ carries_one s t ks qs q parts.1 rest
    ]

held_one : (ws all : List Stand) (t : ℕ) (q : Qubit) (from : ℕ) → ((i : ℕ) (w : Stand) → slice_get ws i ≡ Some w → slice_get all (from + i) ≡ Some w) → list_any (λ w. is_in_trap t w.place && (w.qubit.0 == q.0)) ws ≡ true → Sits all q.0 (res.Trap (trap t))
held_one [] all t q from within h = absurd (false≢true h)
held_one (w ∷ ws) all t q from within h = elim (or_cases (is_in_trap t w.place && (w.qubit.0 == q.0)) (list_any (λ w. is_in_trap t w.place && (w.qubit.0 == q.0)) ws) h) [
  | inl here ↦
      let parts = and_parts (is_in_trap t w.place) (w.qubit.0 == q.0) here in
      record { index = from + 0; stand = w; is = within 0 w refl; carries = eqb-true w.qubit.0 q.0 parts.1; at = in_trap t w.place parts.0 }
  | inr rest ↦ held_one ws all t q (from + 1) (λ i v is. ap (slice_get all) (shift from i) ∙ within (suc i) v is) rest
]
  where
    shift : (a i : ℕ) → a + 1 + i ≡ a + suc i
    shift a i = omega arith

all_one : (f : Qubit → Bool) (qs : List Qubit) (q : Qubit) → list_all f qs ≡ true → has_qubit qs q ≡ true → (x : Qubit) × (x.0 ≡ q.0) × (f x ≡ true)
all_one f [] q all has = absurd (false≢true has)
all_one f (x ∷ qs) q all has =
    let parts = and_parts (f x) (list_all f qs) all in
    elim (or_cases (x.0 == q.0) (has_qubit qs q) has) [
      | inl is ↦ (x, eqb-true x.0 q.0 is, parts.0)
      | inr rest ↦ all_one f qs q parts.1 rest
    ]

any_trap : (f : TrapId → Bool) (ts : List TrapId) → list_any f ts ≡ true → (t : TrapId) × (f t ≡ true) × (among (map res.Trap ts) (res.Trap t) ≡ true)
any_trap f [] h = absurd (false≢true h)
any_trap f (t ∷ ts) h = elim (or_cases (f t) (list_any f ts) h) [
  | inl is ↦ (t, is, among-own (res.Trap t) (map res.Trap ts))
  | inr rest ↦ let one = any_trap f ts rest in (one.0, one.1, or_right (same_res (res.Trap t) (res.Trap one.0)) (among (map res.Trap ts) (res.Trap one.0)) one.2)
]

pub record Wants (op : OpKind) (q : Qubit) : Type 0 where
  pub number : ℕ
  pub item : ItemData
  pub is : Rattle.op_table.specs.Run.item_in op ≡ Some (number, item)
  pub has : has_qubit item.qubits q ≡ true

item_same : (a b : ℕ × ItemData) → Some a ≡ Some b → a.1 ≡ b.1
item_same a b h = ap (λ (e : ℕ × ItemData). e.1) (same_Some a b h)

pub sits_wanted : (m : MachineData) (s : State) (op : OpKind) (q : Qubit) → IsOp op → why m s op ≡ None → Wants op q → (r : Res) × Sits s.ions q.0 r × (among (touches op) r ≡ true)
sits_wanted m s (Split t e g) q kept legal w = absurd (none-some (w.number, w.item) w.is)
sits_wanted m s (Move g) q kept legal w = absurd (none-some (w.number, w.item) w.is)
sits_wanted m s (Enter g j) q kept legal w = absurd (none-some (w.number, w.item) w.is)
sits_wanted m s (Leave j g) q kept legal w = absurd (none-some (w.number, w.item) w.is)
sits_wanted m s (Merge g t e) q kept legal w = absurd (none-some (w.number, w.item) w.is)
sits_wanted m s (Rot t p) q kept legal w = absurd (none-some (w.number, w.item) w.is)
sits_wanted m s (GSwap t low high) q kept legal w = absurd (none-some (w.number, w.item) w.is)
sits_wanted m s (Item number t item at) q kept legal w =
    let met = all_met (needs m s (Item number t item at)) legal in
    let has : has_qubit item.qubits q ≡ true = ap (λ (i : ItemData). has_qubit i.qubits q) (item_same (number, item) (w.number, w.item) w.is) ∙ w.has in
    (res.Trap t, carries_one s t.0 at item.qubits q met.1.1.0 has, ap (λ (rs : List Res). among rs (res.Trap t)) (touches-item number t item at) ∙ among-own (res.Trap t) (ascending (map res.Bit (possible (bits_of item)))))
sits_wanted m s (Fence number item traps) q kept legal w =
    let met = all_met (needs m s (Fence number item traps)) legal in
    let parts = and_parts _ _ met.1.0 in
    let has : has_qubit item.qubits q ≡ true = ap (λ (i : ItemData). has_qubit i.qubits q) (item_same (number, item) (w.number, w.item) w.is) ∙ w.has in
    let one = all_one (λ x. list_any (λ t. holds_qubit s t.0 x) traps) item.qubits q parts.0 has in
    let t = any_trap (λ t. holds_qubit s t.0 one.0) traps one.2 in (
      res.Trap t.0,
      subst (λ (n : ℕ). Sits s.ions n (res.Trap t.0)) one.1 (held_one s.ions s.ions t.0.0 one.0 0 (λ i v is. ap (slice_get s.ions) (zero_plus i) ∙ is) t.1),
      ap (λ (rs : List Res). among rs (res.Trap t.0)) (touches-fence number item traps kept) ∙ t.2,
    )
  where
    zero_plus : (i : ℕ) → 0 + i ≡ i
    zero_plus i = omega arith
