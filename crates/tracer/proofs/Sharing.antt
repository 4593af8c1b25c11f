-- Two items in a row that share are done by operations that meet.
use Rattle.std.proofs.Common.{◌≡◌, ℕ, zero, suc, ◌+◌, ◌<◌, ◌≤◌, inl, inr, Bool, true, false, cond, ◌&&◌, ◌==◌, nat_lt, List, [], ◌∷◌, map, length, refl, sym, ◌∙◌, ap, arith, Option, Some, None, option_map}
use Rattle.std.specs.Prelude.{count_by, find, slice_get, IsTrue}
use Rattle.std.specs.List.{list_any, list_all}
use Rattle.std.proofs.lemmas.Bool.{cases_lt, false≢true, or_cases, or_left, or_right, and_parts, and_from, eq-eqb, eqb-true}
use Rattle.std.proofs.lemmas.Bool.Decides.{nat_tests}
use Rattle.std.proofs.lemmas.Option.{same_Some, none-some}
use Rattle.qccd_base.specs.declared.names.Qubit.{Qubit}
use Rattle.qccd_base.specs.declared.names.Bit.{Bit}
use Rattle.qccd_base.specs.declared.names.TrapId.{TrapId}
use Rattle.qccd_base.specs.declared.names.Res.{Res}
use Rattle.qccd_base.specs.declared.names.Res.TheVariants as res
use Rattle.qccd_base.specs.Resource.{among, same_res}
use Rattle.qccd_base.specs.Names.{trap}
use Rattle.qccd_base.proofs.Resources.{among-ascending}
use Rattle.qccd_circuit.specs.Item.{ItemData, has_qubit, bits_of}
use Rattle.qccd_circuit.specs.Sharing.{shares, share_qubit, share_bit, has_bit}
use Rattle.qccd_machine.specs.Machine.{MachineData}
use Rattle.op_table.specs.declared.kinds.OpKind.{OpKind}
use Rattle.op_table.specs.declared.kinds.OpKind.TheVariants.{Split, Move, Enter, Leave, Merge, Rot, GSwap, Item, Fence}
use Rattle.op_table.specs.State.{IonPlace, InTrap, OnSegment, InJunction, Stand, State, IsSafe, is_in_trap, is_at, qubit_at}
use Rattle.op_table.specs.Step.{why, effect, needs, carries, is_qubit, holds_qubit}
use Rattle.op_table.specs.Op.{IsOp, KeepsItemRule}
use Rattle.op_table.specs.Run.{item_in}
use Rattle.op_table.specs.Touch.{most_bits, possible, touches, named, meets}
use Rattle.op_table.proofs.Bits.{bit-touched}
use Rattle.op_table.proofs.Counts.{count_by-cons, find_passes}
use Rattle.op_table.proofs.Chains.{count_sum_le}
use Rattle.op_table.proofs.Found.{any_at, any_from, in_at, at_in, seek_unique}
use Rattle.op_table.proofs.Neighbours.{own_among, apart_other}
use Rattle.op_table.proofs.Shared.{all_met}

-- ---- no two ions carry one qubit

one_more : (n q : ℕ) → cond (nat_lt q n) 1 0 + cond (q == n) 1 0 ≤ cond (nat_lt q (suc n)) 1 0
one_more n q = grind (arith, nat_tests)

below_count : (n : ℕ) (ions : List Stand) → ((q : ℕ) → q < n → count_by (λ w. w.qubit.0 == q) ions ≡ 1) → n ≤ count_by (λ w. nat_lt w.qubit.0 n) ions
below_count zero ions once = omega arith
below_count (suc n) ions once =
    let fewer : n ≤ count_by (λ w. nat_lt w.qubit.0 n) ions = below_count n ions (λ q h. once q (omega arith)) in
    let here : count_by (λ w. w.qubit.0 == n) ions ≡ 1 = once n (omega arith) in
    let sum : count_by (λ w. nat_lt w.qubit.0 n) ions + count_by (λ w. w.qubit.0 == n) ions ≤ count_by (λ w. nat_lt w.qubit.0 (suc n)) ions =
    count_sum_le (λ w. nat_lt w.qubit.0 n) (λ w. w.qubit.0 == n) (λ w. nat_lt w.qubit.0 (suc n)) ions (λ w. one_more n w.qubit.0) in
    omega arith

past_all : (n q k : ℕ) → n ≤ q → cond {A = ℕ} (nat_lt k n) 1 0 + cond {A = ℕ} (k == q) 1 0 ≤ 1
past_all n q k far = grind (arith, nat_tests)

pub count_all : {X : Type 0} (xs : List X) → count_by (λ _. true) xs ≡ length xs
count_all [] = refl
count_all (x ∷ xs) = omega (arith, count_by-cons (λ _. true) x xs, count_all xs)

carried_once : (m : MachineData) (s : State) (q : ℕ) → IsSafe m s → count_by (λ w. w.qubit.0 == q) s.ions ≤ 1
carried_once m s q safe = elim (cases_lt q (length s.ions)) [
  | inl h ↦ omega (arith, safe.qubits q h)
  | inr h ↦
      let full : length s.ions ≤ count_by (λ w. nat_lt w.qubit.0 (length s.ions)) s.ions = below_count (length s.ions) s.ions safe.qubits in
      let sum : count_by (λ w. nat_lt w.qubit.0 (length s.ions)) s.ions + count_by (λ w. w.qubit.0 == q) s.ions ≤ count_by (λ (w : Stand). true) s.ions =
      count_sum_le (λ w. nat_lt w.qubit.0 (length s.ions)) (λ w. w.qubit.0 == q) (λ w. true) s.ions (λ w. past_all (length s.ions) q w.qubit.0 h) in
      omega (arith, full, sum, count_all s.ions)
]

abbrev trap_of : IonPlace → ℕ
trap_of (InTrap t k) = t
trap_of (OnSegment g e h) = 0
trap_of (InJunction j h) = 0

in_one_trap : (m : MachineData) (s : State) (t u : ℕ) (q : Qubit) → IsSafe m s → holds_qubit s t q ≡ true → holds_qubit s u q ≡ true → t ≡ u
in_one_trap m s t u q safe h k =
    let a = any_at (λ (w : Stand). is_in_trap t w.place && (w.qubit.0 == q.0)) s.ions h in
    let b = any_at (λ (w : Stand). is_in_trap u w.place && (w.qubit.0 == q.0)) s.ions k in
    let pa = and_parts (is_in_trap t a.1.place) (a.1.qubit.0 == q.0) a.3 in
    let pb = and_parts (is_in_trap u b.1.place) (b.1.qubit.0 == q.0) b.3 in
    let once : count_by (λ (w : Stand). w.qubit.0 == q.0) s.ions ≤ 1 = carried_once m s q.0 safe in
    let fa = seek_unique (λ (w : Stand). w.qubit.0 == q.0) s.ions a.0 a.1 once a.2 pa.1 in
    let fb = seek_unique (λ (w : Stand). w.qubit.0 == q.0) s.ions b.0 b.1 once b.2 pb.1 in
    let same : (a.0, a.1) ≡ (b.0, b.1) = same_Some (a.0, a.1) (b.0, b.1) (sym fa ∙ fb) in
    let place : a.1.place ≡ b.1.place = ap (λ (e : ℕ × Stand). e.1.place) same in
    let x = in_at t a.1.place pa.0 in
    let y = in_at u b.1.place pb.0 in
    ap trap_of (sym x.1 ∙ place ∙ y.1)

-- ---- where the qubits of a legal operation are

find_step : {X : Type 0} (r : X → Bool) (x y : X) (ys : List X) (rest : Option X) → (rest ≡ Some x → list_any r ys ≡ true) → r x ≡ true → (b : Bool) → cond b (Some y) rest ≡ Some x → list_any r (y ∷ ys) ≡ true
find_step r x y ys rest later h true e = or_left (r y) (list_any r ys) (ap r (same_Some y x e) ∙ h)
find_step r x y ys rest later h false e = or_right (r y) (list_any r ys) (later e)

find_any : {X : Type 0} (p r : X → Bool) (xs : List X) (x : X) → find p xs ≡ Some x → r x ≡ true → list_any r xs ≡ true
find_any p r [] x is h = absurd (none-some x is)
find_any p r (y ∷ ys) x is h = find_step r x y ys (find p ys) (λ e. find_any p r ys x e h) h (p y) is

carried_at : (s : State) (t k : ℕ) (p : Qubit) → is_qubit p (qubit_at s t k) ≡ true → holds_qubit s t p ≡ true
carried_at s t k p h = go (find (λ (w : Stand). is_at t k w.place) s.ions) refl h
  where
    go : (o : Option Stand) → find (λ (w : Stand). is_at t k w.place) s.ions ≡ o → is_qubit p (option_map (λ (w : Stand). w.qubit) o) ≡ true → holds_qubit s t p ≡ true
    go None is h = absurd (false≢true h)
    go (Some w) is h =
        find_any (λ (w : Stand). is_at t k w.place) (λ (w : Stand). is_in_trap t w.place && (w.qubit.0 == p.0)) s.ions w is
        (and_from (is_in_trap t w.place) (w.qubit.0 == p.0) (at_in t k w.place (find_passes (λ (w : Stand). is_at t k w.place) s.ions w is)) h)

held_same : (s : State) (t : ℕ) (p q : Qubit) → (p.0 == q.0) ≡ true → holds_qubit s t p ≡ true → holds_qubit s t q ≡ true
held_same s t p q e h =
    let n : p.0 ≡ q.0 = eqb-true p.0 q.0 e in
    ap (λ (k : ℕ). list_any (λ (w : Stand). is_in_trap t w.place && (w.qubit.0 == k)) s.ions) (sym n) ∙ h

carried_all : (s : State) (t : ℕ) (at : List ℕ) (qs : List Qubit) (q : Qubit) → carries s t at qs ≡ true → has_qubit qs q ≡ true → holds_qubit s t q ≡ true
carried_all s t [] [] q h has = absurd (false≢true has)
carried_all s t [] (p ∷ qs) q h has = absurd (false≢true h)
carried_all s t (k ∷ ks) [] q h has = absurd (false≢true has)
carried_all s t (k ∷ ks) (p ∷ qs) q h has =
    let parts = and_parts (is_qubit p (qubit_at s t k)) (carries s t ks qs) h in
    elim (or_cases (p.0 == q.0) (has_qubit qs q) has) [
      | inl e ↦ held_same s t p q e (carried_at s t k p parts.0)
      | inr e ↦ carried_all s t ks qs q parts.1 e
    ]

all_at : {X : Type 0} (p : X → Bool) (xs : List X) (i : ℕ) (x : X) → list_all p xs ≡ true → slice_get xs i ≡ Some x → p x ≡ true
all_at p [] i x h is = absurd (none-some x is)
all_at p (y ∷ ys) zero x h is = let parts = and_parts (p y) (list_all p ys) h in ap p (sym (same_Some y x is)) ∙ parts.0
all_at p (y ∷ ys) (suc i) x h is = let parts = and_parts (p y) (list_all p ys) h in all_at p ys i x parts.1 is

among_traps : (ts : List TrapId) (i : ℕ) (t : TrapId) → slice_get ts i ≡ Some t → among (map res.Trap ts) (res.Trap t) ≡ true
among_traps [] i t is = absurd (none-some t is)
among_traps (u ∷ ts) zero t is = ap (λ (x : TrapId). among (res.Trap x ∷ map res.Trap ts) (res.Trap t)) (same_Some u t is) ∙ own_among (res.Trap t) (map res.Trap ts)
among_traps (u ∷ ts) (suc i) t is = or_right (same_res (res.Trap u) (res.Trap t)) (among (map res.Trap ts) (res.Trap t)) (among_traps ts i t is)

touched_named : (op : OpKind) (r : Res) → among (named op) r ≡ true → among (touches op) r ≡ true
touched_named op r h = among-ascending (named op) r ∙ h

-- a trap that holds the qubit, and that the operation touches
abbrev Holds : State → OpKind → Qubit → Type 0
Holds s op q = (t : TrapId) × (holds_qubit s t.0 q ≡ true) × (among (touches op) (res.Trap t) ≡ true)

holds : (m : MachineData) (s : State) (op : OpKind) (a : ℕ × ItemData) (q : Qubit) → why m s op ≡ None → item_in op ≡ Some a → has_qubit a.1.qubits q ≡ true → Holds s op q
holds m s (Split t e g) a q legal is has = absurd (none-some a is)
holds m s (Move g) a q legal is has = absurd (none-some a is)
holds m s (Enter g j) a q legal is has = absurd (none-some a is)
holds m s (Leave j g) a q legal is has = absurd (none-some a is)
holds m s (Merge g t e) a q legal is has = absurd (none-some a is)
holds m s (Rot t p) a q legal is has = absurd (none-some a is)
holds m s (GSwap t low high) a q legal is has = absurd (none-some a is)
holds m s (Item number t item at) a q legal is has =
    let met = all_met (needs m s (Item number t item at)) legal in
    let same : item ≡ a.1 = ap (λ (e : ℕ × ItemData). e.1) (same_Some (number, item) a is) in
    let own : has_qubit item.qubits q ≡ true = ap (λ (d : ItemData). has_qubit d.qubits q) same ∙ has in
    (t, carried_all s t.0 at item.qubits q met.1.1.0 own, touched_named (Item number t item at) (res.Trap t) (own_among (res.Trap t) (map res.Bit (possible (bits_of item)))))
holds m s (Fence number item traps) a q legal is has =
    let met = all_met (needs m s (Fence number item traps)) legal in
    let same : item ≡ a.1 = ap (λ (e : ℕ × ItemData). e.1) (same_Some (number, item) a is) in
    let own : has_qubit item.qubits q ≡ true = ap (λ (d : ItemData). has_qubit d.qubits q) same ∙ has in
    let parts = and_parts (list_all (λ p. list_any (λ t. holds_qubit s t.0 p) traps) item.qubits) (list_all (λ t. list_any (holds_qubit s t.0) item.qubits) traps) met.1.0 in
    let p = any_at (λ (r : Qubit). r.0 == q.0) item.qubits own in
    let some : list_any (λ t. holds_qubit s t.0 p.1) traps ≡ true = all_at (λ p. list_any (λ t. holds_qubit s t.0 p) traps) item.qubits p.0 p.1 parts.0 p.2 in
    let t = any_at (λ (t : TrapId). holds_qubit s t.0 p.1) traps some in
    (t.1, held_same s t.1.0 p.1 q p.3 t.3, touched_named (Fence number item traps) (res.Trap t.1) (among_traps traps t.0 t.1 t.2))

-- ---- items that share

item_stays : (m : MachineData) (s : State) (op : OpKind) (a : ℕ × ItemData) → item_in op ≡ Some a → effect m s op ≡ s
item_stays m s (Split t e g) a is = absurd (none-some a is)
item_stays m s (Move g) a is = absurd (none-some a is)
item_stays m s (Enter g j) a is = absurd (none-some a is)
item_stays m s (Leave j g) a is = absurd (none-some a is)
item_stays m s (Merge g t e) a is = absurd (none-some a is)
item_stays m s (Rot t p) a is = absurd (none-some a is)
item_stays m s (GSwap t low high) a is = absurd (none-some a is)
item_stays m s (Item number t item at) a is = refl
item_stays m s (Fence number item traps) a is = refl

no_common : (x y : OpKind) (r : Res) → meets x y ≡ false → among (touches x) r ≡ true → among (touches y) r ≡ true → ⊥
no_common x y r apart in_x in_y = false≢true (sym (apart_other (touches x) (touches y) r apart in_y) ∙ in_x)

-- two operations in a row that touch nothing in common do no items that share
pub apart_items : (m : MachineData) (s : State) (x y : OpKind) (a b : ℕ × ItemData) → IsSafe m s → s.bits ≤ most_bits → IsOp x → IsOp y → KeepsItemRule x → KeepsItemRule y → why m s x ≡ None → why m (effect m s x) y ≡ None → meets x y ≡ false
    → item_in x ≡ Some a → item_in y ≡ Some b → IsTrue (shares a.1 b.1) → ⊥
apart_items m s x y a b safe few op_x op_y rule_x rule_y legal then apart is_x is_y share = elim (or_cases (share_qubit a.1.qubits b.1.qubits) (share_bit (bits_of a.1) (bits_of b.1)) share) [
  | inl h ↦
      let q = any_at (has_qubit b.1.qubits) a.1.qubits h in
      let own : has_qubit a.1.qubits q.1 ≡ true = any_from (λ (r : Qubit). r.0 == q.1.0) a.1.qubits q.0 q.1 q.2 (eq-eqb q.1.0 q.1.0 refl) in
      let legal_y = legal_there is_x then in
      let t = holds m s x a q.1 legal is_x own in
      let u = holds m s y b q.1 legal_y is_y q.3 in
      let same : t.0.0 ≡ u.0.0 = in_one_trap m s t.0.0 u.0.0 q.1 safe t.1 u.1 in
      no_common x y (res.Trap t.0) apart t.2 (ap (λ (n : ℕ). among (touches y) (res.Trap (trap n))) same ∙ u.2)
  | inr h ↦
      let c = any_at (has_bit (bits_of b.1)) (bits_of a.1) h in
      let own : has_bit (bits_of a.1) c.1 ≡ true = any_from (λ (r : Bit). r.0 == c.1.0) (bits_of a.1) c.0 c.1 c.2 (eq-eqb c.1.0 c.1.0 refl) in
      no_common x y (res.Bit c.1) apart (bit-touched m s x a c.1 few legal op_x rule_x is_x own) (bit-touched m s y b c.1 few (legal_there is_x then) op_y rule_y is_y c.3)
]
  where
    legal_there : item_in x ≡ Some a → why m (effect m s x) y ≡ None → why m s y ≡ None
    legal_there is then = ap (λ (z : State). why m z y) (sym (item_stays m s x a is)) ∙ then
