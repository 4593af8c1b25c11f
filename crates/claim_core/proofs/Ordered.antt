-- Of two items that share, the earlier is joined to the later, and commits first.
use Rattle.std.proofs.Common.{◌≡◌, ℕ, zero, suc, ◌+◌, ◌<◌, ◌≤◌, inl, inr, Bool, true, cond, ◌==◌, nat_lt, List, [], ◌∷◌, length, take, refl, sym, ◌∙◌, ap, subst, arith, Some}
use Rattle.std.specs.Prelude.{slice_get, count_by}
use Rattle.std.specs.List.{list_any, AllByRecursion}
use Rattle.std.proofs.lemmas.Bool.{cases_Bool, false≢true, or_cases, or_left, or_right, eqb-true, ltb-true}
use Rattle.std.proofs.lemmas.Bool.Decides.{nat_tests}
use Rattle.std.proofs.lemmas.Option.{same_Some, none-some}
use Rattle.qccd_base.specs.declared.names.Res.{Res}
use Rattle.qccd_base.specs.declared.names.Qubit.{Qubit}
use Rattle.qccd_base.specs.declared.names.Bit.{Bit}
use Rattle.qccd_base.specs.Resource.{among}
use Rattle.qccd_machine.specs.Machine.{MachineData}
use Rattle.qccd_circuit.specs.Item.{ItemData, bits_of, has_qubit}
use Rattle.qccd_circuit.specs.Sharing.{share_qubit, share_bit, has_bit}
use Rattle.op_table.specs.declared.kinds.OpKind.{OpKind}
use Rattle.op_table.specs.Op.{IsOp, KeepsItemRule}
use Rattle.op_table.specs.State.{Stand, State, IsSafe}
use Rattle.op_table.specs.Step.{effect}
use Rattle.op_table.specs.Touch.{most_bits, touches, nth}
use Rattle.op_table.specs.Run.{IsRun, after}
use Rattle.qccd_program.specs.Program.{ProgramData, opening_of}
use Rattle.qccd_program.specs.Faithful.{one_of, IsFaithful}
use Rattle.qccd_program.specs.Legal.{IsLegalProgram}
use Rattle.op_table.proofs.Counts.{count_by-cons, count_sum}
use Rattle.qccd_program.proofs.Runs.{legal_at}
use Rattle.op_table.proofs.Every.{safe-effect}
use Rattle.op_table.proofs.Bits.{bit-touched}
use Rattle.claim_core.specs.declared.event.Event.{Event}
use Rattle.claim_core.specs.Event.{touched}
use Rattle.claim_core.specs.History.{IsHistory, commits}
use Rattle.claim_core.specs.Order.{Meet, IsChain, DoesItem, ShareInOrder, StandsBefore}
use Rattle.claim_core.proofs.Turns.{nth_rises, nth_same, one_true, one_false}
use Rattle.claim_core.proofs.Legally.{claims-legal, start-safe, touched_at}
use Rattle.claim_core.proofs.Follows.{Sits, Wants, sits_wanted, sits_touched, sits_untouched, some_place, ions_kept}
use Rattle.claim_core.proofs.Ends.{faithful-commits}
use Rattle.qccd_base.specs.declared.names.Res.TheVariants as res

-- in a safe state a qubit that an ion carries is below the number of ions
count_le : (p : Stand → Bool) (ws : List Stand) → count_by p ws ≤ length ws
count_le p [] = omega arith
count_le p (w ∷ ws) = go (p w) (omega (arith, count_le p ws))
  where
    go : (b : Bool) → count_by p ws ≤ length ws → count_by p (w ∷ ws) ≤ suc (length ws)
    go b h = elim (cases_Bool (p w)) [
      | inl y ↦ omega (arith, count_by-cons p w ws, ap (λ (b : Bool). cond b 1 0 + count_by p ws) y, h)
      | inr n ↦ omega (arith, count_by-cons p w ws, ap (λ (b : Bool). cond b 1 0 + count_by p ws) n, h)
    ]

all_pass : (p : Stand → Bool) (ws : List Stand) (i : ℕ) (w : Stand) → length ws ≤ count_by p ws → slice_get ws i ≡ Some w → p w ≡ true
all_pass p [] i w h is = absurd (none-some w is)
all_pass p (v ∷ ws) zero w h is = elim (cases_Bool (p v)) [
  | inl y ↦ ap p (sym (same_Some v w is)) ∙ y
  | inr n ↦ absurd (omega (arith, count_by-cons p v ws, ap (λ (b : Bool). cond b 1 0 + count_by p ws) n, count_le p ws, h))
]
all_pass p (v ∷ ws) (suc i) w h is = elim (cases_Bool (p v)) [
  | inl y ↦ all_pass p ws i w (omega (arith, count_by-cons p v ws, ap (λ (b : Bool). cond b 1 0 + count_by p ws) y, h)) is
  | inr n ↦ absurd (omega (arith, count_by-cons p v ws, ap (λ (b : Bool). cond b 1 0 + count_by p ws) n, count_le p ws, h))
]

below_next : (x n : ℕ) → cond (nat_lt x n) 1 0 + cond (x == n) 1 0 ≡ cond (nat_lt x (suc n)) 1 0
below_next x n = grind (arith, nat_tests)

many_below : (ws : List Stand) (n : ℕ) → ((q : ℕ) → q < n → count_by (λ w. w.qubit.0 == q) ws ≡ 1) → n ≤ count_by (λ w. nat_lt w.qubit.0 n) ws
many_below ws zero h = omega arith
many_below ws (suc n) h =
    omega (arith, count_sum (λ (w : Stand). nat_lt w.qubit.0 n) (λ w. w.qubit.0 == n) (λ w. nat_lt w.qubit.0 (suc n)) ws (λ w. below_next w.qubit.0 n), h n (omega arith), many_below ws n (λ q l. h q (omega arith)))

qubit_below : (m : MachineData) (s : State) (q : ℕ) (r : Res) → IsSafe m s → Sits s.ions q r → q < length s.ions
qubit_below m s q r safe a =
    subst (λ (n : ℕ). n < length s.ions) a.carries (ltb-true a.stand.qubit.0 (length s.ions) (all_pass (λ w. nat_lt w.qubit.0 (length s.ions)) s.ions a.index a.stand (many_below s.ions (length s.ions) (λ q l. safe.qubits q l)) a.is))

-- the state after one more operation
after_next : (m : MachineData) (s : State) (ops : List OpKind) (k : ℕ) (op : OpKind) → slice_get ops k ≡ Some op → after m s (take (suc k) ops) ≡ effect m (after m s (take k ops)) op
after_next m s [] k op is = absurd (none-some op is)
after_next m s (o ∷ ops) zero op is = ap (effect m s) (same_Some o op is)
after_next m s (o ∷ ops) (suc k) op is = after_next m (effect m s o) ops k op is

get_there : (ops : List OpKind) (k i : ℕ) (op : OpKind) → slice_get ops k ≡ Some op → i ≤ k → (o : OpKind) × (slice_get ops i ≡ Some o)
get_there [] k i op is h = absurd (none-some op is)
get_there (o ∷ ops) k zero op is h = (o, refl)
get_there (o ∷ ops) zero (suc i) op is h = absurd (omega arith)
get_there (o ∷ ops) (suc k) (suc i) op is h = get_there ops k i op is (omega arith)

-- the operations from i on that a resource's content goes through, up to k
abbrev Trail : List OpKind → ℕ → Res → List ℕ → ℕ → Type 0
Trail ops i r [] k = (i ≤ k) × (among (touched ops k) r ≡ true)
Trail ops i r (j ∷ js) k = (i ≤ j) × (j < k) × (among (touched ops j) r ≡ true) × ((z : Res) × (among (touched ops j) z ≡ true) × Trail ops (suc j) z js k)

trail_early : (ops : List OpKind) (i : ℕ) (r : Res) (js : List ℕ) (k : ℕ) → Trail ops (suc i) r js k → Trail ops i r js k
trail_early ops i r [] k t = (omega (arith, t.0), t.1)
trail_early ops i r (j ∷ js) k t = (omega (arith, t.0), t.1, t.2, t.3)

trail-chain : (ops : List OpKind) (a : ℕ) (r : Res) (js : List ℕ) (b : ℕ) → among (touched ops a) r ≡ true → Trail ops (suc a) r js b → IsChain ops a js b
trail-chain ops a r [] b at t = record { earlier = omega (arith, t.0); res = r; first = at; second = t.1 }
trail-chain ops a r (j ∷ js) b at t = (record { earlier = omega (arith, t.0); res = r; first = at; second = t.2 }, trail-chain ops j t.3.0 js b t.3.1 t.3.2)

pub record Runs (m : MachineData) (s : State) (ops : List OpKind) : Type 0 where
  pub safe : IsSafe m s
  pub each : AllByRecursion IsOp ops
  pub run : IsRun m s ops

follow : (m : MachineData) (s : State) (ops : List OpKind) (k : ℕ) (op : OpKind) (q : Qubit) (d i : ℕ) (r : Res) → Runs m s ops → slice_get ops k ≡ Some op → Wants op q → i + d ≡ k → Sits (after m s (take i ops)).ions q.0 r → (js : List ℕ) × Trail ops i r js k
follow m s ops k op q zero i r runs is wants sum sits =
    let same : k ≡ i = omega (arith, sum) in
    let facts = legal_at m s ops k op runs.safe runs.each runs.run is in
    let here : Sits (after m s (take k ops)).ions q.0 r = subst (λ (n : ℕ). Sits (after m s (take n ops)).ions q.0 r) (sym same) sits in
    let found = sits_wanted m (after m s (take k ops)) op q facts.2 facts.0 wants in
    let r_is : found.0 ≡ r = Rattle.claim_core.proofs.Follows.one_place m (after m s (take k ops)) q.0 found.0 r facts.1 (qubit_below m (after m s (take k ops)) q.0 r facts.1 here) found.1 here in
    ([], (omega (arith, same), ap (λ (rs : List Res). among rs r) (touched_at ops k op is) ∙ ap (among (touches op)) (sym r_is) ∙ found.2))
follow m s ops k op q (suc d) i r runs is wants sum sits =
    let z : State = after m s (take i ops) in
    let o = get_there ops k i op is (omega (arith, sum)) in
    let facts = legal_at m s ops i o.0 runs.safe runs.each runs.run o.1 in
    let next : after m s (take (suc i) ops) ≡ effect m z o.0 = after_next m s ops i o.0 o.1 in
    let on : touched ops i ≡ touches o.0 = touched_at ops i o.0 o.1 in
    let few : q.0 < length z.ions = qubit_below m z q.0 r facts.1 sits in
    elim (cases_Bool (among (touches o.0) r)) [
      | inr out ↦
          let rest = follow m s ops k op q d (suc i) r runs is wants (omega (arith, sum)) (subst (λ (x : State). Sits x.ions q.0 r) (sym next) (sits_untouched m z o.0 q.0 r out sits)) in
          (rest.0, trail_early ops i r rest.0 k rest.1)
      | inl at ↦
          let safe : IsSafe m (effect m z o.0) = safe-effect m z o.0 facts.1 facts.2 facts.0 in
          let place = some_place m (effect m z o.0) q.0 safe (omega (arith, few, ions_kept m z o.0)) in
          let at_place : among (touches o.0) place.0 ≡ true = sits_touched m z o.0 q.0 r place.0 facts.1 few at sits place.1 in
          let rest = follow m s ops k op q d (suc i) place.0 runs is wants (omega (arith, sum)) (subst (λ (x : State). Sits x.ions q.0 place.0) (sym next) place.1) in
          (i ∷ rest.0, (omega arith, omega (arith, sum), ap (λ (rs : List Res). among rs r) on ∙ at, (place.0, ap (λ (rs : List Res). among rs place.0) on ∙ at_place, rest.1)))
    ]

gap : (a b : ℕ) → a < b → (d : ℕ) × (suc a + d ≡ b)
gap a zero h = absurd (omega arith)
gap zero (suc b) h = (b, omega arith)
gap (suc a) (suc b) h = let d = gap a b (omega arith) in (d.0, omega (arith, d.1))

-- two that want a qubit are joined
pub qubit-chain : (m : MachineData) (s : State) (ops : List OpKind) (a b : ℕ) (oa ob : OpKind) (q : Qubit) → Runs m s ops → a < b → slice_get ops a ≡ Some oa → slice_get ops b ≡ Some ob → Wants oa q → Wants ob q → (js : List ℕ) × IsChain ops a js b
qubit-chain m s ops a b oa ob q runs less is_a is_b want_a want_b =
    let z : State = after m s (take a ops) in
    let facts = legal_at m s ops a oa runs.safe runs.each runs.run is_a in
    let here = sits_wanted m z oa q facts.2 facts.0 want_a in
    let few : q.0 < length z.ions = qubit_below m z q.0 here.0 facts.1 here.1 in
    let safe : IsSafe m (effect m z oa) = safe-effect m z oa facts.1 facts.2 facts.0 in
    let place = some_place m (effect m z oa) q.0 safe (omega (arith, few, ions_kept m z oa)) in
    let at : among (touches oa) place.0 ≡ true = sits_touched m z oa q.0 here.0 place.0 facts.1 few here.2 here.1 place.1 in
    let d = gap a b less in
    let next : after m s (take (suc a) ops) ≡ effect m z oa = after_next m s ops a oa is_a in
    let trail = follow m s ops b ob q d.0 (suc a) place.0 runs is_b want_b d.1 (subst (λ (x : State). Sits x.ions q.0 place.0) (sym next) place.1) in
    (trail.0, trail-chain ops a place.0 trail.0 b (ap (λ (rs : List Res). among rs place.0) (touched_at ops a oa is_a) ∙ at) trail.1)

all_at : (P : OpKind → Type 0) (ops : List OpKind) (k : ℕ) (op : OpKind) → AllByRecursion P ops → slice_get ops k ≡ Some op → P op
all_at P [] k op all is = absurd (none-some op is)
all_at P (o ∷ ops) zero op all is = subst P (same_Some o op is) all.0
all_at P (o ∷ ops) (suc k) op all is = all_at P ops k op all.1 is

any_qubit : (f : Qubit → Bool) (qs : List Qubit) → list_any f qs ≡ true → (q : Qubit) × (has_qubit qs q ≡ true) × (f q ≡ true)
any_qubit f [] h = absurd (false≢true h)
any_qubit f (q ∷ qs) h = elim (or_cases (f q) (list_any f qs) h) [
  | inl is ↦ (q, or_left (q.0 == q.0) (has_qubit qs q) (Rattle.std.proofs.lemmas.Bool.eq-eqb q.0 q.0 refl), is)
  | inr rest ↦ let one = any_qubit f qs rest in (one.0, or_right (q.0 == one.0.0) (has_qubit qs one.0) one.1, one.2)
]

any_bit : (f : Bit → Bool) (bs : List Bit) → list_any f bs ≡ true → (b : Bit) × (has_bit bs b ≡ true) × (f b ≡ true)
any_bit f [] h = absurd (false≢true h)
any_bit f (b ∷ bs) h = elim (or_cases (f b) (list_any f bs) h) [
  | inl is ↦ (b, or_left (b.0 == b.0) (has_bit bs b) (Rattle.std.proofs.lemmas.Bool.eq-eqb b.0 b.0 refl), is)
  | inr rest ↦ let one = any_bit f bs rest in (one.0, or_right (b.0 == one.0.0) (has_bit bs one.0) one.1, one.2)
]

-- two items that share are joined
pub shared-chain : (m : MachineData) (s : State) (ops : List OpKind) (a b : ℕ) → Runs m s ops → s.bits ≤ most_bits → AllByRecursion KeepsItemRule ops → ShareInOrder ops a b → (js : List ℕ) × IsChain ops a js b
shared-chain m s ops a b runs few fit two = elim (or_cases (share_qubit two.first.qubits two.second.qubits) (share_bit (bits_of two.first) (bits_of two.second)) two.share) [
  | inl qubits ↦
      let q = any_qubit (has_qubit two.second.qubits) two.first.qubits qubits in
      qubit-chain m s ops a b two.does_first.op two.does_second.op q.0 runs two.earlier two.does_first.is two.does_second.is
      (record { number = two.does_first.number; item = two.first; is = two.does_first.does; has = q.1 })
      (record { number = two.does_second.number; item = two.second; is = two.does_second.does; has = q.2 })
  | inr bits ↦
      let c = any_bit (has_bit (bits_of two.second)) (bits_of two.first) bits in
      ([], record { earlier = two.earlier; res = res.Bit c.0; first = touches_its a two.first c.0 two.does_first c.1; second = touches_its b two.second c.0 two.does_second c.2 })
]
  where
    touches_its : (k : ℕ) (item : ItemData) (b : Bit) → DoesItem ops k item → has_bit (bits_of item) b ≡ true → among (touched ops k) (res.Bit b) ≡ true
    touches_its k item b does has =
        let z : State = after m s (take k ops) in
        let facts = legal_at m s ops k does.op runs.safe runs.each runs.run does.is in
        ap (λ (rs : List Res). among rs (res.Bit b)) (touched_at ops k does.op does.is)
        ∙ bit-touched m z does.op (does.number, item) b (omega (arith, facts.3, few)) facts.0 facts.2 (all_at KeepsItemRule ops k does.op fit does.is) does.does has

-- in a faithful list each earlier turn of a resource stands before
pub record Before (ops : List OpKind) (v : List (ℕ × OpKind)) (y : ℕ) (r : Res) (n : ℕ) : Type 0 where
  pub at : ℕ
  pub entry : ℕ × OpKind
  pub early : at < y
  pub is : slice_get v at ≡ Some entry
  pub same : slice_get ops entry.0 ≡ Some entry.1
  pub touches : among (touches entry.1) r ≡ true
  pub turn : nth ops entry.0 r ≡ n

before_next : (ops : List OpKind) (e : ℕ × OpKind) (v : List (ℕ × OpKind)) (y : ℕ) (r : Res) (n : ℕ) → Before ops v y r n → Before ops (e ∷ v) (suc y) r n
before_next ops e v y r n b = record { at = suc b.at; entry = b.entry; early = omega (arith, b.early); is = b.is; same = b.same; touches = b.touches; turn = b.turn }

pub stands_before : (ops : List OpKind) (turn : Res → ℕ) (v : List (ℕ × OpKind)) (y : ℕ) (e : ℕ × OpKind) (r : Res) (n : ℕ) → IsFaithful ops turn v → slice_get v y ≡ Some e → among (touches e.1) r ≡ true → turn r ≤ n → n < nth ops e.0 r → Before ops v y r n
stands_before ops turn [] y e r n f is at low high = absurd (none-some e is)
stands_before ops turn (x ∷ v) zero e r n f is at low high =
    let same : x ≡ e = same_Some x e is in
    let own : turn r ≡ nth ops e.0 r = f.1 r (ap (λ (z : ℕ × OpKind). among (touches z.1) r) same ∙ at) ∙ ap (λ (z : ℕ × OpKind). nth ops z.0 r) same in
    absurd (omega (arith, own, low, high))
stands_before ops turn (x ∷ v) (suc y) e r n f is at low high = elim (cases_Bool (among (touches x.1) r)) [
  | inr out ↦ before_next ops x v y r n (stands_before ops (λ q. turn q + one_of x.1 q) v y e r n f.2 is at (omega (arith, low, one_false x.1 r out)) high)
  | inl on ↦ elim (Rattle.claim_core.proofs.Kept.cases_ℕ (turn r) n) [
    | inl own ↦ record { at = 0; entry = x; early = omega arith; is = refl; same = f.0; touches = on; turn = sym (f.1 r on) ∙ own }
    | inr more ↦ before_next ops x v y r n (stands_before ops (λ q. turn q + one_of x.1 q) v y e r n f.2 is at (omega (arith, low, more, one_true x.1 r on)) high)
  ]
]

pub record Earlier (ops : List OpKind) (v : List (ℕ × OpKind)) (y a : ℕ) : Type 0 where
  pub at : ℕ
  pub op : OpKind
  pub early : at < y
  pub is : slice_get v at ≡ Some (a, op)
  pub same : slice_get ops a ≡ Some op

entry_same : (ops : List OpKind) (turn : Res → ℕ) (v : List (ℕ × OpKind)) (y : ℕ) (e : ℕ × OpKind) → IsFaithful ops turn v → slice_get v y ≡ Some e → slice_get ops e.0 ≡ Some e.1
entry_same ops turn [] y e f is = absurd (none-some e is)
entry_same ops turn (x ∷ v) zero e f is = subst (λ (z : ℕ × OpKind). slice_get ops z.0 ≡ Some z.1) (same_Some x e is) f.0
entry_same ops turn (x ∷ v) (suc y) e f is = entry_same ops (λ q. turn q + one_of x.1 q) v y e f.2 is

met_before : (ops : List OpKind) (v : List (ℕ × OpKind)) (y a b : ℕ) (ob : OpKind) → IsFaithful ops (λ r. 0) v → slice_get v y ≡ Some (b, ob) → Meet ops a b → Earlier ops v y a
met_before ops v y a b ob f is meet =
    let is_b : slice_get ops b ≡ Some ob = entry_same ops (λ r. 0) v y (b, ob) f is in
    let on : among (touches ob) meet.res ≡ true = ap (λ (rs : List Res). among rs meet.res) (sym (touched_at ops b ob is_b)) ∙ meet.second in
    let w = stands_before ops (λ r. 0) v y (b, ob) meet.res (nth ops a meet.res) f is on (omega arith) (nth_rises ops a b meet.res meet.earlier meet.first) in
    let number : w.entry.0 ≡ a = nth_same ops w.entry.0 a meet.res (ap (λ (rs : List Res). among rs meet.res) (touched_at ops w.entry.0 w.entry.1 w.same) ∙ w.touches) meet.first w.turn in
    record { at = w.at; op = w.entry.1; early = w.early; is = w.is ∙ ap (λ (n : ℕ). Some (n, w.entry.1)) number; same = ap (slice_get ops) (sym number) ∙ w.same }

chain_before : (ops : List OpKind) (v : List (ℕ × OpKind)) (y a : ℕ) (js : List ℕ) (b : ℕ) (ob : OpKind) → IsFaithful ops (λ r. 0) v → slice_get v y ≡ Some (b, ob) → IsChain ops a js b → Earlier ops v y a
chain_before ops v y a [] b ob f is chain = met_before ops v y a b ob f is chain
chain_before ops v y a (j ∷ js) b ob f is chain =
    let later = chain_before ops v y j js b ob f is chain.1 in
    let first = met_before ops v later.at a j later.op f later.is chain.0 in
    record { at = first.at; op = first.op; early = omega (arith, first.early, later.early); is = first.is; same = first.same }

pub same-items : (p : ProgramData) (n : ℕ) (es : List Event) (a b : ℕ) → IsLegalProgram p → IsHistory p n es → ShareInOrder p.ops a b → StandsBefore (commits p n es) a b
same-items p n es a b legal h two y later is =
    let chain = shared-chain p.machine (opening_of p) p.ops a b (record { safe = start-safe p legal; each = legal.ops; run = legal.run }) legal.bits legal.items_fit two in
    let before = chain_before p.ops (commits p n es) y a chain.0 b later (faithful-commits p n es (claims-legal p legal) h).0 is chain.1 in
    (before.at, before.op, before.early, before.is)
