-- What is read of a board after an event.
use Rattle.std.proofs.Common.{◌≡◌, ◌≢◌, ℕ, zero, suc, ◌<◌, ◌⊎◌, inl, inr, Bool, true, false, not, ◌&&◌, ◌||◌, ◌==◌, if◌then◌else◌, List, [], ◌∷◌, length, map, is_none, ◌++◌, set, replicate, get_or, refl, sym, ◌∙◌, ap, subst, arith, Option, Some, None, get_or-set_same, get_or-set_other, length-set}
use Rattle.std.specs.List.{list_all}
use Rattle.std.proofs.lemmas.Bool.{cases_Bool, false≢true, true≢false, or_cases, or_parts, or_from, or_left, or_right, and_from, and_left, and_parts, and_cases, eq-eqb, eqb-true, ltb-true, not-true}
use Rattle.std.proofs.lemmas.List.{length-replicate}
use Rattle.qccd_base.specs.declared.names.Res.{Res}
use Rattle.qccd_base.specs.Resource.{among, same_res}
use Rattle.op_table.specs.Touch.{nth, is_head}
use Rattle.qccd_program.specs.Program.{ProgramData}
use Rattle.qccd_base.proofs.Resources.{same_res-true, among-own}
use Rattle.claim_core.specs.declared.board.Slot.{Slot}
use Rattle.claim_core.specs.declared.event.ActFault.{ActFault}
use Rattle.claim_core.specs.declared.event.ActFault.TheVariants.{NotYours, Untouched, Again, NotGot}
use Rattle.claim_core.specs.declared.event.Event.TheVariants.{Begin, Reach, Give}
use Rattle.claim_core.specs.Board.{HandData, BoardData, is_there, width, free_slot, slot_at, turn_at, holder_at, idle, hand_at, flag_at, got_at, gave_at, no_flags}
use Rattle.op_cells.specs.Numbering.{index_of}
use Rattle.claim_core.specs.Event.{touched, is_op, is_free, not_free, fault, with_both, begun, reached, given, left_in_hand, IsEvent}
use Rattle.qccd_base.specs.FirstFailing.{NoneFails}
use Rattle.qccd_base.proofs.FirstFailing.{first_met, first_failing-split}
use Rattle.claim_core.specs.Sound.{read, IsWide}
use Rattle.claim_core.specs.Coded.{Claims}
use Rattle.claim_core.proofs.Kept.{Moved, Begins, Reaches, Gives, cases_ℕ}
use Rattle.qccd_base.specs.declared.names.Res.TheVariants as res

pub index_below : (p : ProgramData) (r : Res) → is_there p r ≡ true → index_of p.machine r < width p
index_below p (res.Trap t) h = omega (arith, ltb-true _ _ h)
index_below p (res.Seg g) h = omega (arith, ltb-true _ _ h)
index_below p (res.Junc j) h = omega (arith, ltb-true _ _ h)
index_below p (res.Bit b) h = omega (arith, ltb-true _ _ h)

-- different resources have different numbers
pub index_apart : (p : ProgramData) (q r : Res) → is_there p q ≡ true → is_there p r ≡ true → index_of p.machine q ≡ index_of p.machine r → same_res q r ≡ true
index_apart p (res.Trap t) (res.Trap u) h k e = eq-eqb t.0 u.0 e
index_apart p (res.Trap t) (res.Seg u) h k e = absurd (omega (arith, ltb-true _ _ h, ltb-true _ _ k, e))
index_apart p (res.Trap t) (res.Junc u) h k e = absurd (omega (arith, ltb-true _ _ h, ltb-true _ _ k, e))
index_apart p (res.Trap t) (res.Bit u) h k e = absurd (omega (arith, ltb-true _ _ h, ltb-true _ _ k, e))
index_apart p (res.Seg t) (res.Trap u) h k e = absurd (omega (arith, ltb-true _ _ h, ltb-true _ _ k, e))
index_apart p (res.Seg t) (res.Seg u) h k e = eq-eqb t.0 u.0 (omega (arith, e))
index_apart p (res.Seg t) (res.Junc u) h k e = absurd (omega (arith, ltb-true _ _ h, ltb-true _ _ k, e))
index_apart p (res.Seg t) (res.Bit u) h k e = absurd (omega (arith, ltb-true _ _ h, ltb-true _ _ k, e))
index_apart p (res.Junc t) (res.Trap u) h k e = absurd (omega (arith, ltb-true _ _ h, ltb-true _ _ k, e))
index_apart p (res.Junc t) (res.Seg u) h k e = absurd (omega (arith, ltb-true _ _ h, ltb-true _ _ k, e))
index_apart p (res.Junc t) (res.Junc u) h k e = eq-eqb t.0 u.0 (omega (arith, e))
index_apart p (res.Junc t) (res.Bit u) h k e = absurd (omega (arith, ltb-true _ _ h, ltb-true _ _ k, e))
index_apart p (res.Bit t) (res.Trap u) h k e = absurd (omega (arith, ltb-true _ _ h, ltb-true _ _ k, e))
index_apart p (res.Bit t) (res.Seg u) h k e = absurd (omega (arith, ltb-true _ _ h, ltb-true _ _ k, e))
index_apart p (res.Bit t) (res.Junc u) h k e = absurd (omega (arith, ltb-true _ _ h, ltb-true _ _ k, e))
index_apart p (res.Bit t) (res.Bit u) h k e = eq-eqb t.0 u.0 (omega (arith, e))

-- reading a list by resource after a write
pub at_own : {X : Type 0} (p : ProgramData) (q : Res) (xs : List X) (x d : X) → is_there p q ≡ true → length xs ≡ width p → (if is_there p q then get_or (set xs (index_of p.machine q) x) (index_of p.machine q) d else d) ≡ x
at_own p q xs x d there wide =
    ap (λ (b : Bool). if b then get_or (set xs (index_of p.machine q) x) (index_of p.machine q) d else d) there
    ∙ get_or-set_same xs (index_of p.machine q) x d (omega (arith, index_below p q there, wide))

pub at_other : {X : Type 0} (p : ProgramData) (q r : Res) (xs : List X) (x d : X) → is_there p q ≡ true → same_res q r ≡ false → (if is_there p r then get_or (set xs (index_of p.machine q) x) (index_of p.machine r) d else d) ≡ (if is_there p r then get_or xs (index_of p.machine r) d else d)
at_other p q r xs x d there apart = elim (cases_Bool (is_there p r)) [
  | inr out ↦ ap (λ (b : Bool). if b then get_or (set xs (index_of p.machine q) x) (index_of p.machine r) d else d) out ∙ sym (ap (λ (b : Bool). if b then get_or xs (index_of p.machine r) d else d) out)
  | inl within ↦
      ap (λ (b : Bool). if b then get_or (set xs (index_of p.machine q) x) (index_of p.machine r) d else d) within
      ∙ get_or-set_other xs (index_of p.machine q) (index_of p.machine r) x d (λ e. false≢true (sym apart ∙ index_apart p q r there within (sym e)))
      ∙ sym (ap (λ (b : Bool). if b then get_or xs (index_of p.machine r) d else d) within)
]

if_and : (a b : Bool) → (a && b) ≡ (if a then b else false)
if_and true b = refl
if_and false b = refl

pub flag_set : (p : ProgramData) (q r : Res) (fs : List Bool) → is_there p q ≡ true → length fs ≡ width p → flag_at p (set fs (index_of p.machine q) true) r ≡ (same_res q r || flag_at p fs r)
flag_set p q r fs there wide = elim (cases_Bool (same_res q r)) [
  | inl is ↦
      let r_is : q ≡ r = same_res-true q r is in
      subst (λ (x : Res). flag_at p (set fs (index_of p.machine q) true) x ≡ true) r_is (if_and (is_there p q) (get_or (set fs (index_of p.machine q) true) (index_of p.machine q) false) ∙ at_own p q fs true false there wide)
      ∙ sym (or_left (same_res q r) (flag_at p fs r) is)
  | inr apart ↦
      if_and (is_there p r) (get_or (set fs (index_of p.machine q) true) (index_of p.machine r) false) ∙ at_other p q r fs true false there apart ∙ sym (if_and (is_there p r) (get_or fs (index_of p.machine r) false))
      ∙ sym (ap (λ (b : Bool). b || flag_at p fs r) apart)
]

get_none : (n i : ℕ) → get_or (replicate n false) i false ≡ false
get_none zero i = refl
get_none (suc n) zero = refl
get_none (suc n) (suc i) = get_none n i

pub flag_none : (p : ProgramData) (r : Res) → flag_at p (no_flags p) r ≡ false
flag_none p r = Rattle.std.proofs.lemmas.Bool.and_right (is_there p r) (get_or (no_flags p) (index_of p.machine r) false) (get_none (width p) (index_of p.machine r))

pub hand_own : (p : ProgramData) (b : BoardData) (q : Res) (x : Slot) (w : ℕ) (h : HandData) → w < length b.hands → hand_at (with_both p b q x w h) w ≡ h
hand_own p b q x w h there = get_or-set_same b.hands w h idle there

pub hand_other : (p : ProgramData) (b : BoardData) (q : Res) (x : Slot) (w : ℕ) (h : HandData) (v : ℕ) → v ≢ w → hand_at (with_both p b q x w h) v ≡ hand_at b v
hand_other p b q x w h v other = get_or-set_other b.hands w v h idle other

pub slot_own : (p : ProgramData) (b : BoardData) (q : Res) (x : Slot) (w : ℕ) (h : HandData) → is_there p q ≡ true → length b.slots ≡ width p → slot_at p (with_both p b q x w h) q ≡ x
slot_own p b q x w h there wide = at_own p q b.slots x free_slot there wide

pub moved-both : (p : ProgramData) (b : BoardData) (q : Res) (x : Slot) (w : ℕ) (h : HandData) → is_there p q ≡ true → Moved (read p b) (read p (with_both p b q x w h)) w q
moved-both p b q x w h there = record {
  turn = λ r apart. ap (λ (s : Slot). s.turn) (at_other p q r b.slots x free_slot there apart);
  holder = λ r apart. ap (λ (s : Slot). s.holder) (at_other p q r b.slots x free_slot there apart);
  hand = λ v other. ap (λ (a : HandData). a.op) (hand_other p b q x w h v other);
  got = λ v r other. ap (λ (a : HandData). flag_at p a.got r) (hand_other p b q x w h v other);
  gave = λ v r other. ap (λ (a : HandData). flag_at p a.gave r) (hand_other p b q x w h v other);
}

pub wide-both : (p : ProgramData) (b : BoardData) (q : Res) (x : Slot) (w : ℕ) (h : HandData) → IsWide p b → length h.got ≡ width p → length h.gave ≡ width p → IsWide p (with_both p b q x w h)
wide-both p b q x w h wide got gave = record {
  slots = length-set b.slots (index_of p.machine q) x ∙ wide.slots;
  flags = λ v there. elim (cases_ℕ v w) [
    | inl e ↦
        let is : hand_at (with_both p b q x w h) v ≡ h = ap (hand_at (with_both p b q x w h)) e ∙ hand_own p b q x w h (omega (arith, e, length-set b.hands w h)) in
        (ap (λ (a : HandData). length a.got) is ∙ got, ap (λ (a : HandData). length a.gave) is ∙ gave)
    | inr other ↦
        let is : hand_at (with_both p b q x w h) v ≡ hand_at b v = hand_other p b q x w h v other in
        let old = wide.flags v (omega (arith, length-set b.hands w h)) in
        (ap (λ (a : HandData). length a.got) is ∙ old.0, ap (λ (a : HandData). length a.gave) is ∙ old.1)
  ];
}

-- what a granted event found
pub all_pass : (f : Res → ActFault) (test : Res → Bool) (rs : List Res) → NoneFails (map (λ r. (f r, test r)) rs) → (r : Res) → among rs r ≡ true → test r ≡ true
all_pass f test [] none r at = absurd (false≢true at)
all_pass f test (q ∷ rs) none r at =
    let own = first_met (f q) (test q) (map (λ r. (f r, test r)) rs) none in
    elim (or_cases (same_res q r) (among rs r) at) [
      | inl is ↦ subst (λ (x : Res). test x ≡ true) (same_res-true q r is) own.0
      | inr rest ↦ all_pass f test rs own.1 r rest
    ]

pub none_is : (o : Option ℕ) → is_none o ≡ true → o ≡ None
none_is None h = refl
none_is (Some w) h = absurd (false≢true h)

pub free_is : (p : ProgramData) (b : BoardData) (k : ℕ) (r : Res) → is_free p b k r ≡ true → (holder_at p b r ≡ None) × (turn_at p b r ≡ nth p.ops k r)
free_is p b k r h =
    let parts = and_parts (turn_at p b r == nth p.ops k r) (is_none (holder_at p b r)) h in
    (none_is (holder_at p b r) parts.1, eqb-true (turn_at p b r) (nth p.ops k r) parts.0)

pub op_is : (o : Option ℕ) (k : ℕ) → is_op o k ≡ true → o ≡ Some k
op_is None k h = absurd (false≢true h)
op_is (Some j) k h = ap Some (eqb-true j k h)

pub all_or_one : (f : Res → Bool) (xs : List Res) → ((list_all f xs ≡ true) × ((r : Res) → among xs r ≡ true → f r ≡ true)) ⊎ ((list_all f xs ≡ false) × ((r : Res) × (among xs r ≡ true) × (f r ≡ false)))
all_or_one f [] = inl (refl, λ r at. absurd (false≢true at))
all_or_one f (x ∷ xs) = elim (cases_Bool (f x)) [
  | inr h ↦ inr (and_left (f x) (list_all f xs) h, (x, among-own x xs, h))
  | inl h ↦ elim (all_or_one f xs) [
    | inl all ↦ inl (
      and_from (f x) (list_all f xs) h all.0,
      λ r at. elim (or_cases (same_res x r) (among xs r) at) [
        | inl is ↦ subst (λ (y : Res). f y ≡ true) (same_res-true x r is) h
        | inr rest ↦ all.1 r rest
      ],
    )
    | inr one ↦ inr (Rattle.std.proofs.lemmas.Bool.and_right (f x) (list_all f xs) one.0, (one.1.0, or_right (same_res x one.1.0) (among xs one.1.0) one.1.1, one.1.2))
  ]
]

-- the three events
pub begins : (p : ProgramData) (b : BoardData) (w k : ℕ) (q : Res) (rs : List Res) → Claims p → IsWide p b → IsEvent p b (Begin w k) → fault p b (Begin w k) ≡ None → touched p.ops k ≡ q ∷ rs
    → (is_there p q ≡ true) × IsWide p (begun p b w k (q ∷ rs)) × Begins p.ops (read p b) (read p (begun p b w k (q ∷ rs))) w k q
begins p b w k q rs claims wide there granted is =
    let c = first_met (NotYours w (hand_at b w).op) (is_none (hand_at b w).op) (map (λ r. (not_free p b k r, is_free p b k r)) (touched p.ops k)) granted in
    let at : among (touched p.ops k) q ≡ true = ap (λ (xs : List Res). among xs q) is ∙ among-own q rs in
    let here : is_there p q ≡ true = claims.there k q at in
    let x : Slot = record { turn = turn_at p b q; holder = Some w } in
    let none_wide : length (no_flags p) ≡ width p = length-replicate (width p) false in
    let h : HandData = record { op = Some k; got = set (no_flags p) (index_of p.machine q) true; gave = no_flags p } in
    let own : hand_at (with_both p b q x w h) w ≡ h = hand_own p b q x w h there.0 in
    let slot : slot_at p (with_both p b q x w h) q ≡ x = slot_own p b q x w h here wide.slots in (
      here,
      wide-both p b q x w h wide (length-set (no_flags p) (index_of p.machine q) true ∙ none_wide) none_wide,
      record {
        empty = none_is (hand_at b w).op c.0;
        there = there.1;
        first = λ r. ap (λ (xs : List Res). is_head xs r) is;
        free = λ r on. free_is p b k r (all_pass (not_free p b k) (is_free p b k) (touched p.ops k) c.1 r on);
        turn = ap (λ (s : Slot). s.turn) slot;
        holder = ap (λ (s : Slot). s.holder) slot;
        hand = ap (λ (a : HandData). a.op) own;
        got = λ r. ap (λ (a : HandData). flag_at p a.got r) own ∙ flag_set p q r (no_flags p) here none_wide ∙ ap (λ (z : Bool). same_res q r || z) (flag_none p r) ∙ or_false (same_res q r);
        gave = λ r. ap (λ (a : HandData). flag_at p a.gave r) own ∙ flag_none p r;
      },
    )
  where
    or_false : (z : Bool) → (z || false) ≡ z
    or_false true = refl
    or_false false = refl

pub reaches : (p : ProgramData) (b : BoardData) (w k : ℕ) (q : Res) → Claims p → IsWide p b → IsEvent p b (Reach w k q) → fault p b (Reach w k q) ≡ None
    → (is_there p q ≡ true) × IsWide p (reached p b w q) × Reaches p.ops (read p b) (read p (reached p b w q)) w k q
reaches p b w k q claims wide there granted =
    let mine = first_met (NotYours w (hand_at b w).op) (is_op (hand_at b w).op k) ((Untouched q, among (touched p.ops k) q) ∷ (Again q, not (got_at p b w q)) ∷ []) granted in
    let on = first_met (Untouched q) (among (touched p.ops k) q) ((Again q, not (got_at p b w q)) ∷ []) mine.1 in
    let lacks : got_at p b w q ≡ false = not-true (got_at p b w q) (first_met (Again q) (not (got_at p b w q)) [] on.1).0 in
    let here : is_there p q ≡ true = claims.there k q on.0 in
    let had : (hand_at b w).op ≡ Some k = op_is (hand_at b w).op k mine.0 in
    let x : Slot = record { turn = turn_at p b q; holder = Some w } in
    let h : HandData = record (hand_at b w) { got = set (hand_at b w).got (index_of p.machine q) true } in
    let own : hand_at (with_both p b q x w h) w ≡ h = hand_own p b q x w h there.0 in
    let slot : slot_at p (with_both p b q x w h) q ≡ x = slot_own p b q x w h here wide.slots in
    let flags = wide.flags w there.0 in (
      here,
      wide-both p b q x w h wide (length-set (hand_at b w).got (index_of p.machine q) true ∙ flags.0) flags.1,
      record {
        had = had;
        at = on.0;
        lacks = lacks;
        turn = ap (λ (s : Slot). s.turn) slot;
        holder = ap (λ (s : Slot). s.holder) slot;
        hand = ap (λ (a : HandData). a.op) own ∙ had;
        got = λ r. ap (λ (a : HandData). flag_at p a.got r) own ∙ flag_set p q r (hand_at b w).got here flags.0;
        gave = λ r. ap (λ (a : HandData). flag_at p a.gave r) own;
      },
    )

pub gives : (p : ProgramData) (b : BoardData) (w k : ℕ) (q : Res) → Claims p → IsWide p b → IsEvent p b (Give w k q) → fault p b (Give w k q) ≡ None
    → (is_there p q ≡ true) × IsWide p (given p b w k q) × Gives p.ops (read p b) (read p (given p b w k q)) w k q
gives p b w k q claims wide there granted =
    let last : List (ActFault × Bool) = (Again q, not (gave_at p b w q)) ∷ [] in
    let all : List (ActFault × Bool) = map (λ r. (NotGot r, got_at p b w r)) (touched p.ops k) in
    let mine = first_met (NotYours w (hand_at b w).op) (is_op (hand_at b w).op k) ((Untouched q, among (touched p.ops k) q) ∷ all ++ last) granted in
    let on = first_met (Untouched q) (among (touched p.ops k) q) (all ++ last) mine.1 in
    let both = first_failing-split all last on.1 in
    let kept : gave_at p b w q ≡ false = not-true (gave_at p b w q) (first_met (Again q) (not (gave_at p b w q)) [] both.1).0 in
    let here : is_there p q ≡ true = claims.there k q on.0 in
    let had : (hand_at b w).op ≡ Some k = op_is (hand_at b w).op k mine.0 in
    let gave : List Bool = set (hand_at b w).gave (index_of p.machine q) true in
    let x : Slot = record { turn = suc (turn_at p b q); holder = None } in
    let h : HandData = record { op = left_in_hand p k gave; got = (hand_at b w).got; gave = gave } in
    let own : hand_at (with_both p b q x w h) w ≡ h = hand_own p b q x w h there.0 in
    let slot : slot_at p (with_both p b q x w h) q ≡ x = slot_own p b q x w h here wide.slots in
    let flags = wide.flags w there.0 in
    let now : (r : Res) → gave_at p (with_both p b q x w h) w r ≡ flag_at p gave r = λ r. ap (λ (a : HandData). flag_at p a.gave r) own in (
      here,
      wide-both p b q x w h wide flags.0 (length-set (hand_at b w).gave (index_of p.machine q) true ∙ flags.1),
      record {
        had = had;
        at = on.0;
        whole = λ r at. all_pass NotGot (got_at p b w) (touched p.ops k) both.0 r at;
        kept = kept;
        turn = ap (λ (s : Slot). s.turn) slot;
        holder = ap (λ (s : Slot). s.holder) slot;
        got = λ r. ap (λ (a : HandData). flag_at p a.got r) own;
        gave = λ r. now r ∙ flag_set p q r (hand_at b w).gave here flags.1;
        hand = elim (all_or_one (flag_at p gave) (touched p.ops k)) [
          | inl all ↦ inr (ap (λ (a : HandData). a.op) own ∙ ap (λ (z : Bool). if z then None else Some k) all.0, λ r at. now r ∙ all.1 r at)
          | inr one ↦ inl (ap (λ (a : HandData). a.op) own ∙ ap (λ (z : Bool). if z then None else Some k) one.0, (one.1.0, one.1.1, now one.1.0 ∙ one.1.2))
        ];
      },
    )
