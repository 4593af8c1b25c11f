-- Each operation is begun at most once: as many are begun as there are Begins in the history.
use Rattle.std.proofs.Common.{◌≡◌, ◌≢◌, ℕ, zero, suc, ◌+◌, ◌<◌, inl, inr, Bool, true, false, nat_lt, is_some, List, [], ◌∷◌, length, refl, sym, ◌∙◌, ap, subst, arith, Option, Some, None}
use Rattle.std.specs.List.{list_all}
use Rattle.std.proofs.lemmas.Bool.{cases_Bool, false≢true, lt-ltb, ltb-true, false_from_ne_true, and_left, or_right, and_from}
use Rattle.std.proofs.lemmas.Option.{none-some}
use Rattle.std.proofs.lemmas.List.Sums.{sum_by-cons}
use Rattle.qccd_base.specs.declared.names.Res.{Res}
use Rattle.qccd_base.specs.Resource.{among, same_res}
use Rattle.qccd_base.proofs.Resources.{same_res-true, among-own}
use Rattle.op_table.specs.declared.kinds.OpKind.{OpKind}
use Rattle.op_table.specs.Touch.{nth, is_head}
use Rattle.qccd_program.specs.Program.{ProgramData}
use Rattle.claim_core.specs.declared.board.Slot.{Slot}
use Rattle.claim_core.specs.declared.event.Event.{Event}
use Rattle.claim_core.specs.declared.event.Event.TheVariants.{Begin, Reach, Give}
use Rattle.claim_core.specs.Board.{BoardData, opening_board, hand_at}
use Rattle.claim_core.specs.Event.{touched, begun, fault, moved, IsEvent}
use Rattle.claim_core.specs.History.{IsHistoryFrom, board_from}
use Rattle.claim_core.specs.Sound.{Reading, read, Sound, IsSound}
use Rattle.claim_core.specs.Coded.{Claims}
use Rattle.claim_core.proofs.Events.{event-sound, opening-sound, slot_opening}
use Rattle.claim_core.proofs.Kept.{Moved, Begins, Reaches, Gives, first_among, cases_ℕ}
use Rattle.claim_core.proofs.Turns.{nth_same}
use Rattle.claim_core.proofs.Written.{begins, reaches, gives, moved-both}
use Rattle.claim_board.specs.Close.{how_many, is_past, one_if}
use Rattle.claim_board.specs.Rule.{begin_of, begins_in}
use Rattle.claim_board.proofs.Words.{cases_Option}

-- how often a resource was taken
abbrev taken : Reading → Res → ℕ
taken c r = c.turn r + one_if (is_some (c.holder r))

-- whether the operation took its first resource
abbrev first_taken : List OpKind → Reading → ℕ → List Res → Bool
first_taken ops c k [] = false
first_taken ops c k (r ∷ rs) = nat_lt (nth ops k r) (taken c r)

abbrev has_begun : List OpKind → Reading → ℕ → Bool
has_begun ops c k = first_taken ops c k (touched ops k)

-- counting
same_many : (f g : ℕ → Bool) (n : ℕ) → ((k : ℕ) → k < n → f k ≡ g k) → how_many f n ≡ how_many g n
same_many f g zero h = refl
same_many f g (suc n) h = omega (arith, same_many f g n (λ k less. h k (omega arith)), ap one_if (h n (omega arith)))

one_more : (f g : ℕ → Bool) (n k : ℕ) → k < n → f k ≡ false → g k ≡ true → ((j : ℕ) → j < n → j ≢ k → g j ≡ f j) → how_many g n ≡ how_many f n + 1
one_more f g zero k less old new else = absurd (omega arith)
one_more f g (suc n) k less old new else = elim (cases_ℕ n k) [
  | inl is ↦
      omega (
        arith,
        same_many g f n (λ j below. else j (omega arith) (λ e. omega arith)),
        ap one_if (ap f is ∙ old),
        ap one_if (ap g is ∙ new),
      )
  | inr other ↦ omega (arith, one_more f g n k (omega arith) old new (λ j below. else j (omega arith)), ap one_if (else n (omega arith) other))
]

-- a number that is not n is below n + 1 where it is below n
beside : (a n m l : ℕ) → a ≢ n → m ≡ n → l ≡ n + 1 → nat_lt a l ≡ nat_lt a m
beside a n m l other lower upper = elim (cases_Bool (nat_lt a m)) [
  | inl yes_is ↦ lt-ltb a l (omega (arith, ltb-true a m yes_is)) ∙ sym yes_is
  | inr no_is ↦ false_from_ne_true (nat_lt a l) (λ h. false≢true (sym no_is ∙ lt-ltb a m (omega (arith, ltb-true a l h, other)))) ∙ sym no_is
]

free_taken : (c : Reading) (r : Res) → c.holder r ≡ None → taken c r ≡ c.turn r
free_taken c r h = omega (arith, ap (λ (o : Option ℕ). one_if (is_some o)) h)

held_taken : (c : Reading) (r : Res) (w : ℕ) → c.holder r ≡ Some w → taken c r ≡ c.turn r + 1
held_taken c r w h = omega (arith, ap (λ (o : Option ℕ). one_if (is_some o)) h)

-- an operation whose first resource is another is begun as before
else_taken : (c d : Reading) (w : ℕ) (q r : Res) → Moved c d w q → same_res q r ≡ false → taken d r ≡ taken c r
else_taken c d w q r m apart = (λ i. m.turn r apart i + one_if (is_some (m.holder r apart i)))

step_same : (ops : List OpKind) (c d : Reading) (w j : ℕ) (q : Res) (rs : List Res) → Moved c d w q → (is_head rs q ≡ true → nat_lt (nth ops j q) (taken d q) ≡ nat_lt (nth ops j q) (taken c q)) → first_taken ops d j rs ≡ first_taken ops c j rs
step_same ops c d w j q [] m h = refl
step_same ops c d w j q (r ∷ rs) m h = elim (cases_Bool (same_res q r)) [
  | inl is ↦
      let r_is : q ≡ r = same_res-true q r is in
      subst (λ (x : Res). nat_lt (nth ops j x) (taken d x) ≡ nat_lt (nth ops j x) (taken c x)) r_is (h (ap (same_res r) r_is ∙ Rattle.qccd_base.proofs.Resources.same_res-own r))
  | inr apart ↦ ap (nat_lt (nth ops j r)) (else_taken c d w q r m apart)
]

head_is : (ops : List OpKind) (c : Reading) (k : ℕ) (q : Res) (rs : List Res) (b : Bool) → is_head rs q ≡ true → nat_lt (nth ops k q) (taken c q) ≡ b → first_taken ops c k rs ≡ b
head_is ops c k q [] b first h = absurd (false≢true first)
head_is ops c k q (r ∷ rs) b first h = subst (λ (x : Res). nat_lt (nth ops k x) (taken c x) ≡ b) (sym (same_res-true r q first)) h

begin_count : (ops : List OpKind) (c d : Reading) (w k : ℕ) (q : Res) → Moved c d w q → Begins ops c d w k q → how_many (has_begun ops d) (length ops) ≡ how_many (has_begun ops c) (length ops) + 1
begin_count ops c d w k q m b =
    let first : is_head (touched ops k) q ≡ true = b.first q ∙ Rattle.qccd_base.proofs.Resources.same_res-own q in
    let at : among (touched ops k) q ≡ true = first_among (touched ops k) q first in
    let free = b.free q at in
    let old : taken c q ≡ nth ops k q = free_taken c q free.0 ∙ free.1 in
    let new : taken d q ≡ nth ops k q + 1 = omega (arith, held_taken d q w b.holder, b.turn, free.1) in
    one_more (has_begun ops c) (has_begun ops d) (length ops) k b.there
    (head_is ops c k q (touched ops k) false first (false_from_ne_true (nat_lt (nth ops k q) (taken c q)) (λ h. omega (arith, ltb-true (nth ops k q) (taken c q) h, old))))
    (head_is ops d k q (touched ops k) true first (lt-ltb (nth ops k q) (taken d q) (omega (arith, new))))
    (λ j less other. step_same ops c d w j q (touched ops j) m (λ first_j.
    beside (nth ops j q) (nth ops k q) (taken c q) (taken d q) (λ e. other (nth_same ops j k q (first_among (touched ops j) q first_j) at e)) old new))

reach_count : (ops : List OpKind) (c d : Reading) (w k : ℕ) (q : Res) → Sound ops c → Moved c d w q → Reaches ops c d w k q → how_many (has_begun ops d) (length ops) ≡ how_many (has_begun ops c) (length ops)
reach_count ops c d w k q sound m b =
    let fits = sound.hands w k b.had in
    let free = fits.wanted q b.at b.lacks in
    let old : taken c q ≡ nth ops k q = free_taken c q free.0 ∙ free.1 in
    let new : taken d q ≡ nth ops k q + 1 = omega (arith, held_taken d q w b.holder, b.turn, free.1) in
    same_many (has_begun ops d) (has_begun ops c) (length ops) (λ j less. step_same ops c d w j q (touched ops j) m (λ first_j.
    beside (nth ops j q) (nth ops k q) (taken c q) (taken d q) (λ e.
    let j_is : j ≡ k = nth_same ops j k q (first_among (touched ops j) q first_j) b.at e in
    false≢true (sym b.lacks ∙ fits.first q (ap (λ (i : ℕ). is_head (touched ops i) q) (sym j_is) ∙ first_j))) old new))

give_count : (ops : List OpKind) (c d : Reading) (w k : ℕ) (q : Res) → Sound ops c → Moved c d w q → Gives ops c d w k q → how_many (has_begun ops d) (length ops) ≡ how_many (has_begun ops c) (length ops)
give_count ops c d w k q sound m b =
    let fits = sound.hands w k b.had in
    let same : taken d q ≡ taken c q = omega (arith, held_taken c q w (fits.holds q (b.whole q b.at) b.kept), free_taken d q b.holder, b.turn) in
    same_many (has_begun ops d) (has_begun ops c) (length ops) (λ j less. step_same ops c d w j q (touched ops j) m (λ first_j. ap (nat_lt (nth ops j q)) same))

abbrev count_on : ProgramData → BoardData → ℕ
count_on p b = how_many (has_begun p.ops (read p b)) (length p.ops)

event_count : (p : ProgramData) (b : BoardData) (e : Event) → Claims p → IsSound p b → IsEvent p b e → fault p b e ≡ None → count_on p (moved p b e) ≡ count_on p b + begin_of e
event_count p b (Begin w k) claims good there granted =
    let some = claims.some k there.1 in
    let facts = begins p b w k some.0 some.1 claims good.wide there granted some.2 in
    ap (λ (xs : List Res). count_on p (begun p b w k xs)) some.2 ∙ begin_count p.ops _ _ w k some.0 (moved-both p b some.0 _ w _ facts.0) facts.2
event_count p b (Reach w k q) claims good there granted =
    let facts = reaches p b w k q claims good.wide there granted in
    omega (arith, reach_count p.ops _ _ w k q good.sound (moved-both p b q _ w _ facts.0) facts.2)
event_count p b (Give w k q) claims good there granted =
    let facts = gives p b w k q claims good.wide there granted in
    omega (arith, give_count p.ops _ _ w k q good.sound (moved-both p b q _ w _ facts.0) facts.2)

history_count : (p : ProgramData) (b : BoardData) (es : List Event) → Claims p → IsSound p b → IsHistoryFrom p b es → count_on p (board_from p b es) ≡ count_on p b + begins_in es
history_count p b [] claims good h = omega arith
history_count p b (e ∷ es) claims good h =
    let next = event-sound p b e claims good h.0.there h.0.granted in
    omega (arith, sum_by-cons begin_of e es, event_count p b e claims good h.0.there h.0.granted, history_count p (moved p b e) es claims next h.1)

-- at the opening nothing is begun
none_first : (ops : List OpKind) (c : Reading) (k : ℕ) (rs : List Res) → ((r : Res) → taken c r ≡ 0) → first_taken ops c k rs ≡ false
none_first ops c k [] none = refl
none_first ops c k (r ∷ rs) none = false_from_ne_true (nat_lt (nth ops k r) (taken c r)) (λ h. omega (arith, ltb-true (nth ops k r) (taken c r) h, none r))

none_many : (f : ℕ → Bool) (n : ℕ) → ((k : ℕ) → f k ≡ false) → how_many f n ≡ 0
none_many f zero h = refl
none_many f (suc n) h = omega (arith, none_many f n h, ap one_if (h n))

opening_count : (p : ProgramData) (workers : ℕ) → count_on p (opening_board p workers) ≡ 0
opening_count p workers =
    none_many (has_begun p.ops (read p (opening_board p workers))) (length p.ops) (λ k. none_first p.ops (read p (opening_board p workers)) k (touched p.ops k) (λ r.
    ap (λ (s : Slot). s.turn + one_if (is_some s.holder)) (slot_opening p workers r)))

-- where all hands are empty, what is begun is past
all_test : (test : Res → Bool) (rs : List Res) → ((r : Res) → among rs r ≡ true → test r ≡ true) → list_all test rs ≡ true
all_test test [] h = refl
all_test test (r ∷ rs) h = and_from (test r) (list_all test rs) (h r (among-own r rs)) (all_test test rs (λ q at. h q (or_right (same_res r q) (among rs q) at)))

past_first : (ops : List OpKind) (c : Reading) (k : ℕ) (r : Res) (rs : List Res) → taken c r ≡ c.turn r → nat_lt (nth ops k r) (c.turn r) ≡ false → first_taken ops c k (r ∷ rs) ≡ list_all (λ q. nat_lt (nth ops k q) (c.turn q)) (r ∷ rs)
past_first ops c k r rs free low = ap (nat_lt (nth ops k r)) free ∙ low ∙ sym (and_left (nat_lt (nth ops k r) (c.turn r)) (list_all (λ q. nat_lt (nth ops k q) (c.turn q)) rs) low)

pub past-begun : (p : ProgramData) (workers : ℕ) (es : List Event) → Claims p → IsHistoryFrom p (opening_board p workers) es → ((w : ℕ) → (hand_at (board_from p (opening_board p workers) es) w).op ≡ None)
    → how_many (is_past p.ops (read p (board_from p (opening_board p workers) es)).turn) (length p.ops) ≡ begins_in es
past-begun p workers es claims history idle =
    let b : BoardData = board_from p (opening_board p workers) es in
    let c : Reading = read p b in
    let sound : Sound p.ops c = (Rattle.claim_core.proofs.Events.history-sound p (opening_board p workers) es claims (opening-sound p workers) history).sound in
    let free : (r : Res) → taken c r ≡ c.turn r = λ r. elim (cases_Option (c.holder r)) [
      | inl h ↦ free_taken c r h
      | inr (w, h) ↦ let held = sound.held r w h in absurd (none-some held.op (sym (idle w) ∙ held.hand))
    ] in
    let same : (k : ℕ) → k < length p.ops → is_past p.ops c.turn k ≡ has_begun p.ops c k = λ k there.
    let some = claims.some k there in
    let at : among (touched p.ops k) some.0 ≡ true = ap (λ (xs : List Res). among xs some.0) some.2 ∙ among-own some.0 some.1 in
    elim (sound.rest k there (λ w h. none-some k (sym (idle w) ∙ h))) [
      | inl u ↦
          subst (λ (xs : List Res). list_all (λ q. nat_lt (nth p.ops k q) (c.turn q)) xs ≡ first_taken p.ops c k xs) (sym some.2)
          (sym (past_first p.ops c k some.0 some.1 (free some.0) (false_from_ne_true (nat_lt (nth p.ops k some.0) (c.turn some.0)) (λ h. omega (arith, ltb-true (nth p.ops k some.0) (c.turn some.0) h, u some.0 at)))))
      | inr f ↦
          all_test (λ q. nat_lt (nth p.ops k q) (c.turn q)) (touched p.ops k) (λ r on. lt-ltb (nth p.ops k r) (c.turn r) (f r on))
          ∙ sym (head_is p.ops c k some.0 (touched p.ops k) true (ap (λ (xs : List Res). is_head xs some.0) some.2 ∙ Rattle.qccd_base.proofs.Resources.same_res-own some.0) (lt-ltb (nth p.ops k some.0) (taken c some.0) (omega (arith, f some.0 at, free some.0))))
    ] in
    omega (arith, same_many (is_past p.ops c.turn) (has_begun p.ops c) (length p.ops) same, history_count p (opening_board p workers) es claims (opening-sound p workers) history, opening_count p workers)
