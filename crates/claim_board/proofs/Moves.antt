-- An event that a pass makes keeps the rule.
use Rattle.std.proofs.Common.{◌≡◌, ◌≢◌, ℕ, zero, suc, ◌+◌, ◌<◌, ◌≤◌, ⊎_elim, inl, inr, Bool, true, false, cond, List, [], ◌∷◌, ◌++◌, length, map, set, get_or, refl, sym, ◌∙◌, ap, subst, arith, Option, Some, None, length-set, get_or-set_same, get_or-set_other, sum_by}
use mathlib.Core.Option.{some, some-injective, some-ne-none}
use mathlib.Core.Option as maybe
use lib.ListN.{get_elem?}
use lib.Seq.{map-set}
use Rattle.std.proofs.lemmas.Bool.{cases_Bool, false≢true}
use Rattle.std.proofs.lemmas.List.Sums.{sum_by-append, sum_by-cons}
use Rattle.qccd_base.specs.declared.names.Res.{Res}
use Rattle.qccd_base.specs.Resource.{same_res}
use Rattle.qccd_base.proofs.Resources.{same_res-true}
use Rattle.op_cells.specs.declared.cells.Cell.{Cell}
use Rattle.op_cells.specs.Numbering.{index_of}
use Rattle.atomic_table.specs.Table.{State}
use Rattle.atomic_table.proofs.Lists.{at_set, set_again, at_map}
use Rattle.qccd_program.specs.CellOfRun.{IsCell}
use Rattle.qccd_program.specs.Program.{ProgramData}
use Rattle.claim_core.specs.declared.board.Slot.{Slot}
use Rattle.claim_core.specs.declared.event.Event.{Event}
use Rattle.claim_core.specs.Board.{BoardData, HandData, is_there, free_slot, slot_at, turn_at, holder_at, hand_at, opening_board}
use Rattle.claim_core.specs.Event.{Allowed, moved, with_both}
use Rattle.claim_core.specs.History.{IsBoardOf, board_of}
use Rattle.claim_core.specs.Sound.{IsSound}
use Rattle.claim_core.proofs.Events.{history-more}
use Rattle.claim_core.proofs.Kept.{cases_ℕ}
use Rattle.claim_core.proofs.Written.{at_other, slot_own, hand_own, hand_other, index_apart}
use Rattle.claim_board.specs.declared.view.Key.{Key}
use Rattle.claim_board.specs.declared.view.View.{View}
use Rattle.claim_board.specs.View.{word_of, mark_of, hand_of, seen_of}
use Rattle.claim_board.specs.Stepping.{Happens}
use Rattle.claim_board.specs.Rule.{ShowsHand, Identity, identity, IsLive, Numbers, begun_of, all_begun, begin_of, begins_in, IsHome, Shown, Ruled}
use Rattle.claim_board.proofs.Boards.{sound-of, hands-of, board-more}
use Rattle.claim_board.proofs.Words.{cases_Option}

abbrev pub St : Type 0
St = State (Option Cell) View

abbrev pub Home : Type 0
Home = maybe.Option (Option Cell)

abbrev pub prog : Key → ProgramData
prog key = key.program.value

abbrev pub board : (key : Key) (s : St) → Ruled key s → BoardData
board key s rule = board_of key.program.value key.workers rule.events

pub sound-rule : (key : Key) (s : St) (rule : Ruled key s) → IsSound key.program.value (board key s rule)
sound-rule key s rule = sound-of key.program.value key.workers rule.events rule.legal rule.history

pub board-is : (key : Key) (s : St) (rule : Ruled key s) → IsBoardOf key.program.value (board key s rule)
board-is key s rule = record { workers = key.workers; events = rule.events; history = rule.history; board = refl }

-- a live view's number is there
pub live-identity : (vs : List View) (j : ℕ) (v : View) → get_elem? vs j ≡ some v → v.live ≡ true → IsLive (map identity vs) j (identity v)
live-identity vs j v at live = record { at = at_map identity vs j v at; live = live }

pub number-below : (key : Key) (s : St) (rule : Ruled key s) (j : ℕ) (v : View) → get_elem? s.views j ≡ some v → v.live ≡ true → v.number < key.workers
number-below key s rule j v at live = rule.numbers.below j (identity v) (live-identity s.views j v at live)

-- who holds a resource is a worker
pub small-mark : (key : Key) (s : St) (rule : Ruled key s) (r : Res) → mark_of (holder_at key.program.value (board key s rule) r) < 32
small-mark key s rule r = elim (cases_Option (holder_at key.program.value (board key s rule) r)) [
  | inl h ↦ none_small (holder_at key.program.value (board key s rule) r) h
  | inr (w, h) ↦
      let held = (sound-rule key s rule).sound.held r w h in
      let owner = rule.shown.owned w held.op held.hand in
      some_small (holder_at key.program.value (board key s rule) r) w h (omega (arith, rule.few, rule.numbers.below owner.0 owner.1 owner.2, owner.3))
]
  where
    none_small : (o : Option ℕ) → o ≡ None → mark_of o < 32
    none_small o h = omega (arith, ap mark_of h)

    some_small : (o : Option ℕ) (w : ℕ) → o ≡ Some w → w < 16 → mark_of o < 32
    some_small o w h less = omega (arith, ap mark_of h)

-- a list with one entry changed
pub same-map : {A B : Type 0} (f : A → B) (xs : List A) (i : ℕ) (x y : A) → get_elem? xs i ≡ some x → f y ≡ f x → map f (set xs i y) ≡ map f xs
same-map f xs i x y at same = map-set f xs i y ∙ ap (λ (z : _). set (map f xs) i z) same ∙ set_again (map f xs) i (f x) (at_map f xs i x at)

pub sum-set : {A : Type 0} (f : A → ℕ) (xs : List A) (i : ℕ) (x y : A) → get_elem? xs i ≡ some x → sum_by f (set xs i y) + f x ≡ sum_by f xs + f y
sum-set f [] i x y at = absurd (some-ne-none x (sym at))
sum-set f (z ∷ xs) zero x y at = omega (arith, sum_by-cons f z xs, sum_by-cons f y xs, ap f (some-injective z x at))
sum-set f (z ∷ xs) (suc i) x y at = omega (arith, sum_by-cons f z xs, sum_by-cons f z (set xs i y), sum-set f xs i x y at)

-- what a pass makes of the word of q, with the event e: v becomes w, the word n, and the cells at home change
-- there alone
pub record Turns (key : Key) (b : BoardData) (e : Event) (v w : View) (q : Res) (x : Slot) (n : ℕ) (homes later : List Home) : Type 0 where
  pub there : is_there key.program.value q ≡ true
  pub allowed : Allowed key.program.value b e (moved key.program.value b e)
  pub leaves : moved key.program.value b e ≡ with_both key.program.value b q x v.number (hand_of w)
  pub rises : turn_at key.program.value b q ≤ x.turn
  pub word : n ≡ word_of x
  pub same : identity w ≡ identity v
  pub program : w.program ≡ v.program
  pub workers : w.workers ≡ v.workers
  pub begun : w.begun ≡ v.begun + begin_of e
  pub long : length w.seen ≡ length v.seen
  pub seen : (r : Res) → is_there key.program.value r ≡ true → same_res q r ≡ false → seen_of w r ≡ seen_of v r
  pub seen_here : seen_of w q ≤ x.turn
  pub deep : length later ≡ length homes
  pub others : (i : ℕ) → i ≢ index_of key.program.value.machine q → get_elem? later i ≡ get_elem? homes i
  pub home : x.holder ≡ None → IsHome key.program.value later q x.turn

module _ (key : Key) (s : St) (rule : Ruled key s) (id : ℕ) (v w : View) (e : Event) (q : Res) (x : Slot) (n : ℕ) (later : List Home) (at : get_elem? s.views id ≡ some v) (live : v.live ≡ true) (t : Turns key (board key s rule) e v w q x n s.homes later) where
  abbrev P : ProgramData
  P = key.program.value

  abbrev B : BoardData
  B = board key s rule

  abbrev C : BoardData
  C = with_both P B q x v.number (hand_of w)

  abbrev S : St
  S = record { words = set s.words (index_of P.machine q) n; homes = later; views = set s.views id w }

  slot_here : slot_at P C q ≡ x
  slot_here = slot_own P B q x v.number (hand_of w) t.there (sound-rule key s rule).wide.slots

  slot_else : (r : Res) → same_res q r ≡ false → slot_at P C r ≡ slot_at P B r
  slot_else r apart = at_other P q r B.slots x free_slot t.there apart

  index_else : (r : Res) → is_there P r ≡ true → same_res q r ≡ false → index_of P.machine r ≢ index_of P.machine q
  index_else r there apart same = false≢true (sym apart ∙ index_apart P q r t.there there (sym same))

  turns_rise : (r : Res) → turn_at P B r ≤ turn_at P C r
  turns_rise r = elim (cases_Bool (same_res q r)) [
    | inl is ↦ subst (λ (y : Res). turn_at P B y ≤ turn_at P C y) (same_res-true q r is) (omega (arith, t.rises, ap (λ (z : Slot). z.turn) slot_here))
    | inr apart ↦ omega (arith, ap (λ (z : Slot). z.turn) (slot_else r apart))
  ]

  idents_stay : map identity (set s.views id w) ≡ map identity s.views
  idents_stay = same-map identity s.views id v w at t.same

  below : v.number < length B.hands
  below = omega (arith, number-below key s rule id v at live, hands-of key.program.value key.workers rule.events)

  hand_here : hand_at C v.number ≡ hand_of w
  hand_here = hand_own P B q x v.number (hand_of w) below

  number_stays : w.number ≡ v.number
  number_stays = ap (λ (a : Identity). a.number) t.same

  words_after : (r : Res) → is_there P r ≡ true → get_or (set s.words (index_of P.machine q) n) (index_of P.machine r) 0 ≡ word_of (slot_at P C r)
  words_after r there = elim (cases_Bool (same_res q r)) [
    | inl is ↦
        subst (λ (y : Res). get_or (set s.words (index_of P.machine q) n) (index_of P.machine y) 0 ≡ word_of (slot_at P C y)) (same_res-true q r is)
        (get_or-set_same s.words (index_of P.machine q) n 0 (omega (arith, rule.wide, Rattle.claim_core.proofs.Written.index_below P q t.there)) ∙ t.word ∙ ap word_of (sym slot_here))
    | inr apart ↦
        get_or-set_other s.words (index_of P.machine q) (index_of P.machine r) n 0 (index_else r there apart) ∙ rule.shown.words r there ∙ ap word_of (sym (slot_else r apart))
  ]

  homes_after : (r : Res) → is_there P r ≡ true → holder_at P C r ≡ None → IsHome P later r (turn_at P C r)
  homes_after r there free = elim (cases_Bool (same_res q r)) [
    | inl is ↦
        let here : IsHome P later q x.turn = t.home (sym (ap (λ (z : Slot). z.holder) slot_here) ∙ ap (holder_at P C) (same_res-true q r is) ∙ free) in
        subst (λ (y : Res). IsHome P later y (turn_at P C y)) (same_res-true q r is) (subst (λ (k : ℕ). IsHome P later q k) (ap (λ (z : Slot). z.turn) (sym slot_here)) here)
    | inr apart ↦
        let old = rule.shown.homes r there (ap (λ (z : Slot). z.holder) (sym (slot_else r apart)) ∙ free) in
        record { cell = old.cell; home = t.others (index_of P.machine r) (index_else r there apart) ∙ old.home; is = subst (λ (k : ℕ). IsCell P r k old.cell) (ap (λ (z : Slot). z.turn) (sym (slot_else r apart))) old.is }
  ]

  mine_after : ShowsHand key C w
  mine_after =
      let old = rule.shown.passes id v at live in
      let hand : hand_at C w.number ≡ hand_of w = ap (hand_at C) number_stays ∙ hand_here in
      record {
        program = t.program ∙ old.program;
        workers = t.workers ∙ old.workers;
        op = ap (λ (h : HandData). h.op) hand;
        hand = λ k busy. hand;
        long = t.long ∙ old.long;
        seen = λ r there. elim (cases_Bool (same_res q r)) [
          | inl is ↦ subst (λ (y : Res). seen_of w y ≤ turn_at P C y) (same_res-true q r is) (omega (arith, t.seen_here, ap (λ (z : Slot). z.turn) slot_here))
          | inr apart ↦ omega (arith, t.seen r there apart, old.seen r there, turns_rise r)
        ];
      }

  others_after : (j : ℕ) (u : View) → j ≢ id → get_elem? s.views j ≡ some u → u.live ≡ true → ShowsHand key C u
  others_after j u other there alive =
      let old = rule.shown.passes j u there alive in
      let apart : u.number ≢ v.number = λ same. other (rule.numbers.apart j id (identity u) (identity v) (live-identity s.views j u there alive) (live-identity s.views id v at live) same) in
      let hand : hand_at C u.number ≡ hand_at B u.number = hand_other P B q x v.number (hand_of w) u.number apart in
      record {
        program = old.program;
        workers = old.workers;
        op = ap (λ (h : HandData). h.op) hand ∙ old.op;
        hand = λ k busy. hand ∙ old.hand k busy;
        long = old.long;
        seen = λ r y. omega (arith, old.seen r y, turns_rise r);
      }

  owners_after : (m k : ℕ) → (hand_at C m).op ≡ Some k → (j : ℕ) × (a : Identity) × IsLive (map identity (set s.views id w)) j a × (a.number ≡ m)
  owners_after m k busy = elim (cases_ℕ m v.number) [
    | inl is ↦ (id, identity v, subst (λ (is : List Identity). IsLive is id (identity v)) (sym idents_stay) (live-identity s.views id v at live), sym is)
    | inr other ↦
        let old = rule.shown.owned m k (sym (ap (λ (h : HandData). h.op) (hand_other P B q x v.number (hand_of w) m other)) ∙ busy) in
        (old.0, old.1, subst (λ (is : List Identity). IsLive is old.0 old.1) (sym idents_stay) old.2, old.3)
  ]

  shown_after : Shown key C S
  shown_after = record {
    words = words_after;
    homes = homes_after;
    passes = λ j u there alive. ⊎_elim (λ (t : (j ≡ id) × (w ≡ u)). subst (ShowsHand key C) t.1 mine_after)
        (λ (t : (j ≢ id) × (get_elem? s.views j ≡ some u)). others_after j u t.0 t.1 alive) (at_set s.views id j w u there);
    owned = owners_after;
  }

  begun_after : begins_in (rule.events ++ e ∷ []) ≡ all_begun (set s.views id w)
  begun_after =
      let live_w : w.live ≡ true = ap (λ (a : Identity). a.live) t.same ∙ live in
      let of_w : begun_of w ≡ w.begun = ap (λ (z : Bool). cond z w.begun 0) live_w in
      let of_v : begun_of v ≡ v.begun = ap (λ (z : Bool). cond z v.begun 0) live in
      omega (arith, Rattle.std.proofs.lemmas.List.Sums.sum_by_push begin_of rule.events e, rule.counted, sum-set begun_of s.views id v w at, t.begun, of_w, of_v)

  pub moves : Ruled key S
  moves =
      let now : board_of P key.workers (rule.events ++ e ∷ []) ≡ C = board-more P (opening_board P key.workers) rule.events e ∙ t.leaves in
      record {
        legal = rule.legal;
        few = rule.few;
        wide = length-set s.words (index_of P.machine q) n ∙ rule.wide;
        deep = t.deep ∙ rule.deep;
        events = rule.events ++ e ∷ [];
        history = history-more P (opening_board P key.workers) rule.events e rule.history t.allowed;
        shown = subst (λ (b : BoardData). Shown key b S) (sym now) shown_after;
        numbers = subst (λ (is : List Identity). Numbers key.workers is) (sym idents_stay) rule.numbers;
        counted = begun_after;
      }

  pub happens : Happens key e s S
  happens = record {
    board = B;
    is = board-is key s rule;
    shown = rule.shown;
    allowed = t.allowed;
    leads = subst (λ (b : BoardData). Shown key b S) (sym t.leaves) shown_after;
  }
