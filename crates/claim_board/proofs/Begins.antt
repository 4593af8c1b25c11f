-- A Begin and a Reach keep the rule.
use Rattle.std.proofs.Common.{◌≡◌, ◌≢◌, ℕ, ◌+◌, ◌*◌, ◌<◌, ◌≤◌, true, false, eqb, List, [], ◌∷◌, length, set, get_or, refl, sym, ◌∙◌, ap, subst, arith, Option, Some, None, length-set}
use mathlib.Core.Option.{some, none}
use lib.ListN.{get_elem?}
use prog.Atomic.{either}
use Rattle.std.proofs.lemmas.Bool.{false≢true}
use Rattle.std.proofs.lemmas.Option.{same_Some}
use Rattle.qccd_base.specs.declared.names.Res.{Res}
use Rattle.qccd_base.specs.Resource.{among}
use Rattle.qccd_base.proofs.Resources.{same_res-true}
use Rattle.op_table.specs.Touch.{nth, is_head}
use Rattle.op_cells.specs.declared.cells.Cell.{Cell}
use Rattle.op_cells.specs.Numbering.{index_of}
use Rattle.atomic_table.specs.Table.{step, Allows, Act, Valid, stepped, carried_after, keeps, takes}
use Rattle.atomic_table.proofs.Lists.{exchanged, set_else}
use Rattle.qccd_program.specs.CellOfRun.{IsCell}
use Rattle.qccd_program.specs.Program.{ProgramData}
use Rattle.claim_core.specs.declared.event.Event.{Event}
use Rattle.claim_core.specs.declared.event.Event.TheVariants.{Begin, Reach}
use Rattle.claim_core.specs.Board.{BoardData, HandData, is_there, slot_at, turn_at, holder_at, hand_at, flag_at}
use Rattle.claim_core.specs.Event.{Allowed, moved, begun, touched, with_both, with_flag}
use Rattle.claim_core.proofs.Kept.{first_among}
use Rattle.claim_core.proofs.Legally.{claims-legal}
use Rattle.claim_core.proofs.Turns.{nth_same}
use Rattle.claim_core.proofs.Written.{index_apart, index_below}
use Rattle.claim_board.specs.declared.view.Key.{Key}
use Rattle.claim_board.specs.declared.view.View.{View}
use Rattle.claim_board.specs.Plays.{Knows, Takes, MayBegin, MayReach, after_look, after_begin, after_reach, began, reached}
use Rattle.claim_board.specs.View.{hand_of, seen_of, seen_also}
use Rattle.claim_board.specs.Rule.{IsHome, Ruled}
use Rattle.claim_board.specs.Stepping.{Happens}
use Rattle.claim_board.proofs.Boards.{all-free, begin-granted, reach-granted, hands-of}
use Rattle.claim_board.proofs.Looks.{look-keeps, look-small, same-program, seen-here, seen-else, seen-long}
use Rattle.claim_board.proofs.Moves.{St, board, happens, sound-rule, number-below, small-mark, moves, Turns}
use Rattle.claim_board.proofs.Words.{free-word}

-- the view with the deck's own program
abbrev pub on : ProgramData → View → View
on p v = record v { program = p }

pub on-same : (p : ProgramData) (v : View) → v.program ≡ p → on p v ≡ v
on-same p v same i = record v { program = sym same i }

-- what is touched is there
pub touched-there : (key : Key) (s : St) → Ruled key s → (k : ℕ) (r : Res) → among (touched key.program.value.ops k) r ≡ true → is_there key.program.value r ≡ true
touched-there key s rule k r at = (claims-legal key.program.value rule.legal).there k r at

-- two resources with the same word are one
pub one-word : (p : ProgramData) (q r : Res) → is_there p q ≡ true → is_there p r ≡ true → index_of p.machine q ≡ index_of p.machine r → q ≡ r
one-word p q r x y same = same_res-true q r (index_apart p q r x y same)

module _ (key : Key) (s : St) (rule : Ruled key s) (id : ℕ) (u : View) (at : get_elem? s.views id ≡ some (on key.program.value u)) (live : u.live ≡ true) where
  abbrev P : ProgramData
  P = key.program.value

  abbrev B : BoardData
  B = board key s rule

  abbrev V : View
  V = on P u

  -- the word of q is taken at turn n, by an event that leaves the hand of w
  module _ (e : Event) (w : View) (k : ℕ) (q : Res) (n : ℕ) (there : is_there P q ≡ true) (free : holder_at P B q ≡ None) (turn : turn_at P B q ≡ n) (allowed : Allowed P B e (moved P B e))
      (leaves : moved P B e ≡ with_both P B q (record { turn = turn_at P B q; holder = Some u.number }) u.number (hand_of w)) (begins : w.begun ≡ u.begun + Rattle.claim_board.specs.Rule.begin_of e)
      (rest : record w { op = u.op; got = u.got; gave = u.gave; begun = u.begun } ≡ record V { seen = seen_also u.seen (index_of P.machine q) n }) where
    taken_turns : Turns key B e V w q (record { turn = turn_at P B q; holder = Some u.number }) (32 * n + (u.number + 1)) s.homes (set s.homes (index_of P.machine q) none)
    taken_turns =
        let old = rule.shown.passes id V at live in
        let seen : w.seen ≡ seen_also u.seen (index_of P.machine q) n = ap (λ (z : View). z.seen) rest in
        let same_p : w.program ≡ P = ap (λ (z : View). z.program) rest in
        record {
          there = there;
          allowed = allowed;
          leaves = leaves;
          rises = omega arith;
          word = omega (arith, turn);
          same = λ i. Rattle.claim_board.specs.Rule.identity (rest i);
          program = same_p;
          workers = ap (λ (z : View). z.workers) rest;
          begun = begins;
          long = ap (λ (z : List ℕ). length z) seen ∙ seen-long u.seen (index_of P.machine q) n;
          seen = λ r within apart.
              ap (λ (z : View). seen_of z r) rest
              ∙ seen-else u.seen (index_of P.machine q) (index_of P.machine r) n (λ e. false≢true (sym apart ∙ index_apart P q r there within (sym e)));
          seen_here =
              subst (λ (m : ℕ). m ≤ turn_at P B q) (sym (ap (λ (z : View). seen_of z q) rest))
              (seen-here u.seen (index_of P.machine q) n (turn_at P B q) (omega (arith, old.long, index_below P q there)) (old.seen q there) (omega (arith, turn)));
          deep = length-set s.homes (index_of P.machine q) none;
          others = λ i other. set_else s.homes (index_of P.machine q) i none other;
          home = λ none_holds. absurd (Rattle.std.proofs.lemmas.Option.none-some u.number (sym none_holds));
        }

    pub taking-keeps : Ruled key (record { words = set s.words (index_of P.machine q) (32 * n + (u.number + 1)); homes = set s.homes (index_of P.machine q) none; views = set s.views id w })
    taking-keeps = moves key s rule id V w e q _ _ _ at live taken_turns

    taking_happens : Happens key e s (record { words = set s.words (index_of P.machine q) (32 * n + (u.number + 1)); homes = set s.homes (index_of P.machine q) none; views = set s.views id w })
    taking_happens = happens key s rule id V w e q _ _ _ at live taken_turns

  -- a Begin
  begin_taken : (k : ℕ) (q : Res) → u.op ≡ None → k < length P.ops → is_head (touched P.ops k) q ≡ true → ((r : Res) → among (touched P.ops k) r ≡ true → nth P.ops k r ≤ seen_of V r)
      → get_or s.words (index_of P.machine q) 0 ≡ 32 * nth P.ops k q → (holder_at P B q ≡ None) × (turn_at P B q ≡ nth P.ops k q) × Allowed P B (Begin u.number k) (moved P B (Begin u.number k))
  begin_taken k q empty there first seen is =
      let old = rule.shown.passes id V at live in
      let within : is_there P q ≡ true = touched-there key s rule k q (first_among (touched P.ops k) q first) in
      let found = free-word (slot_at P B q) (nth P.ops k q) (small-mark key s rule q) (sym (rule.shown.words q within) ∙ is) in
      let late : (r : Res) → among (touched P.ops k) r ≡ true → nth P.ops k r ≤ turn_at P B r = λ r on. omega (arith, seen r on, old.seen r (touched-there key s rule k r on)) in
      let free = all-free P.ops _ k q (sound-rule key s rule).sound there first found.0 found.1 late in (
        found.0,
        found.1,
        record {
          there = (omega (arith, number-below key s rule id V at live, hands-of P key.workers rule.events), there);
          granted = begin-granted P B u.number k (old.op ∙ empty) free;
          leaves = refl;
        },
      )

  -- how a first resource stands in the list
  first_list : (k : ℕ) (q : Res) (rs : List Res) → is_head rs q ≡ true → begun P B u.number k rs ≡ with_both P B q (record { turn = turn_at P B q; holder = Some u.number }) u.number (hand_of (after_begin k q V))
  first_list k q [] first = absurd (false≢true first)
  first_list k q (r ∷ rs) first =
      subst (λ (x : Res). begun P B u.number k (r ∷ rs) ≡ with_both P B x (record { turn = turn_at P B x; holder = Some u.number }) u.number (hand_of (after_begin k x V))) (same_res-true r q first) refl

  pub begin-hit : (slots k : ℕ) (q : Res) (c : List (ℕ × Option Cell)) → u.op ≡ None → k < length P.ops → is_head (touched P.ops k) q ≡ true → ((r : Res) → among (touched P.ops k) r ≡ true → nth P.ops k r ≤ seen_of V r)
      → get_or s.words (index_of P.machine q) 0 ≡ 32 * nth P.ops k q
      → (w : View) × (a : Act (Option Cell)) × Valid s.homes c a × Ruled key (stepped s (index_of P.machine q) (32 * nth P.ops k q + (u.number + 1)) id c w a)
      × began (step slots (index_of P.machine q) (32 * nth P.ops k q) (32 * nth P.ops k q + (u.number + 1)) none) (V, c) (get_or s.words (index_of P.machine q) 0) (w, carried_after c a)
  begin-hit slots k q c empty there first seen is =
      let t = begin_taken k q empty there first seen is in
      let within : is_there P q ≡ true = touched-there key s rule k q (first_among (touched P.ops k) q first) in
      let home = rule.shown.homes q within t.0 in
      let cell : IsCell P q (nth P.ops k q) home.cell = subst (λ (m : ℕ). IsCell P q m home.cell) t.1 home.is in (
        after_begin k q V,
        takes (index_of P.machine q) (Some home.cell),
        home.home,
        taking-keeps (Begin u.number k) (after_begin k q V) k q (nth P.ops k q) within t.0 t.1 t.2 (first_list k q (touched P.ops k) first) refl refl,
        (
          λ free j r that same.
              let there_r : is_there P r ≡ true = touched-there key s rule j r (first_among (touched P.ops j) r that.first) in
              let r_is : q ≡ r = one-word P q r within there_r (sym that.word) in
              let first_j : is_head (touched P.ops j) q ≡ true = ap (is_head (touched P.ops j)) r_is ∙ that.first in
              let turn : nth P.ops k q ≡ nth P.ops j q = omega (arith, is, same, ap (nth P.ops j) r_is) in
              let j_is : k ≡ j = nth_same P.ops k j q (first_among (touched P.ops k) q first) (first_among (touched P.ops j) q first_j) turn in
              subst (λ (z : ℕ × Res). Takes P z.1 (nth P.ops z.0 z.1) (V, c) (after_begin z.0 z.1 V) (after_begin k q V, (index_of P.machine q, Some home.cell) ∷ c)) (λ i. (j_is i, r_is i)) (record { cell = home.cell; knows = refl; is = cell }),
          λ other. absurd (other is),
        ),
      )

  begin_happens : (k : ℕ) (q : Res) (c : List (ℕ × Option Cell)) → MayBegin V k q → get_or s.words (index_of P.machine q) 0 ≡ 32 * nth P.ops k q
      → (cell : Cell) × Happens key (Begin u.number k) s (stepped s (index_of P.machine q) (32 * nth P.ops k q + (u.number + 1)) id c (after_begin k q V) (takes (index_of P.machine q) (Some cell)))
  begin_happens k q c may is =
      let t = begin_taken k q may.empty may.there may.first may.seen is in
      let within : is_there P q ≡ true = touched-there key s rule k q (first_among (touched P.ops k) q may.first) in (
        (rule.shown.homes q within t.0).cell,
        taking_happens (Begin u.number k) (after_begin k q V) k q (nth P.ops k q) within t.0 t.1 t.2 (first_list k q (touched P.ops k) may.first) refl refl,
      )

  pub begin-miss : (slots k : ℕ) (q : Res) (c : List (ℕ × Option Cell)) → is_there P q ≡ true → get_or s.words (index_of P.machine q) 0 ≢ 32 * nth P.ops k q
      → (w : View) × (a : Act (Option Cell)) × Valid s.homes c a × Ruled key (stepped s (index_of P.machine q) (get_or s.words (index_of P.machine q) 0) id c w a)
      × began (step slots (index_of P.machine q) (32 * nth P.ops k q) (32 * nth P.ops k q + (u.number + 1)) none) (V, c) (get_or s.words (index_of P.machine q) 0) (w, carried_after c a)
  begin-miss slots k q c within other = (
    after_look (index_of P.machine q) (get_or s.words (index_of P.machine q) 0) V,
    keeps,
    tt,
    look-keeps key s rule id V at live q within,
    (λ free. absurd (other free), λ _. (refl, look-small key s rule id V at live q within)),
  )

  -- a Reach
  record Reaching (k : ℕ) (q : Res) : Type 0 where
    within : is_there P q ≡ true
    free : holder_at P B q ≡ None
    turn : turn_at P B q ≡ nth P.ops k q
    allowed : Allowed P B (Reach u.number k q) (moved P B (Reach u.number k q))
    leaves : moved P B (Reach u.number k q) ≡ with_both P B q (record { turn = turn_at P B q; holder = Some u.number }) u.number (hand_of (after_reach k q V))

  reaching : (k : ℕ) (q : Res) → u.op ≡ Some k → among (touched P.ops k) q ≡ true → flag_at P u.got q ≡ false → Reaching k q
  reaching k q busy on lacks =
      let old = rule.shown.passes id V at live in
      let mine : (hand_at B u.number).op ≡ Some k = old.op ∙ busy in
      let hand : hand_at B u.number ≡ hand_of V = old.hand k busy in
      let fits = (sound-rule key s rule).sound.hands u.number k mine in
      let lacks_b : flag_at P (hand_at B u.number).got q ≡ false = ap (λ (h : HandData). flag_at P h.got q) hand ∙ lacks in
      let want = fits.wanted q on lacks_b in
      record {
        within = touched-there key s rule k q on;
        free = want.0;
        turn = want.1;
        allowed = record {
          there = (omega (arith, number-below key s rule id V at live, hands-of P key.workers rule.events), fits.there);
          granted = reach-granted P B u.number k q mine on lacks_b;
          leaves = refl;
        };
        leaves =
            ap (λ (h : HandData). with_both P B q (record { turn = turn_at P B q; holder = Some u.number }) u.number (record h { got = with_flag P h.got q })) hand;
      }

  pub reach-hit : (slots k : ℕ) (q : Res) (c : List (ℕ × Option Cell)) → u.op ≡ Some k → among (touched P.ops k) q ≡ true → flag_at P u.got q ≡ false
      → (get_or s.words (index_of P.machine q) 0 ≡ 32 * nth P.ops k q)
      × ((w : View) × (a : Act (Option Cell)) × Valid s.homes c a × Ruled key (stepped s (index_of P.machine q) (32 * nth P.ops k q + (u.number + 1)) id c w a)
      × reached (step slots (index_of P.machine q) (32 * nth P.ops k q) (32 * nth P.ops k q + (u.number + 1)) none) (V, c) (get_or s.words (index_of P.machine q) 0) (w, carried_after c a))
  reach-hit slots k q c busy on lacks =
      let to = reaching k q busy on lacks in
      let home = rule.shown.homes q to.within to.free in
      let cell : IsCell P q (nth P.ops k q) home.cell = subst (λ (m : ℕ). IsCell P q m home.cell) to.turn home.is in (
        rule.shown.words q to.within ∙ Rattle.claim_board.proofs.Words.word-free (slot_at P B q) to.free ∙ ap (λ (m : ℕ). 32 * m) to.turn,
        (
          after_reach k q V,
          takes (index_of P.machine q) (Some home.cell),
          home.home,
          taking-keeps (Reach u.number k q) (after_reach k q V) k q (nth P.ops k q) to.within to.free to.turn to.allowed to.leaves (omega arith) refl,
          λ j r is that.
              let j_is : k ≡ j = same_Some k j (sym busy ∙ is) in
              let there_r : is_there P r ≡ true = touched-there key s rule j r that.touches in
              let r_is : q ≡ r = one-word P q r to.within there_r (sym that.word) in
              subst (λ (z : ℕ × Res). Takes P z.1 (nth P.ops z.0 z.1) (V, c) (after_reach z.0 z.1 V) (after_reach k q V, (index_of P.machine q, Some home.cell) ∷ c)) (λ i. (j_is i, r_is i)) (record { cell = home.cell; knows = refl; is = cell }),
        ),
      )

  reach_happens : (k : ℕ) (q : Res) (c : List (ℕ × Option Cell)) → MayReach V k q
      → (cell : Cell) × Happens key (Reach u.number k q) s (stepped s (index_of P.machine q) (32 * nth P.ops k q + (u.number + 1)) id c (after_reach k q V) (takes (index_of P.machine q) (Some cell)))
  reach_happens k q c may =
      let to = reaching k q may.busy may.touches may.lacks in (
        (rule.shown.homes q to.within to.free).cell,
        taking_happens (Reach u.number k q) (after_reach k q V) k q (nth P.ops k q) to.within to.free to.turn to.allowed to.leaves (omega arith) refl,
      )

abbrev Asked : (key : Key) (s : St) (id i old new : ℕ) (me : Knows) (then : ℕ → Knows → Type 0) → Type 0
Asked key s id i old new me then = (w : View) × (a : Act (Option Cell)) × Valid s.homes me.1 a × Ruled key (stepped s i (either (eqb (get_or s.words i 0) old) new (get_or s.words i 0)) id me.1 w a) × then (get_or s.words i 0) (w, carried_after me.1 a)

pub begin-allows : (key : Key) (slots id : ℕ) (me : Knows) (k : ℕ) (q : Res) → MayBegin me.0 k q
    → Allows (Ruled key) slots id me (index_of me.0.program.machine q) (λ n. either (eqb n (32 * nth me.0.program.ops k q)) (32 * nth me.0.program.ops k q + (me.0.number + 1)) n)
    (began (step slots (index_of me.0.program.machine q) (32 * nth me.0.program.ops k q) (32 * nth me.0.program.ops k q + (me.0.number + 1)) none) me)
begin-allows key slots id (v, c) k q may s rule deep at less =
    let p : ProgramData = key.program.value in
    let same : on p v ≡ v = on-same p v (same-program key s rule id v at may.live) in
    subst (λ (u : View). get_elem? s.views id ≡ some u → MayBegin u k q
    → Asked key s id (index_of u.program.machine q) (32 * nth u.program.ops k q) (32 * nth u.program.ops k q + (u.number + 1)) (u, c)
    (began (step slots (index_of u.program.machine q) (32 * nth u.program.ops k q) (32 * nth u.program.ops k q + (u.number + 1)) none) (u, c))) same
    (λ here asks.
    let i : ℕ = index_of p.machine q in
    exchanged (get_or s.words i 0) (32 * nth p.ops k q) (32 * nth p.ops k q + (v.number + 1))
    (λ n. (w : View) × (a : Act (Option Cell)) × Valid s.homes c a × Ruled key (stepped s i n id c w a)
    × began (step slots i (32 * nth p.ops k q) (32 * nth p.ops k q + (v.number + 1)) none) (on p v, c) (get_or s.words i 0) (w, carried_after c a))
    (λ is. begin-hit key s rule id v here asks.live slots k q c asks.empty asks.there asks.first asks.seen is)
    (λ other. begin-miss key s rule id v here asks.live slots k q c (touched-there key s rule k q (first_among (touched p.ops k) q asks.first)) other)) at may

pub reach-allows : (key : Key) (slots id : ℕ) (me : Knows) (k : ℕ) (q : Res) → MayReach me.0 k q
    → Allows (Ruled key) slots id me (index_of me.0.program.machine q) (λ n. either (eqb n (32 * nth me.0.program.ops k q)) (32 * nth me.0.program.ops k q + (me.0.number + 1)) n)
    (reached (step slots (index_of me.0.program.machine q) (32 * nth me.0.program.ops k q) (32 * nth me.0.program.ops k q + (me.0.number + 1)) none) me)
reach-allows key slots id (v, c) k q may s rule deep at less =
    let p : ProgramData = key.program.value in
    let same : on p v ≡ v = on-same p v (same-program key s rule id v at may.live) in
    subst (λ (u : View). get_elem? s.views id ≡ some u → MayReach u k q
    → Asked key s id (index_of u.program.machine q) (32 * nth u.program.ops k q) (32 * nth u.program.ops k q + (u.number + 1)) (u, c)
    (reached (step slots (index_of u.program.machine q) (32 * nth u.program.ops k q) (32 * nth u.program.ops k q + (u.number + 1)) none) (u, c))) same
    (λ here asks.
    let i : ℕ = index_of p.machine q in
    let done = reach-hit key s rule id v here asks.live slots k q c asks.busy asks.touches asks.lacks in
    exchanged (get_or s.words i 0) (32 * nth p.ops k q) (32 * nth p.ops k q + (v.number + 1))
    (λ n. (w : View) × (a : Act (Option Cell)) × Valid s.homes c a × Ruled key (stepped s i n id c w a)
    × reached (step slots i (32 * nth p.ops k q) (32 * nth p.ops k q + (v.number + 1)) none) (on p v, c) (get_or s.words i 0) (w, carried_after c a))
    (λ is. done.1) (λ other. absurd (other done.0))) at may

-- both are events on the board that is shown
pub begin-happens : (key : Key) (s : St) (id : ℕ) (v : View) (c : List (ℕ × Option Cell)) (k : ℕ) (q : Res) → Ruled key s → get_elem? s.views id ≡ some v → MayBegin v k q
    → get_or s.words (index_of v.program.machine q) 0 ≡ 32 * nth v.program.ops k q
    → (cell : Cell) × Happens key (Begin v.number k) s (stepped s (index_of v.program.machine q) (32 * nth v.program.ops k q + (v.number + 1)) id c (after_begin k q v) (takes (index_of v.program.machine q) (Some cell)))
begin-happens key s id v c k q rule at may is =
    subst (λ (u : View). get_elem? s.views id ≡ some u → MayBegin u k q → get_or s.words (index_of u.program.machine q) 0 ≡ 32 * nth u.program.ops k q
    → (cell : Cell) × Happens key (Begin u.number k) s (stepped s (index_of u.program.machine q) (32 * nth u.program.ops k q + (u.number + 1)) id c (after_begin k q u) (takes (index_of u.program.machine q) (Some cell))))
    (on-same key.program.value v (same-program key s rule id v at may.live))
    (λ here asks free. begin_happens key s rule id v here asks.live k q c asks free) at may is

pub reach-happens : (key : Key) (s : St) (id : ℕ) (v : View) (c : List (ℕ × Option Cell)) (k : ℕ) (q : Res) → Ruled key s → get_elem? s.views id ≡ some v → MayReach v k q
    → (cell : Cell) × Happens key (Reach v.number k q) s (stepped s (index_of v.program.machine q) (32 * nth v.program.ops k q + (v.number + 1)) id c (after_reach k q v) (takes (index_of v.program.machine q) (Some cell)))
reach-happens key s id v c k q rule at may =
    subst (λ (u : View). get_elem? s.views id ≡ some u → MayReach u k q
    → (cell : Cell) × Happens key (Reach u.number k q) s (stepped s (index_of u.program.machine q) (32 * nth u.program.ops k q + (u.number + 1)) id c (after_reach k q u) (takes (index_of u.program.machine q) (Some cell))))
    (on-same key.program.value v (same-program key s rule id v at may.live))
    (λ here asks. reach_happens key s rule id v here asks.live k q c asks) at may
