-- A look at a word keeps the rule.
use Rattle.std.proofs.Common.{◌≡◌, ◌≢◌, ℕ, ◌<◌, ◌≤◌, ⊎_elim, inl, inr, true, cond, List, length, map, set, get_or, max, refl, sym, ◌∙◌, ap, subst, arith, Option, Some, length-set, get_or-set_same, get_or-set_other}
use mathlib.Core.Option.{some, none}
use lib.ListN.{get_elem?}
use lib.Seq.{set-get_or}
use Rattle.std.proofs.lemmas.Bool.{cases_Bool}
use Rattle.qccd_base.specs.declared.names.Res.{Res}
use Rattle.qccd_base.specs.Resource.{same_res}
use Rattle.qccd_base.proofs.Resources.{same_res-true}
use Rattle.op_cells.specs.declared.cells.Cell.{Cell}
use Rattle.op_cells.specs.Numbering.{index_of}
use Rattle.atomic_table.specs.Table.{State, step, Allows, keeps}
use Rattle.atomic_table.proofs.Lists.{at_set}
use Rattle.qccd_program.specs.Program.{ProgramData}
use Rattle.claim_core.specs.Board.{BoardData, is_there, width, slot_at, turn_at}
use Rattle.claim_core.proofs.Written.{index_apart, index_below}
use Rattle.claim_core.proofs.Turns.{nth_all}
use Rattle.claim_board.specs.declared.view.Key.{Key}
use Rattle.claim_board.specs.declared.view.View.{View}
use Rattle.claim_board.specs.Plays.{Knows, after_look, looked}
use Rattle.claim_board.specs.View.{turn_in, hand_of, seen_of, seen_also}
use Rattle.claim_board.specs.Stepping.{LeavesBoard}
use Rattle.claim_board.specs.Rule.{ShowsHand, Identity, identity, IsLive, Numbers, begun_of, Ruled, Shown}
use Rattle.claim_board.proofs.Moves.{St, board, board-is, sound-rule, small-mark, same-map, sum-set}
use Rattle.claim_board.proofs.Words.{turn-word}

-- a pass that differs in what it has seen alone, and in what it looked at
pub record Watches (key : Key) (b : BoardData) (v w : View) : Type 0 where
  pub same : identity w ≡ identity v
  pub program : w.program ≡ v.program
  pub workers : w.workers ≡ v.workers
  pub op : w.op ≡ v.op
  pub hand : hand_of w ≡ hand_of v
  pub begun : w.begun ≡ v.begun
  pub long : length w.seen ≡ length v.seen
  pub seen : (r : Res) → is_there key.program.value r ≡ true → seen_of w r ≤ turn_at key.program.value b r

pub watches : (key : Key) (s : St) (rule : Ruled key s) (id : ℕ) (v w : View) → get_elem? s.views id ≡ some v → v.live ≡ true → Watches key (board key s rule) v w → Ruled key (record { words = s.words; homes = s.homes; views = set s.views id w })
watches key s rule id v w at live t =
    let identities : map identity (set s.views id w) ≡ map identity s.views = same-map identity s.views id v w at t.same in
    let b : BoardData = board key s rule in
    let number : w.number ≡ v.number = ap (λ (a : Identity). a.number) t.same in
    let begun : begun_of w ≡ begun_of v = (λ i. cond (t.same i).live (t.begun i) 0) in
    let old = rule.shown.passes id v at live in
    let mine : ShowsHand key b w = record {
      program = t.program ∙ old.program;
      workers = t.workers ∙ old.workers;
      op = ap (λ (n : ℕ). (Rattle.claim_core.specs.Board.hand_at b n).op) number ∙ old.op ∙ sym t.op;
      hand = λ k busy. ap (Rattle.claim_core.specs.Board.hand_at b) number ∙ old.hand k (sym t.op ∙ busy) ∙ sym t.hand;
      long = t.long ∙ old.long;
      seen = t.seen;
    } in
    record {
      legal = rule.legal;
      few = rule.few;
      wide = rule.wide;
      deep = rule.deep;
      events = rule.events;
      history = rule.history;
      shown = record {
        words = rule.shown.words;
        homes = rule.shown.homes;
        passes = λ j u there alive. ⊎_elim (λ (t : (j ≡ id) × (w ≡ u)). subst (ShowsHand key b) t.1 mine)
            (λ (t : (j ≢ id) × (get_elem? s.views j ≡ some u)). rule.shown.passes j u t.1 alive) (at_set s.views id j w u there);
        owned = subst (λ (is : List Identity). (n k : ℕ) → (Rattle.claim_core.specs.Board.hand_at b n).op ≡ Some k → (j : ℕ) × (a : Identity) × IsLive is j a × (a.number ≡ n)) (sym identities) rule.shown.owned;
      };
      numbers = subst (λ (is : List Identity). Numbers key.workers is) (sym identities) rule.numbers;
      counted = omega (arith, rule.counted, sum-set begun_of s.views id v w at, begun);
    }

-- what was seen
pub seen-here : (seen : List ℕ) (i n bound : ℕ) → i < length seen → get_or seen i 0 ≤ bound → n ≤ bound → get_or (seen_also seen i n) i 0 ≤ bound
seen-here seen i n bound less old new = omega (arith, get_or-set_same seen i (max (get_or seen i 0) n) 0 less)

pub seen-else : (seen : List ℕ) (i j n : ℕ) → j ≢ i → get_or (seen_also seen i n) j 0 ≡ get_or seen j 0
seen-else seen i j n other = get_or-set_other seen i j (max (get_or seen i 0) n) 0 other

pub seen-long : (seen : List ℕ) (i n : ℕ) → length (seen_also seen i n) ≡ length seen
seen-long seen i n = length-set seen i (max (get_or seen i 0) n)

-- a turn is small
pub small-turn : (key : Key) (s : St) (rule : Ruled key s) (r : Res) → turn_at key.program.value (board key s rule) r ≤ 4194304
small-turn key s rule r = omega (arith, (sound-rule key s rule).sound.few r, Rattle.claim_core.proofs.Coded.nth-le key.program.value.ops (length key.program.value.ops) r, nth_all key.program.value.ops r, rule.legal.few)

-- what a word tells of its resource
pub turn-found : (key : Key) (s : St) (rule : Ruled key s) (r : Res) → is_there key.program.value r ≡ true → turn_in (get_or s.words (index_of key.program.value.machine r) 0) ≡ turn_at key.program.value (board key s rule) r
turn-found key s rule r there = ap turn_in (rule.shown.words r there) ∙ turn-word (slot_at key.program.value (board key s rule) r) (small-mark key s rule r)

-- as the pass names the program
pub seen-program : (v : View) (p : ProgramData) (r : Res) → v.program ≡ p → seen_of v r ≡ get_or v.seen (index_of p.machine r) 0
seen-program v p r same = ap (λ (q : ProgramData). get_or v.seen (index_of q.machine r) 0) same

module _ (key : Key) (s : St) (rule : Ruled key s) (id : ℕ) (v : View) (at : get_elem? s.views id ≡ some v) (live : v.live ≡ true) (q : Res) (there : is_there key.program.value q ≡ true) where
  abbrev P : ProgramData
  P = key.program.value

  abbrev B : BoardData
  B = board key s rule

  abbrev X : ℕ
  X = get_or s.words (index_of P.machine q) 0

  looks_seen : (r : Res) → is_there P r ≡ true → seen_of (after_look (index_of P.machine q) X v) r ≤ turn_at P B r
  looks_seen r within =
      let old = rule.shown.passes id v at live in
      let w : View = after_look (index_of P.machine q) X v in
      let long : index_of P.machine q < length v.seen = omega (arith, old.long, index_below P q there) in
      let was : (y : Res) → is_there P y ≡ true → get_or v.seen (index_of P.machine y) 0 ≤ turn_at P B y = λ y z. omega (arith, old.seen y z, seen-program v P y old.program) in
      omega (
        arith,
        seen-program w P r old.program,
        elim (cases_Bool (same_res q r)) as (λ _. get_or w.seen (index_of P.machine r) 0 ≤ turn_at P B r) [
          | inl is ↦
              subst (λ (y : Res). get_or w.seen (index_of P.machine y) 0 ≤ turn_at P B y) (same_res-true q r is)
              (seen-here v.seen (index_of P.machine q) (turn_in X) (turn_at P B q) long (was q there) (omega (arith, turn-found key s rule q there)))
          | inr apart ↦ omega (arith, seen-else v.seen (index_of P.machine q) (index_of P.machine r) (turn_in X) (λ e. Rattle.std.proofs.lemmas.Bool.false≢true (sym apart ∙ index_apart P q r there within (sym e))), was r within)
        ],
      )

  look_watches : Watches key B v (after_look (index_of P.machine q) X v)
  look_watches = record {
    same = refl;
    program = refl;
    workers = refl;
    op = refl;
    hand = refl;
    begun = refl;
    long = seen-long v.seen (index_of P.machine q) (turn_in X);
    seen = looks_seen;
  }

  pub look-keeps : Ruled key (record { words = set s.words (index_of P.machine q) X; homes = s.homes; views = set s.views id (after_look (index_of P.machine q) X v) })
  look-keeps =
      let same : set s.words (index_of P.machine q) X ≡ s.words = set-get_or s.words (index_of P.machine q) 0 in
      subst (λ (ws : List ℕ). Ruled key (record { words = ws; homes = s.homes; views = set s.views id (after_look (index_of P.machine q) X v) })) (sym same)
      (watches key s rule id v (after_look (index_of P.machine q) X v) at live look_watches)

  look_stays : LeavesBoard key s (record { words = set s.words (index_of P.machine q) X; homes = s.homes; views = set s.views id (after_look (index_of P.machine q) X v) })
  unfolding watches
  look_stays = record {
    board = B;
    is = board-is key s rule;
    shown = rule.shown;
    stays =
        subst (λ (ws : List ℕ). Shown key B (record { words = ws; homes = s.homes; views = set s.views id (after_look (index_of P.machine q) X v) })) (sym (set-get_or s.words (index_of P.machine q) 0))
        (watches key s rule id v (after_look (index_of P.machine q) X v) at live look_watches).shown;
  }

  pub look-small : turn_in X ≤ 4194304
  look-small = omega (arith, turn-found key s rule q there, small-turn key s rule q)

-- the pass's program is the deck's
pub same-program : (key : Key) (s : St) (rule : Ruled key s) (id : ℕ) (v : View) → get_elem? s.views id ≡ some v → v.live ≡ true → v.program ≡ key.program.value
same-program key s rule id v at live = (rule.shown.passes id v at live).program

pub look-allows : (key : Key) (slots id word : ℕ) (me : Knows) (q : Res) → me.0.live ≡ true → is_there me.0.program q ≡ true → index_of me.0.program.machine q ≡ word
    → Allows (Ruled key) slots id me word (λ n. n) (looked (step slots word 0 0 none) me)
look-allows key slots id word me q live there is s rule deep at less =
    let same = same-program key s rule id me.0 at live in
    let within : is_there key.program.value q ≡ true = subst (λ (p : ProgramData). is_there p q ≡ true) same there in
    let here : index_of key.program.value.machine q ≡ word = subst (λ (p : ProgramData). index_of p.machine q ≡ word) same is in
    subst (λ (i : ℕ). (w : View) × (a : Rattle.atomic_table.specs.Table.Act (Option Cell)) × Rattle.atomic_table.specs.Table.Valid s.homes me.1 a × Ruled key (Rattle.atomic_table.specs.Table.stepped s i (get_or s.words i 0) id me.1 w a)
    × looked (step slots i 0 0 none) me (get_or s.words i 0) (w, Rattle.atomic_table.specs.Table.carried_after me.1 a)) here
    (after_look (index_of key.program.value.machine q) (get_or s.words (index_of key.program.value.machine q) 0) me.0, keeps, tt, look-keeps key s rule id me.0 at live q within, (refl, look-small key s rule id me.0 at live q within))

-- it leaves the board that is shown
pub look-stays : (key : Key) (s : St) (id : ℕ) (v : View) (c : List (ℕ × Option Cell)) (q : Res) → Ruled key s → get_elem? s.views id ≡ some v → v.live ≡ true → is_there v.program q ≡ true
    → LeavesBoard key s (Rattle.atomic_table.specs.Table.stepped s (index_of v.program.machine q) (get_or s.words (index_of v.program.machine q) 0) id c (after_look (index_of v.program.machine q) (get_or s.words (index_of v.program.machine q) 0) v) keeps)
look-stays key s id v c q rule at live there =
    subst (λ (p : ProgramData). is_there p q ≡ true
    → LeavesBoard key s (Rattle.atomic_table.specs.Table.stepped s (index_of p.machine q) (get_or s.words (index_of p.machine q) 0) id c (after_look (index_of p.machine q) (get_or s.words (index_of p.machine q) 0) v) keeps))
    (sym (same-program key s rule id v at live)) (λ within. look_stays key s rule id v at live q within) there
