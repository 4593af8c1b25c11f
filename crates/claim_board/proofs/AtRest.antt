-- What is left where all passes were joined into one that has nothing in hand.
use Rattle.std.proofs.Common.{◌≡◌, ◌≢◌, ℕ, zero, suc, ◌+◌, ◌-◌, ◌<◌, ◌≤◌, ◌⊎◌, inl, inr, Bool, true, false, cond, ◌&&◌, nat_lt, List, [], ◌∷◌, length, map, get_or, refl, sym, ◌∙◌, ap, subst, arith, Option, Some, None}
use Rattle.std.specs.List.{list_all}
use mathlib.Core.Option.{some, some-injective, some-ne-none}
use lib.ListN.{get_elem?}
use Rattle.std.proofs.lemmas.Bool.{cases_Bool, false≢true, lt-ltb, cases_lt, or_right}
use Rattle.std.proofs.lemmas.Option.{none-some}
use Rattle.std.proofs.lemmas.List.Sums.{sum_by-cons}
use Rattle.qccd_base.specs.Names.{trap, segment, junction, bit}
use Rattle.qccd_base.specs.declared.names.Res.{Res}
use Rattle.qccd_base.specs.declared.names.Res.TheVariants as res
use Rattle.qccd_base.specs.Resource.{among, same_res}
use Rattle.qccd_base.proofs.Resources.{among-own}
use Rattle.op_table.specs.Touch.{nth}
use Rattle.op_cells.specs.declared.cells.Cell.{Cell}
use Rattle.op_cells.specs.Numbering.{index_of}
use Rattle.atomic_table.specs.Table.{Final, Seen}
use Rattle.qccd_program.specs.CellOfRun.{IsCell}
use Rattle.qccd_program.specs.Program.{ProgramData}
use Rattle.claim_core.specs.Board.{BoardData, is_there, width, turn_at, holder_at, hand_at}
use Rattle.claim_core.specs.Event.{touched}
use Rattle.claim_core.specs.Sound.{read}
use Rattle.claim_core.proofs.Legally.{claims-legal}
use Rattle.claim_board.specs.declared.view.Key.{Key}
use Rattle.claim_board.specs.declared.view.View.{View}
use Rattle.claim_board.specs.Close.{is_past, how_many, one_if, IsAtRest}
use Rattle.claim_board.specs.View.{turn_in, seen_of}
use Rattle.claim_board.specs.Rule.{Identity, identity, IsLive, stands, begun_of, all_begun, Ruled}
use Rattle.claim_board.proofs.Counting.{past-begun}
use Rattle.claim_board.proofs.Looks.{small-turn, turn-found}
use Rattle.claim_board.proofs.Moves.{St, board, sound-rule, live-identity}
use Rattle.claim_board.proofs.Words.{cases_Option}

-- each number is a resource's
pub record HasNumber (p : ProgramData) (i : ℕ) : Type 0 where
  pub res : Res
  pub there : is_there p res ≡ true
  pub number : index_of p.machine res ≡ i

pub numbered : (p : ProgramData) (i : ℕ) → i < width p → HasNumber p i
numbered p i less = elim (cases_lt i (length p.machine.capacities)) [
  | inl h ↦ record { res = res.Trap (trap i); there = lt-ltb i (length p.machine.capacities) h; number = refl }
  | inr a ↦ elim (cases_lt i (length p.machine.capacities + length p.machine.segments)) [
    | inl h ↦ record {
      res = res.Seg (segment (i - length p.machine.capacities));
      there = lt-ltb (i - length p.machine.capacities) (length p.machine.segments) (omega arith);
      number = omega arith;
    }
    | inr b ↦ elim (cases_lt i (length p.machine.capacities + length p.machine.segments + p.machine.junctions)) [
      | inl h ↦ record {
        res = res.Junc (junction (i - (length p.machine.capacities + length p.machine.segments)));
        there = lt-ltb (i - (length p.machine.capacities + length p.machine.segments)) p.machine.junctions (omega arith);
        number = omega arith;
      }
      | inr d ↦ record {
        res = res.Bit (bit (i - (length p.machine.capacities + length p.machine.segments + p.machine.junctions)));
        there = lt-ltb (i - (length p.machine.capacities + length p.machine.segments + p.machine.junctions)) p.bits (omega arith);
        number = omega arith;
      }
    ]
  ]
]

-- one live pass alone began something
no_sum : (vs : List View) → ((j : ℕ) (u : View) → get_elem? vs j ≡ some u → u.live ≡ false) → all_begun vs ≡ 0
no_sum [] none = refl
no_sum (u ∷ vs) none =
    let dead : begun_of u ≡ 0 = dead_none u (none 0 u refl) in
    omega (arith, sum_by-cons begun_of u vs, dead, no_sum vs (λ j w at. none (suc j) w at))
  where
    dead_none : (u : View) → u.live ≡ false → cond u.live u.begun 0 ≡ 0
    dead_none u h = ap (λ (b : Bool). cond b u.begun 0) h

one_sum : (vs : List View) (id : ℕ) (v : View) → get_elem? vs id ≡ some v → ((j : ℕ) (u : View) → j ≢ id → get_elem? vs j ≡ some u → u.live ≡ false) → all_begun vs ≡ begun_of v
one_sum [] id v at none = absurd (some-ne-none v (sym at))
one_sum (u ∷ vs) zero v at none =
    omega (arith, sum_by-cons begun_of u vs, ap begun_of (some-injective u v at), no_sum vs (λ j w there. none (suc j) w (λ e. omega arith) there))
one_sum (u ∷ vs) (suc id) v at none =
    let dead : begun_of u ≡ 0 = dead_none u (none 0 u (λ e. omega arith) refl) in
    omega (arith, sum_by-cons begun_of u vs, dead, one_sum vs id v at (λ j w other there. none (suc j) w (λ e. other (omega arith)) there))
  where
    dead_none : (u : View) → u.live ≡ false → cond u.live u.begun 0 ≡ 0
    dead_none u h = ap (λ (b : Bool). cond b u.begun 0) h

-- the pass with nothing in hand whose number and ended ones are all numbers
pub record IsLast (workers : ℕ) (v : View) : Type 0 where
  pub live : v.live ≡ true
  pub empty : v.op ≡ None
  pub all : (n : ℕ) → n < workers → (v.number ≡ n) ⊎ (stands n v.ended ≡ true)

module _ (key : Key) (s : St) (rule : Ruled key s) (id : ℕ) (v : View) (at : get_elem? s.views id ≡ some v) (last : IsLast key.workers v) where
  abbrev P : ProgramData
  P = key.program.value

  abbrev B : BoardData
  B = board key s rule

  -- another pass with a number is none
  nobody : (j : ℕ) (a : Identity) → IsLive (map identity s.views) j a → j ≡ id
  nobody j a h = elim (last.all a.number (rule.numbers.below j a h)) [
    | inl same ↦ rule.numbers.apart j id a (identity v) h (live-identity s.views id v at last.live) (sym same)
    | inr ended ↦ absurd (false≢true (sym (rule.numbers.ended j id a (identity v) h (live-identity s.views id v at last.live)) ∙ ended))
  ]

  idle : (n : ℕ) → (hand_at B n).op ≡ None
  idle n = elim (cases_Option (hand_at B n).op) [
    | inl h ↦ h
    | inr (k, busy) ↦
        let owner = rule.shown.owned n k busy in
        let here = nobody owner.0 owner.1 owner.2 in
        let same : owner.1 ≡ identity v = some-injective owner.1 (identity v) (sym owner.2.at ∙ ap (get_elem? (map identity s.views)) here ∙ (live-identity s.views id v at last.live).at) in
        ap (λ (m : ℕ). (hand_at B m).op) (sym owner.3 ∙ ap (λ (z : Identity). z.number) same) ∙ (rule.shown.passes id v at last.live).op ∙ last.empty
  ]

  free : (r : Res) → holder_at P B r ≡ None
  free r = elim (cases_Option (holder_at P B r)) [
    | inl h ↦ h
    | inr (w, h) ↦ let held = (sound-rule key s rule).sound.held r w h in absurd (none-some held.op (sym (idle w) ∙ held.hand))
  ]

  sum_is : all_begun s.views ≡ v.begun
  sum_is =
      one_sum s.views id v at (λ j u other there. elim (cases_Bool u.live) [
        | inl alive ↦ absurd (other (nobody j (identity u) (live-identity s.views j u there alive)))
        | inr dead ↦ dead
      ])
      ∙ ap (λ (b : Bool). cond b v.begun 0) last.live

  abbrev T : Res → ℕ
  T r = turn_in (get_or s.words (index_of P.machine r) 0)

  turns_are : (r : Res) → is_there P r ≡ true → T r ≡ turn_at P B r
  turns_are r there = turn-found key s rule r there

  touched_is : (k : ℕ) (r : Res) → among (touched P.ops k) r ≡ true → T r ≡ turn_at P B r
  touched_is k r on = turns_are r ((claims-legal P rule.legal).there k r on)

  same_all : (f g : Res → Bool) (rs : List Res) → ((r : Res) → among rs r ≡ true → f r ≡ g r) → list_all f rs ≡ list_all g rs
  same_all f g [] h = refl
  same_all f g (r ∷ rs) h = (λ i. (h r (among-own r rs) i) && (same_all f g rs (λ q on. h q (or_right (same_res r q) (among rs q) on)) i))

  same_many : (f g : ℕ → Bool) (n : ℕ) → ((k : ℕ) → f k ≡ g k) → how_many f n ≡ how_many g n
  same_many f g zero h = refl
  same_many f g (suc n) h = omega (arith, same_many f g n h, ap one_if (h n))

  pub rests : IsAtRest P.ops T v.begun
  rests = record {
    whole = λ k there. elim ((sound-rule key s rule).sound.rest k there (λ w busy. none-some k (sym (idle w) ∙ busy))) [
      | inl u ↦ inl (λ r on. omega (arith, u r on, touched_is k r on))
      | inr f ↦ inr (λ r on. omega (arith, f r on, touched_is k r on))
    ];
    count =
        same_many (is_past P.ops T) (is_past P.ops (read P B).turn) (length P.ops) (λ k. same_all (λ r. nat_lt (nth P.ops k r) (T r)) (λ r. nat_lt (nth P.ops k r) (turn_at P B r)) (touched P.ops k) (λ r on. ap (nat_lt (nth P.ops k r)) (touched_is k r on)))
        ∙ past-begun P key.workers rule.events (claims-legal P rule.legal) rule.history idle ∙ rule.counted ∙ sum_is;
  }

  -- each resource's cell at its turn is at home
  pub home-at : (r : Res) → is_there P r ≡ true → (c : Cell) × (get_elem? s.homes (index_of P.machine r) ≡ some (some (Some c))) × IsCell P r (T r) c
  home-at r there =
      let home = rule.shown.homes r there (free r) in
      (home.cell, home.home, subst (λ (n : ℕ). IsCell P r n home.cell) (sym (turns_are r there)) home.is)

  pub seen-at : (r : Res) → is_there P r ≡ true → seen_of v r ≤ T r
  seen-at r there = omega (arith, (rule.shown.passes id v at last.live).seen r there, turns_are r there)

  pub small-at : (r : Res) → is_there P r ≡ true → T r ≤ 4194304
  small-at r there = omega (arith, turns_are r there, small-turn key s rule r)

-- what the closed table holds
pub record IsClosed (p : ProgramData) (words : List ℕ) (slots : List (Option Cell)) (v : View) : Type 0 where
  pub long : length words ≡ width p
  pub deep : length slots ≡ width p
  pub rest : IsAtRest p.ops (λ r. turn_in (get_or words (index_of p.machine r) 0)) v.begun
  pub cells : (r : Res) → is_there p r ≡ true → (c : Cell) × (get_elem? slots (index_of p.machine r) ≡ some (Some c)) × IsCell p r (turn_in (get_or words (index_of p.machine r) 0)) c
  pub seen : (r : Res) → is_there p r ≡ true → seen_of v r ≤ turn_in (get_or words (index_of p.machine r) 0)
  pub small : (r : Res) → is_there p r ≡ true → turn_in (get_or words (index_of p.machine r) 0) ≤ 4194304

pub closed-final : (key : Key) (id : ℕ) (v : View) (words : List ℕ) (slots : List (Option Cell)) → IsLast key.workers v → Final (Seen (Ruled key) id v) words slots → IsClosed key.program.value words slots v
closed-final key id v words slots last (s, (rule, at), w_is, long, values) =
    subst (λ (ws : List ℕ). IsClosed key.program.value ws slots v) w_is (record {
      long = rule.wide;
      deep = sym long ∙ rule.deep;
      rest = rests key s rule id v at last;
      cells = λ r there. let home = home-at key s rule id v at last r there in (home.0, values (index_of key.program.value.machine r) (Some home.0) home.1, home.2);
      seen = λ r there. seen-at key s rule id v at last r there;
      small = λ r there. small-at key s rule id v at last r there;
    })
