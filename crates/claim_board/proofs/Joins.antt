-- A pass that takes in another keeps the rule.
use Rattle.std.proofs.Common.{◌≡◌, ◌≢◌, ℕ, zero, suc, ◌+◌, ◌<◌, ◌≤◌, ◌⊎◌, inl, inr, Bool, true, false, ◌||◌, ◌==◌, max, List, [], ◌∷◌, ◌++◌, length, map, set, get_or, refl, sym, ◌∙◌, ap, subst, arith, Option, Some, None, sum_by}
use mathlib.Core.Option.{some, some-injective}
use lib.ListN.{get_elem?}
use lib.Seq.{map-set}
use Rattle.std.proofs.lemmas.Bool.{cases_Bool, false≢true, or_cases, eqb-true, false_from_ne_true}
use Rattle.std.proofs.lemmas.Option.{none-some}
use Rattle.qccd_base.specs.declared.names.Res.{Res}
use Rattle.op_cells.specs.Numbering.{index_of}
use Rattle.atomic_table.specs.Table.{Joins}
use Rattle.atomic_table.proofs.Lists.{at_set, set_here, set_else}
use Rattle.qccd_program.specs.Program.{ProgramData}
use Rattle.claim_core.specs.Board.{BoardData, is_there, turn_at, hand_at}
use Rattle.claim_core.proofs.Kept.{cases_ℕ}
use Rattle.claim_board.specs.declared.view.Key.{Key}
use Rattle.claim_board.specs.declared.view.View.{View}
use Rattle.claim_board.specs.Plays.{joined, spent}
use Rattle.claim_board.specs.View.{seen_of, greater_of}
use Rattle.claim_board.specs.Rule.{ShowsHand, Identity, identity, IsLive, Numbers, stands, begun_of, Ruled}
use Rattle.claim_board.proofs.Cuts.{there-below}
use Rattle.claim_board.proofs.Moves.{board, live-identity, sum-set}

-- a number in a longer list
stands-append : (n : ℕ) (xs ys : List ℕ) → stands n (xs ++ ys) ≡ true → (stands n xs ≡ true) ⊎ (stands n ys ≡ true)
stands-append n [] ys h = inr h
stands-append n (x ∷ xs) ys h = elim (or_cases (x == n) (stands n (xs ++ ys)) h) [
  | inl e ↦ inl (Rattle.std.proofs.lemmas.Bool.or_left (x == n) (stands n xs) e)
  | inr t ↦ elim (stands-append n xs ys t) [
    | inl l ↦ inl (Rattle.std.proofs.lemmas.Bool.or_right (x == n) (stands n xs) l)
    | inr r ↦ inr r
  ]
]

-- the greater of each two
pub greater-long : (xs ys : List ℕ) → length (greater_of xs ys) ≡ length xs
greater-long [] ys = refl
greater-long (x ∷ xs) [] = refl
greater-long (x ∷ xs) (y ∷ ys) = ap suc (greater-long xs ys)

pub greater-le : (xs ys : List ℕ) (i n : ℕ) → get_or xs i 0 ≤ n → get_or ys i 0 ≤ n → get_or (greater_of xs ys) i 0 ≤ n
greater-le [] ys i n h k = h
greater-le (x ∷ xs) [] i n h k = h
greater-le (x ∷ xs) (y ∷ ys) zero n h k = omega arith
greater-le (x ∷ xs) (y ∷ ys) (suc i) n h k = greater-le xs ys i n h k

-- where a live pass comes from, when v takes in w
pub record Stayed (passes : List Identity) (id other : ℕ) (w : Identity) (i : ℕ) (a : Identity) : Type 0 where
  pub was : Identity
  pub live : IsLive passes i was
  pub away : i ≢ other
  pub number : a.number ≡ was.number
  pub made : a.made ≡ was.made
  pub ended : (n : ℕ) → stands n a.ended ≡ true → (stands n was.ended ≡ true) ⊎ ((i ≡ id) × ((w.number ≡ n) ⊎ (stands n w.ended ≡ true)))

module _ (workers : ℕ) (passes : List Identity) (id other : ℕ) (v w x gone : Identity) (numbers : Numbers workers passes) (here : IsLive passes id v) (there : IsLive passes other w) (apart : other ≢ id)
    (x_number : x.number ≡ v.number) (x_made : x.made ≡ v.made) (x_ended : x.ended ≡ v.ended ++ w.number ∷ w.ended) (gone_dead : gone.live ≡ false) where
  abbrev L : List Identity
  L = set (set passes id x) other gone

  stayed : (i : ℕ) (a : Identity) → IsLive L i a → Stayed passes id other w i a
  stayed i a h = elim (at_set (set passes id x) other i gone a h.at) [
    | inl (is, a_is) ↦ absurd (false≢true (sym gone_dead ∙ ap (λ (z : Identity). z.live) a_is ∙ h.live))
    | inr (away, old) ↦ elim (at_set passes id i x a old) [
      | inl (is, a_is) ↦ record {
        was = v;
        live = subst (λ (j : ℕ). IsLive passes j v) (sym is) here;
        away = away;
        number = sym (ap (λ (z : Identity). z.number) a_is) ∙ x_number;
        made = sym (ap (λ (z : Identity). z.made) a_is) ∙ x_made;
        ended = λ n hit. elim (stands-append n v.ended (w.number ∷ w.ended) (ap (stands n) (sym x_ended ∙ ap (λ (z : Identity). z.ended) a_is) ∙ hit)) [
          | inl l ↦ inl l
          | inr r ↦ inr (
            is,
            elim (or_cases (w.number == n) (stands n w.ended) r) [
              | inl e ↦ inl (eqb-true w.number n e)
              | inr t ↦ inr t
            ],
          )
        ];
      }
      | inr (further, was) ↦ record { was = a; live = record { at = was; live = h.live }; away = away; number = refl; made = refl; ended = λ n hit. inl hit }
    ]
  ]

  -- no live pass has an ended number
  never : (i j : ℕ) (a b : Identity) → IsLive L i a → IsLive L j b → stands a.number b.ended ≡ true → ⊥
  never i j a b h k hit =
      let o = stayed i a h in
      let u = stayed j b k in
      elim (u.ended a.number hit) [
        | inl old ↦ false≢true (sym (numbers.ended i j o.was u.was o.live u.live) ∙ ap (λ (n : ℕ). stands n u.was.ended) (sym o.number) ∙ old)
        | inr (is, inl same) ↦ o.away (numbers.apart i other o.was w o.live there (sym o.number ∙ sym same))
        | inr (is, inr old) ↦ false≢true (sym (numbers.ended i other o.was w o.live there) ∙ ap (λ (n : ℕ). stands n w.ended) (sym o.number) ∙ old)
      ]

  -- a number that ended in two passes
  twice : (i j n : ℕ) (o u : Identity) → IsLive passes i o → IsLive passes j u → i ≢ other → j ≢ other
      → (stands n o.ended ≡ true) ⊎ ((i ≡ id) × ((w.number ≡ n) ⊎ (stands n w.ended ≡ true))) → (stands n u.ended ≡ true) ⊎ ((j ≡ id) × ((w.number ≡ n) ⊎ (stands n w.ended ≡ true))) → i ≡ j
  twice i j n o u h k ai aj (inl one) (inl two) = numbers.once i j n o u h k one two
  twice i j n o u h k ai aj (inl one) (inr (is, inl same)) = absurd (false≢true (sym (numbers.ended other i w o there h) ∙ ap (λ (m : ℕ). stands m o.ended) same ∙ one))
  twice i j n o u h k ai aj (inl one) (inr (is, inr two)) = absurd (ai (numbers.once i other n o w h there one two))
  twice i j n o u h k ai aj (inr (is, inl same)) (inl two) = absurd (false≢true (sym (numbers.ended other j w u there k) ∙ ap (λ (m : ℕ). stands m u.ended) same ∙ two))
  twice i j n o u h k ai aj (inr (is, inr one)) (inl two) = absurd (aj (numbers.once j other n u w k there two one))
  twice i j n o u h k ai aj (inr (is, one)) (inr (at, two)) = is ∙ sym at

  pub numbers-join : Numbers workers L
  numbers-join = record {
    below = λ i a h. let o = stayed i a h in omega (arith, o.number, numbers.below i o.was o.live);
    apart = λ i j a b h k same. let o = stayed i a h in let u = stayed j b k in numbers.apart i j o.was u.was o.live u.live (sym o.number ∙ same ∙ u.number);
    ended = λ i j a b h k. false_from_ne_true (stands a.number b.ended) (λ hit. never i j a b h k hit);
    once = λ i j n a b h k one two. let o = stayed i a h in let u = stayed j b k in twice i j n o.was u.was o.live u.live o.away u.away (o.ended n one) (u.ended n two);
    made = λ i j a b h none k. let o = stayed i a h in let u = stayed j b k in omega (arith, o.made, u.number, numbers.made i j o.was u.was o.live (sym o.number ∙ none) u.live);
    made_ended = λ i j n a b h none k hit.
        let o = stayed i a h in
        let u = stayed j b k in
        elim (u.ended n hit) [
          | inl old ↦ omega (arith, o.made, numbers.made_ended i j n o.was u.was o.live (sym o.number ∙ none) u.live old)
          | inr (is, inl same) ↦ omega (arith, o.made, same, numbers.made i other o.was w o.live (sym o.number ∙ none) there)
          | inr (is, inr old) ↦ omega (arith, o.made, numbers.made_ended i other n o.was w o.live (sym o.number ∙ none) there old)
        ];
  }

  -- who was live is, but for the one that was taken in
  pub live-on : (i : ℕ) (a : Identity) → IsLive passes i a → a.number ≢ w.number → x.live ≡ true → (j : ℕ) × (b : Identity) × IsLive L j b × (b.number ≡ a.number)
  live-on i a h differs alive =
      let away : i ≢ other = λ is. differs (ap (λ (z : Identity). z.number) (some-injective a w (sym h.at ∙ ap (get_elem? passes) is ∙ there.at))) in
      elim (cases_ℕ i id) [
        | inl is ↦
            let a_is : a ≡ v = some-injective a v (sym h.at ∙ ap (get_elem? passes) is ∙ here.at) in
            (id, x, record { at = set_else (set passes id x) other id gone (λ e. apart (sym e)) ∙ set_here passes id x (there-below passes id v here.at); live = alive }, x_number ∙ sym (ap (λ (z : Identity). z.number) a_is))
        | inr further ↦ (i, a, record { at = set_else (set passes id x) other i gone away ∙ set_else passes id i x further ∙ h.at; live = h.live }, refl)
      ]

pub merge-joins : (key : Key) (id : ℕ) (v : View) (other : ℕ) (w : View) → v.live ≡ true → w.live ≡ true → w.op ≡ None → Joins (Ruled key) id v other w (joined v w) spent
merge-joins key id v other w live alive empty s rule at away at_other =
    let b : BoardData = board key s rule in
    let there : get_elem? s.views other ≡ some w = sym (set_else s.views id other (joined v w) away) ∙ at_other in
    let old = rule.shown.passes id v at live in
    let his = rule.shown.passes other w there alive in
    let here : IsLive (map identity s.views) id (identity v) = live-identity s.views id v at live in
    let gone : IsLive (map identity s.views) other (identity w) = live-identity s.views other w there alive in
    let views : List View = set (set s.views id (joined v w)) other spent in
    let identities : map identity views ≡ set (set (map identity s.views) id (identity (joined v w))) other (identity spent) =
    map-set identity (set s.views id (joined v w)) other spent ∙ ap (λ (is : List Identity). set is other (identity spent)) (map-set identity s.views id (joined v w)) in
    let seen : (r : Res) → is_there key.program.value r ≡ true → seen_of (joined v w) r ≤ turn_at key.program.value b r = λ r within.
    greater-le v.seen w.seen (index_of v.program.machine r) (turn_at key.program.value b r) (old.seen r within)
    (subst (λ (p : ProgramData). get_or w.seen (index_of p.machine r) 0 ≤ turn_at key.program.value b r) (his.program ∙ sym old.program) (his.seen r within)) in
    let both : ShowsHand key b (joined v w) = record { program = old.program; workers = old.workers; op = old.op; hand = old.hand; long = greater-long v.seen w.seen ∙ old.long; seen = seen } in
    let of_v : begun_of v ≡ v.begun = ap (λ (z : Bool). Rattle.std.proofs.Common.cond z v.begun 0) live in
    let of_w : begun_of w ≡ w.begun = ap (λ (z : Bool). Rattle.std.proofs.Common.cond z w.begun 0) alive in
    let of_both : begun_of (joined v w) ≡ v.begun + w.begun = ap (λ (z : Bool). Rattle.std.proofs.Common.cond z (v.begun + w.begun) 0) live in
    record {
      legal = rule.legal;
      few = rule.few;
      wide = rule.wide;
      deep = rule.deep;
      events = rule.events;
      history = rule.history;
      shown = record {
        words = rule.shown.words;
        homes = rule.shown.homes;
        passes = λ j u found lives. elim (at_set (set s.views id (joined v w)) other j spent u found) [
          | inl (is, u_is) ↦ absurd (false≢true (ap (λ (z : View). z.live) u_is ∙ lives))
          | inr (further, was) ↦ elim (at_set s.views id j (joined v w) u was) [
            | inl (is, u_is) ↦ subst (ShowsHand key b) u_is both
            | inr (beyond, before) ↦ rule.shown.passes j u before lives
          ]
        ];
        owned = λ n k busy.
            let owner = rule.shown.owned n k busy in
            let differs : owner.1.number ≢ w.number = λ same. none-some k (sym empty ∙ sym his.op ∙ ap (λ (m : ℕ). (hand_at b m).op) (sym same ∙ owner.3) ∙ busy) in
            let now = live-on key.workers (map identity s.views) id other (identity v) (identity w) (identity (joined v w)) (identity spent) rule.numbers here gone away refl refl refl refl owner.0 owner.1 owner.2 differs live in
            (now.0, now.1, subst (λ (is : List Identity). IsLive is now.0 now.1) (sym identities) now.2, now.3 ∙ owner.3);
      };
      numbers = subst (λ (is : List Identity). Numbers key.workers is) (sym identities) (numbers-join key.workers (map identity s.views) id other (identity v) (identity w) (identity (joined v w)) (identity spent) rule.numbers here gone away refl refl refl refl);
      counted = omega (arith, rule.counted, sum-set begun_of s.views id v (joined v w) at, sum-set begun_of (set s.views id (joined v w)) other w spent at_other, of_v, of_w, of_both);
    }
