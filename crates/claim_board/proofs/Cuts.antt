-- A new pass keeps the rule.
use Rattle.std.proofs.Common.{◌≡◌, ℕ, zero, suc, ◌+◌, ◌<◌, ◌⊎◌, inl, inr, true, List, [], ◌∷◌, ◌++◌, length, map, set, get_or, replicate, refl, sym, ◌∙◌, ap, subst, arith, None, length-set}
use mathlib.Core.List.{map-append}
use mathlib.Core.Option.{some, some-injective, some-ne-none}
use lib.ListN.{get_elem?}
use lib.Seq.{map-set}
use Rattle.std.proofs.lemmas.Bool.{cases_Bool, false≢true}
use Rattle.std.proofs.lemmas.List.{length-replicate}
use Rattle.std.proofs.lemmas.List.Sums.{sum_by_push}
use Rattle.op_cells.specs.Numbering.{index_of}
use Rattle.atomic_table.specs.Table.{Splits}
use Rattle.atomic_table.proofs.Lists.{at_set, at_map, set_here, set_else}
use Rattle.claim_core.specs.Board.{BoardData, width, hand_at}
use Rattle.claim_core.proofs.Kept.{cases_ℕ}
use Rattle.claim_board.specs.declared.view.Key.{Key}
use Rattle.claim_board.specs.declared.view.View.{View}
use Rattle.claim_board.specs.Plays.{stays, comes}
use Rattle.claim_board.specs.Rule.{ShowsHand, Identity, identity, IsLive, Numbers, stands, begun_of, Ruled}
use Rattle.claim_board.proofs.Moves.{board, live-identity, sum-set}
use Rattle.claim_board.proofs.Words.{cases_Option}

-- the last entry of a longer list, with its place
pub at-end : {A : Type 0} (l : List A) (a b : A) (j : ℕ) → get_elem? (l ++ a ∷ []) j ≡ some b → (get_elem? l j ≡ some b) ⊎ ((j ≡ length l) × (a ≡ b))
at-end [] a b zero e = inr (refl, some-injective a b e)
at-end [] a b (suc j) e = absurd (some-ne-none b (sym e))
at-end (x ∷ xs) a b zero e = inl e
at-end (x ∷ xs) a b (suc j) e = elim (at-end xs a b j e) [
  | inl h ↦ inl h
  | inr h ↦ inr (ap suc h.0, h.1)
]

pub there-below : {A : Type 0} (l : List A) (i : ℕ) (a : A) → get_elem? l i ≡ some a → i < length l
there-below [] i a e = absurd (some-ne-none a (sym e))
there-below (x ∷ xs) zero a e = omega arith
there-below (x ∷ xs) (suc i) a e = omega (arith, there-below xs i a e)

-- where a pass of the longer list comes from: it was live before with the same number, or it is the new one
pub record Before (passes : List Identity) (made i : ℕ) (a : Identity) : Type 0 where
  pub was : Identity
  pub live : IsLive passes i was
  pub number : a.number ≡ was.number
  pub ended : a.ended ≡ was.ended
  pub gave_out : a.number ≡ 0 → a.made ≡ made + 1

pub record New (passes : List Identity) (made i : ℕ) (a : Identity) : Type 0 where
  pub at : i ≡ length passes
  pub number : a.number ≡ made
  pub ended : a.ended ≡ []

module _ (workers : ℕ) (passes : List Identity) (id : ℕ) (v x y : Identity) (numbers : Numbers workers passes) (here : IsLive passes id v) (first : v.number ≡ 0) (more : v.made < workers)
    (x_number : x.number ≡ v.number) (x_ended : x.ended ≡ v.ended) (x_made : x.made ≡ v.made + 1) (y_number : y.number ≡ v.made) (y_ended : y.ended ≡ []) where
  abbrev L : List Identity
  L = set passes id x ++ y ∷ []

  came : (i : ℕ) (a : Identity) → IsLive L i a → Before passes v.made i a ⊎ New passes v.made i a
  came i a h = elim (at-end (set passes id x) y a i h.at) [
    | inr new ↦ inr (record { at = new.0 ∙ length-set passes id x; number = sym (ap (λ (z : Identity). z.number) new.1) ∙ y_number; ended = sym (ap (λ (z : Identity). z.ended) new.1) ∙ y_ended })
    | inl old ↦ elim (at_set passes id i x a old) [
      | inl (is, x_is) ↦ inl (record {
        was = v;
        live = subst (λ (j : ℕ). IsLive passes j v) (sym is) here;
        number = sym (ap (λ (z : Identity). z.number) x_is) ∙ x_number;
        ended = sym (ap (λ (z : Identity). z.ended) x_is) ∙ x_ended;
        gave_out = λ _. sym (ap (λ (z : Identity). z.made) x_is) ∙ x_made;
      })
      | inr (other, there) ↦ inl (record {
        was = a;
        live = record { at = there; live = h.live };
        number = refl;
        ended = refl;
        gave_out = λ none. absurd (other (numbers.apart i id a v (record { at = there; live = h.live }) here (none ∙ sym first)));
      })
    ]
  ]

  made_above : (i : ℕ) (a : Identity) → IsLive passes i a → a.number < v.made
  made_above i a h = numbers.made id i v a here first h

  none_ended : (n : ℕ) (ns : List ℕ) → ns ≡ [] → stands n ns ≡ true → ⊥
  none_ended n ns is h = false≢true (sym (ap (stands n) is) ∙ h)

  pub numbers-cut : Numbers workers L
  numbers-cut = record {
    below = λ i a h. elim (came i a h) [
      | inl b ↦ omega (arith, b.number, numbers.below i b.was b.live)
      | inr n ↦ omega (arith, n.number, more)
    ];
    apart = λ i j a b h k same. elim (came i a h) [
      | inl o ↦ elim (came j b k) [
        | inl u ↦ numbers.apart i j o.was u.was o.live u.live (sym o.number ∙ same ∙ u.number)
        | inr n ↦ absurd (omega (arith, made_above i o.was o.live, o.number, n.number, same))
      ]
      | inr m ↦ elim (came j b k) [
        | inl u ↦ absurd (omega (arith, made_above j u.was u.live, u.number, m.number, same))
        | inr n ↦ m.at ∙ sym n.at
      ]
    ];
    ended = λ i j a b h k. Rattle.std.proofs.lemmas.Bool.false_from_ne_true (stands a.number b.ended) (λ hit. elim (came j b k) [
      | inr n ↦ none_ended a.number b.ended n.ended hit
      | inl u ↦ elim (came i a h) [
        | inl o ↦ false≢true (sym (numbers.ended i j o.was u.was o.live u.live) ∙ sym (λ t. stands (o.number t) (u.ended t)) ∙ hit)
        | inr m ↦ let less : v.made < v.made = numbers.made_ended id j v.made v u.was here first u.live (sym (λ t. stands (m.number t) (u.ended t)) ∙ hit) in omega arith
      ]
    ]);
    once = λ i j n a b h k one two. elim (came i a h) [
      | inr m ↦ absurd (none_ended n a.ended m.ended one)
      | inl o ↦ elim (came j b k) [
        | inr m ↦ absurd (none_ended n b.ended m.ended two)
        | inl u ↦ numbers.once i j n o.was u.was o.live u.live (sym (ap (stands n) o.ended) ∙ one) (sym (ap (stands n) u.ended) ∙ two)
      ]
    ];
    made = λ i j a b h zero_is k. elim (came i a h) [
      | inr m ↦ absurd (omega (arith, m.number, zero_is, made_above id v here))
      | inl o ↦ elim (came j b k) [
        | inl u ↦ omega (arith, o.gave_out zero_is, u.number, made_above j u.was u.live)
        | inr n ↦ omega (arith, o.gave_out zero_is, n.number)
      ]
    ];
    made_ended = λ i j n a b h zero_is k hit. elim (came i a h) [
      | inr m ↦ absurd (omega (arith, m.number, zero_is, made_above id v here))
      | inl o ↦ elim (came j b k) [
        | inr m ↦ absurd (none_ended n b.ended m.ended hit)
        | inl u ↦ omega (arith, o.gave_out zero_is, numbers.made_ended id j n v u.was here first u.live (sym (ap (stands n) u.ended) ∙ hit))
      ]
    ];
  }

  -- who was live is
  pub still-live : (i : ℕ) (a : Identity) → IsLive passes i a → x.live ≡ true → (j : ℕ) × (b : Identity) × IsLive L j b × (b.number ≡ a.number)
  still-live i a h alive = elim (cases_ℕ i id) [
    | inl is ↦
        let a_is : a ≡ v = some-injective a v (sym h.at ∙ ap (get_elem? passes) is ∙ here.at) in
        (id, x, record { at = Rattle.atomic_table.proofs.Lists.at_longer (set passes id x) (y ∷ []) id x (set_here passes id x (there-below passes id v here.at)); live = alive }, x_number ∙ sym (ap (λ (z : Identity). z.number) a_is))
    | inr other ↦ (i, a, record { at = Rattle.atomic_table.proofs.Lists.at_longer (set passes id x) (y ∷ []) i a (set_else passes id i x other ∙ h.at); live = h.live }, refl)
  ]

none_seen : (n i : ℕ) → let none : ℕ = 0 in get_or (replicate n none) i none ≡ none
none_seen zero i = refl
none_seen (suc n) zero = refl
none_seen (suc n) (suc i) = none_seen n i

pub cut-splits : (key : Key) (id : ℕ) (v : View) → v.live ≡ true → v.number ≡ 0 → v.made < v.workers → Splits (Ruled key) id v (stays v) (comes v)
cut-splits key id v live first more s rule at =
    let b : BoardData = board key s rule in
    let old = rule.shown.passes id v at live in
    let here : IsLive (map identity s.views) id (identity v) = live-identity s.views id v at live in
    let views : List View = set s.views id (stays v) ++ comes v ∷ [] in
    let room : v.made < key.workers = omega (arith, old.workers, more) in
    let identities : map identity views ≡ set (map identity s.views) id (identity (stays v)) ++ identity (comes v) ∷ [] =
    map-append identity (set s.views id (stays v)) (comes v ∷ []) ∙ ap (λ (is : List Identity). is ++ identity (comes v) ∷ []) (map-set identity s.views id (stays v)) in
    let stay : ShowsHand key b (stays v) = record { program = old.program; workers = old.workers; op = old.op; hand = old.hand; long = old.long; seen = old.seen } in
    let unborn : (hand_at b v.made).op ≡ None = elim (cases_Option (hand_at b v.made).op) [
      | inl h ↦ h
      | inr (k, h) ↦ let owner = rule.shown.owned v.made k h in absurd (omega (arith, rule.numbers.made id owner.0 (identity v) owner.1 here first owner.2, owner.3))
    ] in
    let come : ShowsHand key b (comes v) = record {
      program = old.program;
      workers = old.workers;
      op = unborn;
      hand = λ k h. absurd (Rattle.std.proofs.lemmas.Option.none-some k h);
      long = length-replicate (width v.program) 0 ∙ ap width old.program;
      seen = λ r there. omega (arith, none_seen (width v.program) (index_of v.program.machine r));
    } in
    record {
      legal = rule.legal;
      few = rule.few;
      wide = rule.wide;
      deep = rule.deep;
      events = rule.events;
      history = rule.history;
      shown = record {
        words = rule.shown.words;
        homes = rule.shown.homes;
        passes = λ j u there alive. elim (at-end (set s.views id (stays v)) (comes v) u j there) [
          | inr new ↦ subst (ShowsHand key b) new.1 come
          | inl old ↦ elim (at_set s.views id j (stays v) u old) [
            | inl (is, x_is) ↦ subst (ShowsHand key b) x_is stay
            | inr (other, was) ↦ rule.shown.passes j u was alive
          ]
        ];
        owned = λ n k busy.
            let owner = rule.shown.owned n k busy in
            let now = still-live key.workers (map identity s.views) id (identity v) (identity (stays v)) (identity (comes v)) rule.numbers here first room refl refl refl refl refl owner.0 owner.1 owner.2 live in
            (now.0, now.1, subst (λ (is : List Identity). IsLive is now.0 now.1) (sym identities) now.2, now.3 ∙ owner.3);
      };
      numbers = subst (λ (is : List Identity). Numbers key.workers is) (sym identities) (numbers-cut key.workers (map identity s.views) id (identity v) (identity (stays v)) (identity (comes v)) rule.numbers here first room refl refl refl refl refl);
      counted = omega (arith, rule.counted, sum_by_push begun_of (set s.views id (stays v)) (comes v), sum-set begun_of s.views id v (stays v) at);
    }
