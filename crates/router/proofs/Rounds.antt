-- What a round of a search finds, segment by segment.
use Rattle.std.proofs.Common.{◌≡◌, ℕ, zero, suc, ◌+◌, ◌<◌, ◌≤◌, Bool, true, false, cond, ◌||◌, ◌&&◌, List, [], ◌∷◌, ◌++◌, length, refl, sym, ◌∙◌, ap, subst, arith, Option, Some, None, inl, inr, replicate}
use Rattle.std.specs.Prelude.{find, is_some, option_map, slice_get, ◌==◌, if◌then◌else◌}
use Rattle.std.specs.Option.{option_or}
use Rattle.std.specs.List.{range_with_len, list_any}
use Rattle.std.proofs.lemmas.Bool.{cases_Bool, cases_eq, cases_lt, eq-eqb, ne_eqb, false≢true, false_from_ne_true}
use Rattle.std.proofs.lemmas.Option.{none-some}
use Rattle.std.proofs.lemmas.List.{get_or-replicate}
use Rattle.std.proofs.lemmas.List.Folds.{find-append}
use Rattle.qccd_base.specs.Resource.{same_res}
use Rattle.qccd_base.specs.declared.names.Res.{Res}
use Rattle.qccd_base.specs.declared.names.Res.TheVariants as res
use Rattle.qccd_machine.specs.declared.place.Place.{Place}
use Rattle.qccd_machine.specs.declared.place.Place.TheVariants.{TrapEnd, Junction}
use Rattle.qccd_machine.specs.Machine.{site}
use Rattle.router.specs.Wiring.{WiringData, IsWiring}
use Rattle.router.specs.Paths.{first_of, path_behind, path_of, turned, way_along}
use Rattle.router.specs.Steps.{AreLeast, HasCount, is_at, leads_on, least_steps, steps_at}
use Rattle.router.specs.declared.steps.Steps.{Steps}
use Rattle.router.proofs.Along.{sound}
use Rattle.router.proofs.Search.{FirstIn, find_range, found_range, firsts_range, some_of}
use Rattle.router.proofs.Distances.{same_res-true}

-- ---- ranges that grow

pub range_more : (a n : ℕ) → range_with_len a (suc n) ≡ range_with_len a n ++ (a + n) ∷ []
range_more a zero = let same : a ≡ a + 0 = omega arith in ap (λ k. k ∷ []) same
range_more a (suc n) =
    let same : a + 1 + n ≡ a + suc n = omega arith in
    ap (λ ks. a ∷ ks) (range_more (a + 1) n ∙ ap (λ k. range_with_len (a + 1) n ++ k ∷ []) same)

any_append : (p : ℕ → Bool) (xs : List ℕ) (y : ℕ) → list_any p (xs ++ y ∷ []) ≡ (list_any p xs || p y)
any_append p [] y = or_false (p y)
  where
    or_false : (b : Bool) → (b || false) ≡ b
    or_false true = refl
    or_false false = refl
any_append p (x ∷ xs) y = elim (cases_Bool (p x)) [ inl is ↦ rw is refl | inr not_x ↦ rw not_x (any_append p xs y) ]

pub any_more : (p : ℕ → Bool) (n : ℕ) → list_any p (range_with_len 0 (suc n)) ≡ (list_any p (range_with_len 0 n) || p n)
any_more p n = let same : 0 + n ≡ n = omega arith in ap (list_any p) (range_more 0 n) ∙ any_append p (range_with_len 0 n) (0 + n) ∙ ap (λ k. list_any p (range_with_len 0 n) || p k) same

pub find_more : (p : ℕ → Bool) (a n : ℕ) → find p (range_with_len a (suc n)) ≡ option_or (find p (range_with_len a n)) (cond (p (a + n)) (Some (a + n)) None)
find_more p a n = ap (find p) (range_more a n) ∙ find-append p (range_with_len a n) ((a + n) ∷ [])

pub some_first : {X : Type 0} (f : ℕ → Option X) (ks : List ℕ) → is_some (first_of f ks) ≡ list_any (λ k. is_some (f k)) ks
some_first f [] = refl
some_first f (k ∷ ks) = elim (cases_Bool (is_some (f k))) [ inl is ↦ rw is is | inr not_k ↦ rw not_k (some_first f ks) ]

-- ---- paths that begin with one of the first segments

-- whether a path of so many segments more lies behind segment g
abbrev pub some_behind : WiringData → ℕ → ℕ → Res → ℕ → Bool
some_behind w t left r g = is_some (path_behind t left g (way_along w r g) (path_of w t left))

-- the least number known before the round, or its own where one of the first g segments begins such a path
abbrev pub so_far : WiringData → ℕ → ℕ → ℕ → Res → Option ℕ
so_far w t left g r = option_or (least_steps w t left r) (cond (list_any (some_behind w t left r) (range_with_len 0 g)) (Some (left + 1)) None)

pub so_far_none : (w : WiringData) (t left : ℕ) (r : Res) → so_far w t left 0 r ≡ least_steps w t left r
so_far_none w t left r = or_none (least_steps w t left r)
  where
    or_none : (o : Option ℕ) → option_or o None ≡ o
    or_none None = refl
    or_none (Some n) = refl

pub so_far_all : (w : WiringData) (t left : ℕ) (r : Res) → so_far w t left (length w.segments) r ≡ least_steps w t (left + 1) r
so_far_all w t left r =
    let next : left + 1 ≡ suc left = omega arith in
    let one : 1 + left ≡ suc left = omega arith in
    sym (ap (λ n. least_steps w t n r) next ∙ find_more (λ count. is_some (path_of w t count r)) 1 left
    ∙ ap (λ n. option_or (least_steps w t left r) (cond (is_some (path_of w t n r)) (Some n) None)) one
    ∙ ap (λ b. option_or (least_steps w t left r) (cond b (Some (suc left)) None)) (some_first (λ g. path_behind t left g (way_along w r g) (path_of w t left)) (range_with_len 0 (length w.segments)))
    ∙ ap (λ n. option_or (least_steps w t left r) (cond (list_any (some_behind w t left r) (range_with_len 0 (length w.segments))) (Some n) None)) (sym next))

-- ---- the least number tells of a path

some-map : {X Y : Type 0} (h : X → Y) (o : Option X) → is_some (option_map h o) ≡ is_some o
some-map h None = refl
some-map h (Some x) = refl

-- a path behind a segment makes one from where it begins
pub path_from : (w : WiringData) (t left g : ℕ) (r : Res) → g < length w.segments → some_behind w t left r g ≡ true → is_some (path_of w t (suc left) r) ≡ true
path_from w t left g r there behind = firsts_range (λ g. path_behind t left g (way_along w r g) (path_of w t left)) 0 (length w.segments) g behind (omega arith) (omega arith)

-- where no fewer lead from r, the least number at the far end tells whether so many lead on
pub leads_behind : (w : WiringData) (t left most g : ℕ) (r : Res) (near far : Place) (steps : Steps) → left ≤ most → g < length w.segments → way_along w r g ≡ Some (near, far) → HasCount far → AreLeast w t most steps
    → ((n : ℕ) → 1 ≤ n → n ≤ left → is_some (path_of w t n r) ≡ false) → is_some (path_behind t left g (Some (near, far)) (path_of w t left)) ≡ leads_on steps t far left
leads_behind w t left most g r near (TrapEnd u e) steps within there way has least none = elim (cases_Bool ((left == 0) && (u.0 == t))) [ inl is ↦ rw is refl | inr other ↦ rw other refl ]
leads_behind w t left most g r near (Junction j) steps within there way has least none =
    some-map (λ path. g ∷ path) (path_of w t left (res.Junc j)) ∙ sym (ap (λ o. is_at o left) (least (Junction j) has) ∙ at_least (find (λ count. is_some (path_of w t count (res.Junc j))) (range_with_len 1 most)) refl)
  where
    at_least : (o : Option ℕ) → find (λ count. is_some (path_of w t count (res.Junc j))) (range_with_len 1 most) ≡ o → is_at o left ≡ is_some (path_of w t left (res.Junc j))
    at_least None is = sym (false_from_ne_true (is_some (path_of w t left (res.Junc j))) (λ some.
        let positive : 1 ≤ left = some_positive left some in
        let found : (k : ℕ) × (find (λ count. is_some (path_of w t count (res.Junc j))) (range_with_len 1 most) ≡ Some k) =
        some_of (find (λ count. is_some (path_of w t count (res.Junc j))) (range_with_len 1 most)) (found_range (λ count. is_some (path_of w t count (res.Junc j))) 1 most left some positive (omega arith)) in
        none-some found.0 (sym is ∙ found.1)))
      where
        some_positive : (n : ℕ) → is_some (path_of w t n (res.Junc j)) ≡ true → 1 ≤ n
        some_positive zero some = cc
        some_positive (suc n) some = omega arith
    at_least (Some k) is =
        let first : FirstIn (λ count. is_some (path_of w t count (res.Junc j))) 1 most k = find_range (λ count. is_some (path_of w t count (res.Junc j))) 1 most k is in
        elim (cases_eq k left) [
          | inl same ↦ eq-eqb k left same ∙ sym (subst (λ n. is_some (path_of w t n (res.Junc j)) ≡ true) same first.passes)
          | inr apart ↦ ne_eqb k left apart ∙ sym (false_from_ne_true (is_some (path_of w t left (res.Junc j))) (λ some. elim (cases_lt left k) [
            | inl less ↦ false≢true (sym (first.first left (some_positive left some) less) ∙ some)
            | inr more ↦ false≢true (sym (none (suc k) (omega arith) (below k left apart more)) ∙
                path_from w t k g r there (ap (λ o. is_some (path_behind t k g o (path_of w t k))) way ∙ some-map (λ path. g ∷ path) (path_of w t k (res.Junc j)) ∙ first.passes))
          ]))
        ]
      where
        some_positive : (n : ℕ) → is_some (path_of w t n (res.Junc j)) ≡ true → 1 ≤ n
        some_positive zero some = cc
        some_positive (suc n) some = omega arith

        below : (k n : ℕ) → (k ≡ n → ⊥) → k ≤ n → suc k ≤ n
        below k n apart at_most = grind arith

-- ---- one segment of a round

-- what one end of it does to the number of a place
abbrev pub told : Bool → Bool → ℕ → Option ℕ → Option ℕ
told leads same count old = if leads then (if same then option_or old (Some count) else old) else old

told_some : (leads same : Bool) (count n : ℕ) → told leads same count (Some n) ≡ Some n
told_some true true count n = refl
told_some true false count n = refl
told_some false same count n = refl

told_none : (leads same before : Bool) (count : ℕ) → told leads same count (cond before (Some count) None) ≡ cond (before || (same && leads)) (Some count) None
told_none true true true count = refl
told_none true true false count = refl
told_none true false true count = refl
told_none true false false count = refl
told_none false true true count = refl
told_none false true false count = refl
told_none false false true count = refl
told_none false false false count = refl

or_assoc : (a b c : Bool) → ((a || b) || c) ≡ (a || (b || c))
or_assoc true b c = refl
or_assoc false b c = refl

pub both_ends : (w : WiringData) (t left g : ℕ) (r : Res) (a b : Place) (steps : Steps) → IsWiring w → slice_get w.segments g ≡ Some (a, b) → g < length w.segments → HasCount a → HasCount b → AreLeast w t left steps
    → told (leads_on steps t a left) (same_res (site b) r) (left + 1) (told (leads_on steps t b left) (same_res (site a) r) (left + 1) (so_far w t left g r)) ≡ so_far w t left (suc g) r
both_ends w t left g r a b steps wiring is there has_a has_b least = by_known (least_steps w t left r) refl
  where
    none_fewer : find (λ count. is_some (path_of w t count r)) (range_with_len 1 left) ≡ None → (n : ℕ) → 1 ≤ n → n ≤ left → is_some (path_of w t n r) ≡ false
    none_fewer none n low high = false_from_ne_true (is_some (path_of w t n r)) (λ some.
        let found : (k : ℕ) × (find (λ count. is_some (path_of w t count r)) (range_with_len 1 left) ≡ Some k) =
        some_of (find (λ count. is_some (path_of w t count r)) (range_with_len 1 left)) (found_range (λ count. is_some (path_of w t count r)) 1 left n some low (omega arith)) in
        none-some found.0 (sym none ∙ found.1))

    or_false : (x : Bool) → (x || false) ≡ x
    or_false true = refl
    or_false false = refl

    own : find (λ count. is_some (path_of w t count r)) (range_with_len 1 left) ≡ None
        → ((same_res (site a) r && leads_on steps t b left) || (same_res (site b) r && leads_on steps t a left)) ≡ some_behind w t left r g
    own none = elim (cases_Bool (same_res (site a) r)) [
      | inl forth ↦
          let not_back : same_res (site b) r ≡ false = false_from_ne_true (same_res (site b) r) (λ back. (sound w g (a, b) wiring is).two_sites (same_res-true (site a) r forth ∙ sym (same_res-true (site b) r back))) in
          let way : way_along w r g ≡ Some (a, b) = ap (turned r) is ∙ rw forth refl in
          rw (forth, not_back) (or_false (leads_on steps t b left)) ∙ sym (ap (λ o. is_some (path_behind t left g o (path_of w t left))) way ∙ leads_behind w t left left g r a b steps (omega arith) there way has_b least (none_fewer none))
      | inr not_forth ↦ elim (cases_Bool (same_res (site b) r)) [
        | inl back ↦
            let way : way_along w r g ≡ Some (b, a) = ap (turned r) is ∙ rw (not_forth, back) refl in
            rw (not_forth, back) refl ∙ sym (ap (λ o. is_some (path_behind t left g o (path_of w t left))) way ∙ leads_behind w t left left g r b a steps (omega arith) there way has_a least (none_fewer none))
        | inr not_back ↦
            let way : way_along w r g ≡ None = ap (turned r) is ∙ rw (not_forth, not_back) refl in
            rw (not_forth, not_back) refl ∙ sym (ap (λ o. is_some (path_behind t left g o (path_of w t left))) way)
      ]
    ]

    by_known : (o : Option ℕ) → least_steps w t left r ≡ o
        → told (leads_on steps t a left) (same_res (site b) r) (left + 1) (told (leads_on steps t b left) (same_res (site a) r) (left + 1) (option_or o (cond (list_any (some_behind w t left r) (range_with_len 0 g)) (Some (left + 1)) None)))
        ≡ option_or o (cond (list_any (some_behind w t left r) (range_with_len 0 (suc g))) (Some (left + 1)) None)
    by_known (Some n) known = ap (told (leads_on steps t a left) (same_res (site b) r) (left + 1)) (told_some (leads_on steps t b left) (same_res (site a) r) (left + 1) n) ∙ told_some (leads_on steps t a left) (same_res (site b) r) (left + 1) n
    by_known None known =
        let A : Bool = list_any (some_behind w t left r) (range_with_len 0 g) in
        ap (told (leads_on steps t a left) (same_res (site b) r) (left + 1)) (told_none (leads_on steps t b left) (same_res (site a) r) A (left + 1))
        ∙ told_none (leads_on steps t a left) (same_res (site b) r) (A || (same_res (site a) r && leads_on steps t b left)) (left + 1)
        ∙ ap (λ x. cond x (Some (left + 1)) None) (or_assoc A (same_res (site a) r && leads_on steps t b left) (same_res (site b) r && leads_on steps t a left) ∙ ap (λ x. A || x) (own known) ∙ sym (any_more (some_behind w t left r) g))

-- no number is known before the first round
pub none_known : (p : Place) → HasCount p → steps_at (record { traps = replicate 32 None; junctions = replicate 64 None }) p ≡ None
none_known (TrapEnd t e) has = get_or-replicate 32 t.0 None None has
none_known (Junction j) has = get_or-replicate 64 j.0 None None has
