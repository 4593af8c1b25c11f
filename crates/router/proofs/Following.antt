-- A least path, followed from place to place by the least numbers of segments.
use Rattle.std.proofs.Common.{◌≡◌, ℕ, zero, suc, ◌+◌, ◌-◌, ◌<◌, ◌≤◌, Bool, true, false, eqb, List, [], ◌∷◌, ◌++◌, map, length, refl, sym, ◌∙◌, ap, subst, arith, Option, Some, None, inl, inr, ◌⊎◌, append_assoc, append-nil}
use Rattle.std.specs.Prelude.{find, is_some, option_map, slice_get, ◌==◌}
use Rattle.std.specs.List.{range_with_len, list_any}
use Rattle.std.proofs.lemmas.Bool.{cases_Bool, cases_eq, and_parts, eqb-true, eq-eqb, false≢true}
use Rattle.std.proofs.lemmas.Option.{none-some, same_Some}
use Rattle.qccd_base.specs.Names.{trap}
use Rattle.qccd_base.specs.Resource.{same_res}
use Rattle.qccd_base.specs.declared.names.SegId.{SegId}
use Rattle.qccd_base.specs.declared.names.Res.{Res}
use Rattle.qccd_base.specs.declared.names.Res.TheVariants as res
use Rattle.qccd_machine.specs.declared.place.Place.{Place}
use Rattle.qccd_machine.specs.declared.place.Place.TheVariants.{TrapEnd, Junction}
use Rattle.qccd_machine.specs.Machine.{site}
use Rattle.router.specs.Wiring.{WiringData, IsWiring}
use Rattle.router.specs.Paths.{first_of, hop_path, path_behind, path_of, turned, way_along}
use Rattle.router.specs.Steps.{AreLeast, HasCount, is_at, leads_on, least_steps, steps_at}
use Rattle.router.specs.Greedy.{far_along, LeadsFrom}
use Rattle.router.specs.declared.steps.Steps.{Steps}
use Rattle.router.proofs.Along.{sound, counted}
use Rattle.router.proofs.Search.{FirstIn, find_range, any_range}
use Rattle.router.proofs.Rounds.{leads_behind, some_behind, some_first}

-- ---- the first of a range

pub first_at : {X : Type 0} (f : ℕ → Option X) (a n g : ℕ) → a ≤ g → g < a + n → ((h : ℕ) → a ≤ h → h < g → is_some (f h) ≡ false) → is_some (f g) ≡ true → first_of f (range_with_len a n) ≡ f g
first_at f a zero g low high none some = absurd (omega arith)
first_at f a (suc n) g low high none some = elim (cases_eq a g) [
  | inl same ↦ let here : is_some (f a) ≡ true = subst (λ k. is_some (f k) ≡ true) (sym same) some in rw here (ap f same)
  | inr apart ↦
      let less : a < g = below a g apart low in
      rw (none a (omega arith) less) (first_at f (a + 1) n g (omega (arith, less)) (omega arith) (λ h at_least. none h (omega arith)) some)
]
  where
    below : (a g : ℕ) → (a ≡ g → ⊥) → a ≤ g → a < g
    below a g apart at_most = grind arith

pub first_found : {X : Type 0} (f : ℕ → Option X) (ks : List ℕ) (n : ℕ) → find (λ k. is_some (f k)) ks ≡ Some n → first_of f ks ≡ f n
first_found f [] n is = cc
first_found f (k ∷ ks) n is = elim (cases_Bool (is_some (f k))) [
  | inl here ↦ let same : Some k ≡ Some n = rw here at is in rw here (ap f (let e : k ≡ n = cc in e))
  | inr not_k ↦ rw not_k (first_found f ks n (rw not_k at is))
]

pub first_none : {X : Type 0} (f : ℕ → Option X) (ks : List ℕ) → find (λ k. is_some (f k)) ks ≡ None → first_of f ks ≡ None
first_none f [] is = refl
first_none f (k ∷ ks) is = elim (cases_Bool (is_some (f k))) [
  | inl here ↦ absurd (none-some k (sym (let same : Some k ≡ None = rw here at is in same)))
  | inr not_k ↦ rw not_k (first_none f ks (rw not_k at is))
]

-- ---- one segment

-- the far end of a segment, and whether so many lead on from it
abbrev pub far_leads : Steps → ℕ → ℕ → Option Place → Bool
far_leads steps t left None = false
far_leads steps t left (Some far) = leads_on steps t far left

-- what is known where the least number from a place is left + 1
pub record Known (w : WiringData) (t left : ℕ) (r : Res) : Type 0 where
  pub leads : is_some (path_of w t (left + 1) r) ≡ true
  pub none_fewer : (n : ℕ) → 1 ≤ n → n ≤ left → is_some (path_of w t n r) ≡ false
  pub within : left ≤ w.junctions + 1

pub known : (w : WiringData) (t left : ℕ) (place : Place) (steps : Steps) → HasCount place → AreLeast w t (w.junctions + 1) steps → steps_at steps place ≡ Some (left + 1) → Known w t left (site place)
known w t left place steps has least is =
    let first : FirstIn (λ count. is_some (path_of w t count (site place))) 1 (w.junctions + 1) (left + 1) = find_range (λ count. is_some (path_of w t count (site place))) 1 (w.junctions + 1) (left + 1) (sym (least place has) ∙ is) in
    record { leads = first.passes; none_fewer = λ n low high. first.first n low (omega arith); within = omega (arith, first.below) }

pub behind_by_far : (w : WiringData) (t left g : ℕ) (r : Res) (ends : Place × Place) (steps : Steps) → IsWiring w → AreLeast w t (w.junctions + 1) steps → Known w t left r → slice_get w.segments g ≡ Some ends → g < length w.segments
    → some_behind w t left r g ≡ far_leads steps t left (far_along r ends)
behind_by_far w t left g r ends steps wiring least k is there = elim (cases_Bool (same_res (site ends.0) r)) [
  | inl forth ↦
      let way : way_along w r g ≡ Some (ends.0, ends.1) = ap (turned r) is ∙ rw forth refl in
      ap (λ o. is_some (path_behind t left g o (path_of w t left))) way ∙ leads_behind w t left (w.junctions + 1) g r ends.0 ends.1 steps k.within there way (counted w ends.1 wiring (sound w g ends wiring is).far_there) least k.none_fewer
      ∙ sym (ap (far_leads steps t left) (let far : far_along r ends ≡ Some ends.1 = rw forth refl in far))
  | inr not_forth ↦ elim (cases_Bool (same_res (site ends.1) r)) [
    | inl back ↦
        let way : way_along w r g ≡ Some (ends.1, ends.0) = ap (turned r) is ∙ rw (not_forth, back) refl in
        ap (λ o. is_some (path_behind t left g o (path_of w t left))) way ∙ leads_behind w t left (w.junctions + 1) g r ends.1 ends.0 steps k.within there way (counted w ends.0 wiring (sound w g ends wiring is).near_there) least k.none_fewer
        ∙ sym (ap (far_leads steps t left) (let far : far_along r ends ≡ Some ends.0 = rw (not_forth, back) refl in far))
    | inr not_back ↦
        let way : way_along w r g ≡ None = ap (turned r) is ∙ rw (not_forth, not_back) refl in
        ap (λ o. is_some (path_behind t left g o (path_of w t left))) way ∙ sym (ap (far_leads steps t left) (let far : far_along r ends ≡ None = rw (not_forth, not_back) refl in far))
  ]
]

-- the place at the near end does not matter to the path
near_any : (t left g : ℕ) (near far : Place) (more : Res → Option (List ℕ)) → path_behind t left g (Some (near, far)) more ≡ path_behind t left g (Some (far, far)) more
near_any t left g near (TrapEnd u e) more = refl
near_any t left g near (Junction j) more = refl

-- the far end is that of the way along the segment
way_of_far : (w : WiringData) (r : Res) (g : ℕ) (ends : Place × Place) (far : Place) → slice_get w.segments g ≡ Some ends → far_along r ends ≡ Some far → (near : Place) × (way_along w r g ≡ Some (near, far)) × ((far ≡ ends.0) ⊎ (far ≡ ends.1))
way_of_far w r g ends far is along = elim (cases_Bool (same_res (site ends.0) r)) [
  | inl forth ↦
      let same : ends.1 ≡ far = same_Some ends.1 far (rw forth at along) in
      (ends.0, ap (turned r) is ∙ rw forth (ap (λ (p : Place). Some (ends.0, p)) same), inr (sym same))
  | inr not_forth ↦ elim (cases_Bool (same_res (site ends.1) r)) [
    | inl back ↦
        let same : ends.0 ≡ far = same_Some ends.0 far (rw (not_forth, back) at along) in
        (ends.1, ap (turned r) is ∙ rw (not_forth, back) (ap (λ (p : Place). Some (ends.1, p)) same), inl (sym same))
    | inr not_back ↦ absurd (none-some far (let bad : None ≡ Some far = rw (not_forth, not_back) at along in bad))
  ]
]

pub first_leads : (w : WiringData) (t left g : ℕ) (r : Res) (ends : Place × Place) (far : Place) (steps : Steps) → IsWiring w → AreLeast w t (w.junctions + 1) steps → Known w t left r → slice_get w.segments g ≡ Some ends → g < length w.segments
    → ((h : ℕ) → h < g → some_behind w t left r h ≡ false) → Some far ≡ far_along r ends → leads_on steps t far left ≡ true → LeadsFrom w steps t left r g far
first_leads w t left g r ends far steps wiring least k is there none along leads =
    let next : left + 1 ≡ suc left = omega arith in
    let way : (near : Place) × (way_along w r g ≡ Some (near, far)) × ((far ≡ ends.0) ⊎ (far ≡ ends.1)) = way_of_far w r g ends far is (sym along) in
    let some : some_behind w t left r g ≡ true = behind_by_far w t left g r ends steps wiring least k is there ∙ ap (far_leads steps t left) (sym along) ∙ leads in
    record {
      begins = ap (λ n. path_of w t n r) next
          ∙ first_at (λ h. path_behind t left h (way_along w r h) (path_of w t left)) 0 (length w.segments) g (omega arith) (omega arith) (λ h low less. none h less) some
          ∙ ap (λ o. path_behind t left g o (path_of w t left)) way.1 ∙ near_any t left g way.0 far (path_of w t left);
      leads = leads;
      there = elim way.2 [
        | inl first ↦ subst HasCount (sym first) (counted w ends.0 wiring (sound w g ends wiring is).near_there)
        | inr second ↦ subst HasCount (sym second) (counted w ends.1 wiring (sound w g ends wiring is).far_there)
      ];
    }

-- some segment leads on
pub never_none : (w : WiringData) (t left n : ℕ) (r : Res) → Known w t left r → length w.segments ≤ n → ((h : ℕ) → h < n → some_behind w t left r h ≡ false) → ⊥
never_none w t left n r k past none =
    let next : left + 1 ≡ suc left = omega arith in
    let any : list_any (some_behind w t left r) (range_with_len 0 (length w.segments)) ≡ true = sym (some_first (λ h. path_behind t left h (way_along w r h) (path_of w t left)) (range_with_len 0 (length w.segments))) ∙ ap (λ i. is_some (path_of w t i r)) (sym next) ∙ k.leads in
    let one : (h : ℕ) × (some_behind w t left r h ≡ true) × (0 ≤ h) × (h < 0 + length w.segments) = any_range (some_behind w t left r) 0 (length w.segments) any in
    false≢true (sym (none one.0 (omega (arith, one.3))) ∙ one.1)

-- ---- one after another

pub at_of : (o : Option ℕ) (n : ℕ) → is_at o n ≡ true → o ≡ Some n
at_of None n is = cc
at_of (Some k) n is = ap (λ (i : ℕ). Some i) (eqb-true k n is)

-- the least path of the segments that are left; nothing where none are
abbrev pub rest_of : WiringData → ℕ → ℕ → Res → Option (List ℕ)
rest_of w t zero r = Some []
rest_of w t (suc left) r = path_of w t (suc left) r

behind_all : (ns rest : List ℕ) (o : Option (List ℕ)) → option_map (λ rest. ns ++ rest) (option_map (λ path. rest ++ path) o) ≡ option_map (λ path. (ns ++ rest) ++ path) o
behind_all ns rest None = refl
behind_all ns rest (Some p) = ap (λ (x : List ℕ). Some x) (sym (append_assoc ns rest p))

pub one_further : (w : WiringData) (t count left g : ℕ) (start r : Res) (far : Place) (ns new : List ℕ) (steps : Steps) → LeadsFrom w steps t left r g far → AreLeast w t (w.junctions + 1) steps → new ≡ ns ++ g ∷ []
    → path_of w t count start ≡ option_map (λ rest. ns ++ rest) (path_of w t (left + 1) r) → path_of w t count start ≡ option_map (λ rest. new ++ rest) (rest_of w t left (site far))
one_further w t count left g start r far ns new steps step least is whole =
    whole ∙ ap (option_map (λ rest. ns ++ rest)) step.begins ∙ by_far left far step.leads step.there ∙ ap (λ (xs : List ℕ). option_map (λ rest. xs ++ rest) (rest_of w t left (site far))) (sym is)
  where
    by_far : (left : ℕ) (far : Place) → leads_on steps t far left ≡ true → HasCount far
        → option_map (λ rest. ns ++ rest) (path_behind t left g (Some (far, far)) (path_of w t left)) ≡ option_map (λ rest. (ns ++ g ∷ []) ++ rest) (rest_of w t left (site far))
    by_far zero (TrapEnd u e) leads has =
        let here : eqb u.0 t ≡ true = (and_parts (zero == 0) (u.0 == t) leads).1 in
        rw here (ap (λ (x : List ℕ). Some x) (sym (append-nil (ns ++ g ∷ []))))
    by_far (suc n) (TrapEnd u e) leads has = absurd (let bad : eqb (suc n) 0 ≡ true = (and_parts (suc n == 0) (u.0 == t) leads).0 in let zero_is : suc n ≡ 0 = eqb-true (suc n) 0 bad in omega arith)
    by_far zero (Junction j) leads has = absurd (omega (arith, (find_range (λ count. is_some (path_of w t count (res.Junc j))) 1 (w.junctions + 1) 0 (sym (least (Junction j) has) ∙ at_of (steps_at steps (Junction j)) 0 leads)).from))
    by_far (suc n) (Junction j) leads has = behind_all ns (g ∷ []) (path_of w t (suc n) (res.Junc j))

-- the number at the far end is known, where segments are left
pub far_known : (t left : ℕ) (far : Place) (steps : Steps) → leads_on steps t far left ≡ true → 0 < left → steps_at steps far ≡ Some left
far_known t left (TrapEnd u e) steps leads some = absurd (let none : left ≡ 0 = eqb-true left 0 (and_parts (left == 0) (u.0 == t) leads).0 in omega arith)
far_known t left (Junction j) steps leads some = at_of (steps_at steps (Junction j)) left leads

pub at_start : (w : WiringData) (t count : ℕ) (start : Place) (steps : Steps) → HasCount start → AreLeast w t (w.junctions + 1) steps → steps_at steps start ≡ Some count → path_of w t count (site start) ≡ option_map (λ rest. [] ++ rest) (rest_of w t count (site start))
at_start w t count start steps has least is = by_count count ((find_range (λ count. is_some (path_of w t count (site start))) 1 (w.junctions + 1) count (sym (least start has) ∙ is)).from)
  where
    all_of : (o : Option (List ℕ)) → o ≡ option_map (λ rest. [] ++ rest) o
    all_of None = refl
    all_of (Some p) = refl

    by_count : (n : ℕ) → 1 ≤ n → path_of w t n (site start) ≡ option_map (λ rest. [] ++ rest) (rest_of w t n (site start))
    by_count zero positive = absurd (omega arith)
    by_count (suc n) positive = all_of (path_of w t (suc n) (site start))

-- ---- the path of a hop

pub hop_path_some : (w : WiringData) (a b count : ℕ) → eqb a b ≡ false → least_steps w b (w.junctions + 1) (res.Trap (trap a)) ≡ Some count → hop_path w a b ≡ path_of w b count (res.Trap (trap a))
unfolding hop_path
hop_path_some w a b count apart is = rw apart (first_found (λ n. path_of w b n (res.Trap (trap a))) (range_with_len 1 (w.junctions + 1)) count is)

pub hop_path_none : (w : WiringData) (a b : ℕ) → least_steps w b (w.junctions + 1) (res.Trap (trap a)) ≡ None → hop_path w a b ≡ None
unfolding hop_path
hop_path_none w a b is = elim (cases_Bool (eqb a b)) [
  | inl own ↦ rw own refl
  | inr apart ↦ rw apart (first_none (λ n. path_of w b n (res.Trap (trap a))) (range_with_len 1 (w.junctions + 1)) is)
]

pub hop_path_own : (w : WiringData) (a b : ℕ) → a ≡ b → hop_path w a b ≡ None
unfolding hop_path
hop_path_own w a b same = rw (eq-eqb a b same) refl

pub rest_some : (w : WiringData) (t left : ℕ) (r : Res) → 0 < left → rest_of w t left r ≡ path_of w t (left - 1 + 1) r
rest_some w t zero r some = absurd (omega arith)
rest_some w t (suc n) r some = let same : suc n ≡ suc n - 1 + 1 = omega arith in ap (λ i. path_of w t i r) same

pub numbers_more : (xs : List SegId) (g : SegId) → map (λ h. h.0) (xs ++ g ∷ []) ≡ map (λ h. h.0) xs ++ g.0 ∷ []
numbers_more [] g = refl
numbers_more (x ∷ xs) g = ap (λ rest. x.0 ∷ rest) (numbers_more xs g)

-- where nothing is left, the segments are the path
pub all_along : (w : WiringData) (t count left : ℕ) (start r : Res) (ns : List ℕ) → left ≤ 0 → path_of w t count start ≡ option_map (λ rest. ns ++ rest) (rest_of w t left r) → path_of w t count start ≡ Some ns
all_along w t count zero start r ns none whole = whole ∙ ap (λ (xs : List ℕ). Some xs) (append-nil ns)
all_along w t count (suc left) start r ns none whole = absurd (omega arith)

pub none_leads : (steps : Steps) (t left : ℕ) (o : Option Place) → ((far : Place) → o ≡ Some far → ⊥) → far_leads steps t left o ≡ false
none_leads steps t left None never = refl
none_leads steps t left (Some far) never = absurd (never far refl)
