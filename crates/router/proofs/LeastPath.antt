-- What the path of a hop is: it leads, it is short, and it is found wherever some path leads.
use Rattle.std.proofs.Common.{◌≡◌, ℕ, zero, suc, ◌+◌, ◌<◌, ◌≤◌, Bool, true, false, eqb, ltb, ◌&&◌, List, [], ◌∷◌, length, refl, sym, ◌∙◌, ap, arith, Option, Some, None, inl, inr, subst, ◌⊎◌}
use Rattle.std.specs.Prelude.{find, is_some, option_map, ◌==◌}
use Rattle.std.specs.List.{range_with_len, AllByRecursion}
use Rattle.std.proofs.lemmas.Bool.{cases_Bool, and_parts, eqb-true, eq-eqb, cases_lt, cases_eq, false≢true}
use Rattle.std.proofs.lemmas.Bool.Decides.{nat_tests}
use Rattle.qccd_base.specs.Names.{trap, junction}
use Rattle.qccd_base.specs.declared.names.Res.{Res}
use Rattle.qccd_base.specs.declared.names.Res.TheVariants as res
use Rattle.qccd_base.specs.declared.names.JuncId.{JuncId}
use Rattle.qccd_base.specs.declared.names.End.{End}
use Rattle.qccd_machine.specs.declared.place.Place.{Place}
use Rattle.qccd_machine.specs.declared.place.Place.TheVariants.{TrapEnd, Junction}
use Rattle.router.specs.Wiring.{WiringData, IsWiring}
use Rattle.router.specs.Paths.{way_along, goes_on, is_last, is_less, is_path, lists_of, path_behind, path_of, hop_path}
use Rattle.router.proofs.Along.{goes, way_there}
use Rattle.router.proofs.Search.{FirstIn, first_range, firsts_range, found_list, length_list, find_passes, find_lists, first_alike, all_long, some-map}
use Rattle.router.proofs.Walks.{Walks, short_walk}

-- a segment leads from junction j to junction k, or to trap t
abbrev pub Crosses : WiringData → ℕ → ℕ → Type 0
Crosses w j k = (g : ℕ) × (near : Place) × (way_along w (res.Junc (junction j)) g ≡ Some (near, Junction (junction k)))

abbrev pub Arrives : WiringData → ℕ → ℕ → Type 0
Arrives w t j = (g : ℕ) × (near : Place) × (e : End) × (way_along w (res.Junc (junction j)) g ≡ Some (near, TrapEnd (trap t) e))

-- what the first segment of a path from somewhere comes to
walk_by : (w : WiringData) (t : ℕ) (from : Res) (g : ℕ) (path : List ℕ) (way : Option (Place × Place)) → way_along w from g ≡ way → goes_on t way (is_last path) (is_path w t path) ≡ true
    → ((near : Place) × (e : End) × (way_along w from g ≡ Some (near, TrapEnd (trap t) e))) ⊎ ((near : Place) × (k : ℕ) × (way_along w from g ≡ Some (near, Junction (junction k))) × (is_path w t path (res.Junc (junction k)) ≡ true))
walk_by w t from g path None is on = cc
walk_by w t from g path (Some (near, TrapEnd u e)) is on =
    let same : u.0 ≡ t = eqb-true u.0 t (and_parts (is_last path) (eqb u.0 t) on).1 in
    inl (near, e, is ∙ ap (λ (n : ℕ). Some (near, TrapEnd (trap n) e)) same)
walk_by w t from g path (Some (near, Junction k)) is on = inr (near, k.0, is, on)

leads_walk : (w : WiringData) (t : ℕ) (path : List ℕ) (j : ℕ) → is_path w t path (res.Junc (junction j)) ≡ true → (cs : List ℕ) × Walks (Crosses w) (Arrives w t) cs j
leads_walk w t [] j on = cc
leads_walk w t (g ∷ path) j on = elim (walk_by w t (res.Junc (junction j)) g path (way_along w (res.Junc (junction j)) g) refl on) [
  | inl (near, e, is) ↦ ([], (g, near, e, is))
  | inr (near, k, is, rest) ↦ let walk : (cs : List ℕ) × Walks (Crosses w) (Arrives w t) cs k = leads_walk w t path k rest in (k ∷ walk.0, ((g, near, is), walk.1))
]

-- a path with its length, of segments that are there
pub record Path (w : WiringData) (t : ℕ) (from : Res) (n : ℕ) : Type 0 where
  pub path : List ℕ
  pub leads_to : is_path w t path from ≡ true
  pub long : length path ≡ n
  pub there : AllByRecursion (λ g. g < length w.segments) path

segment_there : (w : WiringData) (from : Res) (g : ℕ) (ends : Place × Place) → IsWiring w → way_along w from g ≡ Some ends → g < length w.segments
segment_there w from g ends valid is = way_there w from g ends is

-- one segment to a trap, and one to a junction before another path
one_leads : (w : WiringData) (t g : ℕ) (from : Res) (near : Place) (e : End) → IsWiring w → way_along w from g ≡ Some (near, TrapEnd (trap t) e) → Path w t from 1
one_leads w t g from near e valid is = record {
  path = g ∷ [];
  leads_to = ap (λ way. goes_on t way true (is_path w t [])) is ∙ eq-eqb t t refl;
  long = refl;
  there = (segment_there w from g (near, TrapEnd (trap t) e) valid is, tt);
}

next_leads : (w : WiringData) (t g k n : ℕ) (from : Res) (near : Place) → IsWiring w → way_along w from g ≡ Some (near, Junction (junction k)) → Path w t (res.Junc (junction k)) n → Path w t from (suc n)
next_leads w t g k n from near valid is rest = record {
  path = g ∷ rest.path;
  leads_to = ap (λ way. goes_on t way (is_last rest.path) (is_path w t rest.path)) is ∙ rest.leads_to;
  long = ap suc rest.long;
  there = (segment_there w from g (near, Junction (junction k)) valid is, rest.there);
}

walk_leads : (w : WiringData) (t : ℕ) → IsWiring w → (cs : List ℕ) (j : ℕ) → Walks (Crosses w) (Arrives w t) cs j → Path w t (res.Junc (junction j)) (suc (length cs))
walk_leads w t valid [] j (g, near, e, is) = one_leads w t g (res.Junc (junction j)) near e valid is
walk_leads w t valid (k ∷ cs) j ((g, near, is), rest) = next_leads w t g k (suc (length cs)) (res.Junc (junction j)) near valid is (walk_leads w t valid cs k rest)

-- a path has one that comes through each junction once at most
short_path : (w : WiringData) (a t : ℕ) (path : List ℕ) → IsWiring w → is_path w t path (res.Trap (trap a)) ≡ true → (n : ℕ) × (n < w.junctions + 1) × Path w t (res.Trap (trap a)) (suc n)
short_path w a t [] valid on = cc
short_path w a t (g ∷ path) valid on = elim (walk_by w t (res.Trap (trap a)) g path (way_along w (res.Trap (trap a)) g) refl on) [
  | inl (near, e, is) ↦ (0, omega arith, one_leads w t g (res.Trap (trap a)) near e valid is)
  | inr (near, k, is, rest) ↦
      let walk : (cs : List ℕ) × Walks (Crosses w) (Arrives w t) cs k = leads_walk w t path k rest in
      let below : k < w.junctions = (goes w (res.Trap (trap a)) g (near, Junction (junction k)) valid is).far_there in
      let short : (ds : List ℕ) × Walks (Crosses w) (Arrives w t) ds k × (length ds < w.junctions) =
      short_walk (Crosses w) (Arrives w t) w.junctions (λ i c (h, n, to). (goes w (res.Junc (junction i)) h (n, Junction (junction c)) valid to).far_there) walk.0 k below walk.1 in
      (suc (length short.0), omega (arith, short.2), next_leads w t g k (suc (length short.0)) (res.Trap (trap a)) near valid is (walk_leads w t valid short.0 k short.1))
]

-- ---- the least path is the first of all lists that leads

none_last : (n : ℕ) (s : ℕ) (b : Bool) → find (λ path. is_last path && b) (lists_of s (suc n)) ≡ None
none_last n s b = find_none (λ path. is_last path && b) (lists_of s (suc n)) (each (lists_of s (suc n)) (all_long s (suc n)))
  where
    longer : (path : List ℕ) → length path ≡ suc n → (is_last path && b) ≡ false
    longer [] long = absurd (omega arith)
    longer (g ∷ path) long = refl

    each : (ls : List (List ℕ)) → AllByRecursion (λ path. length path ≡ suc n) ls → AllByRecursion (λ path. (is_last path && b) ≡ false) ls
    each [] all = tt
    each (l ∷ ls) all = (longer l all.0, each ls all.1)

    find_none : (p : List ℕ → Bool) (ls : List (List ℕ)) → AllByRecursion (λ path. p path ≡ false) ls → find p ls ≡ None
    find_none p [] all = refl
    find_none p (l ∷ ls) all = rw all.0 (find_none p ls all.1)

find_never : (ls : List (List ℕ)) → find (λ path. false) ls ≡ None
find_never [] = refl
find_never (l ∷ ls) = find_never ls

pub path_is_first : (w : WiringData) (t n : ℕ) (from : Res) → path_of w t n from ≡ find (λ path. is_path w t path from) (lists_of (length w.segments) n)
path_is_first w t zero from = refl
path_is_first w t (suc n) from =
    first_alike (λ g. path_behind t n g (way_along w from g) (path_of w t n)) (λ g. option_map (λ path. g ∷ path) (find (λ path. is_path w t (g ∷ path) from) (lists_of (length w.segments) n))) (range_with_len 0 (length w.segments))
    (λ g. behind n g (way_along w from g) (λ r. path_is_first w t n r))
    ∙ sym (find_lists (length w.segments) n (λ path. is_path w t path from))
  where
    behind : (n g : ℕ) (way : Option (Place × Place)) → ((r : Res) → path_of w t n r ≡ find (λ path. is_path w t path r) (lists_of (length w.segments) n))
        → path_behind t n g way (path_of w t n) ≡ option_map (λ path. g ∷ path) (find (λ path. goes_on t way (is_last path) (is_path w t path)) (lists_of (length w.segments) n))
    behind n g None same = sym (ap (option_map (λ path. g ∷ path)) (find_never (lists_of (length w.segments) n)))
    behind zero g (Some (near, TrapEnd u e)) same = elim (cases_Bool (eqb u.0 t)) [ inl is ↦ rw is refl | inr not_t ↦ rw not_t refl ]
    behind (suc n) g (Some (near, TrapEnd u e)) same =
        let late : eqb (suc n) 0 ≡ false = grind (nat_tests, arith) in
        rw late (sym (ap (option_map (λ path. g ∷ path)) (none_last n (length w.segments) (eqb u.0 t))))
    behind n g (Some (near, Junction j)) same = ap (option_map (λ path. g ∷ path)) (same (res.Junc j))

-- ---- the path of a hop

-- the segments of a path are there, and there is one at least
pub path_there : (w : WiringData) (t : ℕ) (path : List ℕ) (from : Res) → is_path w t path from ≡ true → AllByRecursion (λ g. g < length w.segments) path
path_there w t [] from on = tt
path_there w t (g ∷ path) from on = by_way (λ j. path_there w t path (res.Junc j)) (way_along w from g) refl on
  where
    none_left : (rest : List ℕ) → is_last rest ≡ true → AllByRecursion (λ h. h < length w.segments) rest
    none_left [] last = tt
    none_left (h ∷ rest) last = cc

    by_way : ((j : JuncId) → is_path w t path (res.Junc j) ≡ true → AllByRecursion (λ h. h < length w.segments) path) → (way : Option (Place × Place)) → way_along w from g ≡ way → goes_on t way (is_last path) (is_path w t path) ≡ true → (g < length w.segments) × AllByRecursion (λ h. h < length w.segments) path
    by_way behind None is on = cc
    by_way behind (Some (near, TrapEnd u e)) is on = (way_there w from g (near, TrapEnd u e) is, none_left path (and_parts (is_last path) (eqb u.0 t) on).0)
    by_way behind (Some (near, Junction j)) is on = (way_there w from g (near, Junction j) is, behind j on)

path_long : (w : WiringData) (t : ℕ) (path : List ℕ) (from : Res) → is_path w t path from ≡ true → 1 ≤ length path
path_long w t [] from on = cc
path_long w t (g ∷ path) from on = omega arith

-- where a list is a path, there is a least path of as many segments
pub path_of_found : (w : WiringData) (t : ℕ) (path : List ℕ) (from : Res) → is_path w t path from ≡ true → is_some (path_of w t (length path) from) ≡ true
path_of_found w t path from on =
    ap is_some (path_is_first w t (length path) from) ∙ found_list (length w.segments) (length path) (λ other. is_path w t other from) path refl (path_there w t path from on) on

-- the path of a hop is the least of its length, and no length before it has one
pub record IsHop (w : WiringData) (a b : ℕ) (path : List ℕ) : Type 0 where
  pub apart : eqb a b ≡ false
  pub least : path_of w b (length path) (res.Trap (trap a)) ≡ Some path
  pub leads_to : is_path w b path (res.Trap (trap a)) ≡ true
  pub short : length path ≤ w.junctions + 1
  pub fewest : (other : List ℕ) → is_path w b other (res.Trap (trap a)) ≡ true → length path ≤ length other

pub hop_path_is : (w : WiringData) (a b : ℕ) (path : List ℕ) → hop_path w a b ≡ Some path → IsHop w a b path
unfolding hop_path
hop_path_is w a b path is = elim (cases_Bool (eqb a b)) [
  | inl own ↦ absurd (let bad : None ≡ Some path = rw own at is in cc)
  | inr apart ↦
      let first : (k : ℕ) × (path_of w b k (res.Trap (trap a)) ≡ Some path) × FirstIn (λ n. is_some (path_of w b n (res.Trap (trap a)))) 1 (w.junctions + 1) k = first_range (λ n. path_of w b n (res.Trap (trap a))) 1 (w.junctions + 1) path (rw apart at is) in
      let found : find (λ path. is_path w b path (res.Trap (trap a))) (lists_of (length w.segments) first.0) ≡ Some path = sym (path_is_first w b first.0 (res.Trap (trap a))) ∙ first.1 in
      let long : length path ≡ first.0 = length_list (length w.segments) first.0 (λ path. is_path w b path (res.Trap (trap a))) path found in
      record {
        apart = apart;
        least = rw long first.1;
        leads_to = find_passes (λ path. is_path w b path (res.Trap (trap a))) (lists_of (length w.segments) first.0) path found;
        short = omega (arith, first.2.below);
        fewest = λ other on. elim (cases_lt (length other) (length path)) [
          | inl less ↦ absurd (let passes : is_some (path_of w b (length other) (res.Trap (trap a))) ≡ true = path_of_found w b other (res.Trap (trap a)) on in
              let fails : is_some (path_of w b (length other) (res.Trap (trap a))) ≡ false = first.2.first (length other) (path_long w b other (res.Trap (trap a)) on) (omega arith) in
              cc)
          | inr more ↦ more
        ];
      }
]

pub hop_path_found : (w : WiringData) (a b : ℕ) (path : List ℕ) → IsWiring w → eqb a b ≡ false → is_path w b path (res.Trap (trap a)) ≡ true → is_some (hop_path w a b) ≡ true
unfolding hop_path
hop_path_found w a b path valid apart on =
    let short : (n : ℕ) × (n < w.junctions + 1) × Path w b (res.Trap (trap a)) (suc n) = short_path w a b path valid on in
    rw apart (firsts_range (λ n. path_of w b n (res.Trap (trap a))) 1 (w.junctions + 1) (suc short.0)
    (subst (λ n. is_some (path_of w b n (res.Trap (trap a))) ≡ true) short.2.long (path_of_found w b short.2.path (res.Trap (trap a)) short.2.leads_to)) (omega arith) (omega (arith, short.1)))

-- ---- no path of as many segments is less

-- behind the first segment of a path there is one
behind_some : (w : WiringData) (t count g : ℕ) (from : Res) (path : List ℕ) → is_path w t (g ∷ path) from ≡ true → length path ≡ count → is_some (path_behind t count g (way_along w from g) (path_of w t count)) ≡ true
behind_some w t count g from path on long = by_way (way_along w from g) path on long
  where
    by_way : (way : Option (Place × Place)) (rest : List ℕ) → goes_on t way (is_last rest) (is_path w t rest) ≡ true → length rest ≡ count → is_some (path_behind t count g way (path_of w t count)) ≡ true
    by_way None rest on long = cc
    by_way (Some (near, TrapEnd u e)) [] on long = let none : eqb count 0 ≡ true = eq-eqb count 0 (sym long) in rw (none, on) refl
    by_way (Some (near, TrapEnd u e)) (h ∷ rest) on long = cc
    by_way (Some (near, Junction j)) rest on long = some-map (λ p. g ∷ p) (path_of w t count (res.Junc j)) (subst (λ n. is_some (path_of w t n (res.Junc j)) ≡ true) long (path_of_found w t rest (res.Junc j) on))

-- what is behind a segment begins with it
begins_with : (t count g : ℕ) (way : Option (Place × Place)) (more : Res → Option (List ℕ)) (path : List ℕ) → path_behind t count g way more ≡ Some path → (p : List ℕ) × (path ≡ g ∷ p)
begins_with t count g None more path is = cc
begins_with t count g (Some (near, TrapEnd u e)) more path is = elim (cases_Bool ((count == 0) && (u.0 == t))) [
  | inl here ↦ ([], (let same : Some (g ∷ []) ≡ Some path = rw here at is in cc))
  | inr not_here ↦ absurd (let bad : None ≡ Some path = rw not_here at is in cc)
]
begins_with t count g (Some (near, Junction j)) more path is = by_rest (more (res.Junc j)) is
  where
    by_rest : (o : Option (List ℕ)) → option_map (λ p. g ∷ p) o ≡ Some path → (p : List ℕ) × (path ≡ g ∷ p)
    by_rest None is = cc
    by_rest (Some p) is = (p, cc)

-- another segment is greater, so the list is not less
greater_first : (g h : ℕ) (path other : List ℕ) → g < h → is_less (h ∷ other) (g ∷ path) ≡ false
greater_first g h path other less =
    let not_less : ltb h g ≡ false = grind (nat_tests, arith) in
    let apart : eqb h g ≡ false = grind (nat_tests, arith) in
    rw (not_less, apart) refl

last_one : (rest : List ℕ) → is_last rest ≡ true → is_less rest [] ≡ false
last_one [] last = refl
last_one (h ∷ rest) last = refl

-- with the same first segment the rest decides
same_first : (g : ℕ) (path other : List ℕ) → is_less other path ≡ false → is_less (g ∷ other) (g ∷ path) ≡ false
same_first g path other rest =
    let not_less : ltb g g ≡ false = grind (nat_tests, arith) in
    let own : eqb g g ≡ true = eq-eqb g g refl in
    rw (not_less, own) rest

pub not_less : (w : WiringData) (t count : ℕ) (from : Res) (path other : List ℕ) → path_of w t count from ≡ Some path → is_path w t other from ≡ true → length other ≡ count → is_less other path ≡ false
not_less w t zero from path other is on long = cc
not_less w t (suc count) from path [] is on long = absurd (omega arith)
not_less w t (suc count) from path (h ∷ other) is on long =
    let first : (g : ℕ) × (path_behind t count g (way_along w from g) (path_of w t count) ≡ Some path) × FirstIn (λ i. is_some (path_behind t count i (way_along w from i) (path_of w t count))) 0 (length w.segments) g =
    first_range (λ g. path_behind t count g (way_along w from g) (path_of w t count)) 0 (length w.segments) path is in
    let there : is_some (path_behind t count h (way_along w from h) (path_of w t count)) ≡ true = behind_some w t count h from other on (omega arith) in
    let begins : (p : List ℕ) × (path ≡ first.0 ∷ p) = begins_with t count first.0 (way_along w from first.0) (path_of w t count) path first.1 in
    elim (cases_lt h first.0) [
      | inl before ↦ absurd (false≢true (sym (first.2.first h (omega arith) before) ∙ there))
      | inr at_least ↦ elim (cases_eq first.0 h) [
        | inl same ↦ subst (λ (p : List ℕ). is_less (h ∷ other) p ≡ false) (sym (subst (λ (i : ℕ). path ≡ i ∷ begins.0) same begins.1))
            (same_first h begins.0 other (rest_of (λ j p. not_less w t count (res.Junc j) p other) h (way_along w from h) begins.0 (subst (λ i. path_behind t count i (way_along w from i) (path_of w t count) ≡ Some (i ∷ begins.0)) same (first.1 ∙ ap (λ (p : List ℕ). Some p) begins.1)) on))
        | inr apart ↦ subst (λ (p : List ℕ). is_less (h ∷ other) p ≡ false) (sym begins.1) (greater_first first.0 h begins.0 other (grind arith))
      ]
    ]
  where
    tail_of : (g : ℕ) (p : List ℕ) (o : Option (List ℕ)) → option_map (λ p. g ∷ p) o ≡ Some (g ∷ p) → o ≡ Some p
    tail_of g p None is = cc
    tail_of g p (Some q) is = ap (λ (x : List ℕ). Some x) (let same : g ∷ q ≡ g ∷ p = cc in cc)

    rest_of : ((j : JuncId) (p : List ℕ) → path_of w t count (res.Junc j) ≡ Some p → is_path w t other (res.Junc j) ≡ true → length other ≡ count → is_less other p ≡ false)
        → (g : ℕ) (way : Option (Place × Place)) (p : List ℕ) → path_behind t count g way (path_of w t count) ≡ Some (g ∷ p) → goes_on t way (is_last other) (is_path w t other) ≡ true → is_less other p ≡ false
    rest_of behind g None p is on = cc
    rest_of behind g (Some (near, TrapEnd u e)) p is on = elim (cases_Bool ((count == 0) && (u.0 == t))) [
      | inl here ↦
          let same : Some (g ∷ []) ≡ Some (g ∷ p) = rw here at is in
          let none : [] ≡ p = cc in
          subst (λ (q : List ℕ). is_less other q ≡ false) none (last_one other (and_parts (is_last other) (eqb u.0 t) on).0)
      | inr not_here ↦ absurd (let bad : None ≡ Some (g ∷ p) = rw not_here at is in cc)
    ]
    rest_of behind g (Some (near, Junction j)) p is on = behind j p (tail_of g p (path_of w t count (res.Junc j)) is) on (omega arith)
