-- How many hops it takes, and the next one.
use Rattle.std.proofs.Common.{◌≡◌, ℕ, zero, suc, ◌+◌, ◌<◌, ◌≤◌, Bool, true, false, eqb, ◌&&◌, List, [], ◌∷◌, length, refl, sym, ◌∙◌, ap, arith, Option, Some, None, inl, inr, subst, ◌⊎◌}
use Rattle.std.specs.Prelude.{find, ◌==◌, ◌↔◌}
use Rattle.std.specs.List.{range_with_len}
use Rattle.std.proofs.lemmas.Bool.{cases_Bool, cases_eq, cases_lt, and_parts, and_from, eqb-true, eq-eqb, false≢true, false_from_ne_true}
use Rattle.std.proofs.lemmas.Option.{none-some}
use Rattle.qccd_base.specs.Names.{trap, junction}
use Rattle.qccd_base.specs.Resource.{same_res, rank_of, number_of}
use Rattle.qccd_base.specs.declared.names.Res.{Res}
use Rattle.qccd_base.specs.declared.names.Res.TheVariants as res
use Rattle.qccd_base.specs.declared.names.JuncId.{JuncId}
use Rattle.qccd_base.specs.declared.names.TrapId.{TrapId}
use Rattle.qccd_machine.specs.declared.place.Place.{Place}
use Rattle.qccd_machine.specs.declared.place.Place.TheVariants.{TrapEnd, Junction}
use Rattle.qccd_machine.specs.Machine.{MachineData, IsValid, IsReached, Joins, Leads, first_trap, site}
use Rattle.router.specs.Wiring.{WiringData, wiring_of, IsWiring}
use Rattle.router.specs.Paths.{turned, way_along, goes_on, is_last, is_path}
use Rattle.router.specs.Hops.{are_neighbours, hops_lead, distance, next_hop}
use Rattle.router.proofs.Along.{goes, sound}
use Rattle.router.proofs.Search.{FirstIn, find_range, found_range, some_of, any_range, in_any_range}
use Rattle.router.proofs.Walks.{Walks, short_walk}
use Rattle.router.proofs.LeastPath.{hop_path_found}

-- ---- hops as walks

abbrev pub Hops : WiringData → ℕ → ℕ → Type 0
Hops w a c = (are_neighbours w a c ≡ true) × (c < w.traps)

walk_hops : (w : WiringData) (b : ℕ) (cs : List ℕ) (a : ℕ) → Walks (Hops w) (λ c. c ≡ b) cs a → hops_lead w b (length cs) a ≡ true
walk_hops w b [] a walk = eq-eqb a b walk
walk_hops w b (c ∷ cs) a walk =
    in_any_range (λ c. are_neighbours w a c && hops_lead w b (length cs) c) 0 (w.traps) c (and_from (are_neighbours w a c) (hops_lead w b (length cs) c) walk.0.0 (walk_hops w b cs c walk.1)) (omega arith) (omega (arith, walk.0.1))

-- a number of hops below that of traps, wherever there is a walk
short_hops : (w : WiringData) (a b : ℕ) (cs : List ℕ) → a < w.traps → Walks (Hops w) (λ c. c ≡ b) cs a → (n : ℕ) × (n < w.traps) × (hops_lead w b n a ≡ true)
short_hops w a b cs below walk =
    let short : (ds : List ℕ) × Walks (Hops w) (λ c. c ≡ b) ds a × (length ds < w.traps) = short_walk (Hops w) (λ c. c ≡ b) (w.traps) (λ i c hop. hop.1) cs a below walk in
    (length short.0, short.2, walk_hops w b short.0 a short.1)

-- ---- every trap is within reach

-- from a trap a walk leads to trap b; from a junction a path leads to such a trap
abbrev pub Nears : WiringData → ℕ → Res → Type 0
Nears w b (res.Trap t) = (cs : List ℕ) × Walks (Hops w) (λ c. c ≡ b) cs t.0
Nears w b (res.Junc j) = (c : ℕ) × (path : List ℕ) × (c < w.traps) × (is_path w c path (res.Junc j) ≡ true) × ((cs : List ℕ) × Walks (Hops w) (λ c. c ≡ b) cs c)
Nears w b (res.Seg g) = Unit {0}
Nears w b (res.Bit n) = Unit {0}

same_res_own : (r : Res) → same_res r r ≡ true
same_res_own r = and_from (rank_of r == rank_of r) (number_of r == number_of r) (eq-eqb (rank_of r) (rank_of r) refl) (eq-eqb (number_of r) (number_of r) refl)

pub same_res-true : (a b : Res) → same_res a b ≡ true → a ≡ b
same_res-true (res.Trap t) (res.Trap u) h = ap (λ (n : ℕ). res.Trap (trap n)) (eqb-true t.0 u.0 h)
same_res-true (res.Trap t) (res.Seg u) h = cc
same_res-true (res.Trap t) (res.Junc u) h = cc
same_res-true (res.Trap t) (res.Bit u) h = cc
same_res-true (res.Seg t) (res.Trap u) h = cc
same_res-true (res.Seg t) (res.Seg u) h = ap (λ (n : ℕ). res.Seg (record { 0 = n })) (eqb-true t.0 u.0 h)
same_res-true (res.Seg t) (res.Junc u) h = cc
same_res-true (res.Seg t) (res.Bit u) h = cc
same_res-true (res.Junc t) (res.Trap u) h = cc
same_res-true (res.Junc t) (res.Seg u) h = cc
same_res-true (res.Junc t) (res.Junc u) h = ap (λ (n : ℕ). res.Junc (junction n)) (eqb-true t.0 u.0 h)
same_res-true (res.Junc t) (res.Bit u) h = cc
same_res-true (res.Bit t) (res.Trap u) h = cc
same_res-true (res.Bit t) (res.Seg u) h = cc
same_res-true (res.Bit t) (res.Junc u) h = cc
same_res-true (res.Bit t) (res.Bit u) h = ap (λ (n : ℕ). res.Bit (record { 0 = n })) (eqb-true t.0 u.0 h)

-- a segment that joins a to b can be gone along from a to b
along_joined : (m : MachineData) (g : ℕ) (a b : Res) → IsValid m → Joins m g a b → (near : Place) × (far : Place) × (way_along (wiring_of m) a g ≡ Some (near, far)) × (site far ≡ b)
along_joined m g a b valid (ends, is, sites) = elim sites [
  | inl forth ↦ (ends.0, ends.1, rw (is, forth.0, same_res_own a) refl, forth.1)
  | inr back ↦
      let apart : same_res (site ends.0) a ≡ false = false_from_ne_true (same_res (site ends.0) a) (λ same. (sound (wiring_of m) g ends (record { machine = m; valid = valid; is = refl }) is).two_sites (same_res-true (site ends.0) a same ∙ sym back.1)) in
      (ends.1, ends.0, (ap (turned a) is ∙ rw apart (rw (back.1, same_res_own a) refl)), back.0)
]

leads_trap : (w : WiringData) (from : Res) (g : ℕ) (near far : Place) (u : TrapId) → way_along w from g ≡ Some (near, far) → site far ≡ res.Trap u → is_path w u.0 (g ∷ []) from ≡ true
leads_trap w from g near (TrapEnd v e) u is at =
    let same : v.0 ≡ u.0 = ap number_of at in
    ap (λ way. goes_on u.0 way true (is_path w u.0 [])) is ∙ eq-eqb v.0 u.0 same
leads_trap w from g near (Junction k) u is at = cc

leads_junction : (w : WiringData) (from : Res) (g c : ℕ) (path : List ℕ) (near far : Place) (k : JuncId) → way_along w from g ≡ Some (near, far) → site far ≡ res.Junc k → is_path w c path (res.Junc k) ≡ true → is_path w c (g ∷ path) from ≡ true
leads_junction w from g c path near (TrapEnd v e) k is at on = cc
leads_junction w from g c path near (Junction i) k is at on = ap (λ way. goes_on c way (is_last path) (is_path w c path)) is ∙ ap (is_path w c path) at ∙ on

trap_there : (w : WiringData) (from : Res) (g : ℕ) (near far : Place) (u : TrapId) → IsWiring w → way_along w from g ≡ Some (near, far) → site far ≡ res.Trap u → u.0 < w.traps
trap_there w from g near (TrapEnd v e) u valid is at = subst (λ n. n < w.traps) (ap number_of at) (goes w from g (near, TrapEnd v e) valid is).far_there
trap_there w from g near (Junction i) u valid is at = cc

no_site : (p : Place) (r : Res) → rank_of (site p) ≡ rank_of r → (rank_of r ≡ 0) ⊎ (rank_of r ≡ 2)
no_site (TrapEnd t e) r same = inl (sym same)
no_site (Junction j) r same = inr (sym same)

hop_before : (w : WiringData) (a c b : ℕ) (path : List ℕ) → IsWiring w → c < w.traps → is_path w c path (res.Trap (trap a)) ≡ true → (cs : List ℕ) × Walks (Hops w) (λ c. c ≡ b) cs c → (cs : List ℕ) × Walks (Hops w) (λ c. c ≡ b) cs a
hop_before w a c b path valid below on rest = elim (cases_Bool (eqb a c)) [
  | inl own ↦ subst (λ n. (cs : List ℕ) × Walks (Hops w) (λ c. c ≡ b) cs n) (sym (eqb-true a c own)) rest
  | inr apart ↦ (c ∷ rest.0, ((hop_path_found w a c path valid apart on, below), rest.1))
]

near_step : (w : WiringData) (b g : ℕ) (r mid : Res) (near far : Place) → IsWiring w → way_along w r g ≡ Some (near, far) → site far ≡ mid → Nears w b mid → Nears w b r
near_step w b g (res.Seg h) mid near far valid is at nears = tt
near_step w b g (res.Bit h) mid near far valid is at nears = tt
near_step w b g (res.Trap t) (res.Trap u) near far valid is at nears = hop_before w t.0 u.0 b (g ∷ []) valid (trap_there w (res.Trap t) g near far u valid is at) (leads_trap w (res.Trap t) g near far u is at) nears
near_step w b g (res.Trap t) (res.Junc k) near far valid is at (c, path, below, on, walk) = hop_before w t.0 c b (g ∷ path) valid below (leads_junction w (res.Trap t) g c path near far k is at on) walk
near_step w b g (res.Junc j) (res.Trap u) near far valid is at nears = (u.0, g ∷ [], trap_there w (res.Junc j) g near far u valid is at, leads_trap w (res.Junc j) g near far u is at, nears)
near_step w b g (res.Junc j) (res.Junc k) near far valid is at (c, path, below, on, walk) = (c, g ∷ path, below, leads_junction w (res.Junc j) g c path near far k is at on, walk)
near_step w b g (res.Trap t) (res.Seg h) near (TrapEnd v e) valid is at nears = cc
near_step w b g (res.Trap t) (res.Seg h) near (Junction v) valid is at nears = cc
near_step w b g (res.Trap t) (res.Bit h) near (TrapEnd v e) valid is at nears = cc
near_step w b g (res.Trap t) (res.Bit h) near (Junction v) valid is at nears = cc
near_step w b g (res.Junc t) (res.Seg h) near (TrapEnd v e) valid is at nears = cc
near_step w b g (res.Junc t) (res.Seg h) near (Junction v) valid is at nears = cc
near_step w b g (res.Junc t) (res.Bit h) near (TrapEnd v e) valid is at nears = cc
near_step w b g (res.Junc t) (res.Bit h) near (Junction v) valid is at nears = cc

nears_along : (m : MachineData) (b : ℕ) (path : List ℕ) (r last : Res) → IsValid m → Leads m r path last → Nears (wiring_of m) b last → Nears (wiring_of m) b r
nears_along m b [] r last valid same nears = subst (Nears (wiring_of m) b) (sym same) nears
nears_along m b (g ∷ path) r last valid (mid, joins, rest) nears =
    let way : (near : Place) × (far : Place) × (way_along (wiring_of m) r g ≡ Some (near, far)) × (site far ≡ mid) = along_joined m g r mid valid joins in
    near_step (wiring_of m) b g r mid way.0 way.1 (record { machine = m; valid = valid; is = refl }) way.2 way.3 (nears_along m b path mid last valid rest nears)

-- and back
leads_back : (m : MachineData) (path back : List ℕ) (r last end : Res) → Leads m r path last → Leads m r back end → (others : List ℕ) × Leads m last others end
leads_back m [] back r last end same leads = (back, subst (λ x. Leads m x back end) same leads)
leads_back m (g ∷ path) back r last end (mid, (ends, is, sites), rest) leads =
    let turned_back : Joins m g mid r = (ends, is, elim sites [ inl forth ↦ inr forth | inr back ↦ inl back ]) in
    leads_back m path (g ∷ back) mid last end rest (r, turned_back, leads)

walk_of_machine : (m : MachineData) (a b : ℕ) → IsValid m → a < length m.capacities → b < length m.capacities → (cs : List ℕ) × Walks (Hops (wiring_of m)) (λ c. c ≡ b) cs a
walk_of_machine m a b valid a_there b_there =
    let to_a : IsReached m (res.Trap (trap a)) = valid.traps_reached (trap a) a_there in
    let to_b : IsReached m (res.Trap (trap b)) = valid.traps_reached (trap b) b_there in
    let from_a : (others : List ℕ) × Leads m (res.Trap (trap a)) others first_trap = leads_back m to_a.0 [] first_trap (res.Trap (trap a)) first_trap to_a.1 refl in
    nears_along m b from_a.0 (res.Trap (trap a)) first_trap valid from_a.1 (nears_along m b to_b.0 first_trap (res.Trap (trap b)) valid to_b.1 ([], refl))

walk_between : (w : WiringData) (a b : ℕ) → IsWiring w → a < w.traps → b < w.traps → (cs : List ℕ) × Walks (Hops w) (λ c. c ≡ b) cs a
walk_between w a b wiring =
    subst (λ (x : WiringData). a < x.traps → b < x.traps → (cs : List ℕ) × Walks (Hops x) (λ c. c ≡ b) cs a) wiring.is (walk_of_machine wiring.machine a b wiring.valid)

-- ---- the distance

-- hops that lead, and none fewer do
pub record IsDistance (w : WiringData) (a b d : ℕ) : Type 0 where
  pub leads : hops_lead w b d a ≡ true
  pub least : (n : ℕ) → n < d → hops_lead w b n a ≡ false
  pub below : d < w.traps

pub distance_is : (w : WiringData) (a b : ℕ) → IsWiring w → a < w.traps → b < w.traps → IsDistance w a b (distance w a b)
unfolding distance
distance_is w a b valid a_there b_there =
    let walk : (cs : List ℕ) × Walks (Hops w) (λ c. c ≡ b) cs a = walk_between w a b valid a_there b_there in
    let short : (n : ℕ) × (n < w.traps) × (hops_lead w b n a ≡ true) = short_hops w a b walk.0 a_there walk.1 in
    let found : (d : ℕ) × (find (λ n. hops_lead w b n a) (range_with_len 0 (w.traps)) ≡ Some d) =
    some_of (find (λ n. hops_lead w b n a) (range_with_len 0 (w.traps))) (found_range (λ n. hops_lead w b n a) 0 (w.traps) short.0 short.2 (omega arith) (omega (arith, short.1))) in
    let first : FirstIn (λ n. hops_lead w b n a) 0 (w.traps) found.0 = find_range (λ n. hops_lead w b n a) 0 (w.traps) found.0 found.1 in
    rw found.1 (record { leads = first.passes; least = λ n less. first.first n (omega arith) less; below = omega (arith, first.below) })

-- ---- the next hop

pub record IsNext (w : WiringData) (a b c : ℕ) : Type 0 where
  pub neighbour : are_neighbours w a c ≡ true
  pub there : c < w.traps
  pub nearer : distance w c b + 1 ≡ distance w a b

one_nearer : (w : WiringData) (a b : ℕ) → IsWiring w → a < w.traps → b < w.traps → (a ≡ b → ⊥) → (c : ℕ) × IsNext w a b c
one_nearer w a b valid a_there b_there apart = by_distance (distance w a b) (distance_is w a b valid a_there b_there) refl
  where
    by_distance : (d : ℕ) → IsDistance w a b d → distance w a b ≡ d → (c : ℕ) × IsNext w a b c
    by_distance zero far is = absurd (apart (eqb-true a b far.leads))
    by_distance (suc n) far is =
        let some : (c : ℕ) × ((are_neighbours w a c && hops_lead w b n c) ≡ true) × (0 ≤ c) × (c < 0 + w.traps) = any_range (λ c. are_neighbours w a c && hops_lead w b n c) 0 (w.traps) far.leads in
        let parts : (are_neighbours w a some.0 ≡ true) × (hops_lead w b n some.0 ≡ true) = and_parts (are_neighbours w a some.0) (hops_lead w b n some.0) some.1 in
        let there : some.0 < w.traps = omega (arith, some.3) in
        let near : IsDistance w some.0 b (distance w some.0 b) = distance_is w some.0 b valid there b_there in
        let at_most : distance w some.0 b ≤ n = elim (cases_lt n (distance w some.0 b)) [ inl less ↦ absurd (false≢true (sym (near.least n less) ∙ parts.1)) | inr more ↦ more ] in
        let at_least : n ≤ distance w some.0 b = elim (cases_lt (distance w some.0 b) n) [
          | inl less ↦ absurd (false≢true (sym (far.least (suc (distance w some.0 b)) (omega arith)) ∙ in_any_range (λ c. are_neighbours w a c && hops_lead w b (distance w some.0 b) c) 0 (w.traps) some.0
              (and_from (are_neighbours w a some.0) (hops_lead w b (distance w some.0 b) some.0) parts.0 near.leads) (omega arith) (omega arith)))
          | inr more ↦ more
        ] in
        (some.0, record { neighbour = parts.0; there = there; nearer = (omega arith) })

-- the least neighbour that is one hop nearer
pub record IsNextHop (w : WiringData) (a b c : ℕ) : Type 0 where
  pub neighbour : are_neighbours w a c ≡ true
  pub there : c < w.traps
  pub nearer : distance w c b + 1 ≡ distance w a b
  pub least : (d : ℕ) → are_neighbours w a d ≡ true → d < w.traps → distance w d b + 1 ≡ distance w a b → c ≤ d

pub next_hop_found : (w : WiringData) (a b c : ℕ) → next_hop w a b ≡ Some c → IsNextHop w a b c
unfolding next_hop
next_hop_found w a b c is =
    let first : FirstIn (λ c. are_neighbours w a c && (distance w c b + 1 == distance w a b)) 0 w.traps c = find_range (λ c. are_neighbours w a c && (distance w c b + 1 == distance w a b)) 0 w.traps c is in
    let parts : (are_neighbours w a c ≡ true) × ((distance w c b + 1 == distance w a b) ≡ true) = and_parts (are_neighbours w a c) (distance w c b + 1 == distance w a b) first.passes in
    record {
      neighbour = parts.0;
      there = omega (arith, first.below);
      nearer = eqb-true (distance w c b + 1) (distance w a b) parts.1;
      least = λ d near there nearer. elim (cases_lt d c) [
        | inl before ↦ absurd (false≢true (sym (first.first d (omega arith) before) ∙ and_from (are_neighbours w a d) (distance w d b + 1 == distance w a b) near (eq-eqb (distance w d b + 1) (distance w a b) nearer)))
        | inr at_least ↦ at_least
      ];
    }

pub next_hop_is : (w : WiringData) (a b : ℕ) → IsWiring w → a < w.traps → b < w.traps → (a ≡ b → ⊥) → (c : ℕ) × (next_hop w a b ≡ Some c)
unfolding next_hop
next_hop_is w a b valid a_there b_there apart =
    let test : ℕ → Bool = λ c. are_neighbours w a c && (distance w c b + 1 == distance w a b) in
    let near : (c : ℕ) × IsNext w a b c = one_nearer w a b valid a_there b_there apart in
    some_of (find test (range_with_len 0 w.traps))
    (found_range test 0 w.traps near.0 (and_from (are_neighbours w a near.0) (distance w near.0 b + 1 == distance w a b) near.1.neighbour (eq-eqb (distance w near.0 b + 1) (distance w a b) near.1.nearer)) (omega arith) (omega (arith, near.1.there)))

-- no hop leads to where one is
pub distance_own : (w : WiringData) (a : ℕ) → IsWiring w → a < w.traps → distance w a a ≡ 0
distance_own w a wiring there = elim (cases_lt 0 (distance w a a)) [
  | inl some ↦ absurd (false≢true (sym ((distance_is w a a wiring there there).least 0 some) ∙ eq-eqb a a refl))
  | inr none ↦ omega arith
]

pub next_hop_none : (w : WiringData) (a b : ℕ) → IsWiring w → a < w.traps → b < w.traps → (next_hop w a b ≡ None) ↔ (a ≡ b)
next_hop_none w a b wiring a_there b_there = (
  (λ none. elim (cases_eq a b) [
    | inl same ↦ same
    | inr apart ↦ let next : (c : ℕ) × (next_hop w a b ≡ Some c) = next_hop_is w a b wiring a_there b_there apart in absurd (none-some next.0 (sym none ∙ next.1))
  ]),
  (λ same. none_of (next_hop w a b) (λ c is. let far : distance w a b ≡ 0 = ap (distance w a) (sym same) ∙ distance_own w a wiring a_there in omega (arith, (next_hop_found w a b c is).nearer, far))),
)
  where
    none_of : (o : Option ℕ) → ((c : ℕ) → o ≡ Some c → ⊥) → o ≡ None
    none_of None never = refl
    none_of (Some c) never = absurd (never c refl)
