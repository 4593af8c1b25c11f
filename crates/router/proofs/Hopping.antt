-- What a round over neighbours finds, and what its numbers say of hops.
use Rattle.std.proofs.Common.{◌≡◌, ℕ, zero, suc, ◌+◌, ◌-◌, ◌<◌, ◌≤◌, Bool, true, false, cond, eqb, ◌&&◌, List, [], ◌∷◌, length, refl, sym, ◌∙◌, ap, subst, arith, Option, Some, None, inl, inr, replicate, get_or, set}
use Rattle.std.specs.Prelude.{find, is_some, option_map, slice_set, slice_index_or, unwrap_or, ◌==◌, if◌then◌else◌}
use Rattle.std.specs.Option.{option_or}
use Rattle.std.specs.List.{range_with_len, list_any}
use Rattle.std.proofs.lemmas.Bool.{cases_Bool, cases_eq, cases_lt, and_from, eq-eqb, ne_eqb, false≢true, false_from_ne_true}
use Rattle.std.proofs.lemmas.Bool.Decides.{nat_tests}
use Rattle.std.proofs.lemmas.Option.{none-some}
use Rattle.std.proofs.lemmas.List.{get_or-replicate, get_or-set_other, get_or-set_same, length-replicate}
use Rattle.qccd_base.specs.Names.{trap}
use Rattle.router.specs.Wiring.{WiringData, IsWiring}
use Rattle.router.specs.Hops.{are_neighbours, distance, hops_lead, next_hop}
use Rattle.router.specs.Steps.{is_at}
use Rattle.router.specs.Counts.{AreCounts, count_at, is_near, least_hops, near}
use Rattle.router.specs.Tables.{hop_of}
use Rattle.router.specs.declared.hops.Counts.{Counts}
use Rattle.router.proofs.Search.{FirstIn, find_range, found_range, in_any_range, some_of}
use Rattle.router.proofs.Distances.{distance_is}
use Rattle.router.proofs.Rounds.{find_more}

-- ---- the first of a range that passes

pub find_at : (p : ℕ → Bool) (a n g : ℕ) → a ≤ g → g < a + n → ((h : ℕ) → a ≤ h → h < g → p h ≡ false) → p g ≡ true → find p (range_with_len a n) ≡ Some g
find_at p a zero g low high none passes = absurd (omega arith)
find_at p a (suc n) g low high none passes = elim (cases_eq a g) [
  | inl same ↦ let here : p a ≡ true = subst (λ k. p k ≡ true) (sym same) passes in rw here (ap (λ (k : ℕ). Some k) same)
  | inr apart ↦
      let less : a < g = below a g apart low in
      rw (none a (omega arith) less) (find_at p (a + 1) n g (omega (arith, less)) (omega arith) (λ h at_least. none h (omega arith)) passes)
]
  where
    below : (a g : ℕ) → (a ≡ g → ⊥) → a ≤ g → a < g
    below a g apart at_most = grind arith

pub find_nothing : (p : ℕ → Bool) (a n : ℕ) → ((h : ℕ) → a ≤ h → h < a + n → p h ≡ false) → find p (range_with_len a n) ≡ None
find_nothing p a zero none = refl
find_nothing p a (suc n) none = rw (none a (omega arith) (omega arith)) (find_nothing p (a + 1) n (λ h low high. none h (omega arith) (omega arith)))

find_alike : (p q : ℕ → Bool) (a n : ℕ) → ((h : ℕ) → a ≤ h → h < a + n → p h ≡ q h) → find p (range_with_len a n) ≡ find q (range_with_len a n)
find_alike p q a zero same = refl
find_alike p q a (suc n) same = elim (cases_Bool (q a)) [
  | inl is ↦ rw (same a (omega arith) (omega arith), is) refl
  | inr not_q ↦ rw (same a (omega arith) (omega arith), not_q) (find_alike p q (a + 1) n (λ h low high. same h (omega arith) (omega arith)))
]

some_any : (p : ℕ → Bool) (ks : List ℕ) → is_some (find p ks) ≡ list_any p ks
some_any p [] = refl
some_any p (k ∷ ks) = elim (cases_Bool (p k)) [ inl is ↦ rw is refl | inr not_k ↦ rw not_k (some_any p ks) ]

some_map : (o : Option ℕ) → is_some (option_map trap o) ≡ is_some o
some_map None = refl
some_map (Some n) = refl

-- ---- the first round

one_known : (n b a : ℕ) → b < n → a < n → get_or {A = Option ℕ} (set (replicate n None) b (Some 0)) a None ≡ cond (eqb a b) (Some 0) None
one_known n b a there less = elim (cases_eq a b) [
  | inl same ↦ rw (eq-eqb a b same) (ap (λ k. get_or {A = Option ℕ} (set (replicate n None) b (Some 0)) k None) same ∙ get_or-set_same (replicate n None) b (Some 0) None (in_all n b there))
  | inr apart ↦ rw (ne_eqb a b apart) (get_or-set_other (replicate n None) b a (Some 0) None apart ∙ get_or-replicate n a None None less)
]
  where
    in_all : (n b : ℕ) → b < n → b < length {A = Option ℕ} (replicate n None)
    in_all n b there = omega (arith, length-replicate {A = Option ℕ} n None)

pub counts_start : (w : WiringData) (b : ℕ) → b < w.traps → w.traps ≤ 32 → (a : ℕ) → a < w.traps → slice_index_or (slice_set (replicate 32 None) b (Some 0)) a None ≡ least_hops w b 1 a
counts_start w b there few a less = one_known 32 b a (omega arith) (omega arith)

-- ---- one more round

least_more : (w : WiringData) (b n a : ℕ) → least_hops w b (n + 1) a ≡ option_or (least_hops w b n a) (cond (hops_lead w b n a) (Some n) None)
least_more w b n a =
    let next : n + 1 ≡ suc n = omega arith in
    let same : 0 + n ≡ n = omega arith in
    ap (λ k. least_hops w b k a) next ∙ find_more (λ count. hops_lead w b count a) 0 n ∙ ap (λ k. option_or (least_hops w b n a) (cond (hops_lead w b k a) (Some k) None)) same

-- where no fewer lead from trap a, the numbers of its neighbours tell whether so many do
near_alike : (w : WiringData) (b n a c : ℕ) (counts : Counts) → AreCounts w b (n + 1) counts → c < w.traps → least_hops w b (n + 1) a ≡ None → is_near w counts a n c ≡ (are_neighbours w a c && hops_lead w b n c)
near_alike w b n a c counts known there none = elim (cases_Bool (are_neighbours w a c)) [
  | inr apart ↦ rw apart refl
  | inl joined ↦ rw joined (ap (λ o. is_at o n) (known c there) ∙ by_known (least_hops w b (n + 1) c) refl joined)
]
  where
    below : (k n : ℕ) → (k ≡ n → ⊥) → k ≤ n → suc k < 0 + (n + 1)
    below k n apart at_most = grind arith

    by_known : (o : Option ℕ) → least_hops w b (n + 1) c ≡ o → are_neighbours w a c ≡ true → is_at o n ≡ hops_lead w b n c
    by_known None is joined = sym (false_from_ne_true (hops_lead w b n c) (λ lead.
        let found : (k : ℕ) × (find (λ count. hops_lead w b count c) (range_with_len 0 (n + 1)) ≡ Some k) = some_of (find (λ count. hops_lead w b count c) (range_with_len 0 (n + 1))) (found_range (λ count. hops_lead w b count c) 0 (n + 1) n lead (omega arith) (omega arith)) in
        none-some found.0 (sym is ∙ found.1)))
    by_known (Some k) is joined =
        let first : FirstIn (λ count. hops_lead w b count c) 0 (n + 1) k = find_range (λ count. hops_lead w b count c) 0 (n + 1) k is in
        elim (cases_eq k n) [
          | inl same ↦ eq-eqb k n same ∙ sym (subst (λ i. hops_lead w b i c ≡ true) same first.passes)
          | inr other ↦ ne_eqb k n other ∙ sym (false_from_ne_true (hops_lead w b n c) (λ lead. elim (cases_lt n k) [
            | inl less ↦ false≢true (sym (first.first n (omega arith) less) ∙ lead)
            | inr more ↦
                let from_a : hops_lead w b (suc k) a ≡ true = in_any_range (λ d. are_neighbours w a d && hops_lead w b k d) 0 w.traps c (and_from (are_neighbours w a c) (hops_lead w b k c) joined first.passes) (omega arith) (omega arith) in
                let found : (i : ℕ) × (find (λ count. hops_lead w b count a) (range_with_len 0 (n + 1)) ≡ Some i) =
                some_of (find (λ count. hops_lead w b count a) (range_with_len 0 (n + 1))) (found_range (λ count. hops_lead w b count a) 0 (n + 1) (suc k) from_a (omega arith) (below k n other more)) in
                none-some found.0 (sym none ∙ found.1)
          ]))
        ]

any_alike : (p q : ℕ → Bool) (a n : ℕ) → ((h : ℕ) → a ≤ h → h < a + n → p h ≡ q h) → list_any p (range_with_len a n) ≡ list_any q (range_with_len a n)
any_alike p q a n same = sym (some_any p (range_with_len a n)) ∙ ap is_some (find_alike p q a n same) ∙ some_any q (range_with_len a n)

-- the number of a trap after the round
pub count_more : (w : WiringData) (b n a : ℕ) (counts : Counts) (leads : Bool) (new : Option ℕ) → 0 < n → AreCounts w b n counts → leads ≡ is_some (near w counts a (n - 1)) → new ≡ (if leads then option_or (least_hops w b n a) (Some n) else least_hops w b n a)
    → new ≡ least_hops w b (n + 1) a
count_more w b zero a counts leads new some known is new_is = absurd (omega arith)
count_more w b (suc m) a counts leads new some known is new_is = new_is ∙ by_known (least_hops w b (suc m) a) refl ∙ sym (least_more w b (suc m) a)
  where
    leads_is : least_hops w b (suc m) a ≡ None → leads ≡ hops_lead w b (suc m) a
    leads_is none = is ∙ ap (λ k. is_some (near w counts a k)) (let e : suc m - 1 ≡ m = omega arith in e) ∙ some_map (find (is_near w counts a m) (range_with_len 0 w.traps)) ∙ some_any (is_near w counts a m) (range_with_len 0 w.traps)
        ∙ any_alike (is_near w counts a m) (λ c. are_neighbours w a c && hops_lead w b m c) 0 w.traps (λ c low high. near_alike w b m a c counts (subst (λ k. AreCounts w b k counts) (let e : suc m ≡ m + 1 = omega arith in e) known) (omega arith) (ap (λ k. least_hops w b k a) (let e : m + 1 ≡ suc m = omega arith in e) ∙ none))

    by_known : (o : Option ℕ) → least_hops w b (suc m) a ≡ o → (if leads then option_or o (Some (suc m)) else o) ≡ option_or o (cond (hops_lead w b (suc m) a) (Some (suc m)) None)
    by_known (Some k) have = elim (cases_Bool leads) [ inl yes_is ↦ rw yes_is refl | inr no_is ↦ rw no_is refl ]
    by_known None have = ap (λ x. cond x (Some (suc m)) None) (leads_is have)

-- ---- what the numbers say

known_distance : (w : WiringData) (a b : ℕ) (counts : Counts) → IsWiring w → AreCounts w b w.traps counts → a < w.traps → b < w.traps → count_at counts a ≡ Some (distance w a b)
unfolding distance
known_distance w a b counts wiring known a_there b_there = known a a_there ∙ of_some (least_hops w b w.traps a) found
  where
    of_some : (o : Option ℕ) → is_some o ≡ true → o ≡ Some (unwrap_or o 0)
    of_some None some = cc
    of_some (Some n) some = refl

    found : is_some (least_hops w b w.traps a) ≡ true
    found = found_range (λ count. hops_lead w b count a) 0 w.traps (distance w a b) (distance_is w a b wiring a_there b_there).leads (omega arith) (omega (arith, (distance_is w a b wiring a_there b_there).below))

pub distance_known : (w : WiringData) (a b : ℕ) (counts : Counts) → IsWiring w → AreCounts w b w.traps counts → a < w.traps → b < w.traps → unwrap_or (count_at counts a) 0 ≡ distance w a b
distance_known w a b counts wiring known a_there b_there = ap (λ o. unwrap_or o 0) (known_distance w a b counts wiring known a_there b_there)

-- no hop from where one is
pub none_next : (w : WiringData) (a b : ℕ) → distance w a b ≡ 0 → next_hop w a b ≡ None
unfolding next_hop
none_next w a b own = find_nothing (λ c. are_neighbours w a c && (distance w c b + 1 == distance w a b)) 0 w.traps (λ c low high. apart (are_neighbours w a c) (distance w c b))
  where
    apart : (x : Bool) (d : ℕ) → (x && (d + 1 == distance w a b)) ≡ false
    apart true d = ne_eqb (d + 1) (distance w a b) (λ same. absurd (omega (arith, own)))
    apart false d = refl

pub near_next : (w : WiringData) (a b : ℕ) (counts : Counts) → IsWiring w → AreCounts w b w.traps counts → b < w.traps → 0 < distance w a b → near w counts a (distance w a b - 1) ≡ option_map trap (next_hop w a b)
unfolding next_hop
near_next w a b counts wiring known b_there some = ap (option_map trap) (find_alike (is_near w counts a (distance w a b - 1)) (λ c. are_neighbours w a c && (distance w c b + 1 == distance w a b)) 0 w.traps
    (λ c low high. ap (λ x. are_neighbours w a c && x) (ap (λ o. is_at o (distance w a b - 1)) (known_distance w c b counts wiring known (omega arith) b_there) ∙ one_less (distance w c b) (distance w a b) some)))
  where
    one_less : (d n : ℕ) → 0 < n → eqb d (n - 1) ≡ eqb (d + 1) n
    one_less d n some = grind (nat_tests, arith)

-- ---- the neighbours of a trap, one after another

pub near_at : (w : WiringData) (counts : Counts) (a left c : ℕ) → c < w.traps → ((d : ℕ) → d < c → is_near w counts a left d ≡ false) → are_neighbours w a c ≡ true → is_at (count_at counts c) left ≡ true → Some (trap c) ≡ near w counts a left
near_at w counts a left c there none joined at = sym (ap (option_map trap) (find_at (is_near w counts a left) 0 w.traps c (omega arith) (omega arith) (λ d low less. none d less) (and_from (are_neighbours w a c) (is_at (count_at counts c) left) joined at)))

pub near_none : (w : WiringData) (counts : Counts) (a left n : ℕ) → w.traps ≤ n → ((d : ℕ) → d < n → is_near w counts a left d ≡ false) → None ≡ near w counts a left
near_none w counts a left n past none = sym (ap (option_map trap) (find_nothing (is_near w counts a left) 0 w.traps (λ d low less. none d (omega arith))))

-- ---- the hop to a trap

pub hop_own : (w : WiringData) (a b count distance_told : ℕ) (counts : Counts) → IsWiring w → AreCounts w b w.traps counts → a < w.traps → b < w.traps → count ≡ unwrap_or (count_at counts a) 0 → distance_told ≡ count → count ≡ 0
    → record { distance = distance_told; next = None } ≡ hop_of w b a
hop_own w a b count told counts wiring known a_there b_there is told_is own =
    let far : count ≡ distance w a b = is ∙ distance_known w a b counts wiring known a_there b_there in
    ap (λ n. record { distance = n; next = None }) (told_is ∙ far) ∙ ap (λ o. record { distance = distance w a b; next = o }) (sym (ap (option_map trap) (none_next w a b (sym far ∙ own))))

pub hop_on : (w : WiringData) (a b count distance_told : ℕ) (counts : Counts) → IsWiring w → AreCounts w b w.traps counts → a < w.traps → b < w.traps → count ≡ unwrap_or (count_at counts a) 0 → distance_told ≡ count → 0 < count
    → record { distance = distance_told; next = near w counts a (count - 1) } ≡ hop_of w b a
hop_on w a b count told counts wiring known a_there b_there is told_is some =
    let far : count ≡ distance w a b = is ∙ distance_known w a b counts wiring known a_there b_there in
    ap (λ n. record { distance = n; next = near w counts a (count - 1) }) (told_is ∙ far)
    ∙ ap (λ o. record { distance = distance w a b; next = o }) (ap (λ n. near w counts a (n - 1)) far ∙ near_next w a b counts wiring known b_there (omega (arith, far)))
