-- What taking an item that is ready does to the counts and to the list.
use Rattle.std.proofs.Common.{◌≡◌, ℕ, zero, suc, ◌+◌, ◌-◌, ◌<◌, ◌≤◌, Bool, true, false, cond, eqb, ltb, ◌||◌, ◌&&◌, not, List, [], ◌∷◌, ◌++◌, length, get_or, take, refl, sym, ◌∙◌, ap, arith, inl, inr, subst}
use Rattle.std.specs.Prelude.{count_by, filter, replicate}
use Rattle.std.proofs.Math.Bool.{and-false, or-false}
use Rattle.std.proofs.Math.ListN.{set}
use Rattle.std.specs.List.{list_all, range_with_len, prefix_len, insert, remove}
use Rattle.std.proofs.lemmas.Bool.{cases_Bool, cases_eq, cases_lt, lt-ltb, le-ltb, ltb-true, eqb-true, eq-eqb, ne_eqb, and_parts, or_left, or_right, not-true, not_from_false, false≢true, false_from_ne_true}
use Rattle.std.proofs.lemmas.List.{length-set, length-replicate, get_or-replicate, get_or-set_same, get_or-set_other, take_all, get_or_past}
use Rattle.std.proofs.lemmas.List.Sums.{length-filter, count_by-le-length, sum_by_more, sum_by-take-le}
use Rattle.std.proofs.lemmas.List.FromFn.{length-range_with_len}
use Rattle.qccd_circuit.specs.Item.{ItemData}
use Rattle.qccd_circuit.proofs.Rising.{count_by-cons, times}
use Rattle.dep_graph.specs.Direct.{shares_at, directly_before}
use Rattle.dep_graph.specs.Graph.{GraphData, IsGraphOf, links_of}
use Rattle.dep_graph.specs.Ready.{ReadyData, Follows, MayTake, is_taken, is_ready, is_free, ready_items, free_numbers, waiting}
use Rattle.dep_graph.proofs.DirectLemmas.{Directly, directly_is, Shared, shared_of, shares_by, Latest, latest_before}
use Rattle.dep_graph.proofs.Free.{filter_same, enlisted, Delisted, delisted, count_but, count_none, none_counted, all_in_range, in_range_all, filter_more}

-- ---- free by its count, and ready by sharing

pub record Ordered (items : List ItemData) (taken : List Bool) : Type 0 where
  pub closed : (i j : ℕ) → i < j → shares_at items i j ≡ true → is_taken taken j ≡ true → is_taken taken i ≡ true

pub record ReadyParts (items : List ItemData) (taken : List Bool) (j : ℕ) : Type 0 where
  pub within : j < length items
  pub fresh : is_taken taken j ≡ false
  pub before : (i : ℕ) → i < j → shares_at items i j ≡ true → is_taken taken i ≡ true

pub ready_parts : (items : List ItemData) (taken : List Bool) (j : ℕ) → is_ready items taken j ≡ true → ReadyParts items taken j
ready_parts items taken j is =
    let parts = and_parts (ltb j (length items) && not (is_taken taken j)) (list_all (λ i. not (shares_at items i j) || is_taken taken i) (range_with_len 0 j)) is in
    let first = and_parts (ltb j (length items)) (not (is_taken taken j)) parts.0 in
    record {
      within = ltb-true j (length items) first.0;
      fresh = not-true (is_taken taken j) first.1;
      before = λ i less share.
          either (shares_at items i j) (is_taken taken i) (in_range_all (λ k. not (shares_at items k j) || is_taken taken k) 0 j parts.1 i (omega arith) (omega arith)) share;
    }
  where
    either : (b c : Bool) → (not b || c) ≡ true → b ≡ true → c ≡ true
    either true c h is = h
    either false c h is = absurd (false≢true is)

pub is_ready_from : (items : List ItemData) (taken : List Bool) (j : ℕ) → j < length items → is_taken taken j ≡ false → ((i : ℕ) → i < j → shares_at items i j ≡ true → is_taken taken i ≡ true) → is_ready items taken j ≡ true
is_ready_from items taken j within fresh before =
    rw (lt-ltb j (length items) within, fresh) (all_in_range (λ i. not (shares_at items i j) || is_taken taken i) 0 j (λ i low high. each i (omega arith)))
  where
    each : (i : ℕ) → i < j → (not (shares_at items i j) || is_taken taken i) ≡ true
    each i less = elim (cases_Bool (shares_at items i j)) [
      | inl is ↦ or_right (not (shares_at items i j)) (is_taken taken i) (before i less is)
      | inr not_i ↦ or_left (not (shares_at items i j)) (is_taken taken i) (not_from_false (shares_at items i j) not_i)
    ]

none_waits : (items : List ItemData) (taken : List Bool) (j : ℕ) → ((i : ℕ) → i < j → shares_at items i j ≡ true → is_taken taken i ≡ true) → waiting items taken j ≡ 0
none_waits items taken j before = count_none (λ k. not (is_taken taken k) && directly_before items k j) 0 (length items) (λ k low high. each k)
  where
    each : (k : ℕ) → (not (is_taken taken k) && directly_before items k j) ≡ false
    each k = elim (cases_Bool (directly_before items k j)) [
      | inl is ↦
          let direct : Directly items k j = directly_is items k j is in
          rw (before k direct.less direct.share) refl
      | inr not_k ↦ rw not_k (and-false (not (is_taken taken k)))
    ]

waits_none : (items : List ItemData) (taken : List Bool) (j : ℕ) → Ordered items taken → waiting items taken j ≡ 0 → (i : ℕ) → i < j → shares_at items i j ≡ true → is_taken taken i ≡ true
waits_none items taken j order none i less share =
    let common : Shared items i j = shared_of items i j share in
    let last : Latest items i j common.o = latest_before items i j common.o less common.first common.second in
    let direct : Directly items last.k j = directly_is items last.k j last.directly in
    let fails : (not (is_taken taken last.k) && directly_before items last.k j) ≡ false =
    none_counted (λ k. not (is_taken taken k) && directly_before items k j) 0 (length items) none last.k (omega arith) (omega (arith, direct.less, direct.within)) in
    let taken_last : is_taken taken last.k ≡ true = settled (is_taken taken last.k) (directly_before items last.k j) fails last.directly in
    elim (cases_eq i last.k) [
      | inl same ↦ subst (λ (x : ℕ). is_taken taken x ≡ true) (sym same) taken_last
      | inr apart ↦ order.closed i last.k (omega (arith, last.low)) (shares_by items i last.k common.o common.first last.has) taken_last
    ]
  where
    settled : (b c : Bool) → (not b && c) ≡ false → c ≡ true → b ≡ true
    settled true c h is = refl
    settled false c h is = absurd (false≢true (sym h ∙ is))

free_is_ready : (items : List ItemData) (taken : List Bool) (waits : List ℕ) (j : ℕ) → Ordered items taken → j < length items → get_or waits j 0 ≡ waiting items taken j
    → is_free taken waits j ≡ is_ready items taken j
free_is_ready items taken waits j order within count = elim (cases_Bool (is_ready items taken j)) [
  | inl is ↦
      let parts : ReadyParts items taken j = ready_parts items taken j is in
      let none : get_or waits j 0 ≡ 0 = count ∙ none_waits items taken j parts.before in
      let free : is_free taken waits j ≡ true = rw (parts.fresh, eq-eqb (get_or waits j 0) 0 none) refl in
      free ∙ sym is
  | inr not_j ↦ false_from_ne_true (is_free taken waits j) (λ free.
      let both = and_parts (not (is_taken taken j)) (eqb (get_or waits j 0) 0) free in
      let none : waiting items taken j ≡ 0 = sym count ∙ eqb-true (get_or waits j 0) 0 both.1 in
      false≢true (sym not_j ∙ is_ready_from items taken j within (not-true (is_taken taken j) both.0) (waits_none items taken j order none))) ∙ sym not_j
]

pub free-ready : (items : List ItemData) (taken : List Bool) (waits : List ℕ) → Ordered items taken → length waits ≡ length items
    → ((j : ℕ) → j < length items → get_or waits j 0 ≡ waiting items taken j) → free_numbers taken waits ≡ ready_items items taken
free-ready items taken waits order all counts =
    ap (λ n. filter (is_free taken waits) (range_with_len 0 n)) all
    ∙ filter_same (is_free taken waits) (is_ready items taken) 0 (length items) (λ j low high. free_is_ready items taken waits j order (omega arith) (counts j (omega arith)))

pub ready-at : (items : List ItemData) (ready : ReadyData) (j : ℕ) → Follows items ready → j < length items → is_free ready.taken ready.waits j ≡ is_ready items ready.taken j
ready-at items ready j follows within = free_is_ready items ready.taken ready.waits j (record { closed = follows.closed }) within (follows.counts j within)

pub ready-past : (items : List ItemData) (taken : List Bool) (j : ℕ) → length items ≤ j → is_ready items taken j ≡ false
ready-past items taken j past = rw (le-ltb j (length items) past) refl

-- ---- nothing is taken

pub Follows-none : (items : List ItemData) (graph : GraphData) → IsGraphOf items graph
    → Follows items (record { taken = replicate (length items) false; waits = graph.waits; list = free_numbers (replicate (length items) false) graph.waits })
Follows-none items graph made = record {
  all_taken = length-replicate {A = Bool} (length items) false;
  all_waits = made.counted.all_waits;
  closed = ordered.closed;
  counts = counts;
  listed = free-ready items (replicate (length items) false) graph.waits ordered made.counted.all_waits counts;
}
  where
    untaken : (k : ℕ) → is_taken (replicate (length items) false) k ≡ false
    untaken k = elim (cases_lt k (length items)) [
      | inl within ↦ get_or-replicate {A = Bool} (length items) k false false within
      | inr past ↦ get_or_past (replicate (length items) false) k false (omega (arith, length-replicate {A = Bool} (length items) false))
    ]

    ordered : Ordered items (replicate (length items) false)
    ordered = record { closed = λ i j less share is. absurd (false≢true (sym (untaken j) ∙ is)) }

    same_count : (j a n : ℕ) → count_by (λ k. directly_before items k j) (range_with_len a n) ≡ count_by (λ k. not (is_taken (replicate (length items) false) k) && directly_before items k j) (range_with_len a n)
    same_count j a zero = refl
    same_count j a (suc n) =
        let here : cond {A = ℕ} (directly_before items a j) 1 0 ≡ cond (not (is_taken (replicate (length items) false) a) && directly_before items a j) 1 0 =
        ap (λ (b : Bool). cond {A = ℕ} (not b && directly_before items a j) 1 0) (sym (untaken a)) in
        omega (arith, here, same_count j (a + 1) n, count_by-cons (λ k. directly_before items k j) a (range_with_len (a + 1) n), count_by-cons (λ k. not (is_taken (replicate (length items) false) k) && directly_before items k j) a (range_with_len (a + 1) n))

    counts : (j : ℕ) → j < length items → get_or graph.waits j 0 ≡ waiting items (replicate (length items) false) j
    counts j within =
        let all : length items - 0 ≡ length items = omega arith in
        made.counted.counts j within ∙ ap (λ m. count_by (λ k. directly_before items k j) (range_with_len 0 m)) all ∙ same_count j 0 (length items)

-- ---- one link after another

-- what is known of the links of the item that is taken
pub record Links (n : ℕ) (taken : List Bool) (xs start : List ℕ) : Type 0 where
  pub within : (j : ℕ) → 1 ≤ times j xs → j < n
  pub fresh : (j : ℕ) → 1 ≤ times j xs → is_taken taken j ≡ false
  pub few : (j : ℕ) → j < n → times j xs ≤ get_or start j 0

-- the counts are lower by the links so far, and the list is that of the free numbers
pub record Lowering (n : ℕ) (taken : List Bool) (xs start waits list : List ℕ) (p : ℕ) : Type 0 where
  pub all : length waits ≡ n
  pub counts : (j : ℕ) → j < n → get_or waits j 0 + times j (take p xs) ≡ get_or start j 0
  pub listed : list ≡ filter (is_free taken waits) (range_with_len 0 n)

-- of the link at place p
pub record NextLink (n : ℕ) (list waits : List ℕ) (j : ℕ) : Type 0 where
  pub within : j < n
  pub some : 0 < get_or waits j 0
  pub room : length list < n

abbrev pub with_lower : List ℕ → List ℕ → ℕ → List ℕ
with_lower waits list j = cond (eqb (get_or waits j 0) 1) (insert list (prefix_len (λ x. ltb x j) list) j) list

take_less : (j : ℕ) (xs : List ℕ) (p : ℕ) → times j (take p xs) ≤ times j xs
take_less j xs p = sum_by-take-le (λ y. cond {A = ℕ} (eqb y j) 1 0) xs p

take_next : (k : ℕ) (xs : List ℕ) (p j : ℕ) → p < length xs → j ≡ get_or xs p 0 → times k (take (p + 1) xs) ≡ times k (take p xs) + cond (eqb j k) 1 0
take_next k xs p j within is =
    sum_by_more (λ y. cond {A = ℕ} (eqb y k) 1 0) xs p 0 within ∙ ap (λ (x : ℕ). times k (take p xs) + cond {A = ℕ} (eqb x k) 1 0) (sym is)

some_link : (xs : List ℕ) (p j : ℕ) → p < length xs → j ≡ get_or xs p 0 → times j (take p xs) + 1 ≤ times j xs
some_link xs p j within is =
    let own : cond {A = ℕ} (eqb j j) 1 0 ≡ 1 = ap (λ (b : Bool). cond {A = ℕ} b 1 0) (eq-eqb j j refl) in
    omega (arith, take_next j xs p j within is, own, take_less j xs (p + 1))

waits_some : (n : ℕ) (taken : List Bool) (xs start waits list : List ℕ) (p j : ℕ) → Links n taken xs start → Lowering n taken xs start waits list p → p < length xs → j ≡ get_or xs p 0
    → (j < n) × (0 < get_or waits j 0)
waits_some n taken xs start waits list p j links lowering within is =
    let more : times j (take p xs) + 1 ≤ times j xs = some_link xs p j within is in
    let low : j < n = links.within j (omega arith) in
    (low, omega (arith, more, links.few j low, lowering.counts j low))

list_short : (p : ℕ → Bool) (n j : ℕ) → j < n → p j ≡ false → length (filter p (range_with_len 0 n)) < n
list_short p n j low fails =
    let one_more : count_by (λ k. p k || eqb k j) (range_with_len 0 n) ≡ 1 + count_by p (range_with_len 0 n) =
    count_but (λ k. p k || eqb k j) p 0 n j (omega arith) (omega arith) fails (λ k apart. rw (ne_eqb k j apart) (or-false (p k)))
    ∙ ap (λ (b : Bool). cond {A = ℕ} b 1 0 + count_by p (range_with_len 0 n)) (or_right (p j) (eqb j j) (eq-eqb j j refl)) in
    omega (arith, one_more, length-filter p (range_with_len 0 n), count_by-le-length (λ k. p k || eqb k j) (range_with_len 0 n), length-range_with_len 0 n)

waiting_is_not_free : (taken : List Bool) (waits : List ℕ) (j : ℕ) → 0 < get_or waits j 0 → is_free taken waits j ≡ false
waiting_is_not_free taken waits j some =
    let other : eqb (get_or waits j 0) 0 ≡ false = ne_eqb (get_or waits j 0) 0 (λ e. absurd (omega arith)) in
    rw other (and-false (not (is_taken taken j)))

pub next_link : (n : ℕ) (taken : List Bool) (xs start waits list : List ℕ) (p j : ℕ) → Links n taken xs start → Lowering n taken xs start waits list p → p < length xs → j ≡ get_or xs p 0
    → NextLink n list waits j
next_link n taken xs start waits list p j links lowering within is =
    let both = waits_some n taken xs start waits list p j links lowering within is in
    record {
      within = both.0;
      some = both.1;
      room = subst (λ (l : List ℕ). length l < n) (sym lowering.listed) (list_short (is_free taken waits) n j both.0 (waiting_is_not_free taken waits j both.1));
    }

pub lowered : (n : ℕ) (taken : List Bool) (xs start waits list : List ℕ) (p j : ℕ) → Links n taken xs start → Lowering n taken xs start waits list p → p < length xs → j ≡ get_or xs p 0
    → Lowering n taken xs start (set waits j (get_or waits j 0 - 1)) (with_lower waits list j) (p + 1)
lowered n taken xs start waits list p j links lowering within is = record {
  all = length-set waits j (get_or waits j 0 - 1) ∙ lowering.all;
  counts = λ k low. elim (cases_eq j k) [
    | inl same ↦
        let here : get_or (set waits j (get_or waits j 0 - 1)) k 0 ≡ get_or waits j 0 - 1 = subst (λ (x : ℕ). get_or (set waits j (get_or waits j 0 - 1)) x 0 ≡ get_or waits j 0 - 1) same own in
        let before : get_or waits j 0 ≡ get_or waits k 0 = ap (λ (x : ℕ). get_or waits x 0) same in
        omega (arith, here, before, both.1, lowering.counts k low, take_next k xs p j within is, ap (λ (b : Bool). cond {A = ℕ} b 1 0) (eq-eqb j k same))
    | inr apart ↦
        omega (arith, other k apart, lowering.counts k low, take_next k xs p j within is, ap (λ (b : Bool). cond {A = ℕ} b 1 0) (ne_eqb j k apart))
  ];
  listed = elim (cases_eq (get_or waits j 0) 1) [
    | inl one ↦
        let none : get_or (set waits j (get_or waits j 0 - 1)) j 0 ≡ 0 = omega (arith, own) in
        let passes : is_free taken (set waits j (get_or waits j 0 - 1)) j ≡ true = rw (links.fresh j (omega (arith, some_link xs p j within is)), eq-eqb (get_or (set waits j (get_or waits j 0 - 1)) j 0) 0 none) refl in
        let put : insert (filter (is_free taken waits) (range_with_len 0 n)) (prefix_len (λ x. ltb x j) (filter (is_free taken waits) (range_with_len 0 n))) j
        ≡ filter (is_free taken (set waits j (get_or waits j 0 - 1))) (range_with_len 0 n) =
        enlisted (is_free taken waits) (is_free taken (set waits j (get_or waits j 0 - 1))) 0 n j (omega arith) (omega (arith, both.0)) (waiting_is_not_free taken waits j both.1) passes (λ k apart. alike k (λ e. apart (sym e))) in
        let now : with_lower waits list j ≡ insert list (prefix_len (λ x. ltb x j) list) j = ap (λ (b : Bool). cond b (insert list (prefix_len (λ x. ltb x j) list) j) list) (eq-eqb (get_or waits j 0) 1 one) in
        now ∙ ap (λ (l : List ℕ). insert l (prefix_len (λ x. ltb x j) l) j) lowering.listed ∙ put
    | inr more ↦
        let now : with_lower waits list j ≡ list = ap (λ (b : Bool). cond b (insert list (prefix_len (λ x. ltb x j) list) j) list) (ne_eqb (get_or waits j 0) 1 more) in
        let still : 0 < get_or (set waits j (get_or waits j 0 - 1)) j 0 = omega (arith, own, both.1) in
        now ∙ lowering.listed ∙ filter_same (is_free taken waits) (is_free taken (set waits j (get_or waits j 0 - 1))) 0 n (λ k low high. elim (cases_eq j k) [
          | inl same ↦ subst (λ (x : ℕ). is_free taken waits x ≡ is_free taken (set waits j (get_or waits j 0 - 1)) x) same
              (waiting_is_not_free taken waits j both.1 ∙ sym (waiting_is_not_free taken (set waits j (get_or waits j 0 - 1)) j still))
          | inr apart ↦ alike k apart
        ])
  ];
}
  where
    both : (j < n) × (0 < get_or waits j 0)
    both = waits_some n taken xs start waits list p j links lowering within is

    own : get_or (set waits j (get_or waits j 0 - 1)) j 0 ≡ get_or waits j 0 - 1
    own = get_or-set_same waits j (get_or waits j 0 - 1) 0 (omega (arith, both.0, lowering.all))

    other : (k : ℕ) → (j ≡ k → ⊥) → get_or (set waits j (get_or waits j 0 - 1)) k 0 ≡ get_or waits k 0
    other k apart = get_or-set_other waits j k (get_or waits j 0 - 1) 0 (λ e. apart (sym e))

    alike : (k : ℕ) → (j ≡ k → ⊥) → is_free taken waits k ≡ is_free taken (set waits j (get_or waits j 0 - 1)) k
    alike k apart = ap (λ (w : ℕ). not (is_taken taken k) && eqb w 0) (sym (other k apart))

-- ---- an item that is ready is taken

-- what is known before its links are gone through
pub record Taken (items : List ItemData) (graph : GraphData) (ready : ReadyData) (i : ℕ) : Type 0 where
  pub within : i < length items
  pub ends : i + 1 < length graph.ends
  pub ascending : get_or graph.ends (i + 1) 0 ≤ get_or graph.ends i 0
  pub inside : get_or graph.ends i 0 ≤ length graph.links
  pub there : prefix_len (λ x. ltb x i) ready.list < length ready.list
  pub links : Links (length items) (set ready.taken i true) (links_of graph.links graph.ends i) ready.waits
  pub start :
      Lowering (length items) (set ready.taken i true) (links_of graph.links graph.ends i) ready.waits ready.waits
      (remove ready.list (prefix_len (λ x. ltb x i) ready.list)) 0

taken_other : (taken : List Bool) (i k : ℕ) → (i ≡ k → ⊥) → is_taken (set taken i true) k ≡ is_taken taken k
taken_other taken i k apart = get_or-set_other taken i k true false (λ e. apart (sym e))

taken_own : (taken : List Bool) (i : ℕ) → i < length taken → is_taken (set taken i true) i ≡ true
taken_own taken i within = get_or-set_same taken i true false within

waiting_less : (items : List ItemData) (taken : List Bool) (i j : ℕ) → i < length items → i < length taken → is_taken taken i ≡ false
    → waiting items taken j ≡ cond (directly_before items i j) 1 0 + waiting items (set taken i true) j
waiting_less items taken i j low within fresh =
    let fails : (not (is_taken (set taken i true) i) && directly_before items i j) ≡ false = rw (taken_own taken i within) refl in
    let own : (not (is_taken taken i) && directly_before items i j) ≡ directly_before items i j = rw fresh refl in
    count_but (λ k. not (is_taken taken k) && directly_before items k j) (λ k. not (is_taken (set taken i true) k) && directly_before items k j) 0 (length items) i (omega arith) (omega arith) fails
    (λ k apart. ap (λ (b : Bool). not b && directly_before items k j) (sym (taken_other taken i k (λ e. apart (sym e)))))
    ∙ ap (λ (b : Bool). cond {A = ℕ} b 1 0 + waiting items (set taken i true) j) own

pub taken_first : (items : List ItemData) (graph : GraphData) (ready : ReadyData) (i : ℕ) → MayTake items graph ready i → Taken items graph ready i
taken_first items graph ready i may = record {
  within = low;
  ends = omega (arith, low, may.made.linked.all_ends);
  ascending = may.made.linked.ascending i (omega arith) low;
  inside = may.made.linked.inside i (omega arith) (omega (arith, low));
  there = subst (λ (l : List ℕ). prefix_len (λ x. ltb x i) l < length l) (sym listed) gone.there;
  links = record {
    within = λ j some. (direct j some).within;
    fresh = λ j some. fresh_behind j (direct j some);
    few = λ j high. omega (arith, may.made.linked.behind i j (omega arith) low, may.follows.counts j high, waiting_less items ready.taken i j low inside_taken parts.fresh);
  };
  start = record {
    all = may.follows.all_waits;
    counts = λ j high. omega arith;
    listed = ap (λ (l : List ℕ). remove l (prefix_len (λ x. ltb x i) l)) listed ∙ gone.rest;
  };
}
  where
    parts : ReadyParts items ready.taken i
    parts = ready_parts items ready.taken i may.is_next

    low : i < length items
    low = parts.within

    inside_taken : i < length ready.taken
    inside_taken = omega (arith, low, may.follows.all_taken)

    ordered : Ordered items ready.taken
    ordered = record { closed = may.follows.closed }

    listed : ready.list ≡ filter (is_free ready.taken ready.waits) (range_with_len 0 (length items))
    listed = may.follows.listed ∙ sym (free-ready items ready.taken ready.waits ordered may.follows.all_waits may.follows.counts)
        ∙ ap (λ n. filter (is_free ready.taken ready.waits) (range_with_len 0 n)) may.follows.all_waits

    free_own : is_free ready.taken ready.waits i ≡ true
    free_own = ready-at items ready i may.follows low ∙ may.is_next

    gone : Delisted (is_free ready.taken ready.waits) (is_free (set ready.taken i true) ready.waits) 0 (length items) i
    gone = delisted (is_free ready.taken ready.waits) (is_free (set ready.taken i true) ready.waits) 0 (length items) i (omega arith) (omega (arith, low)) free_own
        (ap (λ (b : Bool). not b && eqb (get_or ready.waits i 0) 0) (taken_own ready.taken i inside_taken))
        (λ k apart. ap (λ (b : Bool). not b && eqb (get_or ready.waits k 0) 0) (sym (taken_other ready.taken i k (λ e. apart (sym e)))))

    direct : (j : ℕ) → 1 ≤ times j (links_of graph.links graph.ends i) → Directly items i j
    direct j some = elim (cases_Bool (directly_before items i j)) [
      | inl is ↦ directly_is items i j is
      | inr not_j ↦ absurd (omega (arith, may.made.linked.behind i j (omega arith) low, ap (λ (b : Bool). cond {A = ℕ} b 1 0) not_j))
    ]

    fresh_behind : (j : ℕ) → Directly items i j → is_taken (set ready.taken i true) j ≡ false
    fresh_behind j before =
        taken_other ready.taken i j (λ e. absurd (omega (arith, before.less)))
        ∙ false_from_ne_true (is_taken ready.taken j) (λ is. false≢true (sym parts.fresh ∙ may.follows.closed i j before.less before.share is))

pub Follows-taken : (items : List ItemData) (graph : GraphData) (ready : ReadyData) (i p : ℕ) (waits list : List ℕ) → MayTake items graph ready i
    → Lowering (length items) (set ready.taken i true) (links_of graph.links graph.ends i) ready.waits waits list p → length (links_of graph.links graph.ends i) ≤ p
    → Follows items (record { taken = set ready.taken i true; waits = waits; list = list })
Follows-taken items graph ready i p waits list may lowering past = record {
  all_taken = length-set ready.taken i true ∙ may.follows.all_taken;
  all_waits = lowering.all;
  closed = ordered.closed;
  counts = counts;
  listed = lowering.listed ∙ ap (λ n. filter (is_free (set ready.taken i true) waits) (range_with_len 0 n)) (sym lowering.all)
      ∙ free-ready items (set ready.taken i true) waits ordered lowering.all counts;
}
  where
    parts : ReadyParts items ready.taken i
    parts = ready_parts items ready.taken i may.is_next

    inside_taken : i < length ready.taken
    inside_taken = omega (arith, parts.within, may.follows.all_taken)

    still : (k : ℕ) → is_taken ready.taken k ≡ true → is_taken (set ready.taken i true) k ≡ true
    still k is = elim (cases_eq i k) [
      | inl same ↦ subst (λ (x : ℕ). is_taken (set ready.taken i true) x ≡ true) same (taken_own ready.taken i inside_taken)
      | inr apart ↦ taken_other ready.taken i k apart ∙ is
    ]

    ordered : Ordered items (set ready.taken i true)
    ordered = record {
      closed = λ a b less share is. elim (cases_eq i b) [
        | inl same ↦
            let share' : shares_at items a i ≡ true = subst (λ (x : ℕ). shares_at items a x ≡ true) (sym same) share in
            still a (parts.before a (omega arith) share')
        | inr apart ↦ still a (may.follows.closed a b less share (sym (taken_other ready.taken i b apart) ∙ is))
      ];
    }

    counts : (j : ℕ) → j < length items → get_or waits j 0 ≡ waiting items (set ready.taken i true) j
    counts j high =
        let whole : times j (take p (links_of graph.links graph.ends i)) ≡ times j (links_of graph.links graph.ends i) =
        ap (λ (xs : List ℕ). times j xs) (take_all p (links_of graph.links graph.ends i) past) in
        omega (arith, whole, lowering.counts j high, may.made.linked.behind i j (omega arith) parts.within, may.follows.counts j high, waiting_less items ready.taken i j parts.within inside_taken parts.fresh)

-- one number more, while none is taken
pub free_more : (waits list : List ℕ) (i : ℕ) → i < length waits → list ≡ filter (is_free (replicate (length waits) false) waits) (range_with_len 0 i)
    → list ++ cond (eqb (get_or waits i 0) 0) (i ∷ []) [] ≡ filter (is_free (replicate (length waits) false) waits) (range_with_len 0 (i + 1))
free_more waits list i within is =
    let plain : 0 + i ≡ i = omega arith in
    let own : is_free (replicate (length waits) false) waits i ≡ eqb (get_or waits i 0) 0 =
    ap (λ (b : Bool). not b && eqb (get_or waits i 0) 0) (get_or-replicate {A = Bool} (length waits) i false false within) in
    let more : filter (is_free (replicate (length waits) false) waits) (range_with_len 0 (i + 1))
    ≡ filter (is_free (replicate (length waits) false) waits) (range_with_len 0 i) ++ cond (is_free (replicate (length waits) false) waits i) (i ∷ []) [] =
    filter_more (is_free (replicate (length waits) false) waits) 0 i
    ∙ ap (λ n. filter (is_free (replicate (length waits) false) waits) (range_with_len 0 i) ++ cond (is_free (replicate (length waits) false) waits n) (n ∷ []) []) plain in
    ap (λ (xs : List ℕ). xs ++ cond (eqb (get_or waits i 0) 0) (i ∷ []) []) is
    ∙ ap (λ (b : Bool). filter (is_free (replicate (length waits) false) waits) (range_with_len 0 i) ++ cond b (i ∷ []) []) (sym own)
    ∙ sym more
