-- Levels rise along items that share, and each above the lowest is reached from the one below it.
use Rattle.std.proofs.Common.{◌≡◌, ℕ, zero, suc, ◌+◌, ◌<◌, ◌≤◌, max, true, List, [], ◌∷◌, ◌++◌, map, length, get_or, drop, refl, sym, ◌∙◌, ap, arith, Some, inl, inr, subst, ◌⊎◌}
use Rattle.std.specs.Prelude.{slice_get}
use Rattle.std.specs.List.{AllByRecursion}
use Rattle.std.proofs.lemmas.Bool.{cases_Bool, cases_lt}
use Rattle.std.proofs.lemmas.Option.{same_Some, none-some}
use Rattle.std.proofs.lemmas.List.{drop_more, append_assoc, append-nil, drop_all}
use Rattle.qccd_circuit.specs.Item.{ItemData}
use Rattle.qccd_circuit.specs.Marks.{Marked, AreMarks, mark_before}
use Rattle.qccd_circuit.specs.Sharing.{shares}
use Rattle.dep_graph.specs.Levels.{Levelled, level_after, levels_from, levels}

above : (earlier : List Levelled) (item : ItemData) (k : ℕ) (e : Levelled) → slice_get earlier k ≡ Some e → shares e.item item ≡ true → e.level + 1 ≤ level_after earlier item
above [] item k e there share = cc
above (d ∷ earlier) item zero e there share =
    let same : d ≡ e = cc in
    let passes : shares d.item item ≡ true = subst (λ (x : Levelled). shares x.item item ≡ true) (sym same) share in
    let level : d.level ≡ e.level = ap (λ (x : Levelled). x.level) same in
    rw passes (omega arith)
above (d ∷ earlier) item (suc k) e there share =
    let rest : e.level + 1 ≤ level_after earlier item = above earlier item k e there share in
    elim (cases_Bool (shares d.item item)) [ inl is ↦ rw is (omega arith) | inr not_d ↦ rw not_d rest ]

below : (earlier : List Levelled) (item : ItemData) (n : ℕ) → AllByRecursion (λ (e : Levelled). e.level < n) earlier → level_after earlier item ≤ n
below [] item n all = omega arith
below (d ∷ earlier) item n all =
    let rest : level_after earlier item ≤ n = below earlier item n all.1 in
    let own : d.level < n = all.0 in
    elim (cases_Bool (shares d.item item)) [ inl is ↦ rw is (omega arith) | inr not_d ↦ rw not_d rest ]

wider : (earlier : List Levelled) (n : ℕ) → AllByRecursion (λ (e : Levelled). e.level < n) earlier → AllByRecursion (λ (e : Levelled). e.level < n + 1) earlier
wider [] n all = tt
wider (d ∷ earlier) n all = (omega (arith, all.0), wider earlier n all.1)

level_from-le : (earlier : List Levelled) (items : List ItemData) (n i : ℕ) → AllByRecursion (λ (e : Levelled). e.level < n) earlier → get_or (levels_from earlier items) i 0 ≤ n + i
level_from-le earlier [] n i all = omega arith
level_from-le earlier (item ∷ items) n zero all = omega (arith, below earlier item n all)
level_from-le earlier (item ∷ items) n (suc i) all =
    let level : ℕ = level_after earlier item in
    omega (arith, level_from-le (record { item = item; level = level } ∷ earlier) items (n + 1) i (omega (arith, below earlier item n all), wider earlier n all))

-- no item has a level above its number
pub level-le : (items : List ItemData) (i : ℕ) → get_or (levels items) i 0 ≤ i
level-le items i = omega (arith, level_from-le [] items 0 i tt)

-- an item has a greater level than an earlier one with which it shares
later_level : (earlier : List Levelled) (items : List ItemData) (j k : ℕ) (b : ItemData) (e : Levelled) → slice_get items j ≡ Some b → slice_get earlier k ≡ Some e → shares e.item b ≡ true → e.level < get_or (levels_from earlier items) j 0
later_level earlier [] j k b e is there share = cc
later_level earlier (item ∷ items) zero k b e is there share =
    let same : item ≡ b = cc in
    omega (arith, above earlier item k e there (subst (λ x. shares e.item x ≡ true) (sym same) share))
later_level earlier (item ∷ items) (suc j) k b e is there share = later_level (record { item = item; level = level_after earlier item } ∷ earlier) items j (suc k) b e is there share

rise_from : (earlier : List Levelled) (items : List ItemData) (i j : ℕ) (a b : ItemData) → i < j → slice_get items i ≡ Some a → slice_get items j ≡ Some b → shares a b ≡ true → get_or (levels_from earlier items) i 0 < get_or (levels_from earlier items) j 0
rise_from earlier [] i j a b less first second share = cc
rise_from earlier (item ∷ items) i zero a b less first second share = absurd (omega arith)
rise_from earlier (item ∷ items) zero (suc j) a b less first second share =
    let same : item ≡ a = cc in
    later_level (record { item = item; level = level_after earlier item } ∷ earlier) items j 0 b (record { item = item; level = level_after earlier item }) second refl (subst (λ x. shares x b ≡ true) (sym same) share)
rise_from earlier (item ∷ items) (suc i) (suc j) a b less first second share = rise_from (record { item = item; level = level_after earlier item } ∷ earlier) items i j a b (omega arith) first second share

pub levels-rise : (items : List ItemData) (i j : ℕ) (a b : ItemData) → i < j → slice_get items i ≡ Some a → slice_get items j ≡ Some b → shares a b ≡ true → get_or (levels items) i 0 < get_or (levels items) j 0
levels-rise items i j a b = rise_from [] items i j a b

pub length-levels_from : (earlier : List Levelled) (items : List ItemData) → length (levels_from earlier items) ≡ length items
length-levels_from earlier [] = refl
length-levels_from earlier (item ∷ items) = omega (arith, length-levels_from (record { item = item; level = level_after earlier item } ∷ earlier) items)

-- ---- the level below is reached

record ReachedEarlier (earlier : List Levelled) (b : ItemData) (n : ℕ) : Type 0 where
  pub k : ℕ
  pub e : Levelled
  pub there : slice_get earlier k ≡ Some e
  pub share : shares e.item b ≡ true
  pub level : e.level + 1 ≡ n

record ReachedLater (all : List ℕ) (items : List ItemData) (j : ℕ) (b : ItemData) (n : ℕ) : Type 0 where
  pub i : ℕ
  pub a : ItemData
  pub less : i < j
  pub there : slice_get items i ≡ Some a
  pub share : shares a b ≡ true
  pub level : get_or all i 0 + 1 ≡ n

reached_after : (earlier : List Levelled) (b : ItemData) → 0 < level_after earlier b → ReachedEarlier earlier b (level_after earlier b)
reached_after [] b some = absurd (omega arith)
reached_after (d ∷ earlier) b some = elim (cases_Bool (shares d.item b)) [
  | inl is ↦
      let all : level_after (d ∷ earlier) b ≡ max (d.level + 1) (level_after earlier b) = rw is refl in
      elim (cases_lt (d.level + 1) (level_after earlier b)) [
        | inl less ↦
            let r : ReachedEarlier earlier b (level_after earlier b) = reached_after earlier b (omega arith) in
            record { k = suc r.k; e = r.e; there = r.there; share = r.share; level = omega (arith, all, r.level) }
        | inr more ↦ record { k = 0; e = d; there = refl; share = is; level = omega (arith, all) }
      ]
  | inr not_d ↦
      let all : level_after (d ∷ earlier) b ≡ level_after earlier b = rw not_d refl in
      let r : ReachedEarlier earlier b (level_after earlier b) = reached_after earlier b (omega (arith, all)) in
      record { k = suc r.k; e = r.e; there = r.there; share = r.share; level = omega (arith, all, r.level) }
]

reached_from : (earlier : List Levelled) (items : List ItemData) (j : ℕ) (b : ItemData) → slice_get items j ≡ Some b → 0 < get_or (levels_from earlier items) j 0
    → ReachedEarlier earlier b (get_or (levels_from earlier items) j 0) ⊎ ReachedLater (levels_from earlier items) items j b (get_or (levels_from earlier items) j 0)
reached_from earlier [] j b is some = cc
reached_from earlier (item ∷ items) zero b is some =
    let same : item ≡ b = cc in
    inl (subst (λ (x : ItemData). ReachedEarlier earlier x (level_after earlier item)) same (reached_after earlier item some))
reached_from earlier (item ∷ items) (suc j) b is some =
    moved (reached_from (record { item = item; level = level_after earlier item } ∷ earlier) items j b is some)
  where
    moved : ReachedEarlier (record { item = item; level = level_after earlier item } ∷ earlier) b (get_or (levels_from earlier (item ∷ items)) (suc j) 0)
        ⊎ ReachedLater (levels_from (record { item = item; level = level_after earlier item } ∷ earlier) items) items j b (get_or (levels_from earlier (item ∷ items)) (suc j) 0)
        → ReachedEarlier earlier b (get_or (levels_from earlier (item ∷ items)) (suc j) 0) ⊎ ReachedLater (levels_from earlier (item ∷ items)) (item ∷ items) (suc j) b (get_or (levels_from earlier (item ∷ items)) (suc j) 0)
    moved (inr r) = inr (record { i = suc r.i; a = r.a; less = omega (arith, r.less); there = r.there; share = r.share; level = r.level })
    moved (inl r) = first r.k r.e r.there r.share r.level
      where
        first : (k : ℕ) (e : Levelled) → slice_get (record { item = item; level = level_after earlier item } ∷ earlier) k ≡ Some e → shares e.item b ≡ true → e.level + 1 ≡ get_or (levels_from earlier (item ∷ items)) (suc j) 0
            → ReachedEarlier earlier b (get_or (levels_from earlier (item ∷ items)) (suc j) 0) ⊎ ReachedLater (levels_from earlier (item ∷ items)) (item ∷ items) (suc j) b (get_or (levels_from earlier (item ∷ items)) (suc j) 0)
        first zero e there share level =
            let same : record { item = item; level = level_after earlier item } ≡ e = same_Some (record { item = item; level = level_after earlier item }) e there in
            inr (record {
              i = 0;
              a = item;
              less = omega arith;
              there = refl;
              share = subst (λ (x : Levelled). shares x.item b ≡ true) (sym same) share;
              level = subst (λ (x : Levelled). x.level + 1 ≡ get_or (levels_from earlier (item ∷ items)) (suc j) 0) (sym same) level;
            })
        first (suc k) e there share level = inl (record { k = k; e = e; there = there; share = share; level = level })

pub levels-reached : (items : List ItemData) (j : ℕ) (b : ItemData) → slice_get items j ≡ Some b → 0 < get_or (levels items) j 0
    → (i : ℕ) × (a : ItemData) × (i < j) × (slice_get items i ≡ Some a) × (shares a b ≡ true) × (get_or (levels items) i 0 + 1 ≡ get_or (levels items) j 0)
levels-reached items j b is some = given (reached_from [] items j b is some)
  where
    given : ReachedEarlier [] b (get_or (levels items) j 0) ⊎ ReachedLater (levels items) items j b (get_or (levels items) j 0)
        → (i : ℕ) × (a : ItemData) × (i < j) × (slice_get items i ≡ Some a) × (shares a b ≡ true) × (get_or (levels items) i 0 + 1 ≡ get_or (levels items) j 0)
    given (inl r) = absurd (none-some r.e r.there)
    given (inr r) = (r.i, r.a, r.less, r.there, r.share, r.level)

-- ---- the loop over the items

abbrev pub marked_by_level : Levelled → Marked
marked_by_level e = record { item = e.item; mark = e.level + 1 }

pub before-level : (earlier : List Levelled) (item : ItemData) → mark_before (map marked_by_level earlier) item ≡ level_after earlier item
before-level [] item = refl
before-level (e ∷ earlier) item =
    let rest : mark_before (map marked_by_level earlier) item ≡ level_after earlier item = before-level earlier item in
    elim (cases_Bool (shares e.item item)) [ inl is ↦ rw is (omega arith) | inr not_e ↦ rw not_e rest ]

-- of the first i items: the levels so far, and then those of the rest, and the marks
pub record Found (items : List ItemData) (found rows : List ℕ) (i : ℕ) : Type 0 where
  pub earlier : List Levelled
  pub levels : levels_from [] items ≡ found ++ levels_from earlier (drop i items)
  pub marks : AreMarks (map marked_by_level earlier) rows
  pub small : AllByRecursion (λ (e : Levelled). e.level < i) earlier

pub Found-none : (items : List ItemData) (rows : List ℕ) → AreMarks [] rows → Found items [] rows 0
Found-none items rows shows = record { earlier = []; levels = refl; marks = shows; small = tt }

pub Found-level : (items : List ItemData) (found rows : List ℕ) (i : ℕ) (item : ItemData) → (so_far : Found items found rows i) → mark_before (map marked_by_level so_far.earlier) item ≤ i
Found-level items found rows i item so_far = omega (arith, before-level so_far.earlier item, below so_far.earlier item i so_far.small)

pub Found-next :
    (items : List ItemData) (found rows new : List ℕ) (i level : ℕ) (item : ItemData) → (so_far : Found items found rows i) → i < length items → item ≡ get_or items i item
    → level ≡ mark_before (map marked_by_level so_far.earlier) item → AreMarks (record { item = item; mark = level + 1 } ∷ map marked_by_level so_far.earlier) new
    → Found items (found ++ level ∷ []) new (i + 1)
Found-next items found rows new i level item so_far within here is shows =
    let is_level : level_after so_far.earlier item ≡ level = sym (before-level so_far.earlier item) ∙ sym is in
    let cut : drop i items ≡ item ∷ drop (i + 1) items = drop_more items i item within ∙ ap (λ (x : ItemData). x ∷ drop (i + 1) items) (sym here) in
    let step : levels_from so_far.earlier (drop i items) ≡ level ∷ levels_from (record { item = item; level = level } ∷ so_far.earlier) (drop (i + 1) items) =
    ap (λ (xs : List ItemData). levels_from so_far.earlier xs) cut ∙ ap (λ (n : ℕ). n ∷ levels_from (record { item = item; level = n } ∷ so_far.earlier) (drop (i + 1) items)) is_level in
    record {
      earlier = record { item = item; level = level } ∷ so_far.earlier;
      levels = so_far.levels ∙ ap (λ (xs : List ℕ). found ++ xs) step ∙ sym (append_assoc found (level ∷ []) (levels_from (record { item = item; level = level } ∷ so_far.earlier) (drop (i + 1) items)));
      marks = shows;
      small = (omega (arith, is_level, below so_far.earlier item i so_far.small), wider so_far.earlier i so_far.small);
    }

pub Found-all : (items : List ItemData) (found rows : List ℕ) (i : ℕ) → Found items found rows i → length items ≤ i → found ≡ levels items
Found-all items found rows i so_far past =
    sym (so_far.levels ∙ ap (λ (xs : List ItemData). found ++ levels_from so_far.earlier xs) (drop_all i items past) ∙ append-nil found)
