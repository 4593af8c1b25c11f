-- The stacks and the marks of the pass, one operation further.
use Rattle.std.proofs.Common.{arith, ◌≡◌, ◌≢◌, ℕ, zero, suc, ◌<◌, Bool, true, false, ◌&&◌, ◌||◌, if◌then◌else◌, inl, inr, List, [], ◌∷◌, ◌++◌, map, filter, drop, set, get_or, length, refl, sym, ◌∙◌, ap, ap₂, subst, Option, Some, None, slice_get, length-set}
use Rattle.std.specs.List.{AllByRecursion, list_all, list_any}
use Rattle.std.proofs.lemmas.Bool.{cases_Bool, cases_eq, false≢true, true≢false, eq-eqb, ne_eqb, eqb-true, or_cases, or_parts, and_parts, false_from_ne_true}
use Rattle.std.proofs.lemmas.Option.{same_Some, none-some, get_or_from_slice_get}
use Rattle.qccd_base.specs.Resource.{among, same_res}
use Rattle.qccd_base.specs.declared.names.Res.{Res}
use Rattle.qccd_base.specs.declared.names.Res.TheVariants as res
use Rattle.op_table.specs.declared.kinds.OpKind.TheVariants as kind
use Rattle.qccd_machine.specs.Machine.{MachineData}
use Rattle.op_table.specs.declared.kinds.OpKind.{OpKind}
use Rattle.op_table.specs.Touch.{touches, meets, named}
use Rattle.op_table.proofs.Shared.{set-get}
use Rattle.op_table.proofs.Neighbours.{same_res_is, own_among}
use Rattle.op_cells.specs.Numbering.{index_of, count_of, IsThere}
use Rattle.op_cells.proofs.InTurn.{index-same}
use Rattle.op_cells.proofs.Rising.{Rising, rising-ascending}
use Rattle.qccd_program.proofs.Tables.{index-within, each_apart}
use Rattle.passes.specs.Undo.{undoes}
use Rattle.passes.specs.Tidy.{Numbered, left_by}
use Rattle.passes.specs.Swept.{Cancels}
use Rattle.passes.specs.Stacks.{numbers_on, AreStacks, pushed, popped, top_in, top_at, first_top, is_number, undone_by, only_if, partner_of, IsPartner}
use Rattle.passes.proofs.Undone.{undone_is, touches_alike}
use Rattle.passes.proofs.Removing.{left_is}

-- ---- one stack changed for each of some resources

-- each of them stands once, and where one is written nothing else is
changed : (m : MachineData) (n : ℕ) (f : List ℕ → List ℕ) (q r : Res) (stacks : List (List ℕ)) → IsThere m n q → IsThere m 0 r → length stacks ≡ count_of m 0 → (old : List ℕ) → slice_get stacks (index_of m r) ≡ Some old
    → slice_get (set stacks (index_of m q) (f (get_or stacks (index_of m q) []))) (index_of m r) ≡ Some (if same_res q r then f old else old)
changed m n f q r stacks there at long old is = elim (cases_Bool (same_res q r)) [
  | inl h ↦
      let same : q ≡ r = same_res_is q r h in
      let within : index_of m r < length stacks = omega (arith, long, index-within m 0 r at) in
      ap (λ (x : Res). slice_get (set stacks (index_of m x) (f (get_or stacks (index_of m x) []))) (index_of m r)) same
      ∙ set-get stacks (index_of m r) (index_of m r) (f (get_or stacks (index_of m r) [])) within
      ∙ ap (λ (b : Bool). if b then Some (f (get_or stacks (index_of m r) [])) else slice_get stacks (index_of m r)) (eq-eqb (index_of m r) (index_of m r) refl)
      ∙ ap (λ (s : List ℕ). Some (f s)) (get_or_from_slice_get stacks (index_of m r) old [] is)
      ∙ ap (λ (b : Bool). Some (if b then f old else old)) (sym h)
  | inr h ↦
      let apart : index_of m r ≢ index_of m q = λ e. false≢true (sym h ∙ index-same m n 0 q r there at (sym e)) in
      other (set_elsewhere stacks (index_of m q) (index_of m r) (f (get_or stacks (index_of m q) [])) apart) ∙ ap (λ (b : Bool). Some (if b then f old else old)) (sym h)
]
  where
    other : slice_get (set stacks (index_of m q) (f (get_or stacks (index_of m q) []))) (index_of m r) ≡ slice_get stacks (index_of m r) → slice_get (set stacks (index_of m q) (f (get_or stacks (index_of m q) []))) (index_of m r) ≡ Some old
    other e = e ∙ is

    set_elsewhere : (xs : List (List ℕ)) (i k : ℕ) (x : List ℕ) → k ≢ i → slice_get (set xs i x) k ≡ slice_get xs k
    set_elsewhere [] i k x apart = refl
    set_elsewhere (y ∷ xs) zero zero x apart = absurd (apart refl)
    set_elsewhere (y ∷ xs) zero (suc k) x apart = refl
    set_elsewhere (y ∷ xs) (suc i) zero x apart = refl
    set_elsewhere (y ∷ xs) (suc i) (suc k) x apart = set_elsewhere xs i k x (λ e. apart (ap suc e))

chosen_twice : (a b : Bool) (f : List ℕ → List ℕ) (old : List ℕ) → (a ≡ true → b ≡ false) → (if b then f (if a then f old else old) else (if a then f old else old)) ≡ (if a || b then f old else old)
chosen_twice true true f old apart = absurd (true≢false (apart refl))
chosen_twice true false f old apart = refl
chosen_twice false true f old apart = refl
chosen_twice false false f old apart = refl

not_later : (q : Res) (rs : List Res) (r : Res) → Rising (q ∷ rs) → same_res q r ≡ true → among rs r ≡ false
not_later q rs r up h = ap (among rs) (sym (same_res_is q r h)) ∙ each_apart q rs up.0

pub pushed_at : (m : MachineData) (n k : ℕ) (rs : List Res) (stacks : List (List ℕ)) (r : Res) (old : List ℕ) → Rising rs → AllByRecursion (IsThere m n) rs → IsThere m 0 r → length stacks ≡ count_of m 0 → slice_get stacks (index_of m r) ≡ Some old
    → slice_get (pushed m k rs stacks) (index_of m r) ≡ Some (if among rs r then k ∷ old else old)
pushed_at m n k [] stacks r old up there at long is = is
pushed_at m n k (q ∷ rs) stacks r old up there at long is =
    pushed_at m n k rs (set stacks (index_of m q) (k ∷ get_or stacks (index_of m q) [])) r (if same_res q r then k ∷ old else old) up.1 there.1 at
    (length-set stacks (index_of m q) (k ∷ get_or stacks (index_of m q) []) ∙ long) (changed m n (λ s. k ∷ s) q r stacks there.0 at long old is)
    ∙ ap Some (chosen_twice (same_res q r) (among rs r) (λ s. k ∷ s) old (not_later q rs r up))

pub popped_at : (m : MachineData) (n : ℕ) (rs : List Res) (stacks : List (List ℕ)) (r : Res) (old : List ℕ) → Rising rs → AllByRecursion (IsThere m n) rs → IsThere m 0 r → length stacks ≡ count_of m 0 → slice_get stacks (index_of m r) ≡ Some old
    → slice_get (popped m rs stacks) (index_of m r) ≡ Some (if among rs r then drop 1 old else old)
popped_at m n [] stacks r old up there at long is = is
popped_at m n (q ∷ rs) stacks r old up there at long is =
    popped_at m n rs (set stacks (index_of m q) (drop 1 (get_or stacks (index_of m q) []))) r (if same_res q r then drop 1 old else old) up.1 there.1 at
    (length-set stacks (index_of m q) (drop 1 (get_or stacks (index_of m q) [])) ∙ long) (changed m n (drop 1) q r stacks there.0 at long old is)
    ∙ ap Some (chosen_twice (same_res q r) (among rs r) (drop 1) old (not_later q rs r up))

pushed_long : (m : MachineData) (k : ℕ) (rs : List Res) (stacks : List (List ℕ)) → length (pushed m k rs stacks) ≡ length stacks
pushed_long m k [] stacks = refl
pushed_long m k (q ∷ rs) stacks = pushed_long m k rs (set stacks (index_of m q) (k ∷ get_or stacks (index_of m q) [])) ∙ length-set stacks (index_of m q) (k ∷ get_or stacks (index_of m q) [])

popped_long : (m : MachineData) (rs : List Res) (stacks : List (List ℕ)) → length (popped m rs stacks) ≡ length stacks
popped_long m [] stacks = refl
popped_long m (q ∷ rs) stacks = popped_long m rs (set stacks (index_of m q) (drop 1 (get_or stacks (index_of m q) []))) ∙ length-set stacks (index_of m q) (drop 1 (get_or stacks (index_of m q) []))

-- ---- numbers on a resource

on_more : (r : Res) (e : Numbered) (es : List Numbered) → numbers_on r (e ∷ es) ≡ (if among (touches e.1) r then e.0 ∷ numbers_on r es else numbers_on r es)
on_more r e es = by_test (among (touches e.1) r)
  where
    by_test : (b : Bool) → map (λ (x : Numbered). x.0) (if b then e ∷ filter (λ x. among (touches x.1) r) es else filter (λ x. among (touches x.1) r) es) ≡ (if b then e.0 ∷ numbers_on r es else numbers_on r es)
    by_test true = refl
    by_test false = refl

pub stacks_pushed : (m : MachineData) (n k : ℕ) (op : OpKind) (earlier : List Numbered) (stacks : List (List ℕ)) → AllByRecursion (IsThere m n) (touches op) → AreStacks m earlier stacks → AreStacks m ((k, op) ∷ earlier) (pushed m k (touches op) stacks)
stacks_pushed m n k op earlier stacks there are = record {
  long = pushed_long m k (touches op) stacks ∙ are.long;
  each = λ r at. pushed_at m n k (touches op) stacks r (numbers_on r earlier) (rising-ascending (named op)) there at are.long (are.each r at) ∙ ap Some (sym (on_more r (k, op) earlier));
}

-- where the more recent ones do not touch it, the first that does is on top
on_past : (r : Res) (recent es : List Numbered) → AllByRecursion (λ x. among (touches x.1) r ≡ false) recent → numbers_on r (recent ++ es) ≡ numbers_on r es
on_past r [] es out = refl
on_past r (x ∷ recent) es out = on_more r x (recent ++ es) ∙ ap (λ (b : Bool). if b then x.0 ∷ numbers_on r (recent ++ es) else numbers_on r (recent ++ es)) out.0 ∙ on_past r recent es out.1

on_skipped : (r : Res) (recent : List Numbered) (a : Numbered) (older : List Numbered) → among (touches a.1) r ≡ false → numbers_on r (recent ++ a ∷ older) ≡ numbers_on r (recent ++ older)
on_skipped r [] a older out = on_more r a older ∙ ap (λ (b : Bool). if b then a.0 ∷ numbers_on r older else numbers_on r older) out
on_skipped r (x ∷ recent) a older out =
    on_more r x (recent ++ a ∷ older) ∙ ap (λ (s : List ℕ). if among (touches x.1) r then x.0 ∷ s else s) (on_skipped r recent a older out) ∙ sym (on_more r x (recent ++ older))

-- of operations that do not meet b none touches what b touches
none_touch : (b : OpKind) (r : Res) (recent : List Numbered) → among (touches b) r ≡ true → AllByRecursion (λ x. meets x.1 b ≡ false) recent → AllByRecursion (λ x. among (touches x.1) r ≡ false) recent
none_touch b r [] at apart = tt
none_touch b r (x ∷ recent) at apart = (Rattle.op_table.proofs.Neighbours.apart_other (touches x.1) (touches b) r apart.0 at, none_touch b r recent at apart.1)

same_touched : (a b : OpKind) → undoes a b ≡ true → touches a ≡ touches b
same_touched a b h = sym (ap touches (undone_is a b h) ∙ touches_alike a)

on_left : (b : Numbered) (earlier xs : List Numbered) (l : Cancels b earlier xs) (r : Res) → among (touches b.1) r ≡ true → numbers_on r earlier ≡ l.a.0 ∷ numbers_on r xs
on_left b earlier xs l r at =
    let out = none_touch b.1 r l.recent at l.apart in
    let own : among (touches l.a.1) r ≡ true = ap (λ (rs : List Res). among rs r) (same_touched l.a.1 b.1 l.undone) ∙ at in
    ap (numbers_on r) l.whole ∙ on_past r l.recent (l.a ∷ l.older) out
    ∙ on_more r l.a l.older ∙ ap (λ (t : Bool). if t then l.a.0 ∷ numbers_on r l.older else numbers_on r l.older) own
    ∙ sym (ap (λ (s : List ℕ). l.a.0 ∷ s) (ap (numbers_on r) l.rest ∙ on_past r l.recent l.older out))

on_left_other : (b : Numbered) (earlier xs : List Numbered) (l : Cancels b earlier xs) (r : Res) → among (touches b.1) r ≡ false → numbers_on r earlier ≡ numbers_on r xs
on_left_other b earlier xs l r out =
    ap (numbers_on r) l.whole ∙ on_skipped r l.recent l.a l.older (ap (λ (rs : List Res). among rs r) (same_touched l.a.1 b.1 l.undone) ∙ out) ∙ sym (ap (numbers_on r) l.rest)

pub stacks_popped : (m : MachineData) (n : ℕ) (b : Numbered) (earlier xs : List Numbered) (stacks : List (List ℕ)) → AllByRecursion (IsThere m n) (touches b.1) → Cancels b earlier xs → AreStacks m earlier stacks → AreStacks m xs (popped m (touches b.1) stacks)
stacks_popped m n b earlier xs stacks there l are = record {
  long = popped_long m (touches b.1) stacks ∙ are.long;
  each = λ r at. popped_at m n (touches b.1) stacks r (numbers_on r earlier) (rising-ascending (named b.1)) there at are.long (are.each r at) ∙ ap Some (by_test r (among (touches b.1) r) refl);
}
  where
    by_test : (r : Res) (t : Bool) → among (touches b.1) r ≡ t → (if t then drop 1 (numbers_on r earlier) else numbers_on r earlier) ≡ numbers_on r xs
    by_test r true h = ap (drop 1) (on_left b earlier xs l r h)
    by_test r false h = on_left_other b earlier xs l r h

-- ---- the partner

-- each entry is an operation of the list with its number
abbrev pub Sits : List OpKind → List Numbered → Type 0
Sits ops es = AllByRecursion (λ e. slice_get ops e.0 ≡ Some e.1) es

all_back : {X : Type 0} (P : X → Type 0) (xs ys : List X) → AllByRecursion P (xs ++ ys) → AllByRecursion P ys
all_back P [] ys all = all
all_back P (x ∷ xs) ys all = all_back P xs ys all.1

pub all_without : {X : Type 0} (P : X → Type 0) (xs ys : List X) (a : X) → AllByRecursion P (xs ++ a ∷ ys) → AllByRecursion P (xs ++ ys)
all_without P [] ys a all = all.1
all_without P (x ∷ xs) ys a all = (all.0, all_without P xs ys a all.1)

-- where the same number is on each of some resources, it is that of the last one that touches any of them
found_top : (ops : List OpKind) (b : Numbered) (a : OpKind) (i : ℕ) (earlier : List Numbered) → Sits ops earlier → slice_get ops i ≡ Some a → undoes a b.1 ≡ true → (r0 : Res) → among (touches b.1) r0 ≡ true
    → ((r : Res) → among (touches b.1) r ≡ true → slice_get (numbers_on r earlier) 0 ≡ Some i) → IsPartner (Some i) b earlier
found_top ops b a i [] sits is undone r0 some each = absurd (none-some i (each r0 some))
found_top ops b a i (e ∷ earlier) sits is undone r0 some each = elim (cases_Bool (meets e.1 b.1)) [
  | inl h ↦
      let met = touched_one (touches e.1) h in
      let top : slice_get (numbers_on met.0 (e ∷ earlier)) 0 ≡ Some e.0 = ap (λ (s : List ℕ). slice_get s 0) (on_more met.0 e earlier ∙ ap (λ (t : Bool). if t then e.0 ∷ numbers_on met.0 earlier else numbers_on met.0 earlier) met.1) in
      let number : e.0 ≡ i = same_Some e.0 i (sym top ∙ each met.0 met.2) in
      let same : a ≡ e.1 = same_Some a e.1 (sym is ∙ ap (slice_get ops) (sym number) ∙ sits.0) in
      (earlier, record { recent = []; a = e; older = earlier; whole = refl; rest = refl; undone = ap (λ (x : OpKind). undoes x b.1) (sym same) ∙ undone; apart = tt }, number)
  | inr h ↦
      let rest = found_top ops b a i earlier sits.1 is undone r0 some (λ r at.
      sym (ap (λ (s : List ℕ). slice_get s 0) (on_more r e earlier ∙ ap (λ (t : Bool). if t then e.0 ∷ numbers_on r earlier else numbers_on r earlier) (Rattle.op_table.proofs.Neighbours.apart_other (touches e.1) (touches b.1) r h at))) ∙ each r at) in
      (e ∷ rest.0, record { recent = e ∷ rest.1.recent; a = rest.1.a; older = rest.1.older; whole = ap (λ (l : List Numbered). e ∷ l) rest.1.whole; rest = ap (λ (l : List Numbered). e ∷ l) rest.1.rest; undone = rest.1.undone; apart = (h, rest.1.apart) }, rest.2)
]
  where
    touched_one : (rs : List Res) → list_any (among (touches b.1)) rs ≡ true → (r : Res) × (among rs r ≡ true) × (among (touches b.1) r ≡ true)
    touched_one [] h = absurd (false≢true h)
    touched_one (q ∷ rs) h = elim (or_cases (among (touches b.1) q) (list_any (among (touches b.1)) rs) h) [
      | inl k ↦ (q, own_among q rs, k)
      | inr k ↦ let more = touched_one rs k in (more.0, Rattle.std.proofs.lemmas.Bool.or_right (same_res q more.0) (among rs more.0) more.1, more.2)
    ]

is_number_is : (i : ℕ) (o : Option ℕ) → is_number i o ≡ true → o ≡ Some i
is_number_is i None h = absurd (false≢true h)
is_number_is i (Some j) h = ap Some (eqb-true j i h)

number_own : (i : ℕ) (o : Option ℕ) → o ≡ Some i → is_number i o ≡ true
number_own i None e = cc
number_own i (Some j) e = eq-eqb j i (same_Some j i e)

all_read : (p : Res → Bool) (rs : List Res) (r : Res) → list_all p rs ≡ true → among rs r ≡ true → p r ≡ true
all_read p [] r h at = absurd (false≢true at)
all_read p (q ∷ rs) r h at =
    let parts = and_parts (p q) (list_all p rs) h in
    elim (or_cases (same_res q r) (among rs r) at) [
      | inl k ↦ ap p (sym (same_res_is q r k)) ∙ parts.0
      | inr k ↦ all_read p rs r parts.1 k
    ]

all_from : (p : Res → Bool) (rs : List Res) → ((r : Res) → among rs r ≡ true → p r ≡ true) → list_all p rs ≡ true
all_from p [] h = refl
all_from p (q ∷ rs) h = Rattle.std.proofs.lemmas.Bool.and_from (p q) (list_all p rs) (h q (own_among q rs)) (all_from p rs (λ r at. h r (Rattle.std.proofs.lemmas.Bool.or_right (same_res q r) (among rs r) at)))

-- an operation that is undone touches no bit, so what it touches has a stack
pub stacked : (m : MachineData) (n : ℕ) (a b : OpKind) → undoes a b ≡ true → AllByRecursion (IsThere m n) (touches b) → AllByRecursion (IsThere m 0) (touches b)
stacked m n a b undone there = subst (AllByRecursion (IsThere m 0)) (same_touched a b undone) (of_first a b undone (subst (AllByRecursion (IsThere m n)) (sym (same_touched a b undone)) there))
  where
    of_first : (a b : OpKind) → undoes a b ≡ true → AllByRecursion (IsThere m n) (touches a) → AllByRecursion (IsThere m 0) (touches a)
    of_first (kind.Split t e g) b h all = all
    of_first (kind.Move g) b h all = all
    of_first (kind.Enter g j) b h all = all
    of_first (kind.Leave j g) b h all = all
    of_first (kind.Merge g t e) b h all = all
    of_first (kind.Rot t p) b h all = all
    of_first (kind.GSwap t low high) b h all = all
    of_first (kind.Item number t item at) b h all = absurd (false≢true h)
    of_first (kind.Fence number item traps) b h all = absurd (false≢true h)

some_touched : (a b : OpKind) → undoes a b ≡ true → (r : Res) × (rs : List Res) × (touches b ≡ r ∷ rs)
some_touched a b undone = let x = of_first a b undone in (x.0, x.1, sym (same_touched a b undone) ∙ x.2)
  where
    of_first : (a b : OpKind) → undoes a b ≡ true → (r : Res) × (rs : List Res) × (touches a ≡ r ∷ rs)
    of_first (kind.Split t e g) b h = (res.Trap t, res.Seg g ∷ [], refl)
    of_first (kind.Move g) b h = (res.Seg g, [], refl)
    of_first (kind.Enter g j) b h = (res.Seg g, res.Junc j ∷ [], refl)
    of_first (kind.Leave j g) b h = (res.Seg g, res.Junc j ∷ [], refl)
    of_first (kind.Merge g t e) b h = (res.Trap t, res.Seg g ∷ [], refl)
    of_first (kind.Rot t p) b h = (res.Trap t, [], refl)
    of_first (kind.GSwap t low high) b h = (res.Trap t, [], refl)
    of_first (kind.Item number t item at) b h = absurd (false≢true h)
    of_first (kind.Fence number item traps) b h = absurd (false≢true h)

top_is : (m : MachineData) (earlier : List Numbered) (stacks : List (List ℕ)) (r : Res) → AreStacks m earlier stacks → IsThere m 0 r → top_at m stacks r ≡ slice_get (numbers_on r earlier) 0
top_is m earlier stacks r are at = ap top_in (are.each r at)

there_read : (m : MachineData) (rs : List Res) (r : Res) → AllByRecursion (IsThere m 0) rs → among rs r ≡ true → IsThere m 0 r
there_read m [] r all at = absurd (false≢true at)
there_read m (q ∷ rs) r all at = elim (or_cases (same_res q r) (among rs r) at) [
  | inl k ↦ subst (IsThere m 0) (same_res_is q r k) all.0
  | inr k ↦ there_read m rs r all.1 k
]

first_of : (m : MachineData) (stacks : List (List ℕ)) (rs : List Res) (r : Res) (more : List Res) → rs ≡ r ∷ more → first_top m stacks rs ≡ top_at m stacks r
first_of m stacks rs r more is = ap (first_top m stacks) is

undone_at_is : (op : OpKind) (o : Option OpKind) → undone_by op o ≡ true → (a : OpKind) × (o ≡ Some a) × (undoes a op ≡ true)
undone_at_is op None h = absurd (false≢true h)
undone_at_is op (Some a) h = (a, refl, h)

chosen_is : (p : ℕ → Bool) (o : Option ℕ) (i : ℕ) → only_if p o ≡ Some i → (o ≡ Some i) × (p i ≡ true)
chosen_is p None i h = cc
chosen_is p (Some j) i h = by_test (p j) refl h
  where
    by_test : (t : Bool) → p j ≡ t → (if t then Some j else None) ≡ Some i → (Some j ≡ Some i) × (p i ≡ true)
    by_test true e h = (h, ap p (sym (same_Some j i h)) ∙ e)
    by_test false e h = cc

-- the one on top is the one that is cancelled
pub partner_some : (m : MachineData) (n k i : ℕ) (ops : List OpKind) (op : OpKind) (earlier : List Numbered) (stacks : List (List ℕ)) → AllByRecursion (IsThere m n) (touches op) → Sits ops earlier → AreStacks m earlier stacks
    → partner_of m ops stacks op ≡ Some i → IsPartner (Some i) (k, op) earlier
partner_some m n k i ops op earlier stacks there sits are is =
    let found = chosen_is (λ j. undone_by op (slice_get ops j) && list_all (λ r. is_number j (top_at m stacks r)) (touches op)) (first_top m stacks (touches op)) i is in
    let parts = and_parts (undone_by op (slice_get ops i)) (list_all (λ r. is_number i (top_at m stacks r)) (touches op)) found.1 in
    let u = undone_at_is op (slice_get ops i) parts.0 in
    let all = stacked m n u.0 op u.2 there in
    let s = some_touched u.0 op u.2 in
    found_top ops (k, op) u.0 i earlier sits u.1 u.2 s.0 (ap (λ (rs : List Res). among rs s.0) s.2 ∙ own_among s.0 s.1)
    (λ r at. sym (top_is m earlier stacks r are (there_read m (touches op) r all at)) ∙ is_number_is i (top_at m stacks r) (all_read (λ q. is_number i (top_at m stacks q)) (touches op) r parts.1 at))

-- and where none is found, none is cancelled
pub partner_none : (m : MachineData) (n k : ℕ) (ops : List OpKind) (op : OpKind) (earlier : List Numbered) (stacks : List (List ℕ)) → AllByRecursion (IsThere m n) (touches op) → Sits ops earlier → AreStacks m earlier stacks
    → partner_of m ops stacks op ≡ None → left_by (k, op) earlier ≡ None
partner_none m n k ops op earlier stacks there sits are is = by_left (left_by (k, op) earlier) refl
  where
    by_left : (o : Option (List Numbered)) → left_by (k, op) earlier ≡ o → o ≡ None
    by_left None h = refl
    by_left (Some xs) h =
        let l = left_is (k, op) earlier xs h in
        let all = stacked m n l.a.1 op l.undone there in
        let s = some_touched l.a.1 op l.undone in
        let tops : (r : Res) → among (touches op) r ≡ true → top_at m stacks r ≡ Some l.a.0 =
        λ r at. top_is m earlier stacks r are (there_read m (touches op) r all at) ∙ ap (λ (t : List ℕ). slice_get t 0) (on_left (k, op) earlier xs l r at) in
        let first : first_top m stacks (touches op) ≡ Some l.a.0 = first_of m stacks (touches op) s.0 s.1 s.2 ∙ tops s.0 (ap (λ (rs : List Res). among rs s.0) s.2 ∙ own_among s.0 s.1) in
        let there_a : slice_get ops l.a.0 ≡ Some l.a.1 = (all_back (λ (e : Numbered). slice_get ops e.0 ≡ Some e.1) l.recent (l.a ∷ l.older) (subst (Sits ops) l.whole sits)).0 in
        let undone : undone_by op (slice_get ops l.a.0) ≡ true = ap (undone_by op) there_a ∙ l.undone in
        let on_all : list_all (λ r. is_number l.a.0 (top_at m stacks r)) (touches op) ≡ true = all_from (λ r. is_number l.a.0 (top_at m stacks r)) (touches op) (λ r at. number_own l.a.0 (top_at m stacks r) (tops r at)) in
        let chosen : partner_of m ops stacks op ≡ Some l.a.0 =
        ap (only_if (λ i. undone_by op (slice_get ops i) && list_all (λ r. is_number i (top_at m stacks r)) (touches op))) first
        ∙ ap₂ (λ (x y : Bool). if x && y then Some l.a.0 else None) undone on_all in
        absurd (none-some l.a.0 (sym is ∙ chosen))
