-- Resources and lists of them: what is the same, what stands in a list, and ascending lists.
use Rattle.std.proofs.Common.{◌≡◌, ◌≢◌, ℕ, Bool, true, false, ◌&&◌, ◌||◌, ◌==◌, nat_lt, if◌then◌else◌, inl, inr, List, [], ◌∷◌, map, drop, refl, sym, ◌∙◌, ap, ap₂, subst, arith}
use Rattle.std.specs.List.{list_any, AllByRecursion}
use Rattle.std.proofs.lemmas.Bool.{false≢true, false_from_ne_true, or_parts, or_cases, or_from, or_left, or_right, and_from, eq-eqb, eqb-true}
use Rattle.std.proofs.lemmas.Bool.Decides.{nat_tests}
use Rattle.qccd_base.specs.declared.names.Res.{Res}
use Rattle.qccd_base.specs.declared.names.Res.TheVariants.{Trap, Seg, Junc, Bit}
use Rattle.qccd_base.specs.Names.{trap, segment, junction, bit}
use Rattle.qccd_base.specs.Resource.{rank_of, number_of, same_res, comes_before, among, with_res, ascending, IsAscending}

-- ---- the same resource

pub same_res-own : (r : Res) → same_res r r ≡ true
same_res-own r = and_from (rank_of r == rank_of r) (number_of r == number_of r) (eq-eqb (rank_of r) (rank_of r) refl) (eq-eqb (number_of r) (number_of r) refl)

pub same_res-true : (q r : Res) → same_res q r ≡ true → q ≡ r
same_res-true (Trap t) (Trap u) h = ap (λ (n : ℕ). Trap (trap n)) (eqb-true t.0 u.0 h)
same_res-true (Trap t) (Seg u) h = absurd (false≢true h)
same_res-true (Trap t) (Junc u) h = absurd (false≢true h)
same_res-true (Trap t) (Bit u) h = absurd (false≢true h)
same_res-true (Seg t) (Trap u) h = absurd (false≢true h)
same_res-true (Seg t) (Seg u) h = ap (λ (n : ℕ). Seg (segment n)) (eqb-true t.0 u.0 h)
same_res-true (Seg t) (Junc u) h = absurd (false≢true h)
same_res-true (Seg t) (Bit u) h = absurd (false≢true h)
same_res-true (Junc t) (Trap u) h = absurd (false≢true h)
same_res-true (Junc t) (Seg u) h = absurd (false≢true h)
same_res-true (Junc t) (Junc u) h = ap (λ (n : ℕ). Junc (junction n)) (eqb-true t.0 u.0 h)
same_res-true (Junc t) (Bit u) h = absurd (false≢true h)
same_res-true (Bit t) (Trap u) h = absurd (false≢true h)
same_res-true (Bit t) (Seg u) h = absurd (false≢true h)
same_res-true (Bit t) (Junc u) h = absurd (false≢true h)
same_res-true (Bit t) (Bit u) h = ap (λ (n : ℕ). Bit (bit n)) (eqb-true t.0 u.0 h)

pub same_res-false : (q r : Res) → (q ≡ r → ⊥) → same_res q r ≡ false
same_res-false q r other = false_from_ne_true (same_res q r) (λ e. other (same_res-true q r e))

pub same_res-sym : (q r : Res) → same_res q r ≡ false → same_res r q ≡ false
same_res-sym q r other = same_res-false r q (λ e. false≢true (sym other ∙ ap (same_res q) e ∙ same_res-own q))

-- ---- the order

later : (a b c x y z : ℕ) → (nat_lt a b || ((a == b) && nat_lt x y)) ≡ true → (nat_lt b c || ((b == c) && nat_lt y z)) ≡ true → (nat_lt a c || ((a == c) && nat_lt x z)) ≡ true
later a b c x y z h k = grind (nat_tests, arith)

other_way : (a b x y : ℕ) → ((a == b) && (x == y)) ≡ false → (nat_lt a b || ((a == b) && nat_lt x y)) ≡ false → (nat_lt b a || ((b == a) && nat_lt y x)) ≡ true
other_way a b x y h k = grind (nat_tests, arith)

apart : (a b x y : ℕ) → (nat_lt a b || ((a == b) && nat_lt x y)) ≡ true → ((a == b) && (x == y)) ≡ false
apart a b x y h = grind (nat_tests, arith)

pub comes_before-trans : (q r x : Res) → comes_before q r ≡ true → comes_before r x ≡ true → comes_before q x ≡ true
comes_before-trans q r x h k = later (rank_of q) (rank_of r) (rank_of x) (number_of q) (number_of r) (number_of x) h k

-- of two that are not the same one comes before the other
pub comes_before-other : (q r : Res) → same_res q r ≡ false → comes_before q r ≡ false → comes_before r q ≡ true
comes_before-other q r h k = other_way (rank_of q) (rank_of r) (number_of q) (number_of r) h k

pub comes_before-apart : (q r : Res) → comes_before q r ≡ true → same_res q r ≡ false
comes_before-apart q r h = apart (rank_of q) (rank_of r) (number_of q) (number_of r) h

-- ---- what stands in a list

pub among-own : (r : Res) (rs : List Res) → among (r ∷ rs) r ≡ true
among-own r rs = or_left (same_res r r) (among rs r) (same_res-own r)

pub among-more : (q r : Res) (rs : List Res) → among rs r ≡ true → among (q ∷ rs) r ≡ true
among-more q r rs at = or_right (same_res q r) (among rs r) at

-- what holds of each holds of one that stands there
pub all-among : (P : Res → Type 0) (rs : List Res) (r : Res) → AllByRecursion P rs → among rs r ≡ true → P r
all-among P [] r all at = absurd (false≢true at)
all-among P (q ∷ rs) r all at = elim (or_cases (same_res q r) (among rs r) at) [
  | inl h ↦ subst P (same_res-true q r h) all.0
  | inr h ↦ all-among P rs r all.1 h
]

pub all-from_among : (P : Res → Type 0) (rs : List Res) → ((r : Res) → among rs r ≡ true → P r) → AllByRecursion P rs
all-from_among P [] each = tt
all-from_among P (r ∷ rs) each = (each r (among-own r rs), all-from_among P rs (λ x at. each x (among-more r x rs at)))

-- two functions that agree on what stands there, and back
pub map-among : {Y : Type 0} (rs : List Res) (f g : Res → Y) → ((r : Res) → among rs r ≡ true → f r ≡ g r) → map f rs ≡ map g rs
map-among [] f g same = refl
map-among {Y} (x ∷ rs) f g same = ap₂ (λ (y : Y) (ys : List Y). y ∷ ys) (same x (among-own x rs)) (map-among rs f g (λ r at. same r (among-more x r rs at)))

pub map-at : {Y : Type 0} (rs : List Res) (f g : Res → Y) (r : Res) → map f rs ≡ map g rs → among rs r ≡ true → f r ≡ g r
map-at [] f g r same at = absurd (false≢true at)
map-at {Y} (x ∷ rs) f g r same at = elim (or_cases (same_res x r) (among rs r) at) [
  | inl h ↦ let is : x ≡ r = same_res-true x r h in sym (ap f is) ∙ head same ∙ ap g is
  | inr h ↦ map-at rs f g r (ap (drop 1) same) h
]
  where
    head : f x ∷ map f rs ≡ g x ∷ map g rs → f x ≡ g x
    head e = cc

-- a list has something of another exactly where the other has something of it
not_the_same : (ys : List Res) (x y : Res) → among ys x ≡ false → among ys y ≡ true → same_res x y ≡ false
not_the_same ys x y missing at = same_res-false x y (λ e. false≢true (sym missing ∙ ap (among ys) e ∙ at))

pub apart-among : (xs ys : List Res) (y : Res) → list_any (among ys) xs ≡ false → among ys y ≡ true → among xs y ≡ false
apart-among [] ys y none at = refl
apart-among (x ∷ xs) ys y none at =
    let parts = or_parts (among ys x) (list_any (among ys) xs) none in
    or_from (same_res x y) (among xs y) (not_the_same ys x y parts.0 at) (apart-among xs ys y parts.1 at)

pub apart-from_among : (xs ys : List Res) → ((y : Res) → among ys y ≡ true → among xs y ≡ false) → list_any (among xs) ys ≡ false
apart-from_among xs [] each = refl
apart-from_among xs (y ∷ ys) each =
    or_from (among xs y) (list_any (among xs) ys) (each y (among-own y ys)) (apart-from_among xs ys (λ z at. each z (among-more y z ys at)))

pub apart-sym : (xs ys : List Res) → list_any (among ys) xs ≡ false → list_any (among xs) ys ≡ false
apart-sym xs ys none = apart-from_among xs ys (λ y at. apart-among xs ys y none at)

pub in_common : (xs ys : List Res) (r : Res) → among xs r ≡ true → among ys r ≡ true → list_any (among ys) xs ≡ true
in_common [] ys r at at_other = absurd (false≢true at)
in_common (x ∷ xs) ys r at at_other = elim (or_cases (same_res x r) (among xs r) at) [
  | inl h ↦ or_left (among ys x) (list_any (among ys) xs) (ap (among ys) (same_res-true x r h) ∙ at_other)
  | inr h ↦ or_right (among ys x) (list_any (among ys) xs) (in_common xs ys r h at_other)
]

-- ---- one resource more

shuffled : (a b c : Bool) → (b || (a || c)) ≡ (a || (b || c))
shuffled true true c = refl
shuffled true false c = refl
shuffled false b c = refl

there_already : (r q x : Res) (qs : List Res) → same_res r q ≡ true → among (q ∷ qs) x ≡ (same_res r x || among (q ∷ qs) x)
there_already r q x qs same = absorbed (same_res r x) (same_res q x) (among qs x) (ap (λ (y : Res). same_res y x) (same_res-true r q same))
  where
    absorbed : (a b c : Bool) → a ≡ b → (b || c) ≡ (a || (b || c))
    absorbed true true c e = refl
    absorbed true false c e = cc
    absorbed false b c e = refl

pub among-with_res : (r x : Res) (qs : List Res) → among (with_res r qs) x ≡ (same_res r x || among qs x)
among-with_res r x [] = refl
among-with_res r x (q ∷ qs) = go (same_res r q) (comes_before r q) refl (among-with_res r x qs)
  where
    go : (a b : Bool) → same_res r q ≡ a → among (with_res r qs) x ≡ (same_res r x || among qs x)
        → among (if a then q ∷ qs else (if b then r ∷ q ∷ qs else q ∷ with_res r qs)) x ≡ (same_res r x || (same_res q x || among qs x))
    go true b is rest = there_already r q x qs is
    go false true is rest = refl
    go false false is rest = ap (λ (c : Bool). same_res q x || c) rest ∙ shuffled (same_res r x) (same_res q x) (among qs x)

pub among-ascending : (rs : List Res) (x : Res) → among (ascending rs) x ≡ among rs x
among-ascending [] x = refl
among-ascending (r ∷ rs) x = among-with_res r x (ascending rs) ∙ ap (λ (c : Bool). same_res r x || c) (among-ascending rs x)

-- ---- ascending lists

-- what comes before the first comes before all
all_later : (r q : Res) (qs : List Res) → comes_before r q ≡ true → AllByRecursion (λ x. comes_before q x ≡ true) qs → AllByRecursion (λ x. comes_before r x ≡ true) qs
all_later r q [] h all = tt
all_later r q (x ∷ qs) h all = (comes_before-trans r q x h all.0, all_later r q qs h all.1)

all_with : (a r : Res) (qs : List Res) → comes_before a r ≡ true → AllByRecursion (λ x. comes_before a x ≡ true) qs → AllByRecursion (λ x. comes_before a x ≡ true) (with_res r qs)
all_with a r [] h all = (h, tt)
all_with a r (q ∷ qs) h all = go (same_res r q) (comes_before r q) (all_with a r qs h all.1)
  where
    go : (b c : Bool) → AllByRecursion (λ x. comes_before a x ≡ true) (with_res r qs) → AllByRecursion (λ x. comes_before a x ≡ true) (if b then q ∷ qs else (if c then r ∷ q ∷ qs else q ∷ with_res r qs))
    go true c rest = all
    go false true rest = (h, all)
    go false false rest = (all.0, rest)

pub IsAscending-with_res : (r : Res) (qs : List Res) → IsAscending qs → IsAscending (with_res r qs)
IsAscending-with_res r [] up = (tt, tt)
IsAscending-with_res r (q ∷ qs) up = go (same_res r q) (comes_before r q) refl refl (IsAscending-with_res r qs up.1)
  where
    go : (b c : Bool) → same_res r q ≡ b → comes_before r q ≡ c → IsAscending (with_res r qs) → IsAscending (if b then q ∷ qs else (if c then r ∷ q ∷ qs else q ∷ with_res r qs))
    go true c h k rest = up
    go false true h k rest = ((k, all_later r q qs k up.0), up)
    go false false h k rest = (all_with q r qs (comes_before-other r q h k) up.0, rest)

pub IsAscending-ascending : (rs : List Res) → IsAscending (ascending rs)
IsAscending-ascending [] = tt
IsAscending-ascending (r ∷ rs) = IsAscending-with_res r (ascending rs) (IsAscending-ascending rs)

-- what comes before all of a list goes to its front
pub with_res-front : (r : Res) (rs : List Res) → AllByRecursion (λ x. comes_before r x ≡ true) rs → with_res r rs ≡ r ∷ rs
with_res-front r [] all = refl
with_res-front r (q ∷ qs) all = rw (comes_before-apart r q all.0, all.0) refl

-- a list that ascends is the same, ascending
pub ascending-own : (rs : List Res) → IsAscending rs → ascending rs ≡ rs
ascending-own [] up = refl
ascending-own (r ∷ rs) up = ap (with_res r) (ascending-own rs up.1) ∙ with_res-front r rs up.0

-- what comes before all of a list does not stand there
pub among-earlier : (r : Res) (rs : List Res) → AllByRecursion (λ x. comes_before r x ≡ true) rs → among rs r ≡ false
among-earlier r [] all = refl
among-earlier r (x ∷ rs) all = or_from (same_res x r) (among rs r) (same_res-sym r x (comes_before-apart r x all.0)) (among-earlier r rs all.1)

-- ---- lists of one trap, one segment or one junction first

pub among-one_trap : (t u : ℕ) → among (Trap (trap t) ∷ []) (Trap (trap u)) ≡ true → u ≡ t
among-one_trap t u h = grind arith

pub among-one_segment : (g k : ℕ) → among (Seg (segment g) ∷ []) (Seg (segment k)) ≡ true → k ≡ g
among-one_segment g k h = grind arith

pub among-trap_first : (t u : ℕ) (rest : List Res) → u ≡ t → among (Trap (trap t) ∷ rest) (Trap (trap u)) ≡ true
among-trap_first t u rest is = grind arith

pub among-segment_first : (g k : ℕ) (rest : List Res) → k ≡ g → among (Seg (segment g) ∷ rest) (Seg (segment k)) ≡ true
among-segment_first g k rest is = grind arith

pub not_among-trap_first : (t u : ℕ) (rest : List Res) → among (Trap (trap t) ∷ rest) (Trap (trap u)) ≡ false → u ≢ t
not_among-trap_first t u rest missing is = false≢true (sym missing ∙ among-trap_first t u rest is)

-- of a trap and a segment
pub trap_of_two : (t g u : ℕ) → among (Trap (trap t) ∷ Seg (segment g) ∷ []) (Trap (trap u)) ≡ true → u ≡ t
trap_of_two t g u h = grind arith

pub segment_of_two : (t g k : ℕ) → among (Trap (trap t) ∷ Seg (segment g) ∷ []) (Seg (segment k)) ≡ true → k ≡ g
segment_of_two t g k h = grind arith

pub among-segment_second : (t g k : ℕ) → k ≡ g → among (Trap (trap t) ∷ Seg (segment g) ∷ []) (Seg (segment k)) ≡ true
among-segment_second t g k is = grind arith

-- of a segment and a junction
pub segment_before_junction : (g j k : ℕ) → among (Seg (segment g) ∷ Junc (junction j) ∷ []) (Seg (segment k)) ≡ true → k ≡ g
segment_before_junction g j k h = grind arith

pub junction_of_two : (g j k : ℕ) → among (Seg (segment g) ∷ Junc (junction j) ∷ []) (Junc (junction k)) ≡ true → k ≡ j
junction_of_two g j k h = grind arith

pub among-junction_second : (g j k : ℕ) → k ≡ j → among (Seg (segment g) ∷ Junc (junction j) ∷ []) (Junc (junction k)) ≡ true
among-junction_second g j k is = grind arith
