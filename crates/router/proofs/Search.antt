-- What is found in a range of numbers, and in all lists of numbers.
use Rattle.std.proofs.Common.{◌≡◌, ℕ, zero, suc, ◌+◌, ◌<◌, ◌≤◌, Bool, true, false, cond, List, [], ◌∷◌, ◌++◌, map, length, refl, sym, ◌∙◌, ap, arith, Option, Some, None, inl, inr, subst}
use Rattle.std.specs.Prelude.{find, is_some, flat_map, option_map}
use Rattle.std.specs.Option.{option_or}
use Rattle.std.specs.List.{range_with_len, list_any, AllByRecursion}
use Rattle.std.proofs.lemmas.Bool.{cases_Bool, cases_eq, or_cases, false≢true}
use Rattle.std.proofs.lemmas.List.Folds.{find-append}
use Rattle.router.specs.Paths.{first_of, lists_of}

-- ---- a range

-- the first number from a on, of n numbers, that passes
pub record FirstIn (p : ℕ → Bool) (a n k : ℕ) : Type 0 where
  pub passes : p k ≡ true
  pub from : a ≤ k
  pub below : k < a + n
  pub first : (i : ℕ) → a ≤ i → i < k → p i ≡ false

pub find_range : (p : ℕ → Bool) (a n k : ℕ) → find p (range_with_len a n) ≡ Some k → FirstIn p a n k
find_range p a zero k is = cc
find_range p a (suc n) k is = elim (cases_Bool (p a)) [
  | inl here ↦
      let same : a ≡ k = (let e : Some a ≡ Some k = rw here at is in cc) in
      record { passes = subst (λ i. p i ≡ true) same here; from = omega arith; below = omega arith; first = λ i low high. absurd (omega arith) }
  | inr not_here ↦
      let rest : FirstIn p (a + 1) n k = find_range p (a + 1) n k (rw not_here at is) in
      record {
        passes = rest.passes;
        from = omega (arith, rest.from);
        below = omega (arith, rest.below);
        first = λ i low high. elim (cases_eq i a) [ inl same ↦ rw same not_here | inr apart ↦ rest.first i (next_up a i low apart) high ];
      }
]
  where
    next_up : (a i : ℕ) → a ≤ i → (i ≡ a → ⊥) → a + 1 ≤ i
    next_up a i low apart = grind arith

pub found_range : (p : ℕ → Bool) (a n k : ℕ) → p k ≡ true → a ≤ k → k < a + n → is_some (find p (range_with_len a n)) ≡ true
found_range p a zero k passes low high = absurd (omega arith)
found_range p a (suc n) k passes low high = elim (cases_Bool (p a)) [
  | inl here ↦ rw here refl
  | inr not_here ↦ elim (cases_eq k a) [
    | inl same ↦ absurd (false≢true (sym not_here ∙ subst (λ i. p i ≡ true) same passes))
    | inr apart ↦ rw not_here (found_range p (a + 1) n k passes (grind arith) (omega arith))
  ]
]

pub some_of : {X : Type 0} (o : Option X) → is_some o ≡ true → (x : X) × (o ≡ Some x)
some_of None h = cc
some_of (Some x) h = (x, refl)

pub any_range : (p : ℕ → Bool) (a n : ℕ) → list_any p (range_with_len a n) ≡ true → (k : ℕ) × (p k ≡ true) × (a ≤ k) × (k < a + n)
any_range p a zero h = cc
any_range p a (suc n) h = elim (or_cases (p a) (list_any p (range_with_len (a + 1) n)) h) [
  | inl here ↦ (a, here, omega arith, omega arith)
  | inr later ↦ let rest : (k : ℕ) × (p k ≡ true) × (a + 1 ≤ k) × (k < a + 1 + n) = any_range p (a + 1) n later in (rest.0, rest.1, omega (arith, rest.2), omega (arith, rest.3))
]

pub in_any_range : (p : ℕ → Bool) (a n k : ℕ) → p k ≡ true → a ≤ k → k < a + n → list_any p (range_with_len a n) ≡ true
in_any_range p a zero k passes low high = absurd (omega arith)
in_any_range p a (suc n) k passes low high = elim (cases_Bool (p a)) [
  | inl here ↦ rw here refl
  | inr not_here ↦ elim (cases_eq k a) [
    | inl same ↦ absurd (false≢true (sym not_here ∙ subst (λ i. p i ≡ true) same passes))
    | inr apart ↦ rw not_here (in_any_range p (a + 1) n k passes (grind arith) (omega arith))
  ]
]

-- the first at which f gives something
pub first_range : {X : Type 0} (f : ℕ → Option X) (a n : ℕ) (x : X) → first_of f (range_with_len a n) ≡ Some x → (k : ℕ) × (f k ≡ Some x) × FirstIn (λ i. is_some (f i)) a n k
first_range f a zero x is = cc
first_range {X = X} f a (suc n) x is = elim (cases_Bool (is_some (f a))) [
  | inl here ↦ (a, (rw here at is), record { passes = here; from = omega arith; below = omega arith; first = λ i low high. absurd (omega arith) })
  | inr not_here ↦
      let rest : (k : ℕ) × (f k ≡ Some x) × FirstIn (λ i. is_some (f i)) (a + 1) n k = first_range f (a + 1) n x (rw not_here at is) in (
        rest.0,
        rest.1,
        record {
          passes = rest.2.passes;
          from = omega (arith, rest.2.from);
          below = omega (arith, rest.2.below);
          first = λ i low high. elim (cases_eq i a) [ inl same ↦ subst (λ j. is_some (f j) ≡ false) (sym same) not_here | inr apart ↦ rest.2.first i (next_up a i low apart) high ];
        },
      )
]
  where
    next_up : (a i : ℕ) → a ≤ i → (i ≡ a → ⊥) → a + 1 ≤ i
    next_up a i low apart = grind arith

pub firsts_range : {X : Type 0} (f : ℕ → Option X) (a n k : ℕ) → is_some (f k) ≡ true → a ≤ k → k < a + n → is_some (first_of f (range_with_len a n)) ≡ true
firsts_range f a zero k passes low high = absurd (omega arith)
firsts_range f a (suc n) k passes low high = elim (cases_Bool (is_some (f a))) [
  | inl here ↦ rw here here
  | inr not_here ↦ elim (cases_eq k a) [
    | inl same ↦ absurd (false≢true (sym not_here ∙ subst (λ i. is_some (f i) ≡ true) same passes))
    | inr apart ↦ rw not_here (firsts_range f (a + 1) n k passes (grind arith) (omega arith))
  ]
]

-- ---- lists

pub find_passes : {X : Type 0} (p : X → Bool) (xs : List X) (x : X) → find p xs ≡ Some x → p x ≡ true
find_passes p [] x h = cc
find_passes p (y ∷ ys) x h = elim (cases_Bool (p y)) [
  | inl is ↦ let first : Some y ≡ Some x = rw is at h in let same : y ≡ x = cc in subst (λ z. p z ≡ true) same is
  | inr not_y ↦ find_passes p ys x (rw not_y at h)
]

pub find-map : {X Y : Type 0} (p : Y → Bool) (h : X → Y) (xs : List X) → find p (map h xs) ≡ option_map h (find (λ x. p (h x)) xs)
find-map p h [] = refl
find-map p h (x ∷ xs) = elim (cases_Bool (p (h x))) [ inl is ↦ rw is refl | inr not_x ↦ rw not_x (find-map p h xs) ]

pub some-map : {X Y : Type 0} (h : X → Y) (o : Option X) → is_some o ≡ true → is_some (option_map h o) ≡ true
some-map h None is = is
some-map h (Some x) is = refl

found_flat : {X : Type 0} (p : X → Bool) (f : ℕ → List X) (a n k : ℕ) → is_some (find p (f k)) ≡ true → a ≤ k → k < a + n → is_some (find p (flat_map f (range_with_len a n))) ≡ true
found_flat p f a zero k is low high = absurd (omega arith)
found_flat p f a (suc n) k is low high = rw (find-append p (f a) (flat_map f (range_with_len (a + 1) n))) (elim (cases_eq k a) [
  | inl same ↦ or_first (find p (f a)) (find p (flat_map f (range_with_len (a + 1) n))) (subst (λ i. is_some (find p (f i)) ≡ true) same is)
  | inr apart ↦ or_later (find p (f a)) (find p (flat_map f (range_with_len (a + 1) n))) (found_flat p f (a + 1) n k is (grind arith) (omega arith))
])
  where
    or_first : {X : Type 0} (o q : Option X) → is_some o ≡ true → is_some (option_or o q) ≡ true
    or_first None q is = cc
    or_first (Some x) q is = refl

    or_later : {X : Type 0} (o q : Option X) → is_some q ≡ true → is_some (option_or o q) ≡ true
    or_later None q is = is
    or_later (Some x) q is = refl

-- a list that passes is among all lists of its length
pub found_list : (s n : ℕ) (p : List ℕ → Bool) (path : List ℕ) → length path ≡ n → AllByRecursion (λ g. g < s) path → p path ≡ true → is_some (find p (lists_of s n)) ≡ true
found_list s zero p [] long below passes = rw passes refl
found_list s zero p (g ∷ path) long below passes = absurd (omega arith)
found_list s (suc n) p [] long below passes = absurd (omega arith)
found_list s (suc n) p (g ∷ path) long below passes =
    found_flat p (λ g. map (λ path. g ∷ path) (lists_of s n)) 0 s g
    (rw (find-map p (λ path. g ∷ path) (lists_of s n)) (some-map (λ path. g ∷ path) (find (λ path. p (g ∷ path)) (lists_of s n)) (found_list s n (λ path. p (g ∷ path)) path (omega arith) below.1 passes)))
    (omega arith) (omega (arith, below.0))

-- what is found is of the list
find_all : {X : Type 0} (P : X → Type 0) (p : X → Bool) (xs : List X) (x : X) → AllByRecursion P xs → find p xs ≡ Some x → P x
find_all P p [] x each is = cc
find_all P p (y ∷ ys) x each is = elim (cases_Bool (p y)) [
  | inl here ↦ subst P (let e : Some y ≡ Some x = rw here at is in cc) each.0
  | inr not_here ↦ find_all P p ys x each.1 (rw not_here at is)
]

all-append : {X : Type 0} (P : X → Type 0) (xs ys : List X) → AllByRecursion P xs → AllByRecursion P ys → AllByRecursion P (xs ++ ys)
all-append P [] ys first second = second
all-append P (x ∷ xs) ys first second = (first.0, all-append P xs ys first.1 second)

all-map : {X Y : Type 0} (P : Y → Type 0) (h : X → Y) (Q : X → Type 0) → ((x : X) → Q x → P (h x)) → (xs : List X) → AllByRecursion Q xs → AllByRecursion P (map h xs)
all-map P h Q each [] all = tt
all-map P h Q each (x ∷ xs) all = (each x all.0, all-map P h Q each xs all.1)

all-flat : {X : Type 0} (P : X → Type 0) (f : ℕ → List X) → ((k : ℕ) → AllByRecursion P (f k)) → (ks : List ℕ) → AllByRecursion P (flat_map f ks)
all-flat P f each [] = tt
all-flat P f each (k ∷ ks) = all-append P (f k) (flat_map f ks) (each k) (all-flat P f each ks)

pub all_long : (s n : ℕ) → AllByRecursion (λ (path : List ℕ). length path ≡ n) (lists_of s n)
all_long s zero = (refl, tt)
all_long s (suc n) = all-flat (λ (path : List ℕ). length path ≡ suc n) (λ g. map (λ path. g ∷ path) (lists_of s n))
    (λ g. all-map (λ (path : List ℕ). length path ≡ suc n) (λ path. g ∷ path) (λ (path : List ℕ). length path ≡ n) (λ path long. ap suc long) (lists_of s n) (all_long s n)) (range_with_len 0 s)

-- and all of these lists have that length
pub length_list : (s n : ℕ) (p : List ℕ → Bool) (path : List ℕ) → find p (lists_of s n) ≡ Some path → length path ≡ n
length_list s n p path is = find_all (λ (l : List ℕ). length l ≡ n) p (lists_of s n) path (all_long s n) is

-- ---- a search over all lists goes by their first numbers

find-flat : {X : Type 0} (p : X → Bool) (f : ℕ → List X) (ks : List ℕ) → find p (flat_map f ks) ≡ first_of (λ k. find p (f k)) ks
find-flat p f [] = refl
find-flat p f (k ∷ ks) = find-append p (f k) (flat_map f ks) ∙ by_first (find p (f k)) (find p (flat_map f ks)) (first_of (λ k. find p (f k)) ks) (find-flat p f ks)
  where
    by_first : {X : Type 0} (o q r : Option X) → q ≡ r → option_or o q ≡ cond (is_some o) o r
    by_first None q r same = same
    by_first (Some x) q r same = refl

first_same : {X : Type 0} (f g : ℕ → Option X) (ks : List ℕ) → ((k : ℕ) → f k ≡ g k) → first_of f ks ≡ first_of g ks
first_same f g [] same = refl
first_same f g (k ∷ ks) same =
    let here : f k ≡ g k = same k in
    let rest : first_of f ks ≡ first_of g ks = first_same f g ks same in
    rw (here, rest) refl

pub find_lists : (s n : ℕ) (p : List ℕ → Bool) → find p (lists_of s (suc n)) ≡ first_of (λ g. option_map (λ path. g ∷ path) (find (λ path. p (g ∷ path)) (lists_of s n))) (range_with_len 0 s)
find_lists s n p = find-flat p (λ g. map (λ path. g ∷ path) (lists_of s n)) (range_with_len 0 s)
    ∙ first_same (λ g. find p (map (λ path. g ∷ path) (lists_of s n))) (λ g. option_map (λ path. g ∷ path) (find (λ path. p (g ∷ path)) (lists_of s n))) (range_with_len 0 s) (λ g. find-map p (λ path. g ∷ path) (lists_of s n))

pub first_alike : {X : Type 0} (f g : ℕ → Option X) (ks : List ℕ) → ((k : ℕ) → f k ≡ g k) → first_of f ks ≡ first_of g ks
first_alike f g ks same = first_same f g ks same
