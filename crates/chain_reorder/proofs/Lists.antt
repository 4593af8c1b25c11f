-- Lists under a map that a test sees through.
use Rattle.std.proofs.Common.{◌≡◌, suc, ◌+◌, Bool, true, false, cond, ◌||◌, List, [], ◌∷◌, map, length, refl, sym, ◌∙◌, ap, arith, Option, Some, None, inl, inr}
use Rattle.std.specs.Prelude.{count_by, find, filter, option_map}
use Rattle.std.proofs.lemmas.List.Sums.{sum_by-cons, length-filter}
use Rattle.std.proofs.lemmas.Bool.{cases_Bool}
use Rattle.chain_reorder.specs.Layout.{listed}

pub count_by-cons : {X : Type 0} (p : X → Bool) (x : X) (xs : List X) → count_by p (x ∷ xs) ≡ cond (p x) 1 0 + count_by p xs
count_by-cons p x xs = sum_by-cons (λ y. cond (p y) 1 0) x xs

-- a count through a map that the test does not see
pub count_seen : {X : Type 0} (p : X → Bool) (f : X → X) (xs : List X) → ((x : X) → p (f x) ≡ p x) → count_by p (map f xs) ≡ count_by p xs
count_seen p f [] same = refl
count_seen p f (x ∷ xs) same =
    let e : p (f x) ≡ p x = same x in
    let ih : count_by p (map f xs) ≡ count_by p xs = count_seen p f xs same in
    count_by-cons p (f x) (map f xs) ∙ rw (e, ih) refl ∙ sym (count_by-cons p x xs)

-- a count through a map by which another test is added
pub count_more : {X : Type 0} (p q : X → Bool) (f : X → X) (xs : List X) → ((x : X) → cond (p (f x)) 1 0 ≡ cond (p x) 1 0 + cond (q x) 1 0) → count_by p (map f xs) ≡ count_by p xs + count_by q xs
count_more p q f [] same = refl
count_more p q f (x ∷ xs) same =
    let e : cond (p (f x)) 1 0 ≡ cond (p x) 1 0 + cond (q x) 1 0 = same x in
    let ih : count_by p (map f xs) ≡ count_by p xs + count_by q xs = count_more p q f xs same in
    omega (arith, count_by-cons p (f x) (map f xs), count_by-cons p x xs, count_by-cons q x xs)

-- and by which it is taken away
pub count_less : {X : Type 0} (p q : X → Bool) (f : X → X) (xs : List X) → ((x : X) → cond (p (f x)) 1 0 + cond (q x) 1 0 ≡ cond (p x) 1 0) → count_by p (map f xs) + count_by q xs ≡ count_by p xs
count_less p q f [] same = refl
count_less p q f (x ∷ xs) same =
    let e : cond (p (f x)) 1 0 + cond (q x) 1 0 ≡ cond (p x) 1 0 = same x in
    let ih : count_by p (map f xs) + count_by q xs ≡ count_by p xs = count_less p q f xs same in
    omega (arith, count_by-cons p (f x) (map f xs), count_by-cons p x xs, count_by-cons q x xs)

pub filter_none : {X : Type 0} (p : X → Bool) (xs : List X) → ((x : X) → p x ≡ false) → filter p xs ≡ []
filter_none p [] none = refl
filter_none p (x ∷ xs) none = rw (none x) (filter_none p xs none)

-- what passes a test after a map is what passed q or r before it; nothing passed r; the views agree
pub seen : {X Z : Type 0} (v u : X → Z) (p q r : X → Bool) (f : X → X) (xs : List X) → ((x : X) → p (f x) ≡ (q x || r x)) → filter r xs ≡ [] → ((x : X) → q x ≡ true → v (f x) ≡ u x)
    → map v (filter p (map f xs)) ≡ map u (filter q xs)
seen v u p q r f [] test none view = refl
seen {X} {Z} v u p q r f (x ∷ xs) test none view = elim (cases_Bool (r x)) [
  | inl is ↦ absurd (let bad : x ∷ filter r xs ≡ [] = rw is at none in cc)
  | inr not_r ↦
      let none' : filter r xs ≡ [] = rw not_r at none in
      let ih : map v (filter p (map f xs)) ≡ map u (filter q xs) = seen v u p q r f xs test none' view in
      elim (cases_Bool (q x)) [
        | inl is ↦
            let here : p (f x) ≡ true = test x ∙ rw (is) refl in
            let same : v (f x) ≡ u x = view x is in
            rw (here, is, same, ih) refl
        | inr not_q ↦
            let here : p (f x) ≡ false = test x ∙ rw (not_q, not_r) refl in
            rw (here, not_q, ih) refl
      ]
]

map_nothing : {X Z : Type 0} (v : X → Z) (xs : List X) → map v xs ≡ [] → xs ≡ []
map_nothing v [] h = refl
map_nothing v (x ∷ xs) h = cc

pub nothing_from : {X Z : Type 0} (v : X → Z) (p : X → Bool) (xs : List X) → map v (filter p xs) ≡ [] → filter p xs ≡ []
nothing_from v p xs h = map_nothing v (filter p xs) h

-- what is found is the first that passes
pub found : {X Z : Type 0} (v : X → Z) (p : X → Bool) (xs : List X) (o : Option Z) → map v (filter p xs) ≡ listed o → option_map v (find p xs) ≡ o
found v p [] None h = refl
found v p [] (Some z) h = cc
found v p (x ∷ xs) o h = elim (cases_Bool (p x)) [
  | inl is ↦ found_first v p x xs o is (rw is at h)
  | inr not_x ↦ rw not_x (found v p xs o (rw not_x at h))
]
  where
    found_first : {X Z : Type 0} (v : X → Z) (p : X → Bool) (x : X) (xs : List X) (o : Option Z) → p x ≡ true → map v (x ∷ filter p xs) ≡ listed o → option_map v (find p (x ∷ xs)) ≡ o
    found_first v p x xs None is h = cc
    found_first v p x xs (Some z) is h = rw is (let same : v x ≡ z = cc in cc)

length_map : {X Z : Type 0} (v : X → Z) (ys : List X) → length ys ≡ length (map v ys)
length_map v [] = refl
length_map v (y ∷ ys) = ap suc (length_map v ys)

pub counted : {X Z : Type 0} (v : X → Z) (p : X → Bool) (xs : List X) (o : Option Z) → map v (filter p xs) ≡ listed o → count_by p xs ≡ length (listed o)
counted v p xs o h = sym (length-filter p xs) ∙ length_map v (filter p xs) ∙ ap length h
