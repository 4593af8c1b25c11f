-- A value for each in turn is made of those before it.
use Rattle.std.proofs.Common.{◌≡◌, ℕ, zero, suc, ◌+◌, ◌<◌, ◌≤◌, List, [], ◌∷◌, ◌++◌, length, take, get_or, refl, sym, ◌∙◌, ap, subst, arith, length-append}
use Rattle.std.proofs.lemmas.List.{take_all, take-take, take_at, get_or-take}
use Rattle.gate_defs.specs.Meaning.{each_from}

-- what is done stays in front
pub front : {A B : Type 0} (f : List A → B → A) (done : List A) (ds : List B) → take (length done) (each_from f done ds) ≡ done
front f done [] = take_all (length done) done (omega arith)
front {A = A} f done (d ∷ ds) =
    let more = done ++ f done d ∷ [] in
    let all = each_from f more ds in
    let longer : length done ≤ length more = omega (arith, length-append done (f done d ∷ [])) in
    sym (take-take (length done) (length more) all longer)
    ∙ ap (λ (l : List A). take (length done) l) (front f more ds)
    ∙ take_at done (f done d ∷ []) (length done) refl

last_of : {A : Type 0} (l : List A) (a x : A) → get_or (l ++ a ∷ []) (length l) x ≡ a
last_of [] a x = refl
last_of (b ∷ l) a x = last_of l a x

pub at : {A B : Type 0} (f : List A → B → A) (done : List A) (ds : List B) (i : ℕ) (x : A) (y : B) → i < length ds
    → get_or (each_from f done ds) (length done + i) x ≡ f (take (length done + i) (each_from f done ds)) (get_or ds i y)
at f done [] i x y below = absurd (omega (arith, below))
at {A = A} {B = B} f done (d ∷ ds) zero x y below =
    let more = done ++ f done d ∷ [] in
    let all = each_from f more ds in
    let within : length done < length more = omega (arith, length-append done (f done d ∷ [])) in
    let same : length done + 0 ≡ length done = omega arith in
    subst (λ (n : ℕ). get_or all n x ≡ f (take n all) d) (sym same)
    (sym (get_or-take (length more) all (length done) x within)
    ∙ ap (λ (l : List A). get_or l (length done) x) (front f more ds)
    ∙ last_of done (f done d) x
    ∙ ap (λ (l : List A). f l d) (sym (front f done (d ∷ ds))))
at {A = A} {B = B} f done (d ∷ ds) (suc i) x y below =
    let more = done ++ f done d ∷ [] in
    let all = each_from f more ds in
    let same : length more + i ≡ length done + suc i = omega (arith, length-append done (f done d ∷ [])) in
    subst (λ (n : ℕ). get_or all n x ≡ f (take n all) (get_or ds i y)) same (at f more ds i x y (omega (arith, below)))

pub long : {A B : Type 0} (f : List A → B → A) (done : List A) (ds : List B) → length (each_from f done ds) ≡ length done + length ds
long f done [] = omega arith
long f done (d ∷ ds) = omega (arith, long f (done ++ f done d ∷ []) ds, length-append done (f done d ∷ []))

-- from nothing on
pub turn : {A B : Type 0} (f : List A → B → A) (ds : List B) (i : ℕ) (x : A) (y : B) → i < length ds
    → get_or (each_from f [] ds) i x ≡ f (take i (each_from f [] ds)) (get_or ds i y)
turn {A = A} f ds i x y below =
    let same : 0 + i ≡ i = omega arith in
    subst (λ (n : ℕ). get_or (each_from f [] ds) n x ≡ f (take n (each_from f [] ds)) (get_or ds i y)) same (at f [] ds i x y below)
