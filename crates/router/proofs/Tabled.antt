-- Tables over all traps: one entry more, and an entry read.
use Rattle.std.proofs.Common.{◌≡◌, ℕ, ◌+◌, ◌<◌, List, [], ◌∷◌, ◌++◌, map, length, get_or, sym, ◌∙◌, ap, arith, Some}
use Rattle.std.specs.Prelude.{slice_get}
use Rattle.std.specs.List.{range_with_len}
use Rattle.std.proofs.lemmas.List.FromFn.{map-range_with_len_more, get_or-map-range_with_len, length-map-range_with_len}
use Rattle.std.proofs.lemmas.Option.{same_Some, slice_get-get_or}

-- one entry more
pub entry_more : {X : Type 0} (f : ℕ → X) (n : ℕ) (old new : List X) (x : X) → old ≡ map f (range_with_len 0 n) → new ≡ old ++ x ∷ [] → x ≡ f n → new ≡ map f (range_with_len 0 (n + 1))
entry_more f n old new x before more is =
    let at : 0 + n ≡ n = omega arith in
    more ∙ ap (λ xs. xs ++ x ∷ []) before ∙ ap (λ y. map f (range_with_len 0 n) ++ y ∷ []) is ∙ sym (map-range_with_len_more f 0 n n at)

-- the entry of a number
pub entry : {X : Type 0} (f : ℕ → X) (n i : ℕ) → i < n → slice_get (map f (range_with_len 0 n)) i ≡ Some (f i)
entry f n i less =
    let at : 0 + i ≡ i = omega arith in
    slice_get-get_or (map f (range_with_len 0 n)) i (f i) (omega (arith, length-map-range_with_len f 0 n, less)) ∙ ap (λ x. Some x) (get_or-map-range_with_len f 0 n i i (f i) less at)

pub entries : {X : Type 0} (f : ℕ → X) (n : ℕ) → length (map f (range_with_len 0 n)) ≡ n
entries f n = length-map-range_with_len f 0 n

-- what is read of a table is the entry
pub entry_at : {X : Type 0} (f : ℕ → X) (n i j : ℕ) (xs : List X) (x : X) → xs ≡ map f (range_with_len 0 n) → j ≡ i → i < n → x ≡ get_or xs j x → x ≡ f i
entry_at f n i j xs x table at less is =
    let same : 0 + i ≡ i = omega arith in
    is ∙ ap (λ ys. get_or ys j x) table ∙ ap (λ k. get_or (map f (range_with_len 0 n)) k x) at ∙ get_or-map-range_with_len f 0 n i i x less same

pub entry_got : {X : Type 0} (f : ℕ → X) (n i : ℕ) (xs : List X) (x : X) → xs ≡ map f (range_with_len 0 n) → i < n → slice_get xs i ≡ Some x → x ≡ f i
entry_got f n i xs x table less is = same_Some x (f i) (sym is ∙ ap (λ ys. slice_get ys i) table ∙ entry f n i less)

pub table_long : {X : Type 0} (f : ℕ → X) (n i : ℕ) (xs : List X) → xs ≡ map f (range_with_len 0 n) → i < n → i < length xs
table_long f n i xs table less = omega (arith, ap length table, entries f n, less)
