-- Lists that are emptied into others, one entry after another.
use Rattle.std.proofs.Common.{◌≡◌, ℕ, zero, suc, ◌+◌, ◌<◌, ◌≤◌, List, [], ◌∷◌, ◌++◌, length, map, take, get_or, refl, sym, ◌∙◌, ap, subst, arith, Option, Some, length-append}
use Rattle.std.specs.Prelude.{All}
use mathlib.Core.Option.{some, some-injective, some-ne-none}
use lib.ListN.{get_elem?}
use Rattle.claim_board.specs.declared.deck.Deck.{Deck}
use Rattle.claim_board.specs.declared.pass.Pass.{Pass}
use Rattle.claim_board.specs.Deck.{AreDealt, IsDealt}
use Rattle.qccd_program.specs.Program.{ProgramData}

pub elem-or : {A : Type 0} (xs : List A) (i : ℕ) (x d : A) → get_elem? xs i ≡ some x → (i < length xs) × (get_or xs i d ≡ x)
elem-or [] i x d at = absurd (some-ne-none x (sym at))
elem-or (y ∷ xs) zero x d at = (omega arith, some-injective y x at)
elem-or (y ∷ xs) (suc i) x d at = let rest = elem-or xs i x d at in (omega (arith, rest.0), rest.1)

pub full-slot : {A : Type 0} (xs : List A) (i : ℕ) (o : Option A) → get_elem? (map Some xs) i ≡ some o → (x : A) × (o ≡ Some x)
full-slot [] i o at = absurd (some-ne-none o (sym at))
full-slot (y ∷ xs) zero o at = (y, sym (some-injective (Some y) o at))
full-slot (y ∷ xs) (suc i) o at = full-slot xs i o at

take_suc : {A : Type 0} (xs : List A) (i : ℕ) (x : A) → get_elem? xs i ≡ some x → take (suc i) xs ≡ take i xs ++ x ∷ []
take_suc [] i x at = absurd (some-ne-none x (sym at))
take_suc (y ∷ xs) zero x at = ap (λ (z : _). z ∷ []) (some-injective y x at)
take_suc (y ∷ xs) (suc i) x at = ap (λ (zs : List _). y ∷ zs) (take_suc xs i x at)

pub take-more : {A : Type 0} (xs : List A) (i : ℕ) (x : A) → get_elem? xs i ≡ some x → take (i + 1) xs ≡ take i xs ++ x ∷ []
take-more xs i x at = ap (λ (m : ℕ). take m xs) (one i) ∙ take_suc xs i x at
  where
    one : (n : ℕ) → n + 1 ≡ suc n
    one n = omega arith

pub take-le : {A : Type 0} (n : ℕ) (xs : List A) → length (take n xs) ≤ n
take-le zero xs = omega arith
take-le (suc n) [] = omega arith
take-le (suc n) (x ∷ xs) = omega (arith, take-le n xs)

-- an entry in the middle
middle : {A : Type 0} (xs ys : List A) (x d : A) → get_or (xs ++ x ∷ ys) (length xs) d ≡ x
middle [] ys x d = refl
middle (z ∷ xs) ys x d = middle xs ys x d

pub append-one : {A : Type 0} (xs ys : List A) (x : A) → (xs ++ x ∷ []) ++ ys ≡ xs ++ x ∷ ys
append-one [] ys x = refl
append-one (z ∷ xs) ys x = ap (λ (zs : List _). z ∷ zs) (append-one xs ys x)

pub all-middle : {A : Type 0} (P : A → Type 0) (all xs ys zs : List A) (x : A) → All P all → all ≡ xs ++ zs → xs ≡ ys ++ x ∷ [] → P x
all-middle P all xs ys zs x h is at =
    let same : all ≡ ys ++ x ∷ zs = is ∙ ap (λ (w : List _). w ++ zs) at ∙ append-one ys zs x in
    let here : All P (ys ++ x ∷ zs) = subst (All P) same h in
    subst P (middle ys zs x x) (here (length ys) x (omega (arith, length-append ys (x ∷ zs))))

-- one pass more
pub dealt-more : (deck : Deck) (p : ProgramData) (n m : ℕ) (qs : List Pass) (q : Pass) → AreDealt deck p n qs → m ≡ n + length qs → IsDealt deck p m q → AreDealt deck p n (qs ++ q ∷ [])
dealt-more deck p n m [] q h is d = (subst (λ (k : ℕ). IsDealt deck p k q) (omega (arith, is)) d, tt)
dealt-more deck p n m (x ∷ qs) q h is d = (h.0, dealt-more deck p (n + 1) m qs q h.1 (omega (arith, is)) d)
