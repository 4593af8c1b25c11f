-- Texts that are sent one for each thing of a list.
use Rattle.std.proofs.Common.{◌≡◌, ℕ, suc, ◌+◌, ◌<◌, min, List, [], ◌∷◌, ◌++◌, zip, length, take, get_or, Option, Ok, Err, refl, sym, ap, ◌∙◌, subst, arith}
use Rattle.std.specs.Prelude.{flat_map}
use Rattle.std.specs.List.{join_with_byte}
use Rattle.std.proofs.Math.Seq.{take-suc, take-length}
use Rattle.std.proofs.lemmas.Grind.{flat_map-append}
use Rattle.std.proofs.lemmas.Slice.Zip.{get_or-zip, length-zip}
use Rattle.std.proofs.lemmas.List.{append-nil}
use Rattle.qccd_io.specs.Sends.{Sends}
use Rattle.qccd_io.specs.Sink.{Behind}
use Rattle.qccd_io.proofs.Sent.{sent_next, sent_short}

-- the text of one thing more
pub flat_more : {A : Type 0} (f : A → List ℕ) (xs : List A) (i : ℕ) (d : A) → i < length xs → flat_map f (take i xs) ++ f (get_or xs i d) ≡ flat_map f (take (i + 1) xs)
flat_more f xs i d within =
    let n : i + 1 ≡ suc i = omega arith in
    sym (ap (flat_map f) (ap (λ (n : ℕ). take n xs) n ∙ take-suc xs i d within) ∙ flat_map-append f (take i xs) (get_or xs i d ∷ []) ∙ ap (λ (t : List ℕ). flat_map f (take i xs) ++ t) (append-nil (f (get_or xs i d))))

pub sent_more : {X A T U E : Type 0} {taken : X → Option (List ℕ)} {faults : X → ℕ} {behind : X → Behind} {old mid new : X} {t : T} {u : U} (f : A → List ℕ) (xs : List A) (i : ℕ) (d : A) → i < length xs
    → Sends {E = E} taken faults behind old mid (Ok t) (flat_map f (take i xs)) → Sends {E = E} taken faults behind mid new (Ok u) (f (get_or xs i d))
    → Sends {E = E} taken faults behind old new (Ok u) (flat_map f (take (i + 1) xs))
sent_more {E = E} {taken = taken} {faults = faults} {behind = behind} {old = old} {new = new} {u = u} f xs i d within first next =
    subst (λ (text : List ℕ). Sends {E = E} taken faults behind old new (Ok u) text) (flat_more f xs i d within) (sent_next (Ok u) (flat_map f (take i xs)) (f (get_or xs i d)) first next)

-- two lists of one length in step
pub zip_at : {A B : Type 0} (xs : List A) (ys : List B) (i : ℕ) (d : A) (e : B) → length ys ≡ length xs → i < length xs
    → (i < length (zip xs ys)) × (get_or (zip xs ys) i (d, e) ≡ (get_or xs i d, get_or ys i e))
zip_at xs ys i d e same within =
    let below : i < length ys = omega (arith, same) in
    let least : i < min (length xs) (length ys) = omega (arith, below, within) in
    (subst (λ (n : ℕ). i < n) (sym (length-zip xs ys)) least, get_or-zip xs ys i (d, e) within below)

pub take_zip : {A B : Type 0} (xs : List A) (ys : List B) (i : ℕ) → length ys ≡ length xs → i ≡ length xs → take i (zip xs ys) ≡ zip xs ys
take_zip xs ys i same is =
    let both : min (length xs) (length ys) ≡ i = omega (arith, same, is) in
    let n : i ≡ length (zip xs ys) = sym (length-zip xs ys ∙ both) in
    subst (λ (k : ℕ). take k (zip xs ys) ≡ zip xs ys) (sym n) (take-length (zip xs ys))

-- things behind the first, each behind a byte
pub join_rest : (c : ℕ) (first : List ℕ) (more : List (List ℕ)) → join_with_byte c (first ∷ more) ≡ first ++ flat_map (λ text. c ∷ text) more
join_rest c first [] = sym (append-nil first)
join_rest c first (next ∷ more) = ap (λ (text : List ℕ). first ++ c ∷ text) (join_rest c next more)

-- what follows a text that was not sent whole was not sent
pub sent_grown : {X T E : Type 0} {taken : X → Option (List ℕ)} {faults : X → ℕ} {behind : X → Behind} {old new : X} {e : E} (text more : List ℕ)
    → Sends {T = T} taken faults behind old new (Err e) text → Sends {T = T} taken faults behind old new (Err e) (text ++ more)
sent_grown {e = e} text more failed = sent_short (Err e) text more failed refl
