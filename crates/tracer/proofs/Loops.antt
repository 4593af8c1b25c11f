-- Texts that are sent one for each thing of a list, where the thing at a place is known.
use Rattle.std.proofs.Common.{◌≡◌, ℕ, zero, suc, ◌+◌, ◌<◌, ◌≤◌, List, [], ◌∷◌, length, take, Option, Some, Result, Ok, Err, IsErrAnd, refl, sym, ap, ◌∙◌, subst, arith}
use Rattle.std.specs.Prelude.{flat_map, slice_get}
use Rattle.std.specs.List.{enumerate_from, range_with_len}
use Rattle.std.proofs.lemmas.Option.{get_or_from_slice_get, slice_get_within, none-some}
use Rattle.std.proofs.lemmas.List.{take_all}
use Rattle.qccd_io.specs.Sends.{Sends}
use Rattle.qccd_io.specs.Sink.{Behind}
use Rattle.qccd_io.proofs.Sent.{sent_flat}
use Rattle.op_text.proofs.Sending.{sent_more}

-- what was sent, said otherwise
pub sent_as : {X T E : Type 0} {taken : X → Option (List ℕ)} {faults : X → ℕ} {behind : X → Behind} {old new : X} {r : Result T E} {text other : List ℕ} → text ≡ other
    → Sends taken faults behind old new r text → Sends taken faults behind old new r other
sent_as {taken = taken} {faults = faults} {behind = behind} {old = old} {new = new} {r = r} same sent =
    subst (λ (bytes : List ℕ). Sends taken faults behind old new r bytes) same sent

-- the text of the thing at the place too
pub more_sent : {X A T U E : Type 0} {taken : X → Option (List ℕ)} {faults : X → ℕ} {behind : X → Behind} {old mid new : X} {t : T} {u : U} (f : A → List ℕ) (xs : List A) (i : ℕ) (x : A) → slice_get xs i ≡ Some x
    → Sends {E = E} taken faults behind old mid (Ok t) (flat_map f (take i xs)) → Sends {E = E} taken faults behind mid new (Ok u) (f x)
    → Sends {E = E} taken faults behind old new (Ok u) (flat_map f (take (i + 1) xs))
more_sent {A = A} {E = E} {taken = taken} {faults = faults} {behind = behind} {mid = mid} {new = new} {u = u} f xs i x is first next =
    sent_more f xs i x (slice_get_within xs i x is) first (subst (λ (y : A). Sends {E = E} taken faults behind mid new (Ok u) (f y)) (sym (get_or_from_slice_get xs i x x is)) next)

-- the thing at the place was not sent whole
pub part_sent : {X A T U V E : Type 0} {taken : X → Option (List ℕ)} {faults : X → ℕ} {behind : X → Behind} {old mid new : X} {t : T} {e : E}
    (f : A → List ℕ) (xs : List A) (i : ℕ) (x : A) (r : Result V E) → slice_get xs i ≡ Some x
    → Sends {E = E} taken faults behind old mid (Ok t) (flat_map f (take i xs)) → Sends {T = U} taken faults behind mid new (Err e) (f x)
    → IsErrAnd r (λ y. y ≡ e) → Sends taken faults behind old new r (flat_map f xs)
part_sent {A = A} {U = U} {taken = taken} {faults = faults} {behind = behind} {mid = mid} {new = new} {e = e} f xs i x r is first next same =
    sent_flat f xs i x r (slice_get_within xs i x is) first (subst (λ (y : A). Sends {T = U} taken faults behind mid new (Err e) (f y)) (sym (get_or_from_slice_get xs i x x is)) next) same

-- all were
pub all_sent : {X A T E : Type 0} {taken : X → Option (List ℕ)} {faults : X → ℕ} {behind : X → Behind} {old new : X} {t : T} (f : A → List ℕ) (xs : List A) (i : ℕ) → length xs ≤ i
    → Sends {E = E} taken faults behind old new (Ok t) (flat_map f (take i xs)) → Sends {E = E} taken faults behind old new (Ok t) (flat_map f xs)
all_sent {A = A} {E = E} {taken = taken} {faults = faults} {behind = behind} {old = old} {new = new} {t = t} f xs i far sent =
    subst (λ (ys : List A). Sends {E = E} taken faults behind old new (Ok t) (flat_map f ys)) (take_all i xs far) sent

-- whatever is given back beside it
pub sent_giving : {X T U E : Type 0} {taken : X → Option (List ℕ)} {faults : X → ℕ} {behind : X → Behind} {old new : X} {t : T} {u : U} {text : List ℕ}
    → Sends {E = E} taken faults behind old new (Ok t) text → Sends {E = E} taken faults behind old new (Ok u) text
sent_giving sent = record { ok = sent.ok; err = sent.err; count = sent.count; further = sent.further }

pub sent_plain : {X T E : Type 0} {taken : X → Option (List ℕ)} {faults : X → ℕ} {behind : X → Behind} {old new : X} {t : T} {text : List ℕ}
    → Sends {E = E} taken faults behind old new (Ok t) text → Sends {T = Unit {0}} {E = E} taken faults behind old new (Ok (tt {0})) text
sent_plain sent = sent_giving sent

-- the number at a place of a range, and the thing with its number
in_range : (a n i : ℕ) → i < n → slice_get (range_with_len a n) i ≡ Some (a + i)
in_range a zero i h = absurd (omega arith)
in_range a (suc n) zero h = let e : a ≡ a + 0 = omega arith in ap Some e
in_range a (suc n) (suc i) h = let e : a + 1 + i ≡ a + suc i = omega arith in in_range (a + 1) n i (omega arith) ∙ ap Some e

pub range_at : (n i : ℕ) → i < n → slice_get (range_with_len 0 n) i ≡ Some i
range_at n i h = let e : 0 + i ≡ i = omega arith in in_range 0 n i h ∙ ap Some e

pub range_long : (a n : ℕ) → length (range_with_len a n) ≡ n
range_long a zero = refl
range_long a (suc n) = ap suc (range_long (a + 1) n)

numbered_from : {A : Type 0} (a : ℕ) (xs : List A) (i : ℕ) (x : A) → slice_get xs i ≡ Some x → slice_get (enumerate_from a xs) i ≡ Some (a + i, x)
numbered_from a [] i x is = absurd (none-some x is)
numbered_from {A} a (y ∷ ys) zero x is =
    let e : a ≡ a + 0 = omega arith in
    ap (λ (n : ℕ). Some (n, y)) e ∙ ap (λ (o : A). Some (a + 0, o)) (Rattle.std.proofs.lemmas.Option.same_Some y x is)
numbered_from {A} a (y ∷ ys) (suc i) x is =
    let e : a + 1 + i ≡ a + suc i = omega arith in
    numbered_from (a + 1) ys i x is ∙ ap (λ (n : ℕ). Some (n, x)) e

pub numbered_at : {A : Type 0} (xs : List A) (i : ℕ) (x : A) → slice_get xs i ≡ Some x → slice_get (enumerate_from 0 xs) i ≡ Some (i, x)
numbered_at {A} xs i x is = let e : 0 + i ≡ i = omega arith in numbered_from 0 xs i x is ∙ ap (λ (n : ℕ). Some (n, x)) e
