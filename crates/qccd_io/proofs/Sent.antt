-- What was sent where texts were sent one after another.
use Rattle.std.proofs.Common.{◌≡◌, ℕ, suc, ◌<◌, ◌≤◌, List, [], ◌++◌, length, take, get_or, sym, ◌∙◌, ap, subst, Option, Result, Ok, Err, IsErrAnd, refl, arith}
use Rattle.std.specs.Prelude.{flat_map, OnOk, OnErr}
use Rattle.qccd_io.specs.Faults.{Rose}
use Rattle.qccd_io.specs.Sends.{Sends}
use Rattle.qccd_io.specs.Sink.{appended, known_length, Behind, Further}
use Rattle.qccd_io.proofs.Appended.{appended-nothing, appended-twice, prefix-handed}
use Rattle.qccd_io.proofs.Exits.{failed-first, failed-second, failed-flat}

-- nothing was sent
pub sent_nothing : {X T E : Type 0} {taken : X → Option (List ℕ)} {faults : X → ℕ} {behind : X → Behind} {old : X} (t : T)
    → Sends {E = E} taken faults behind old old (Ok t) []
sent_nothing {taken = taken} {old = old} t = record {
  ok = sym (appended-nothing (taken old));
  err = tt;
  count = omega arith;
  further = (refl, omega arith);
}

-- a text was sent, and then the next, maybe not whole
pub sent_next : {X T U E : Type 0} {taken : X → Option (List ℕ)} {faults : X → ℕ} {behind : X → Behind} {old mid new : X} {t : T} (r : Result U E) (text more : List ℕ)
    → Sends {E = E} taken faults behind old mid (Ok t) text → Sends taken faults behind mid new r more → Sends taken faults behind old new r (text ++ more)
sent_next {taken = taken} (Ok u) text more first next = record {
  ok = next.ok ∙ ap (λ (bytes : Option (List ℕ)). appended bytes more) first.ok ∙ appended-twice _ text more;
  err = tt;
  count = omega (arith, first.count, next.count);
  further = (next.further.0 ∙ first.further.0, omega (arith, first.further.1, next.further.1));
}
sent_next (Err e) text more first next = record {
  ok = tt;
  err = failed-second _ _ _ _ _ _ text more first.ok first.count next.count next.err;
  count = omega (arith, first.count, next.count);
  further = (next.further.0 ∙ first.further.0, omega (arith, first.further.1, next.further.1));
}

-- a text was not sent whole, and what follows it not at all
pub sent_short : {X T U E : Type 0} {taken : X → Option (List ℕ)} {faults : X → ℕ} {behind : X → Behind} {old new : X} {e : E} (r : Result U E) (text more : List ℕ)
    → Sends {T = T} taken faults behind old new (Err e) text → IsErrAnd r (λ y. y ≡ e) → Sends taken faults behind old new r (text ++ more)
sent_short (Ok u) text more first same = absurd same
sent_short (Err y) text more first same = record {
  ok = tt;
  err = failed-first _ _ _ _ text more first.err;
  count = first.count;
  further = first.further;
}

-- the last text was not sent whole
pub sent_last : {X T U E : Type 0} {taken : X → Option (List ℕ)} {faults : X → ℕ} {behind : X → Behind} {old new : X} {e : E} (r : Result U E) (text : List ℕ)
    → Sends {T = T} taken faults behind old new (Err e) text → IsErrAnd r (λ y. y ≡ e) → Sends taken faults behind old new r text
sent_last (Ok u) text first same = absurd same
sent_last (Err y) text first same = record { ok = tt; err = first.err; count = first.count; further = first.further }

-- the texts of a list of things were sent up to the one at i, which was not sent whole
pub sent_flat : {X A T U V E : Type 0} {taken : X → Option (List ℕ)} {faults : X → ℕ} {behind : X → Behind} {old mid new : X} {t : T} {e : E}
    (f : A → List ℕ) (xs : List A) (i : ℕ) (d : A) (r : Result V E) → i < length xs
    → Sends {E = E} taken faults behind old mid (Ok t) (flat_map f (take i xs)) → Sends {T = U} taken faults behind mid new (Err e) (f (get_or xs i d))
    → IsErrAnd r (λ y. y ≡ e) → Sends taken faults behind old new r (flat_map f xs)
sent_flat f xs i d (Ok v) within first next same = absurd same
sent_flat f xs i d (Err y) within first next same = record {
  ok = tt;
  err = failed-flat f xs i d within _ _ _ _ _ _ first.ok first.count next.count next.err;
  count = omega (arith, first.count, next.count);
  further = (next.further.0 ∙ first.further.0, omega (arith, first.further.1, next.further.1));
}

-- what waited was handed on, maybe not all of it
pub sent_handed : {X T E : Type 0} {taken : X → Option (List ℕ)} {faults : X → ℕ} {behind : X → Behind} {old new : X} (r : Result T E) (waiting text : List ℕ)
    → appended (taken new) waiting ≡ appended (taken old) text → known_length (taken old) ≤ known_length (taken new) → OnOk r (waiting ≡ [])
    → OnErr r (Rose (faults old) (faults new)) → faults old ≤ faults new → Further (behind old) (behind new) → Sends taken faults behind old new r text
sent_handed {taken = taken} {new = new} (Ok t) waiting text handed grown done rose count further = record {
  ok = sym (appended-nothing (taken new)) ∙ ap (appended (taken new)) (sym done) ∙ handed;
  err = tt;
  count = count;
  further = further;
}
sent_handed (Err e) waiting text handed grown done rose count further = record {
  ok = tt;
  err = (prefix-handed _ _ waiting text handed grown, rose);
  count = count;
  further = further;
}
