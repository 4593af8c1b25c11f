-- What an item more at the front of a list changes in what overtakes.
use Rattle.std.proofs.Common.{◌≡◌, ℕ, zero, suc, ◌<◌, ◌≤◌, List, [], ◌∷◌, Option, Some, None, refl, sym, ap, subst, arith}
use Rattle.std.specs.Prelude.{slice_get, IfNone, IfSome, IsTrue}
use Rattle.std.proofs.lemmas.Option.{same_Some, none-some}
use Rattle.qccd_circuit.specs.Item.{ItemData}
use Rattle.qccd_circuit.specs.Sharing.{shares}
use Rattle.meaning_check.specs.Least.{no_number, least_of}
use Rattle.meaning_check.specs.Verdict.{Overtakes, IsFirstToOvertake, NoneOvertakes}
use Rattle.meaning_check.proofs.Leasts.{least_below, least_there}

-- what was found in a list: the first that overtakes and the least that it does, or that none does
pub record Found (list : List (ℕ × ItemData)) (found : Option (ℕ × ℕ)) : Type 0 where
  pub none : IfNone found (NoneOvertakes list)
  pub some : IfSome found (λ x. IsFirstToOvertake list x.0 x.1)

pub found_nothing : Found [] None
found_nothing = record { none = λ k i j o. absurd (none-some (j, o.b) o.second_at); some = tt }

-- ---- one item more

pub further : (e : ℕ × ItemData) (list : List (ℕ × ItemData)) (k i j : ℕ) → Overtakes list k i j → Overtakes (e ∷ list) (suc k) i j
further e list k i j o = record {
  behind = suc o.behind;
  a = o.a;
  b = o.b;
  second_at = o.second_at;
  first_at = o.first_at;
  after = omega (arith, o.after);
  smaller = o.smaller;
  share = o.share;
}

nearer_at : (e : ℕ × ItemData) (list : List (ℕ × ItemData)) (k i j p : ℕ) (a b : ItemData) → slice_get list k ≡ Some (j, b) → slice_get (e ∷ list) p ≡ Some (i, a)
    → suc k < p → i < j → IsTrue (shares a b) → Overtakes list k i j
nearer_at e list k i j zero a b second_at first_at after smaller share = absurd (omega (arith, after))
nearer_at e list k i j (suc p) a b second_at first_at after smaller share = record {
  behind = p;
  a = a;
  b = b;
  second_at = second_at;
  first_at = first_at;
  after = omega (arith, after);
  smaller = smaller;
  share = share;
}

pub nearer : (e : ℕ × ItemData) (list : List (ℕ × ItemData)) (k i j : ℕ) → Overtakes (e ∷ list) (suc k) i j → Overtakes list k i j
nearer e list k i j o = nearer_at e list k i j o.behind o.a o.b o.second_at o.first_at o.after o.smaller o.share

-- ---- the item at the front

sharing_below : (e : ℕ × ItemData) (list : List (ℕ × ItemData)) (i p : ℕ) (a : ItemData) → slice_get (e ∷ list) p ≡ Some (i, a) → 0 < p → IsTrue (shares a e.1)
    → least_of (λ d. shares d e.1) list ≤ i
sharing_below e list i zero a first_at after share = absurd (omega (arith, after))
sharing_below e list i (suc p) a first_at after share = least_below (λ d. shares d e.1) list p i a first_at share

-- what it overtakes is not below the least that shares with it
pub front_below : (e : ℕ × ItemData) (list : List (ℕ × ItemData)) (i j : ℕ) → Overtakes (e ∷ list) 0 i j → (j ≡ e.0) × (least_of (λ d. shares d e.1) list ≤ i)
front_below e list i j o =
    let same : e ≡ (j, o.b) = same_Some e (j, o.b) o.second_at in
    let share : IsTrue (shares o.a e.1) = subst (λ (x : ℕ × ItemData). IsTrue (shares o.a x.1)) (sym same) o.share in
    (sym (ap (λ (x : ℕ × ItemData). x.0) same), sharing_below e list i o.behind o.a o.first_at o.after share)

-- and where that is less, it overtakes it
pub front_overtakes : (e : ℕ × ItemData) (list : List (ℕ × ItemData)) → least_of (λ d. shares d e.1) list < e.0 → least_of (λ d. shares d e.1) list < no_number
    → Overtakes (e ∷ list) 0 (least_of (λ d. shares d e.1) list) e.0
front_overtakes e list less low =
    let r = least_there (λ d. shares d e.1) list low in
    record {
      behind = suc r.0;
      a = r.1;
      b = e.1;
      second_at = refl;
      first_at = r.2;
      after = omega arith;
      smaller = less;
      share = r.3;
    }

-- ---- the search

pub found_front : (e : ℕ × ItemData) (list : List (ℕ × ItemData)) → least_of (λ d. shares d e.1) list < e.0 → e.0 ≤ no_number
    → Found (e ∷ list) (Some (least_of (λ d. shares d e.1) list, e.0))
found_front e list less low = record {
  none = tt;
  some = record {
    place = 0;
    overtakes = front_overtakes e list less (omega (arith, less, low));
    least = λ i o. (front_below e list i e.0 o).1;
    before = λ k i j early o. absurd (omega (arith, early));
  };
}

before_next : (e : ℕ × ItemData) (list : List (ℕ × ItemData)) → e.0 ≤ least_of (λ d. shares d e.1) list → (place : ℕ)
    → ((k i j : ℕ) → k < place → Overtakes list k i j → ⊥) → (k i j : ℕ) → k < suc place → Overtakes (e ∷ list) k i j → ⊥
before_next e list high place before zero i j early o =
    let front = front_below e list i j o in
    absurd (omega (arith, high, front.0, front.1, o.smaller))
before_next e list high place before (suc k) i j early o = before k i j (omega (arith, early)) (nearer e list k i j o)

none_next : (e : ℕ × ItemData) (list : List (ℕ × ItemData)) → e.0 ≤ least_of (λ d. shares d e.1) list → NoneOvertakes list → NoneOvertakes (e ∷ list)
none_next e list high none = λ k i j o. before_next e list high k (λ l m n early. none l m n) k i j (omega arith) o

pub found_further : (e : ℕ × ItemData) (list : List (ℕ × ItemData)) (found : Option (ℕ × ℕ)) → e.0 ≤ least_of (λ d. shares d e.1) list → Found list found → Found (e ∷ list) found
found_further e list None high is = record { none = none_next e list high is.none; some = tt }
found_further e list (Some x) high is = record {
  none = tt;
  some = record {
    place = suc is.some.place;
    overtakes = further e list is.some.place x.0 x.1 is.some.overtakes;
    least = λ i o. is.some.least i (nearer e list is.some.place i x.1 o);
    before = before_next e list high is.some.place is.some.before;
  };
}
