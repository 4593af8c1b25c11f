-- A text names one place at most.
use Rattle.std.proofs.Common.{◌≡◌, ◌≢◌, ℕ, zero, suc, ◌+◌, ◌<◌, ◌≤◌, Bool, true, false, List, [], ◌∷◌, ◌++◌, get_or, Some, None, IfSome, Result, Ok, Err, OkIff, find, codes, decimal, refl, sym, ap, subst, ◌∙◌, arith}
use Rattle.std.specs.List.{flat_map, range_with_len}
use Rattle.std.specs.Result.{result_ok}
use Rattle.std.specs.Str.{bytes_eq}
use Rattle.std.proofs.lemmas.Bool.{false≢true}
use Rattle.std.proofs.lemmas.Fmt.{decimal_injective}
use Rattle.std.proofs.lemmas.List.{append_cancel_left, append-nil}
use Rattle.std.proofs.lemmas.Slice.Eq.{bytes_eq-Decides}
use Rattle.qccd_base.proofs.Decimal.{IsDigit, Ends, decimal-front-unique}
use Rattle.qccd_base.specs.declared.names.TrapId.{TrapId}
use Rattle.qccd_base.specs.declared.names.End.TheVariants.{Left, Right}
use Rattle.qccd_machine.specs.declared.place.Place.{Place}
use Rattle.qccd_machine.specs.declared.place.Place.TheVariants.{TrapEnd, Junction}
use Rattle.machine_text.specs.Place.{place_text, places_at, places, place_named}

-- the number of the place's trap or junction
abbrev pub place_number : Place → ℕ
place_number (TrapEnd t end) = t.0
place_number (Junction j) = j.0

-- ---- two places with one text are one

point_ends : (more : List ℕ) → Ends IsDigit (46 ∷ more)
point_ends more = λ digit. omega (arith, digit.0, digit.1)

abbrev trap_of : ℕ → TrapId
trap_of n = record { 0 = n }

same_trap : (t u : TrapId) (rest next : List ℕ) → t.0 < 256 → u.0 < 256
    → decimal t.0 ++ (46 ∷ rest) ≡ decimal u.0 ++ (46 ∷ next) → (t ≡ u) × (rest ≡ next)
same_trap t u rest next small few same =
    let parts = decimal-front-unique t.0 u.0 (46 ∷ rest) (46 ∷ next) (omega arith) (omega arith) (point_ends rest) (point_ends next) same in
    let rests : rest ≡ next = cc parts.1 in
    (ap trap_of parts.0, rests)

-- the letter of a trap is not that of a junction
letters : (more rest : List ℕ) → 84 ∷ more ≡ 74 ∷ rest → ⊥
letters more rest same = omega (arith, ap (λ (t : List ℕ). get_or t 0 0) same)

pub place_text-injective : (p q : Place) → place_number p < 256 → place_number q < 256 → place_text p ≡ place_text q → p ≡ q
place_text-injective (TrapEnd t Left) (TrapEnd u Left) small few same =
    ap (λ (v : TrapId). TrapEnd v Left) (same_trap t u _ _ small few (append_cancel_left (codes "T") _ _ same)).0
place_text-injective (TrapEnd t Left) (TrapEnd u Right) small few same =
    absurd (ends_apart (same_trap t u _ _ small few (append_cancel_left (codes "T") _ _ same)).1)
  where
    ends_apart : codes "left" ≡ codes "right" → ⊥
    ends_apart is = omega (arith, ap (λ (t : List ℕ). get_or t 0 0) is)
place_text-injective (TrapEnd t Right) (TrapEnd u Left) small few same =
    absurd (ends_apart (same_trap t u _ _ small few (append_cancel_left (codes "T") _ _ same)).1)
  where
    ends_apart : codes "right" ≡ codes "left" → ⊥
    ends_apart is = omega (arith, ap (λ (t : List ℕ). get_or t 0 0) is)
place_text-injective (TrapEnd t Right) (TrapEnd u Right) small few same =
    ap (λ (v : TrapId). TrapEnd v Right) (same_trap t u _ _ small few (append_cancel_left (codes "T") _ _ same)).0
place_text-injective (TrapEnd t Left) (Junction j) small few same = absurd (letters _ _ same)
place_text-injective (TrapEnd t Right) (Junction j) small few same = absurd (letters _ _ same)
place_text-injective (Junction j) (TrapEnd t Left) small few same = absurd (letters _ _ (sym same))
place_text-injective (Junction j) (TrapEnd t Right) small few same = absurd (letters _ _ (sym same))
place_text-injective (Junction i) (Junction j) small few same =
    ap (λ (n : ℕ). Junction (record { 0 = n }))
    (decimal_injective i.0 j.0 (omega arith) (omega arith) (append_cancel_left (codes "J") (decimal i.0) (decimal j.0) same))

-- ---- the only place that passes a test is found

numbered : (p : Place) (n : ℕ) → place_number p ≡ n → (test : Place → Bool)
    → test (TrapEnd (record { 0 = n }) Left) ≡ false → test (TrapEnd (record { 0 = n }) Right) ≡ false → test (Junction (record { 0 = n })) ≡ false
    → test p ≡ false
numbered (TrapEnd t Left) n is test left right junction = subst (λ (k : ℕ). test (TrapEnd (record { 0 = k }) Left) ≡ false) (sym is) left
numbered (TrapEnd t Right) n is test left right junction = subst (λ (k : ℕ). test (TrapEnd (record { 0 = k }) Right) ≡ false) (sym is) right
numbered (Junction j) n is test left right junction = subst (λ (k : ℕ). test (Junction (record { 0 = k })) ≡ false) (sym is) junction

next_of : (test : Place → Bool) (e p : Place) (more : List Place) (b : Bool) → test e ≡ b → (test e ≡ true → e ≡ p)
    → (test e ≡ false → find test more ≡ Some p) → find test (e ∷ more) ≡ Some p
next_of test e p more true is here later = rw is (ap Some (here is))
next_of test e p more false is here later = rw is (later is)

find_at : (test : Place → Bool) (a n : ℕ) (p : Place) → a ≤ place_number p → place_number p < a + n → test p ≡ true
    → ((q : Place) → place_number q < a + n → test q ≡ true → q ≡ p) → find test (flat_map places_at (range_with_len a n)) ≡ Some p
find_at test a zero p low high here only = absurd (omega arith)
find_at test a (suc n) p low high here only =
    let left : Place = TrapEnd (record { 0 = a }) Left in
    let right : Place = TrapEnd (record { 0 = a }) Right in
    let junction : Place = Junction (record { 0 = a }) in
    next_of test left p (right ∷ junction ∷ flat_map places_at (range_with_len (a + 1) n)) (test left) refl (only left (omega arith)) (λ not_left.
    next_of test right p (junction ∷ flat_map places_at (range_with_len (a + 1) n)) (test right) refl (only right (omega arith)) (λ not_right.
    next_of test junction p (flat_map places_at (range_with_len (a + 1) n)) (test junction) refl (only junction (omega arith)) (λ not_junction.
    find_at test (a + 1) n p (above not_left not_right not_junction) (omega arith) here (λ q small. only q (omega arith)))))
  where
    above : test (TrapEnd (record { 0 = a }) Left) ≡ false → test (TrapEnd (record { 0 = a }) Right) ≡ false → test (Junction (record { 0 = a })) ≡ false → a + 1 ≤ place_number p
    above not_left not_right not_junction =
        let apart : place_number p ≢ a = λ is. false≢true (sym (numbered p a is test not_left not_right not_junction) ∙ here) in omega arith

find_none : (test : Place → Bool) (a n : ℕ) → ((q : Place) → place_number q < a + n → test q ≡ false)
    → find test (flat_map places_at (range_with_len a n)) ≡ None
find_none test a zero each = refl
find_none test a (suc n) each =
    rw (each (TrapEnd (record { 0 = a }) Left) (omega arith), each (TrapEnd (record { 0 = a }) Right) (omega arith), each (Junction (record { 0 = a })) (omega arith))
    (find_none test (a + 1) n (λ q small. each q (omega arith)))

-- ---- the place of a text

pub place_named-text : (text : List ℕ) (p : Place) → place_number p < 256 → text ≡ place_text p → Some p ≡ place_named text
unfolding places
place_named-text text p small is =
    sym (find_at (λ q. bytes_eq text (place_text q)) 0 256 p (omega arith) (omega arith) ((bytes_eq-Decides text (place_text p)).1 is) only)
  where
    only : (q : Place) → place_number q < 0 + 256 → bytes_eq text (place_text q) ≡ true → q ≡ p
    only q few test = place_text-injective q p (omega arith) small (sym ((bytes_eq-Decides text (place_text q)).0 test) ∙ is)

pub place_named-none : (text : List ℕ) → ((p : Place) → place_number p < 256 → text ≢ place_text p) → None ≡ place_named text
unfolding places
place_named-none text apart = sym (find_none (λ q. bytes_eq text (place_text q)) 0 256 other)
  where
    not_same : (q : Place) (b : Bool) → bytes_eq text (place_text q) ≡ b → (text ≢ place_text q) → b ≡ false
    not_same q true is apart = absurd (apart ((bytes_eq-Decides text (place_text q)).0 is))
    not_same q false is apart = refl

    other : (q : Place) → place_number q < 0 + 256 → bytes_eq text (place_text q) ≡ false
    other q few = not_same q _ refl (apart q (omega arith))

-- a text in which the number's digits stand between two others
pub between :
    {E : Type 0} (front text back rest digits : List ℕ) (k : ℕ) (r : Result ℕ E) → text ≡ front ++ rest → rest ≡ digits ++ back → digits ≡ decimal k
    → OkIff r (k < 256) k → IfSome (result_ok r) (λ n. text ≡ front ++ (decimal n ++ back))
between front text back rest digits k (Ok n) first second third is =
    first ∙ ap (λ (t : List ℕ). front ++ t) (second ∙ ap (λ (t : List ℕ). t ++ back) (third ∙ ap decimal (sym is.1)))
between front text back rest digits k (Err e) first second third is = tt

-- a text that is that of no place
pub place_named-other :
    (text : List ℕ) → ((n : ℕ) → n < 256 → text ≡ codes "T" ++ (decimal n ++ codes ".left") → ⊥)
    → ((n : ℕ) → n < 256 → text ≡ codes "T" ++ (decimal n ++ codes ".right") → ⊥)
    → ((n : ℕ) → n < 256 → text ≡ codes "J" ++ (decimal n ++ []) → ⊥) → None ≡ place_named text
place_named-other text left right junction = place_named-none text apart
  where
    apart : (p : Place) → place_number p < 256 → text ≢ place_text p
    apart (TrapEnd t Left) small is = left t.0 small is
    apart (TrapEnd t Right) small is = right t.0 small is
    apart (Junction j) small is = junction j.0 small (is ∙ ap (λ (t : List ℕ). codes "J" ++ t) (sym (append-nil (decimal j.0))))
