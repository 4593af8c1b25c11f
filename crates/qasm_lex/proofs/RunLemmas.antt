-- A text and its run: the longest front of bytes that pass a test.
use Rattle.std.proofs.Common.{◌≡◌, ℕ, ◌+◌, ◌≤◌, Bool, true, false, not, cond, List, [], ◌∷◌, ◌++◌, length, take, drop, Some, refl, sym, ap, ◌∙◌, arith}
use Rattle.std.specs.Prelude.{◌==◌, ◌&&◌}
use Rattle.std.specs.List.{list_all, prefix_len, slice_get}
use Rattle.std.proofs.lemmas.Bool.{and_parts, and_from, false≢true}
use Rattle.std.proofs.lemmas.List.{length-append}
use Rattle.std.proofs.lemmas.Grind.{common_steps}
use Rattle.std.proofs.lemmas.List.Sums.{prefix_len-le-length}
use Rattle.std.proofs.Math.Numerals.{one-add}
use Rattle.qasm_lex.specs.Runs.{begins, begins_pair}

pub heads : {a b : ℕ} {x y : List ℕ} → a ∷ x ≡ b ∷ y → a ≡ b
heads h = cc

pub tails : {a b : ℕ} {x y : List ℕ} → a ∷ x ≡ b ∷ y → x ≡ y
tails h = cc

-- the front passes, and what follows does not begin with a byte that passes
pub record IsRun (p : ℕ → Bool) (front follows : List ℕ) : Type 0 where
  pub passes : list_all p front ≡ true
  pub ends : begins p follows ≡ false

run_step :
    (p : ℕ → Bool) (c : ℕ) (cs : List ℕ) (n : ℕ) → IsRun p (take n cs) (drop n cs) → (b : Bool) → p c ≡ b
    → IsRun p (take (cond b (1 + n) 0) (c ∷ cs)) (drop (cond b (1 + n) 0) (c ∷ cs))
run_step p c cs n r true is =
    let both : IsRun p (c ∷ take n cs) (drop n cs) = record { passes = and_from (p c) (list_all p (take n cs)) is r.passes; ends = r.ends } in
    rw one-add both
run_step p c cs n r false is = record { passes = refl; ends = is }

-- the run of a text
pub run_at : (p : ℕ → Bool) (text : List ℕ) → IsRun p (take (prefix_len p text) text) (drop (prefix_len p text) text)
run_at p [] = record { passes = refl; ends = refl }
run_at p (c ∷ cs) = run_step p c cs (prefix_len p cs) (run_at p cs) (p c) refl

-- another front that passes is a front of the run
pub run_longest :
    (p : ℕ → Bool) (a b c d : List ℕ) → IsRun p a b → a ++ b ≡ c ++ d → list_all p c ≡ true
    → (mid : List ℕ) × (a ≡ c ++ mid) × (d ≡ mid ++ b)
run_longest p a b [] d r same all = (a, refl, sym same)
run_longest p [] [] (x ∷ c) d r same all = cc
run_longest p [] (y ∷ b) (x ∷ c) d r same all =
    let is : y ≡ x = cc in
    let head = (and_parts (p x) (list_all p c) all).0 in absurd (false≢true (sym r.ends ∙ ap p is ∙ head))
run_longest p (y ∷ a) b (x ∷ c) d r same all =
    let is : y ≡ x = cc in
    let rest : a ++ b ≡ c ++ d = cc in
    let passes = (and_parts (p y) (list_all p a) r.passes).1 in
    let found = run_longest p a b c d (record { passes = passes; ends = r.ends }) rest (and_parts (p x) (list_all p c) all).1 in
    (found.0, cc found.1, found.2)

-- so it is no longer than the run
pub run_longest-length :
    (p : ℕ → Bool) (a b c d : List ℕ) → IsRun p a b → a ++ b ≡ c ++ d → list_all p c ≡ true → length c ≤ length a
run_longest-length p a b c d r same all =
    let found = run_longest p a b c d r same all in omega (arith, ap length found.1, length-append c found.0)

-- a text has one run
pub run-unique : (p : ℕ → Bool) (a b c d : List ℕ) → IsRun p a b → IsRun p c d → a ++ b ≡ c ++ d → (a ≡ c) × (b ≡ d)
run-unique p [] b [] d r s same = (refl, same)
run-unique p [] [] (x ∷ c) d r s same = cc
run-unique p [] (y ∷ b) (x ∷ c) d r s same =
    let is : y ≡ x = cc in
    absurd (false≢true (sym r.ends ∙ ap p is ∙ (and_parts (p x) (list_all p c) s.passes).0))
run-unique p (y ∷ a) b [] [] r s same = cc
run-unique p (y ∷ a) b [] (x ∷ d) r s same =
    let is : x ≡ y = cc in
    absurd (false≢true (sym s.ends ∙ ap p is ∙ (and_parts (p y) (list_all p a) r.passes).0))
run-unique p (y ∷ a) b (x ∷ c) d r s same =
    let is : y ≡ x = cc in
    let rest : a ++ b ≡ c ++ d = cc in
    let parts = run-unique p a b c d (record { passes = (and_parts (p y) (list_all p a) r.passes).1; ends = r.ends })
    (record { passes = (and_parts (p x) (list_all p c) s.passes).1; ends = s.ends }) rest in (cc parts.0, parts.1)

-- what holds of the first byte
pub first_begins : (p : ℕ → Bool) (text : List ℕ) (c : ℕ) (b : Bool) → Some c ≡ slice_get text 0 → p c ≡ b → begins p text ≡ b
first_begins p [] c b is test = cc
first_begins p (d ∷ rest) c b is test = let same : d ≡ c = cc in ap p same ∙ test

-- what a test tells of a first byte
pub not_then : (b : Bool) → not b ≡ true → b ≡ false
not_then true is = absurd (false≢true is)
not_then false is = refl

pub no_pair : (c a b : ℕ) (rest : List ℕ) → (c == a) ≡ false → begins_pair a b (c ∷ rest) ≡ false
no_pair c a b [] other = refl
no_pair c a b (d ∷ rest) other = ap (λ (t : Bool). t && d == b) other

-- a run is no longer than its text, as a text is cut
pub ruleset sizes = (prefix_len-le-length, common_steps)
