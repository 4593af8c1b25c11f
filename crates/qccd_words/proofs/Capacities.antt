-- The capacity that a preset's word names.
use Rattle.std.proofs.Common.{rules, ◌^◌, ◌&&◌, nat_le, ◌≡◌, ◌≢◌, ◌↔◌, ℕ, zero, suc, ◌+◌, ◌<◌, ◌≤◌, Bool, true, false, List, [], ◌∷◌, ◌++◌, length, ◌==◌, Option, Some, None, IfSome, find, cond, option_map, option_and_then, unwrap_or, subst, codes, decimal, refl, sym, ap, ◌∙◌, arith}
use Rattle.std.specs.Char.{is_ascii_digit}
use Rattle.std.specs.List.{range_with_len, list_all}
use Rattle.std.specs.Str.{bytes_eq}
use Rattle.std.specs.Str.Parse.{digits_value}
use Rattle.std.proofs.lemmas.Bool.{le-leb, leb-true}
use Rattle.std.proofs.lemmas.Fmt.{decimal_injective, digits_value-decimal}
use Rattle.std.proofs.lemmas.Str.Parse.{IsNumeralModel, numerals_by_value}
use Rattle.std.proofs.lemmas.List.{append_cancel_left, append-nil}
use Rattle.std.proofs.lemmas.Option.{same_Some}
use Rattle.std.proofs.lemmas.Slice.Eq.{bytes_eq-Decides}
use Rattle.qccd_base.specs.declared.names.Mode.{Mode}
use Rattle.qccd_base.specs.declared.names.Mode.TheVariants.{IonSwap}
use Rattle.qccd_machine.specs.declared.place.Preset.{Preset}
use Rattle.qccd_machine.specs.declared.place.Preset.TheVariants.{L6, G2x3, Single}
use Rattle.qccd_words.specs.Words.{AskedMachine, OfPreset, OfFile, Asked, AskedRun, AskedCompile, AskedExec, AskedCheck, AskedRehearse, AskedTidy, capacities, capacity_after, first_of, preset_named, begins_with_at, machine_of, mode_named, once, options_of, with_options, run_of, compile_of, exec_of, check_of, number_named, rehearse_asked, rehearse_of, tidy_of, request_of, AreWorkers, HasCapacity, IsWithinLimits}

-- ---- the first number of a range that does

find_none :
    (p : ℕ → Bool) (a n : ℕ) → ((j : ℕ) → a ≤ j → j < a + n → p j ≡ false) → find p (range_with_len a n) ≡ None
find_none p a zero each = refl
find_none p a (suc n) each =
    rw (each a (omega arith) (omega arith)) (find_none p (a + 1) n (λ j low high. each j (omega arith) (omega arith)))

either : (p : ℕ → Bool) (a n k : ℕ) (b : Bool) → p a ≡ b → (p a ≡ true → a ≡ k)
    → (p a ≡ false → find p (range_with_len (a + 1) n) ≡ Some k) → find p (range_with_len a (suc n)) ≡ Some k
either p a n k true is here later = rw is (ap Some (here is))
either p a n k false is here later = rw is (later is)

find_only :
    (p : ℕ → Bool) (a n k : ℕ) → a ≤ k → k < a + n → p k ≡ true
    → ((j : ℕ) → a ≤ j → j < a + n → p j ≡ true → j ≡ k) → find p (range_with_len a n) ≡ Some k
find_only p a zero k low high here only = absurd (omega arith)
find_only p a (suc n) k low high here only =
    either p a n k (p a) refl (only a (omega arith) (omega arith))
    (λ not_here. find_only p (a + 1) n k (above not_here) (omega arith) here (λ j from to. only j (omega arith) (omega arith)))
  where
    above : p a ≡ false → a + 1 ≤ k
    above not_here = let apart : a ≢ k = λ is. cc in omega arith

-- ---- the word

-- the test says which texts are equal
same : (xs ys : List ℕ) → xs ≡ ys → bytes_eq xs ys ≡ true
same xs ys is = (bytes_eq-Decides xs ys).1 is

other : (xs ys : List ℕ) → xs ≢ ys → bytes_eq xs ys ≡ false
other xs ys apart = at (bytes_eq xs ys) refl
  where
    at : (b : Bool) → bytes_eq xs ys ≡ b → bytes_eq xs ys ≡ false
    at true is = absurd (apart ((bytes_eq-Decides xs ys).0 is))
    at false is = is

-- a word that is not the name, nor has any of the capacities
none_of : (name word : List ℕ) → word ≢ name → ((n : ℕ) → 2 ≤ n → n ≤ 32 → word ≢ name ++ (codes ":" ++ decimal n))
    → capacity_after name word ≡ None
unfolding capacities
none_of name word apart each =
    rw (other word name apart)
    (find_none (λ n. bytes_eq word (name ++ (codes ":" ++ decimal n))) 2 31 (λ n low high. other _ _ (each n low (omega arith))))

-- a word that is not the name, and has one of the capacities
one_of : (name word : List ℕ) (k : ℕ) → word ≢ name → 2 ≤ k → k ≤ 32 → word ≡ name ++ (codes ":" ++ decimal k)
    → capacity_after name word ≡ Some k
unfolding capacities
one_of name word k apart low high is =
    rw (other word name apart)
    (find_only (λ n. bytes_eq word (name ++ (codes ":" ++ decimal n))) 2 31 k low (omega arith) (same _ _ is) only)
  where
    only : (j : ℕ) → 2 ≤ j → j < 2 + 31 → bytes_eq word (name ++ (codes ":" ++ decimal j)) ≡ true → j ≡ k
    only j from to test =
        let there : word ≡ name ++ (codes ":" ++ decimal j) = (bytes_eq-Decides word (name ++ (codes ":" ++ decimal j))).0 test in
        let tails : codes ":" ++ decimal j ≡ codes ":" ++ decimal k =
        append_cancel_left name (codes ":" ++ decimal j) (codes ":" ++ decimal k) (sym there ∙ is) in
        let digits : decimal j ≡ decimal k = append_cancel_left (codes ":") (decimal j) (decimal k) tails in
        decimal_injective j k (omega arith) (omega arith) digits

-- what the test for an empty text says
pub some_bytes : (xs : List ℕ) → false ≡ (length xs == 0) → xs ≢ []
some_bytes [] test empty = cc
some_bytes (x ∷ xs) test empty = cc

-- what follows the name is not empty
longer : (name word rest : List ℕ) → word ≡ name ++ rest → rest ≢ [] → word ≢ name
longer name word rest is some alone = some (append_cancel_left name rest [] (sym is ∙ alone ∙ sym (append-nil name)))

-- a word that does not begin with the name
pub capacity-other_name : (name word : List ℕ) → ((rest : List ℕ) → word ≢ name ++ rest) → None ≡ capacity_after name word
capacity-other_name name word apart =
    sym (none_of name word (λ is. apart [] (is ∙ sym (append-nil name))) (λ n low high. apart (codes ":" ++ decimal n)))

-- a word in which something else than a colon follows the name
pub capacity-no_colon :
    (name word rest : List ℕ) → word ≡ name ++ rest → rest ≢ [] → ((digits : List ℕ) → rest ≢ codes ":" ++ digits)
    → None ≡ capacity_after name word
capacity-no_colon name word rest is some apart =
    sym (none_of name word (longer name word rest is some)
    (λ n low high there. apart (decimal n) (append_cancel_left name rest (codes ":" ++ decimal n) (sym is ∙ there))))

-- a word in which a colon follows the name
pub capacity-given :
    (name word rest digits : List ℕ) (r : Option ℕ) → word ≡ name ++ rest → rest ≡ codes ":" ++ digits
    → ((n : ℕ) → 2 ≤ n → n ≤ 32 → (r ≡ Some n) ↔ (digits ≡ decimal n))
    → IfSome r (λ n. (2 ≤ n) × (n ≤ 32) × (digits ≡ decimal n)) → r ≡ capacity_after name word
capacity-given name word rest digits None is colon exact some =
    sym (none_of name word (longer name word rest is (λ empty. cc)) each)
  where
    each : (n : ℕ) → 2 ≤ n → n ≤ 32 → word ≢ name ++ (codes ":" ++ decimal n)
    each n low high there =
        let tails : codes ":" ++ digits ≡ codes ":" ++ decimal n =
        append_cancel_left name (codes ":" ++ digits) (codes ":" ++ decimal n)
        (ap (λ (t : List ℕ). name ++ t) (sym colon) ∙ sym is ∙ there) in
        let same_digits : digits ≡ decimal n = append_cancel_left (codes ":") digits (decimal n) tails in
        let found : None ≡ Some n = (exact n low high).1 same_digits in cc
capacity-given name word rest digits (Some k) is colon exact some =
    sym (one_of name word k (longer name word rest is (λ empty. cc)) some.0 some.1
    (is ∙ ap (λ (t : List ℕ). name ++ t) (colon ∙ ap (λ (t : List ℕ). codes ":" ++ t) some.2)))

-- ---- a number's word

own_digits : IsNumeralModel (λ ds. list_all is_ascii_digit ds ≡ true) (digits_value 10)
own_digits = numerals_by_value (λ ds. list_all is_ascii_digit ds ≡ true) (search rules)

-- a number's text names it, where it is in the range
abbrev chosen : (low high n : ℕ) → Option ℕ
chosen low high n = cond (nat_le low n && nat_le n high) (Some n) None

named-text : (low high n : ℕ) → n < 2 ^ 64 → number_named low high (decimal n) ≡ chosen low high n
named-text low high n small = rw (digits_value-decimal own_digits n small, same (decimal n) (decimal n) refl) refl

pub named : (low high n : ℕ) (word : List ℕ) → n < 2 ^ 64 → word ≡ decimal n → low ≤ n → n ≤ high → Some n ≡ number_named low high word
named low high n word small is above below = sym (rw is (named-text low high n small ∙ within))
  where
    within : chosen low high n ≡ Some n
    within = rw (le-leb low n above, le-leb n high below) refl

-- and a number that is named is in the range
chosen_within : (e a b : Bool) (low high v n : ℕ) → nat_le low v ≡ a → nat_le v high ≡ b → cond {A = Option ℕ} (e && (a && b)) (Some v) None ≡ Some n → (low ≤ n) × (n ≤ high)
chosen_within true true true low high v n above below is =
    let there : v ≡ n = cc in subst (λ (k : ℕ). (low ≤ k) × (k ≤ high)) there (leb-true low v above, leb-true v high below)
chosen_within true true false low high v n above below is = absurd (cc)
chosen_within true false b low high v n above below is = absurd (cc)
chosen_within false a b low high v n above below is = absurd (cc)

named_within : (low high n : ℕ) (word : List ℕ) → number_named low high word ≡ Some n → (low ≤ n) × (n ≤ high)
named_within low high n word is =
    chosen_within (bytes_eq word (decimal (digits_value 10 word))) (nat_le low (digits_value 10 word)) (nat_le (digits_value 10 word) high)
    low high (digits_value 10 word) n refl refl is

-- ---- what the words ask for

found_step : (b : Bool) (a n x : ℕ) (rest : Option ℕ) → cond b (Some a) rest ≡ Some x → (rest ≡ Some x → (a + 1 ≤ x) × (x < (a + 1) + n)) → (a ≤ x) × (x < a + suc n)
found_step true a n x rest is later = let same : a ≡ x = cc in (omega arith, omega arith)
found_step false a n x rest is later = let bounds = later is in (omega arith, omega arith)

found_range : (p : ℕ → Bool) (a n x : ℕ) → find p (range_with_len a n) ≡ Some x → (a ≤ x) × (x < a + n)
found_range p a zero x is = absurd (cc)
found_range p a (suc n) x is = found_step (p a) a n x (find p (range_with_len (a + 1) n)) is (found_range p (a + 1) n x)

found_capacity : (p : ℕ → Bool) (x : ℕ) → find p capacities ≡ Some x → (2 ≤ x) × (x ≤ 32)
unfolding capacities
found_capacity p x is = let bounds = found_range p 2 31 x is in (bounds.0, omega (arith, bounds.1))

capacity_step : (b : Bool) (x : ℕ) (rest : Option ℕ) → cond b (Some 16) rest ≡ Some x → (rest ≡ Some x → (2 ≤ x) × (x ≤ 32)) → (2 ≤ x) × (x ≤ 32)
capacity_step true x rest is later = let same : 16 ≡ x = cc in (omega arith, omega arith)
capacity_step false x rest is later = later is

capacity_bounds : (name word : List ℕ) (x : ℕ) → capacity_after name word ≡ Some x → (2 ≤ x) × (x ≤ 32)
capacity_bounds name word x is =
    capacity_step (bytes_eq word name) x (find (λ c. bytes_eq word (name ++ (codes ":" ++ decimal c))) capacities) is
    (found_capacity (λ c. bytes_eq word (name ++ (codes ":" ++ decimal c))) x)

-- a preset's machine has the capacity that was found
preset_bounds : (which : Preset) (o : Option ℕ) (m : AskedMachine) → ((x : ℕ) → o ≡ Some x → (2 ≤ x) × (x ≤ 32)) → option_map (OfPreset which) o ≡ Some m → HasCapacity m
preset_bounds which None m bounds is = absurd (cc)
preset_bounds which (Some x) m bounds is = let same : OfPreset which x ≡ m = cc in subst HasCapacity same (bounds x refl)

either_bounds : (o p : Option AskedMachine) (m : AskedMachine) → (o ≡ Some m → HasCapacity m) → (p ≡ Some m → HasCapacity m) → first_of o p ≡ Some m → HasCapacity m
either_bounds None p m here later is = later is
either_bounds (Some n) p m here later is = here is

named_bounds : (word : List ℕ) (m : AskedMachine) → preset_named word ≡ Some m → HasCapacity m
named_bounds word m is =
    either_bounds _ _ m (preset_bounds L6 (capacity_after (codes "@L6") word) m (capacity_bounds (codes "@L6") word))
    (either_bounds _ _ m (preset_bounds G2x3 (capacity_after (codes "@G2x3") word) m (capacity_bounds (codes "@G2x3") word))
    (preset_bounds Single (capacity_after (codes "@single") word) m (capacity_bounds (codes "@single") word))) is

machine_bounds : (b : Bool) (word : List ℕ) (m : AskedMachine) → cond b (preset_named word) (Some (OfFile word)) ≡ Some m → HasCapacity m
machine_bounds true word m is = named_bounds word m is
machine_bounds false word m is = let same : OfFile word ≡ m = cc in subst HasCapacity same tt

-- ---- what is asked for is within limits

-- what a value of an option leads to, if it is the first one
first_value : {A B : Type 0} (f : A → Option B) (given value : Option A) (b : B)
    → option_and_then f (once given value) ≡ Some b → (a : A) × (value ≡ Some a) × (f a ≡ Some b)
first_value f None (Some a) b is = (a, refl, is)
first_value f None None b is = absurd (cc)
first_value f (Some old) value b is = absurd (cc)

-- the number of workers is 1 to 16
at_the_end : (workers : Option ℕ) (mode : Mode) (o : ℕ × Mode) → IfSome workers AreWorkers → Some (unwrap_or workers 4, mode) ≡ Some o → AreWorkers o.0
at_the_end None mode o few is = subst (λ (x : ℕ × Mode). AreWorkers x.0) (same_Some (4, mode) o is) (omega arith, omega arith)
at_the_end (Some n) mode o few is = subst (λ (x : ℕ × Mode). AreWorkers x.0) (same_Some (n, mode) o is) few

by_option : (b c : Bool) (o p : Option (ℕ × Mode)) (x : ℕ × Mode) → (o ≡ Some x → AreWorkers x.0) → (p ≡ Some x → AreWorkers x.0)
    → cond b o (cond c p None) ≡ Some x → AreWorkers x.0
by_option true c o p x first second is = first is
by_option false true o p x first second is = second is
by_option false false o p x first second is = absurd (cc)

options_limits : (words : List (List ℕ)) (workers : Option ℕ) (mode : Option Mode) (o : ℕ × Mode)
    → IfSome workers AreWorkers → options_of words workers mode ≡ Some o → AreWorkers o.0
options_limits [] workers mode o few is = at_the_end workers (unwrap_or mode IonSwap) o few is
options_limits (name ∷ []) workers mode o few is = absurd (cc)
options_limits (name ∷ value ∷ words) workers mode o few is =
    by_option (bytes_eq name (codes "--workers")) (bytes_eq name (codes "--swap"))
    (option_and_then (λ n. options_of words (Some n) mode) (once workers (number_named 1 16 value)))
    (option_and_then (λ m. options_of words workers (Some m)) (once mode (mode_named value))) o
    (λ there. let first = first_value (λ n. options_of words (Some n) mode) workers (number_named 1 16 value) o there in
    options_limits words (Some first.0) mode o (named_within 1 16 first.0 value first.1) first.2)
    (λ there. let first = first_value (λ m. options_of words workers (Some m)) mode (mode_named value) o there in
    options_limits words workers (Some first.0) o few first.2) is

-- of a machine and options
with_options_limits : (make : AskedMachine → ℕ → Mode → Asked) (machine : List ℕ) (words : List (List ℕ)) (workers : Option ℕ) (mode : Option Mode) (a : Asked)
    → ((m : AskedMachine) (n : ℕ) (mode : Mode) → HasCapacity m → AreWorkers n → IsWithinLimits (make m n mode))
    → IfSome workers AreWorkers → with_options make (machine_of machine) (options_of words workers mode) ≡ Some a → IsWithinLimits a
with_options_limits make machine words workers mode a bounds few is =
    both (machine_of machine) (options_of words workers mode) (machine_bounds (begins_with_at machine) machine) (λ o there. options_limits words workers mode o few there) is
  where
    both : (m : Option AskedMachine) (o : Option (ℕ × Mode)) → ((x : AskedMachine) → m ≡ Some x → HasCapacity x) → ((x : ℕ × Mode) → o ≡ Some x → AreWorkers x.0)
        → with_options make m o ≡ Some a → IsWithinLimits a
    both (Some m) (Some (n, mode)) capacity few is = subst IsWithinLimits (same_Some (make m n mode) a is) (bounds m n mode (capacity m refl) (few (n, mode) refl))
    both (Some m) None capacity few is = absurd (cc)
    both None (Some o) capacity few is = absurd (cc)
    both None None capacity few is = absurd (cc)

machine_limits : (make : AskedMachine → Asked) (o : Option AskedMachine) (a : Asked)
    → ((m : AskedMachine) → o ≡ Some m → IsWithinLimits (make m)) → option_map make o ≡ Some a → IsWithinLimits a
machine_limits make (Some m) a bounds is = subst IsWithinLimits (same_Some (make m) a is) (bounds m refl)
machine_limits make None a bounds is = absurd (cc)

run_limits : (words : List (List ℕ)) (a : Asked) → run_of words ≡ Some a → IsWithinLimits a
run_limits [] a is = absurd (cc)
run_limits (machine ∷ []) a is = absurd (cc)
run_limits (machine ∷ circuit ∷ options) a is =
    with_options_limits (λ m workers mode. AskedRun m circuit workers mode) machine options None None a (λ m n mode capacity few. (capacity, few)) tt is

compile_limits : (words : List (List ℕ)) (a : Asked) → compile_of words ≡ Some a → IsWithinLimits a
compile_limits [] a is = absurd (cc)
compile_limits (machine ∷ []) a is = absurd (cc)
compile_limits (machine ∷ circuit ∷ options) a is =
    with_options_limits (λ m workers mode. AskedCompile m circuit mode) machine options (Some 4) None a (λ m n mode capacity few. capacity) (omega arith, omega arith) is

exec_limits : (words : List (List ℕ)) (a : Asked) → exec_of words ≡ Some a → IsWithinLimits a
exec_limits [] a is = absurd (cc)
exec_limits (machine ∷ []) a is = absurd (cc)
exec_limits (machine ∷ program ∷ options) a is =
    with_options_limits (λ m workers mode. AskedExec m program workers) machine options None (Some IonSwap) a (λ m n mode capacity few. (capacity, few)) tt is

check_limits : (words : List (List ℕ)) (a : Asked) → check_of words ≡ Some a → IsWithinLimits a
check_limits [] a is = absurd (cc)
check_limits (machine ∷ []) a is = absurd (cc)
check_limits (machine ∷ circuit ∷ []) a is = absurd (cc)
check_limits (machine ∷ circuit ∷ program ∷ []) a is =
    machine_limits (λ m. AskedCheck m circuit program) (machine_of machine) a (λ m there. machine_bounds (begins_with_at machine) machine m there) is
check_limits (machine ∷ circuit ∷ program ∷ more ∷ words) a is = absurd (cc)

parts_limits : (o p q : Option ℕ) (machine : List ℕ) (words : List (List ℕ)) (a : Asked)
    → ((n : ℕ) → o ≡ Some n → n ≤ 2147483647) → ((n : ℕ) → p ≡ Some n → (1 ≤ n) × (n ≤ 256)) → ((n : ℕ) → q ≡ Some n → n ≤ 65536)
    → rehearse_asked o p q (machine_of machine) (options_of words None (Some IonSwap)) ≡ Some a → IsWithinLimits a
parts_limits (Some number) (Some qubits) (Some items) machine words a low some few is =
    with_options_limits (λ m workers mode. AskedRehearse number qubits items m workers) machine words None (Some IonSwap) a
    (λ m n mode capacity workers. (capacity, workers, (low number refl, (some qubits refl).0, (some qubits refl).1, few items refl))) tt is
parts_limits (Some number) (Some qubits) None machine words a low some few is = absurd (cc)
parts_limits (Some number) None q machine words a low some few is = absurd (cc)
parts_limits None p q machine words a low some few is = absurd (cc)

rehearse_limits : (words : List (List ℕ)) (a : Asked) → rehearse_of words ≡ Some a → IsWithinLimits a
rehearse_limits [] a is = absurd (cc)
rehearse_limits (v ∷ []) a is = absurd (cc)
rehearse_limits (v ∷ w ∷ []) a is = absurd (cc)
rehearse_limits (v ∷ w ∷ x ∷ []) a is = absurd (cc)
rehearse_limits (v ∷ w ∷ x ∷ y ∷ options) a is =
    parts_limits (number_named 0 2147483647 v) (number_named 1 256 w) (number_named 0 65536 x) y options a
    (λ n there. (named_within 0 2147483647 n v there).1) (λ n there. named_within 1 256 n w there) (λ n there. (named_within 0 65536 n x there).1) is

tidy_limits : (words : List (List ℕ)) (a : Asked) → tidy_of words ≡ Some a → IsWithinLimits a
tidy_limits [] a is = absurd (cc)
tidy_limits (machine ∷ []) a is = absurd (cc)
tidy_limits (machine ∷ program ∷ []) a is =
    machine_limits (λ m. AskedTidy m program) (machine_of machine) a (λ m there. machine_bounds (begins_with_at machine) machine m there) is
tidy_limits (machine ∷ program ∷ more ∷ words) a is = absurd (cc)

-- by one test or else another
by_test : (b : Bool) (o p : Option Asked) (a : Asked) → (o ≡ Some a → IsWithinLimits a) → (p ≡ Some a → IsWithinLimits a) → cond b o p ≡ Some a → IsWithinLimits a
by_test true o p a here there is = here is
by_test false o p a here there is = there is

-- a machine that is asked for by name has a capacity from 2 to 32, a program has 1 to 16 workers, and a rehearsal has few
-- qubits and items
pub request-limits : (words : List (List ℕ)) (a : Asked) → request_of words ≡ Some a → IsWithinLimits a
request-limits [] a is = absurd (cc)
request-limits (command ∷ words) a is =
    by_test (bytes_eq command (codes "run")) (run_of words) _ a (run_limits words a)
    (by_test (bytes_eq command (codes "compile")) (compile_of words) _ a (compile_limits words a)
    (by_test (bytes_eq command (codes "exec")) (exec_of words) _ a (exec_limits words a)
    (by_test (bytes_eq command (codes "check")) (check_of words) _ a (check_limits words a)
    (by_test (bytes_eq command (codes "rehearse")) (rehearse_of words) _ a (rehearse_limits words a)
    (by_test (bytes_eq command (codes "tidy")) (tidy_of words) None a (tidy_limits words a) (λ none. absurd (cc))))))) is
