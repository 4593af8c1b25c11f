-- The first test that fails, in a list of tests that is put together of others, and what is known where none does.
use Rattle.std.proofs.Common.{◌≡◌, Bool, true, false, List, [], ◌∷◌, ◌++◌, Some, None, refl, sym, ◌∙◌}
use Rattle.std.specs.List.{AllByRecursion}
use Rattle.std.proofs.lemmas.Option.{same_Some}
use Rattle.qccd_base.specs.FirstFailing.{first_failing, NoneFails, IsFirstFailing, IsFirstToApply}

-- where none of the front fails, the first of all is that of the rest
pub first_failing-after : {A : Type 0} (front back : List (A × Bool)) → NoneFails front → first_failing (front ++ back) ≡ first_failing back
first_failing-after [] back none = refl
first_failing-after ((cause, true) ∷ front) back none = first_failing-after front back none
first_failing-after ((cause, false) ∷ front) back none = cc

-- where one of the front fails, its first is the first of all
pub first_failing-at : {A : Type 0} (front back : List (A × Bool)) (cause : A) → IsFirstFailing front cause → first_failing (front ++ back) ≡ Some cause
first_failing-at [] back cause first = cc
first_failing-at ((other, true) ∷ front) back cause first = first_failing-at front back cause first
first_failing-at ((other, false) ∷ front) back cause first = first

-- where none of all fails, none of the front does, and none of the rest
pub first_failing-split : {A : Type 0} (front back : List (A × Bool)) → NoneFails (front ++ back) → NoneFails front × NoneFails back
first_failing-split [] back none = (refl, none)
first_failing-split ((cause, true) ∷ front) back none = first_failing-split front back none
first_failing-split ((cause, false) ∷ front) back none = cc

-- there is one first cause at most
pub one_first_failing : {A : Type 0} (tests : List (A × Bool)) (cause other : A) → IsFirstFailing tests cause → IsFirstFailing tests other → cause ≡ other
one_first_failing tests cause other first second = same_Some cause other (sym first ∙ second)

-- each test is met
abbrev pub AllMet : {A : Type 0} → List (A × Bool) → Type 0
AllMet tests = AllByRecursion (λ test. test.1 ≡ true) tests

-- where none fails, each is met
pub all_met : {A : Type 0} (tests : List (A × Bool)) → first_failing tests ≡ None → AllMet tests
all_met [] none = tt
all_met ((cause, true) ∷ rest) none = (refl, all_met rest none)
all_met ((cause, false) ∷ rest) none = cc

-- and back
pub none_fails : {A : Type 0} (tests : List (A × Bool)) → AllMet tests → first_failing tests ≡ None
none_fails [] met = refl
none_fails ((cause, true) ∷ rest) met = none_fails rest met.1
none_fails ((cause, false) ∷ rest) met = cc

-- a test that fails behind some that are met is the first
pub failing_behind : {A : Type 0} (front back : List (A × Bool)) (cause : A) → AllMet front → first_failing (front ++ (cause, false) ∷ back) ≡ Some cause
failing_behind [] back cause met = refl
failing_behind ((other, true) ∷ front) back cause met = failing_behind front back cause met.1
failing_behind ((other, false) ∷ front) back cause met = cc

-- the first of several is met, and the others stand as before
pub first_met : {A : Type 0} (cause : A) (test : Bool) (rest : List (A × Bool)) → first_failing ((cause, test) ∷ rest) ≡ None → (test ≡ true) × (first_failing rest ≡ None)
first_met cause true rest none = (refl, none)
first_met cause false rest none = cc

-- where the first one fails, it is the one; where it is met, the first is that of the rest
pub fails_first : {A : Type 0} (cause : A) (test : Bool) (rest : List (A × Bool)) → test ≡ false → first_failing ((cause, test) ∷ rest) ≡ Some cause
fails_first cause true rest fails = cc
fails_first cause false rest fails = refl

pub passes_first : {A : Type 0} (cause : A) (test : Bool) (rest : List (A × Bool)) → test ≡ true → first_failing ((cause, test) ∷ rest) ≡ first_failing rest
passes_first cause true rest passes = refl
passes_first cause false rest passes = cc

-- of causes of which no two stand at one place of the order, one at most is the first to apply
pub one_first_to_apply : {A : Type 0} (Applies : A → Type 0) (IsEarlier : A → A → Type 0) → ((a b : A) → (IsEarlier a b → ⊥) → (IsEarlier b a → ⊥) → a ≡ b)
    → (cause other : A) → IsFirstToApply Applies IsEarlier cause → IsFirstToApply Applies IsEarlier other → cause ≡ other
one_first_to_apply Applies IsEarlier one cause other first second =
    one cause other (λ e. second.none_earlier cause e first.applies) (λ e. first.none_earlier other e second.applies)
