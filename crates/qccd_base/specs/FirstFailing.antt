-- Which of several causes is the first: of tests that fail, and of statements that hold.
use Rattle.std.specs.Prelude.{◌≡◌, Bool, if◌then◌else◌, List, [], ◌∷◌, Option, Some, None}

-- of causes with the tests that have to pass: the first whose test fails, or none where each passes
abbrev pub first_failing : {A : Type 0} → List (A × Bool) → Option A
first_failing [] = None
first_failing (test ∷ rest) = if test.1 then first_failing rest else Some test.0

-- each test passes
abbrev pub NoneFails : {A : Type 0} → List (A × Bool) → Type 0
NoneFails tests = first_failing tests ≡ None

-- this is the cause of the first test that fails
abbrev pub IsFirstFailing : {A : Type 0} → List (A × Bool) → A → Type 0
IsFirstFailing tests cause = first_failing tests ≡ Some cause

-- of causes that stand in an order, each with a statement that tells where it applies: this one applies, and
-- none that is earlier does
pub record IsFirstToApply {A : Type 0} (Applies : A → Type 0) (IsEarlier : A → A → Type 0) (cause : A) : Type 0 where
  pub applies : Applies cause
  pub none_earlier : (other : A) → IsEarlier other cause → Applies other → ⊥
