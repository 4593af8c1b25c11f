-- What a stage of a command answers, and how one follows another.
use Rattle.std.specs.Prelude.{◌≡◌, ◌≤◌, ℕ, Option, ◌⊎◌, List, Result, Ok, Err, Vec}
use Rattle.std.specs.declared.alloc.Global.{Global}
use Rattle.qccd_io.specs.Faults.{Rose}
use Rattle.qccd_io.specs.Shelf.{Holding}
use Rattle.qccd_messages.specs.declared.refusal.Refusal.{Refusal}
use Rattle.qccd_messages.specs.Cause.{Cause, Read, Write, NoMemory, cause_of}

-- a stage gives a value, or refuses the command, or is the one that fetches the file of this name
pub data Answer (A : Type 0) : Type 0 where
  Gives : (value : A) → Answer A
  Refuses : (cause : Cause) → Answer A
  Fetches : (name : List ℕ) → Answer A

-- a stage is known by its answers
abbrev pub Stage : Type 0 → Type 1
Stage A = Answer A → Type 0

infixl 10 ◌>>=◌
-- A stage and then, with what it gives, another: refused for the first cause in this order.
unfoldable pub ◌>>=◌ : {A B : Type 0} → Stage A → (A → Stage B) → Stage B
◌>>=◌ {A} first next (Gives value) = (a : A) × first (Gives a) × next a (Gives value)
◌>>=◌ {A} first next (Refuses cause) = first (Refuses cause) ⊎ ((a : A) × first (Gives a) × next a (Refuses cause))
◌>>=◌ {A} first next (Fetches name) = first (Fetches name) ⊎ ((a : A) × first (Gives a) × next a (Fetches name))

-- just this value
abbrev pub Just : {A : Type 0} → A → Stage A
Just a (Gives value) = value ≡ a
Just a (Refuses cause) = ⊥
Just a (Fetches name) = ⊥

-- What a refusal rests on: the stage refuses for it, or fetches the file while the shelf's count of faults
-- rises, or memory runs out. No stage writes.
abbrev pub IsRefusal : {A : Type 0} → Stage A → Type 0 → Cause → Type 0
IsRefusal stage Rises (Read name) = stage (Refuses (Read name)) ⊎ (stage (Fetches name) × Rises)
IsRefusal stage Rises Write = ⊥
IsRefusal stage Rises NoMemory = Unit {0}
IsRefusal stage Rises cause = stage (Refuses cause)

-- what the code of a stage answers, where Rises says that the shelf's count of faults rose
abbrev pub Answered : {A : Type 0} → Stage A → Type 0 → Result A Refusal → Type 0
Answered stage Rises (Ok value) = stage (Gives value)
Answered stage Rises (Err refusal) = IsRefusal stage Rises (cause_of refusal)

-- of a stage that fetches no file
pub record IsAnswer {A : Type 0} (stage : Stage A) (result : Result A Refusal) : Type 0 where
  pub answer : Answered stage ⊥ result

-- Of a stage that fetches files, from one state of the shelf to the next: it answers by what the shelf held at
-- first, and the shelf tells the same afterwards.
pub record Visits {X A : Type 0} (told : X → Option Holding) (faults : X → ℕ) (old new : X) (stage : Option Holding → Stage A) (result : Result A Refusal) : Type 0 where
  pub answer : Answered (stage (told old)) (Rose (faults old) (faults new)) result
  pub same : told new ≡ told old
  pub count : faults old ≤ faults new

-- what is seen of a result's value
abbrev pub viewed : {A B : Type 0} → (A → B) → Result A Refusal → Result B Refusal
viewed view (Ok value) = Ok (view value)
viewed view (Err refusal) = Err refusal

-- the bytes of a result
abbrev pub bytes_of : Result (Vec ℕ Global) Refusal → Result (List ℕ) Refusal
bytes_of result = viewed (λ v. v.items) result
