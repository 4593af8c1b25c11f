use Rattle.std.specs.Prelude.{◌≡◌, ℕ, ◌+◌, ◌-◌, ◌^◌, ◌==◌, min, List, [], ◌∷◌, ◌++◌, Bool, Option, None, Some, is_none, String, string_bytes, Vec, bytes_eq, if◌then◌else◌}
use Rattle.std.specs.declared.alloc.Global.{Global}
use Rattle.qccd_io.specs.Shelf.{Holding}
use Rattle.std.specs.List.{list_any}
use Rattle.qccd_io.specs.Source.{Telling}

-- How many calls there were, and the numbers, from 0, of those that fail.
pub record Plan : Type 0 where
  pub calls : ℕ
  pub failing : List ℕ

-- the next call fails
abbrev pub fails : Plan → Bool
fails p = list_any (λ k. k == p.calls) p.failing

-- the plan after one call; a count stands still at the end of its type
abbrev pub after_call : Plan → Plan
after_call p = record p { calls = min (p.calls + 1) (2 ^ 64 - 1) }

-- the count of faults after one call
abbrev pub faults_after : Plan → ℕ → ℕ
faults_after p faults = if fails p then min (faults + 1) (2 ^ 64 - 1) else faults

-- the bytes of the file of this name, among files with their names
abbrev pub file_named : List (List ℕ × List ℕ) → List ℕ → Option (List ℕ)
file_named [] name = None
file_named (file ∷ files) name = if bytes_eq file.0 name then Some file.1 else file_named files name

-- no two files have one name
abbrev pub HaveDistinctNames : List (List ℕ × List ℕ) → Type 0
HaveDistinctNames [] = Unit {0}
HaveDistinctNames (file ∷ files) = (file_named files file.0 ≡ None) × HaveDistinctNames files

-- What a shelf over memory shows: the files that it holds with their names, its count of faults,
-- and the plan of its calls, which a source that is out has with it.
pub record Stock : Type 0 where
  pub files : List (List ℕ × List ℕ)
  pub faults : ℕ
  pub plan : Option Plan

-- What a source over memory shows.
pub record Loan : Type 0 where
  pub telling : Telling
  pub faults : ℕ
  pub plan : Plan

-- a file as a name and bytes
abbrev pub entry_of : String Global × Vec ℕ Global → List ℕ × List ℕ
entry_of file = (string_bytes file.0, file.1.items)

-- what a shelf over memory tells: a source is out where it does not have its plan
abbrev pub holding_of : Stock → Holding
holding_of s = record { file = file_named s.files; is_out = is_none s.plan }

-- one file of this name was taken out from among the others
abbrev pub TakesNamed :
    List (String Global × Vec ℕ Global) → List (String Global × Vec ℕ Global) → List ℕ → String Global × Vec ℕ Global → Type 0
TakesNamed old new name file =
    (front : List (String Global × Vec ℕ Global)) × (back : List (String Global × Vec ℕ Global))
    × (old ≡ front ++ file ∷ back) × (new ≡ front ++ back) × (string_bytes file.0 ≡ name)
