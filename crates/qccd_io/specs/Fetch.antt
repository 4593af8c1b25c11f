use Rattle.std.specs.Prelude.{◌≡◌, ℕ, ◌<◌, List, length, Option, None, Some, ⊤}
use Rattle.qccd_io.specs.Source.{Telling}
use Rattle.qccd_io.specs.Shelf.{Holding}
use Rattle.qccd_io.specs.declared.fetch.FetchFault.{FetchFault}
use Rattle.qccd_io.specs.declared.fetch.FetchFault.TheVariants.{ReadFault, TooLarge, NoMemory}

-- a fact for each fault, and the limit that was told for a file that is too large; that memory ran out
-- says nothing
abbrev pub MatchFault : FetchFault → Type 0 → (ℕ → Type 0) → Type 0
MatchFault ReadFault P Q = P
MatchFault (TooLarge limit) P Q = Q limit
MatchFault NoMemory P Q = ⊤

-- the same file as before, where the source tells
abbrev pub SameFile : Option Telling → Option Telling → Type 0
SameFile None after = after ≡ None
SameFile (Some t) None = ⊥
SameFile (Some t) (Some u) = (u.name ≡ t.name) × (u.whole ≡ t.whole)

-- these bytes are left to be read, where the source tells
abbrev pub HasLeft : Option Telling → List ℕ → Type 0
HasLeft None bytes = ⊤
HasLeft (Some t) bytes = t.left ≡ bytes

-- more than `limit` bytes are left to be read, where the source tells
abbrev pub HasMoreLeft : Option Telling → ℕ → Type 0
HasMoreLeft None limit = ⊤
HasMoreLeft (Some t) limit = limit < length t.left

-- the file of this name has these bytes, where the shelf tells
abbrev pub HoldsFile : Option Holding → List ℕ → List ℕ → Type 0
HoldsFile None name bytes = ⊤
HoldsFile (Some h) name bytes = h.file name ≡ Some bytes

-- the file of this name has more than `limit` bytes, where the shelf tells
abbrev pub HoldsMoreThan : Option Holding → List ℕ → ℕ → Type 0
HoldsMoreThan None name limit = ⊤
HoldsMoreThan (Some h) name limit = (bytes : List ℕ) × (h.file name ≡ Some bytes) × (limit < length bytes)
