use Rattle.std.specs.Prelude.{◌≡◌, ◌≢◌, ℕ, List, Bool, true, false, Option, None, Some, ⊤}
use Rattle.qccd_io.specs.Source.{Telling}

-- What a shelf may tell of itself: the bytes of the file that it holds under a name, if it holds
-- one, and whether a source is out.
pub record Holding : Type 0 where
  pub file : List ℕ → Option (List ℕ)
  pub is_out : Bool

-- no source is out, where the shelf tells
abbrev pub NoneIsOut : Option Holding → Type 0
NoneIsOut None = ⊤
NoneIsOut (Some h) = h.is_out ≡ false

-- the shelf tells, and holds no file of this name
abbrev pub Lacks : Option Holding → List ℕ → Type 0
Lacks None name = ⊥
Lacks (Some h) name = h.file name ≡ None

-- the shelf holds the same files as before, under each name, and a source is out as before
abbrev pub HoldsTheSame : Option Holding → Option Holding → Type 0
HoldsTheSame None after = after ≡ None
HoldsTheSame (Some h) None = ⊥
HoldsTheSame (Some h) (Some k) = ((q : List ℕ) → k.file q ≡ h.file q) × (k.is_out ≡ h.is_out)

-- the shelf no longer holds the file of this name, and every other name keeps its bytes
abbrev pub TakesOut : Holding → List ℕ → Holding → Type 0
TakesOut h name k =
    (k.file name ≡ None) × ((q : List ℕ) → q ≢ name → k.file q ≡ h.file q) × (k.is_out ≡ true)

-- a source of the named file was lent, with all of the file's bytes still to be read
abbrev pub Lends : Option Holding → List ℕ → Option Telling → Option Holding → Type 0
Lends None name source after = after ≡ None
Lends (Some h) name None after = ⊥
Lends (Some h) name (Some t) None = ⊥
Lends (Some h) name (Some t) (Some k) =
    (h.file name ≡ Some t.whole) × (t.name ≡ name) × (t.left ≡ t.whole) × TakesOut h name k

-- the source may be given back, where the shelf tells: a source is out, and this one tells a name
-- that the shelf does not hold
abbrev pub CanGiveBack : Option Holding → Option Telling → Type 0
CanGiveBack None source = ⊤
CanGiveBack (Some h) None = ⊥
CanGiveBack (Some h) (Some t) = (h.is_out ≡ true) × (h.file t.name ≡ None)

-- the source's whole file is held under its name again, and every other name keeps its bytes
abbrev pub PutsBack : Option Holding → Option Telling → Option Holding → Type 0
PutsBack None source after = after ≡ None
PutsBack (Some h) None after = ⊥
PutsBack (Some h) (Some t) None = ⊥
PutsBack (Some h) (Some t) (Some k) =
    (k.file t.name ≡ Some t.whole) × ((q : List ℕ) → q ≢ t.name → k.file q ≡ h.file q) × (k.is_out ≡ false)
