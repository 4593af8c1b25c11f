use Rattle.std.specs.Prelude.{◌≡◌, ℕ, List, [], ◌++◌, Option, None, Some, ⊤}

-- What a source may tell of itself: the bytes of its file's name, those that are still to be read,
-- and those of the whole file.
pub record Telling : Type 0 where
  pub name : List ℕ
  pub left : List ℕ
  pub whole : List ℕ

-- `bytes` were read: they came first of what was left, and the file is the same
abbrev pub Reads : Option Telling → List ℕ → Option Telling → Type 0
Reads None bytes after = after ≡ None
Reads (Some t) bytes None = ⊥
Reads (Some t) bytes (Some u) = (t.left ≡ bytes ++ u.left) × (u.name ≡ t.name) × (u.whole ≡ t.whole)

-- nothing is left, where the source tells
abbrev pub AtEnd : Option Telling → Type 0
AtEnd None = ⊤
AtEnd (Some t) = t.left ≡ []
