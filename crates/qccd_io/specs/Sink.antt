-- What a write does to the bytes that a sink has taken, and to the references that it keeps.
use Rattle.std.specs.Prelude.{◌≡◌, ℕ, ◌<◌, ◌≤◌, List, [], ◌++◌, length, take, Option, None, Some, option_map}
use Rattle.std.specs.Borrow.{GName}

-- the bytes taken so far, and then more; nothing is told where nothing was
abbrev pub appended : Option (List ℕ) → List ℕ → Option (List ℕ)
appended taken more = option_map (λ bytes. bytes ++ more) taken

-- how many bytes were taken, where that is told
abbrev pub known_length : Option (List ℕ) → ℕ
known_length None = 0
known_length (Some bytes) = length bytes

-- a write took the first n bytes of the piece, and one at least of a piece that has any
abbrev pub TookFirst : Option (List ℕ) → Option (List ℕ) → List ℕ → ℕ → Type 0
TookFirst old new piece n = (n ≤ length piece) × (0 < length piece → 0 < n) × (new ≡ appended old (take n piece))

-- a prefix of the text was taken, maybe none of it and maybe all
pub record TookPrefix (old new : Option (List ℕ)) (text : List ℕ) : Type 0 where
  pub count : ℕ
  pub within : count ≤ length text
  pub bytes : new ≡ appended old (take count text)

-- the references that a sink keeps, by name, and how many bytes the one behind the first of them has taken
pub record Behind : Type 0 where
  pub names : List GName
  pub handed : ℕ

-- of a sink that keeps no reference
abbrev pub nothing_behind : Behind
nothing_behind = record { names = []; handed = 0 }

-- a sink keeps the same references, and what it handed on through them stays there
abbrev pub Further : Behind → Behind → Type 0
Further old new = (new.names ≡ old.names) × (old.handed ≤ new.handed)
