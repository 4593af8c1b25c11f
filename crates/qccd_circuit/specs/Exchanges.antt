-- What exchanging neighbours that do not share makes of a list of item numbers.
use Rattle.std.specs.Prelude.{◌≡◌, ℕ, false, List, ◌∷◌, ◌++◌, slice_get, Some}
use Rattle.qccd_circuit.specs.Item.{ItemData}
use Rattle.qccd_circuit.specs.Sharing.{shares}

-- the items of two numbers do not share
abbrev pub AreApart : List ItemData → ℕ → ℕ → Type 0
AreApart items i j = (a b : ItemData) → slice_get items i ≡ Some a → slice_get items j ≡ Some b → shares a b ≡ false

-- a list reaches another by exchanges of two neighbours whose items do not share: by none, or by one and then more
pub data Reaches (items : List ItemData) : List ℕ → List ℕ → Type 0 where
  nothing : (v : List ℕ) → Reaches items v v
  exchange :
      (front : List ℕ) (i j : ℕ) (rest v : List ℕ) → AreApart items i j
      → Reaches items (front ++ j ∷ i ∷ rest) v → Reaches items (front ++ i ∷ j ∷ rest) v
