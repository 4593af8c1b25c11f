-- A short piece of a text that is put together before it is sent.
use Rattle.std.specs.Prelude.{ℕ, List}

-- the text so far, and how many bytes there is room for in front of it
pub record PieceData : Type 0 where
  pub text : List ℕ
  pub room : ℕ
