-- The operations that stay, found in one pass.
use Rattle.std.specs.Prelude.{◌≡◌, true, false, List, [], ◌∷◌, ◌++◌, unwrap_or}
use Rattle.std.specs.List.{AllByRecursion}
use Rattle.op_table.specs.Touch.{meets}
use Rattle.passes.specs.Undo.{undoes}
use Rattle.passes.specs.Tidy.{Numbered, left_by}

-- the earlier operations, the last one first, after one more: without the one that it cancels, or with it in front
abbrev pub put : List Numbered → Numbered → List Numbered
put earlier b = unwrap_or (left_by b earlier) (b ∷ earlier)

-- the same after some more
abbrev pub swept : List Numbered → List Numbered → List Numbered
swept earlier [] = earlier
swept earlier (b ∷ ops) = swept (put earlier b) ops

-- of earlier operations, the last one first, b cancels a: it undoes it, and the more recent ones share no resource
-- with it
pub record Cancels (b : Numbered) (earlier xs : List Numbered) : Type 0 where
  pub recent : List Numbered
  pub a : Numbered
  pub older : List Numbered
  pub whole : earlier ≡ recent ++ a ∷ older
  pub rest : xs ≡ recent ++ older
  pub undone : undoes a.1 b.1 ≡ true
  pub apart : AllByRecursion (λ x. meets x.1 b.1 ≡ false) recent
