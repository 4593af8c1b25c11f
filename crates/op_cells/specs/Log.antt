-- What contracts see of a log.
use Rattle.std.specs.Prelude.{ℕ, List}
use Rattle.op_cells.specs.declared.cells.Done.{Done}

-- the entries, and for how many more there is room
pub record LogData : Type 0 where
  pub entries : List Done
  pub spare : ℕ
