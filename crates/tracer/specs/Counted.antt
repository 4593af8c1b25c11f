-- Operations counted by the columns of a report.
use Rattle.std.specs.Prelude.{◌≡◌, ℕ, ◌<◌, ◌==◌, List, count_by, get_or}
use Rattle.op_table.specs.declared.kinds.OpKind.{OpKind}
use Rattle.tracer.specs.Report.{column_of}

-- how many of the operations stand in a column
abbrev pub in_column : ℕ → List OpKind → ℕ
in_column column ops = count_by (λ op. column_of op == column) ops

-- twelve numbers, each of how many of these operations stand in its column
abbrev pub Tallied : List OpKind → List ℕ → Type 0
Tallied ops counts = (column : ℕ) → column < 12 → get_or counts column 0 ≡ in_column column ops
