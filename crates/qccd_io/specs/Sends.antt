use Rattle.std.specs.Prelude.{◌≡◌, ◌≤◌, ℕ, List, Option, Result, OnOk, OnErr}
use Rattle.qccd_io.specs.Faults.{Rose}
use Rattle.qccd_io.specs.Sink.{appended, TookPrefix, Behind, Further}

-- A text was sent, from one state of a sink to the next: appended whole or, where that failed, a prefix of it,
-- and the count of faults rose. The references that the sink keeps are the same.
pub record Sends {X T E : Type 0} (taken : X → Option (List ℕ)) (faults : X → ℕ) (behind : X → Behind) (old new : X) (result : Result T E) (text : List ℕ) : Type 0 where
  pub ok : OnOk result (taken new ≡ appended (taken old) text)
  pub err : OnErr result (TookPrefix (taken old) (taken new) text × Rose (faults old) (faults new))
  pub count : faults old ≤ faults new
  pub further : Further (behind old) (behind new)
