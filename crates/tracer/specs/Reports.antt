-- What a call does that takes memory first and then sends a text.
use Rattle.std.specs.Prelude.{◌≡◌, ◌≤◌, ℕ, List, Option, Result, OnOk, Err}
use Rattle.qccd_io.specs.Faults.{Rose}
use Rattle.qccd_io.specs.Sink.{appended, TookPrefix, Behind, Further}
use Rattle.tracer.specs.declared.fault.ReportFault.{ReportFault}
use Rattle.tracer.specs.declared.fault.ReportFault.TheVariants as fault

-- The text was appended whole. Or a write failed: then a prefix of it was appended, and the count of faults
-- rose. Or memory ran out: then the sink is as it was.
pub record Reports {X T : Type 0} (taken : X → Option (List ℕ)) (faults : X → ℕ) (behind : X → Behind) (old new : X) (result : Result T ReportFault) (text : List ℕ) : Type 0 where
  pub ok : OnOk result (taken new ≡ appended (taken old) text)
  pub write : result ≡ Err fault.Write → TookPrefix (taken old) (taken new) text × Rose (faults old) (faults new)
  pub no_memory : result ≡ Err fault.NoMemory → new ≡ old
  pub count : faults old ≤ faults new
  pub further : Further (behind old) (behind new)
