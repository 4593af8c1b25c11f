-- What is promised of a call: of its status, of what `out` and `err` took, and of the counts of faults.
use Rattle.std.specs.Prelude.{◌≡◌, ◌≢◌, ◌↔◌, ◌≤◌, ℕ, Some, None}
use Rattle.qccd_io.specs.Shelf.{Holding}
use Rattle.qccd_words.specs.Words.{request_of}
use Rattle.qccd_top.specs.Call.{Call, Output}
use Rattle.qccd_top.specs.Done.{IsDone, IsAnswered, IsDue, IsDueOrFault}
use Rattle.qccd_top.specs.Headline.{AsksRun, AsksCompile, AsksExec, AsksCheck, AsksRehearsal, AsksTidy, IsReported, IsCutReport, IsProgramWritten, IsExecuted, IsSameTold, IsSummarized, IsTidyWritten}

pub record Promises (call : Call) (err : Output) (status : ℕ) : Type 0 where
  -- For a run, what was written with status 0 is the report of the one program meant, which implements the circuit,
  -- keeps every bound and meets each gate's operands; with status 4 it is a prefix of it.
  pub headline : (asks : AsksRun call.words) → status ≡ 0 → IsReported call asks
  pub cut : (asks : AsksRun call.words) → status ≡ 4 → IsCutReport call asks
  -- For compiling it is the text of such a program.
  pub compiled : (asks : AsksCompile call.words) → status ≡ 0 → IsProgramWritten call asks
  -- For the run of a program in a file it is the report of the program whose text that is, which keeps every bound
  -- and meets each gate's operands.
  pub executed : (asks : AsksExec call.words) → status ≡ 0 → IsExecuted call asks
  -- For a comparison it is that they are the same, and the program whose text is in the file implements the circuit.
  pub checked : (asks : AsksCheck call.words) → status ≡ 0 → IsSameTold call asks
  -- For a rehearsal it is the summary of such a program for the circuit that is generated.
  pub rehearsed : (asks : AsksRehearsal call.words) → status ≡ 0 → IsSummarized call asks
  -- For tidying it is the text of the program whose text is in the file, without the operations that undo each other.
  pub tidied : (asks : AsksTidy call.words) → status ≡ 0 → IsTidyWritten call asks
  -- With status 0 the text that the words ask for was written, and nothing was told.
  pub done : status ≡ 0 → IsDone call
  pub quiet : status ≡ 0 → err.new ≡ err.old
  -- Each other status has its cause, and its message was told.
  pub refused : status ≢ 0 → IsAnswered call err status
  -- Where the shelf tells what it holds, the status is the one that is due, or memory ran out or a count of faults rose.
  pub exact : (held : Holding) (due : ℕ) → call.told ≡ Some held → IsDue call.words held due → IsDueOrFault call due status
  -- Status 2 is that of words that have no reading, and of no others.
  pub words : (status ≡ 2) ↔ (request_of call.words ≡ None)
  -- No count of faults fell.
  pub shelf_count : call.old_faults ≤ call.new_faults
  pub out_count : call.out.old_faults ≤ call.out.new_faults
  pub err_count : err.old_faults ≤ err.new_faults
