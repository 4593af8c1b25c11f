-- What a command did.
use Rattle.std.specs.Prelude.{◌≡◌, ◌≤◌, ℕ, ◌⊎◌, List, Option, Some, Result, Ok, Err}
use Rattle.qccd_io.specs.Faults.{Rose}
use Rattle.qccd_io.specs.Shelf.{Holding}
use Rattle.qccd_io.specs.Sink.{appended, TookPrefix}
use Rattle.qccd_messages.specs.declared.refusal.Refusal.{Refusal}
use Rattle.qccd_messages.specs.Cause.{Cause, Write, cause_of, status_of}
use Rattle.qccd_messages.specs.Message.{message_of}
use Rattle.qccd_top.specs.Stage.{Stage, Just, Gives, Refuses, IsRefusal}
use Rattle.qccd_top.specs.Means.{TextFor}
use Rattle.qccd_top.specs.Call.{Output, output, WriteFailed, Call, ReadFailed}

-- the text was taken whole
pub record Wrote (text_of : Stage (List ℕ)) (out : Output) : Type 0 where
  pub text : List ℕ
  pub means : text_of (Gives text)
  pub written : out.new ≡ appended out.old text

-- a prefix of the text was taken, and the count of faults rose
pub record CutShort (text_of : Stage (List ℕ)) (out : Output) : Type 0 where
  pub text : List ℕ
  pub means : text_of (Gives text)
  pub prefix : TookPrefix out.old out.new text
  pub rose : WriteFailed out

-- what each cause rests on, and what was taken then; Rises says that the shelf's count of faults rose
abbrev pub IsCause : Stage (List ℕ) → Type 0 → Output → Cause → Type 0
IsCause text_of Rises out Write = CutShort text_of out
IsCause text_of Rises out cause = IsRefusal text_of Rises cause × (out.new ≡ out.old)

-- what the code of a command does
abbrev pub Did : Stage (List ℕ) → Type 0 → Output → Result (Unit {0}) Refusal → Type 0
Did text_of Rises out (Ok done) = Wrote text_of out
Did text_of Rises out (Err refusal) = IsCause text_of Rises out (cause_of refusal)

-- What the code of a command does, from one state of the shelf and of `out` to the next.
pub record Does {X Y : Type 0} (told : X → Option Holding) (faults : X → ℕ) (taken : Y → Option (List ℕ)) (out_faults : Y → ℕ)
    (old new : X) (out_old out_new : Y) (text_of : Option Holding → Stage (List ℕ)) (result : Result (Unit {0}) Refusal) : Type 0 where
  pub did : Did (text_of (told old)) (Rose (faults old) (faults new)) (output taken out_faults out_old out_new) result
  pub same : told new ≡ told old
  pub count : faults old ≤ faults new
  pub out_count : out_faults out_old ≤ out_faults out_new

-- what the writer of a text does
pub record Writes {Y : Type 0} (taken : Y → Option (List ℕ)) (out_faults : Y → ℕ) (old new : Y) (text : List ℕ) (result : Result (Unit {0}) Refusal) : Type 0 where
  pub did : Did (Just text) ⊥ (output taken out_faults old new) result
  pub count : out_faults old ≤ out_faults new

-- ---- of a call

-- the text that the words ask for was taken whole
abbrev pub IsDone : Call → Type 0
IsDone call = Wrote (TextFor call.told call.words) call.out

-- this is the cause for which it was not
abbrev pub IsCauseOf : Call → Cause → Type 0
IsCauseOf call cause = IsCause (TextFor call.told call.words) (ReadFailed call) call.out cause

-- a cause of this status was told to `err`, whole or, where its count of faults rose, in part
pub record IsAnswered (call : Call) (err : Output) (status : ℕ) : Type 0 where
  pub cause : Cause
  pub is_status : status ≡ status_of cause
  pub rests : IsCauseOf call cause
  pub message : (err.new ≡ appended err.old (message_of cause)) ⊎ (TookPrefix err.old err.new (message_of cause) × WriteFailed err)

-- ---- the status that is due

-- 0 where there is a text, and else that of the cause for which there is none
abbrev pub IsDueFor : Stage (List ℕ) → ℕ → Type 0
IsDueFor text_of status =
    ((text : List ℕ) × text_of (Gives text) × (status ≡ 0))
    ⊎ ((cause : Cause) × text_of (Refuses cause) × (status ≡ status_of cause))

-- the status that is due for the words, where a shelf holds these files
abbrev pub IsDue : List (List ℕ) → Holding → ℕ → Type 0
IsDue words held status = IsDueFor (TextFor (Some held) words) status

-- the status is the one that is due; or memory ran out; or it is 3 or 4, and a count of faults rose
abbrev pub IsDueOrFault : Call → ℕ → ℕ → Type 0
IsDueOrFault call due status =
    (status ≡ due) ⊎ ((status ≡ 12) ⊎ (((status ≡ 3) × ReadFailed call) ⊎ ((status ≡ 4) × WriteFailed call.out)))
