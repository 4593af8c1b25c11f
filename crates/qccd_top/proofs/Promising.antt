-- A call that is done, and one that is refused, keep what is promised.
use Rattle.std.proofs.Common.{◌≡◌, ℕ, ◌≤◌, inl, inr, ◌⊎◌, List, Option, None, Result, Ok, Err, refl, ap, arith}
use Rattle.qccd_io.specs.Faults.{Rose}
use Rattle.qccd_io.specs.Sends.{Sends}
use Rattle.qccd_io.specs.Sink.{appended, TookPrefix, Behind}
use Rattle.qccd_words.specs.Words.{request_of}
use Rattle.qccd_messages.specs.Cause.{Cause, Words, status_of}
use Rattle.qccd_messages.specs.Message.{message_of}
use Rattle.qccd_top.specs.Call.{Call, Output, WriteFailed}
use Rattle.qccd_top.specs.Done.{IsDone, IsCauseOf}
use Rattle.qccd_top.specs.Promises.{Promises}
use Rattle.qccd_top.proofs.Dues.{done_exact, refused_exact}
use Rattle.qccd_top.proofs.Headline.{headline, cut, program_written, executed, same_told, rehearsed, tidy_written}
use Rattle.qccd_top.proofs.Judged.{words_cause}

-- each cause has a status other than 0
some_status : (cause : Cause) → status_of cause ≡ 0 → ⊥
some_status Words zero = omega (arith, zero)
some_status cause zero = omega (arith, zero)

-- a message was sent whole, or a prefix of it while the count of faults rose
pub told : {Y T E : Type 0} (taken : Y → Option (List ℕ)) (faults : Y → ℕ) (behind : Y → Behind) (old new : Y) (result : Result T E) (text : List ℕ)
    → Sends taken faults behind old new result text
    → (taken new ≡ appended (taken old) text) ⊎ (TookPrefix (taken old) (taken new) text × Rose (faults old) (faults new))
told taken faults behind old new (Ok done) text sends = inl sends.ok
told taken faults behind old new (Err fault) text sends = inr sends.err

-- the counts of faults did not fall
pub record Counted (call : Call) (err : Output) : Type 0 where
  pub of_shelf : call.old_faults ≤ call.new_faults
  pub of_out : call.out.old_faults ≤ call.out.new_faults
  pub of_err : err.old_faults ≤ err.new_faults

pub promised_done : (call : Call) (err : Output) → IsDone call → err.new ≡ err.old → (request_of call.words ≡ None → ⊥) → Counted call err → Promises call err 0
promised_done call err done quiet reads counted = record {
  headline = λ asks zero. headline call asks done;
  cut = λ asks four. absurd (omega (arith, four));
  compiled = λ asks zero. program_written call asks done;
  executed = λ asks zero. executed call asks done;
  checked = λ asks zero. same_told call asks done;
  rehearsed = λ asks zero. rehearsed call asks done;
  tidied = λ asks zero. tidy_written call asks done;
  done = λ zero. done;
  quiet = λ zero. quiet;
  refused = λ some. absurd (some refl);
  exact = λ held due tells is. done_exact call held due tells done is;
  words = (λ two. absurd (omega (arith, two)), λ none. absurd (reads none));
  shelf_count = counted.of_shelf;
  out_count = counted.of_out;
  err_count = counted.of_err;
}

pub promised_refused : (call : Call) (err : Output) (cause : Cause) → IsCauseOf call cause → (request_of call.words ≡ None → cause ≡ Words)
    → (err.new ≡ appended err.old (message_of cause)) ⊎ (TookPrefix err.old err.new (message_of cause) × WriteFailed err)
    → Counted call err → Promises call err (status_of cause)
promised_refused call err cause rests first message counted = record {
  headline = λ asks zero. absurd (some_status cause zero);
  cut = λ asks four. cut call asks cause rests four;
  compiled = λ asks zero. absurd (some_status cause zero);
  executed = λ asks zero. absurd (some_status cause zero);
  checked = λ asks zero. absurd (some_status cause zero);
  rehearsed = λ asks zero. absurd (some_status cause zero);
  tidied = λ asks zero. absurd (some_status cause zero);
  done = λ zero. absurd (some_status cause zero);
  quiet = λ zero. absurd (some_status cause zero);
  refused = λ some. record { cause = cause; is_status = refl; rests = rests; message = message };
  exact = λ held due tells is. refused_exact call held cause due tells rests is;
  words = (λ two. words_cause call cause rests two, λ none. ap status_of (first none));
  shelf_count = counted.of_shelf;
  out_count = counted.of_out;
  err_count = counted.of_err;
}
