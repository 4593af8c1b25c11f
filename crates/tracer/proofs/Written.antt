-- What a call did that takes memory first and then sends a text.
use Rattle.std.proofs.Common.{ℕ, List, Option, Ok, Err, refl, arith}
use Rattle.qccd_io.specs.Sends.{Sends}
use Rattle.qccd_io.specs.Sink.{Behind}
use Rattle.tracer.specs.declared.fault.ReportFault.TheVariants as fault
use Rattle.tracer.specs.Reports.{Reports}

pub written_none : {X T : Type 0} (taken : X → Option (List ℕ)) (faults : X → ℕ) (behind : X → Behind) (s : X) (text : List ℕ) → Reports {T = T} taken faults behind s s (Err fault.NoMemory) text
written_none taken faults behind s text = record {
  ok = tt;
  write = λ e. absurd (cc);
  no_memory = λ e. refl;
  count = omega arith;
  further = (refl, omega arith);
}

pub written_whole : {X T U E : Type 0} (taken : X → Option (List ℕ)) (faults : X → ℕ) (behind : X → Behind) (old new : X) (t : T) (u : U) (text : List ℕ) → Sends {E = E} taken faults behind old new (Ok t) text → Reports taken faults behind old new (Ok u) text
written_whole taken faults behind old new t u text sent = record {
  ok = sent.ok;
  write = λ e. absurd (cc);
  no_memory = λ e. absurd (cc);
  count = sent.count;
  further = sent.further;
}

pub written_part : {X T U E : Type 0} (taken : X → Option (List ℕ)) (faults : X → ℕ) (behind : X → Behind) (old new : X) (e : E) (text : List ℕ) → Sends {T = T} taken faults behind old new (Err e) text → Reports {T = U} taken faults behind old new (Err fault.Write) text
written_part taken faults behind old new e text sent = record {
  ok = tt;
  write = λ k. sent.err;
  no_memory = λ k. absurd (cc);
  count = sent.count;
  further = sent.further;
}
