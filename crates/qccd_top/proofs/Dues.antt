-- The status is the one that is due, unless memory ran out or a count of faults rose.
use Rattle.std.proofs.Common.{◌≡◌, ℕ, inl, inr, List, Option, Some, refl, sym, ◌∙◌, ap, subst}
use Rattle.qccd_io.specs.Shelf.{Holding}
use Rattle.qccd_messages.specs.Cause.{Cause, Read, Write, NoMemory, status_of}
use Rattle.qccd_top.specs.Stage.{Refuses, Stage}
use Rattle.qccd_top.specs.Means.{TextFor}
use Rattle.qccd_top.specs.Call.{Output, Call, ReadFailed}
use Rattle.qccd_top.specs.Done.{Wrote, IsCause, IsDone, IsCauseOf, IsDueFor, IsDue, IsDueOrFault}
use Rattle.qccd_top.proofs.Single.{IsSingle, single-written}

wrote_due : (text_of : Stage (List ℕ)) (out : Output) (due : ℕ) → IsSingle text_of → Wrote text_of out → IsDueFor text_of due → 0 ≡ due
wrote_due text_of out due one wrote (inl (text, means, is)) = sym is
wrote_due text_of out due one wrote (inr (cause, why, is)) = absurd (one.not_both wrote.text cause wrote.means why)

-- a cause that does not rest on a fault is the one that is due
held_due : (text_of : Stage (List ℕ)) (cause : Cause) (due : ℕ) → IsSingle text_of → text_of (Refuses cause) → IsDueFor text_of due → status_of cause ≡ due
held_due text_of cause due one why (inl (text, means, is)) = absurd (one.not_both text cause means why)
held_due text_of cause due one why (inr (other, also, is)) = ap status_of (one.refused cause other why also) ∙ sym is

cause_due : (call : Call) (text_of : Stage (List ℕ)) (cause : Cause) (due : ℕ) → IsSingle text_of
    → IsCause text_of (ReadFailed call) call.out cause → IsDueFor text_of due → IsDueOrFault call due (status_of cause)
cause_due call text_of (Read name) due one (inl why, still) is = inl (held_due text_of (Read name) due one why is)
cause_due call text_of (Read name) due one (inr (reads, rises), still) is = inr (inr (inl (refl, rises)))
cause_due call text_of Write due one rests is = inr (inr (inr (refl, rests.rose)))
cause_due call text_of NoMemory due one rests is = inr (inl refl)
cause_due call text_of cause due one (why, still) is = inl (held_due text_of cause due one why is)

pub done_exact : (call : Call) (held : Holding) (due : ℕ) → call.told ≡ Some held → IsDone call → IsDue call.words held due → IsDueOrFault call due 0
done_exact call held due tells done is =
    let wrote : Wrote (TextFor (Some held) call.words) call.out = subst (λ (t : Option Holding). Wrote (TextFor t call.words) call.out) tells done in
    inl (wrote_due (TextFor (Some held) call.words) call.out due (single-written held call.words) wrote is)

pub refused_exact : (call : Call) (held : Holding) (cause : Cause) (due : ℕ)
    → call.told ≡ Some held → IsCauseOf call cause → IsDue call.words held due → IsDueOrFault call due (status_of cause)
refused_exact call held cause due tells why is =
    let Rests : Option Holding → Type 0 = λ t. IsCause (TextFor t call.words) (ReadFailed call) call.out cause in
    cause_due call (TextFor (Some held) call.words) cause due (single-written held call.words) (subst Rests tells why) is

-- one status at most is due
pub one_due : (words : List (List ℕ)) (held : Holding) (first second : ℕ) → IsDue words held first → IsDue words held second → first ≡ second
one_due words held first second is also = due_for (TextFor (Some held) words) (single-written held words) is also
  where
    due_for : (text_of : Stage (List ℕ)) → IsSingle text_of → IsDueFor text_of first → IsDueFor text_of second → first ≡ second
    due_for text_of one (inl (text, means, zero)) (inl (other, too, nought)) = zero ∙ sym nought
    due_for text_of one (inl (text, means, zero)) (inr (cause, why, status)) = absurd (one.not_both text cause means why)
    due_for text_of one (inr (cause, why, status)) (inl (text, means, zero)) = absurd (one.not_both text cause means why)
    due_for text_of one (inr (cause, why, status)) (inr (other, too, stands)) = status ∙ ap status_of (one.refused cause other why too) ∙ sym stands
