-- A text was sent to a buffer over a sink, and what waited in it was handed on: then the sink took the text.
use Rattle.std.proofs.Common.{◌≡◌, ℕ, ◌≤◌, List, [], ◌∷◌, Option, Result, Ok, Err, IfErr, refl, sym, ◌∙◌, ap, subst, arith}
use Rattle.qccd_io.specs.Sends.{Sends}
use Rattle.qccd_io.specs.Sink.{appended, known_length, Behind}
use Rattle.qccd_io.proofs.Appended.{appended-nothing, prefix-finished}
use Rattle.qccd_io.proofs.Faulting.{Rose-from_later}
use Rattle.qccd_messages.specs.declared.refusal.Refusal.{Refusal}
use Rattle.qccd_messages.specs.declared.refusal.Refusal.TheVariants as refusal
use Rattle.qccd_top.specs.Stage.{Just}
use Rattle.qccd_top.specs.Call.{output}
use Rattle.qccd_top.specs.Done.{Did, Writes}

finished : {Y : Type 0} (taken : Y → Option (List ℕ)) (faults : Y → ℕ) (behind : Y → Behind) (old mid new : Y) (waiting text : List ℕ) (result : Result (Unit {0}) Refusal)
    → appended (taken mid) waiting ≡ appended (appended (taken old) []) text → faults old ≤ faults mid → known_length (taken old) ≤ known_length (taken mid)
    → Sends taken faults behind mid new result waiting → IfErr result (λ r. r ≡ refusal.Write)
    → Writes taken faults old new text result
finished taken faults behind old mid new waiting text (Ok done) sent more longer is fault =
    record {
      did = record { text = text; means = refl; written = is.ok ∙ sent ∙ ap (λ t. appended t text) (appended-nothing (taken old)) };
      count = omega (arith, more, is.count);
    }
finished taken faults behind old mid new waiting text (Err e) sent more longer is fault =
    record {
      did = subst (λ (r : Refusal). Did (Just text) ⊥ (output taken faults old new) (Err r)) (sym fault) (record {
        text = text;
        means = refl;
        prefix = prefix-finished (taken old) (taken mid) (taken new) waiting text sent longer is.err.0;
        rose = Rose-from_later (faults old) (faults mid) (faults new) more is.count is.err.1;
      });
      count = omega (arith, more, is.count);
    }

-- the reference that was lent to the buffer is the one that it still has
pub same_name : (lent begun kept : ℕ) (xs ys : List ℕ) → begun ≡ lent → kept ∷ xs ≡ begun ∷ ys → lent ≡ kept
same_name lent begun kept xs ys first e = cc

-- the same for a buffer that was empty over this sink when it was begun, where the sink has its last value again
pub writes_all : {Y : Type 0} (taken : Y → Option (List ℕ)) (faults : Y → ℕ) (behind : Y → Behind) (old begun mid new last : Y) (before waiting text : List ℕ) (result : Result (Unit {0}) Refusal)
    → begun ≡ old → before ≡ []
    → appended (taken mid) waiting ≡ appended (appended (taken begun) before) text → faults begun ≤ faults mid → known_length (taken begun) ≤ known_length (taken mid)
    → Sends taken faults behind mid new result waiting → IfErr result (λ r. r ≡ refusal.Write) → last ≡ new
    → Writes taken faults old last text result
writes_all {Y} taken faults behind old begun mid new last before waiting text result same empty sent more longer is fault end =
    subst (λ (y : Y). Writes taken faults old y text result) (sym end)
    (finished taken faults behind old mid new waiting text result
    (sent ∙ ap (λ (y : Y). appended (appended (taken y) before) text) same ∙ ap (λ (b : List ℕ). appended (appended (taken old) b) text) empty)
    (subst (λ (y : Y). faults y ≤ faults mid) same more) (subst (λ (y : Y). known_length (taken y) ≤ known_length (taken mid)) same longer) is fault)
