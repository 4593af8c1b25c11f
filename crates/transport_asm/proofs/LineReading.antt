-- Lines, as the code reads them.
use Rattle.std.proofs.Common.{◌≡◌, ℕ, zero, suc, ◌-◌, ◌<◌, Bool, true, false, cond, ◌==◌, List, [], ◌∷◌, ◌++◌, length, Result, Ok, Err, refl, sym, ap, ◌∙◌, subst, arith, append_assoc}
use Rattle.std.specs.List.{slice_split, onto_first}
use Rattle.std.proofs.lemmas.List.{append-nil}
use Rattle.qccd_base.specs.declared.names.Ion.{Ion}
use Rattle.op_text.specs.declared.kind.AsmKind.{AsmKind}
use Rattle.op_text.specs.declared.kind.AsmKind.TheVariants.{Count}
use Rattle.transport_asm.specs.declared.faults.AsmFault.{AsmFault}
use Rattle.transport_asm.specs.declared.faults.AsmFault.TheVariants.{Refused, NoMemory}
use Rattle.op_text.specs.Steps.{◌>>=◌}
use Rattle.op_text.specs.Shapes.{is_end}
use Rattle.transport_asm.specs.Lines.{Unread, Refusal, refused, all_of, ends_in, ended}
use Rattle.transport_asm.specs.LineCursor.{Fails, ion_next}
use Rattle.transport_asm.specs.Texts.{RawData, ion_at, ions_at, program_block, value_of, read_text}
use Rattle.transport_asm.proofs.Cut.{has_word}
use Rattle.transport_asm.proofs.SlotLaws.{bind_ok, ok_is}

-- ---- nothing follows

some_part : (number : ℕ) (part : List ℕ) (parts : List (List ℕ)) → is_end parts ≡ false → ends_in (tt {0}) number (part ∷ parts) ≡ Err (refused number Count)
some_part number part [] e = absurd cc
some_part number [] (p ∷ parts) e = refl
some_part number (c ∷ cs) (p ∷ parts) e = refl

full_part : (number c : ℕ) (cs : List ℕ) (parts : List (List ℕ)) → ends_in (tt {0}) number ((c ∷ cs) ∷ parts) ≡ Err (refused number Count)
full_part number c cs [] = refl
full_part number c cs (p ∷ parts) = refl

pub some_left : (n : ℕ) → (n == 0) ≡ false → 0 < n
some_left zero e = absurd cc
some_left (suc n) e = omega arith

pub follows : (number : ℕ) (rest : List ℕ) → 0 < length rest → ends_in (tt {0}) number (slice_split (λ c. c == 10) rest) ≡ Err (refused number Count)
follows number [] some = absurd (omega arith)
follows number (c ∷ cs) some = by_test (c == 10) (slice_split (λ c. c == 10) cs) (has_word (λ c. c == 10) cs)
  where
    by_test : (t : Bool) (parts : List (List ℕ)) → is_end parts ≡ false → ends_in (tt {0}) number (cond t ([] ∷ parts) (onto_first c parts)) ≡ Err (refused number Count)
    by_test true parts some = some_part number [] parts some
    by_test false [] some = absurd cc
    by_test false (p ∷ parts) some = full_part number c p parts

-- ---- the loop over ions

abbrev pub with_ions : List Ion → Result (List Ion) AsmKind → Result (List Ion) AsmKind
with_ions front read = read >>= λ ions. Ok (front ++ ions)

regroup : (front : List Ion) (i : Ion) (read : Result (List Ion) AsmKind) → with_ions front (read >>= λ is. Ok (i ∷ is)) ≡ with_ions (front ++ i ∷ []) read
regroup front i (Ok x) = ap (λ (is : List Ion). Ok is) (simp append_assoc)
regroup front i (Err e) = refl

ion_step : (few : ℕ) (i : Ion) (word : List ℕ) (ws : List (List ℕ)) (front : List Ion) → ion_at few word ≡ Ok i → with_ions front (ions_at few (word ∷ ws)) ≡ with_ions (front ++ i ∷ []) (ions_at (few - 1) ws)
ion_step few i word ws front e = rw e (regroup front i (ions_at (few - 1) ws))

pub ion_more : (few : ℕ) (i : Ion) (ws more : List (List ℕ)) (front : List Ion) (total : Result (List Ion) AsmKind) → ion_next few ws ≡ Ok (i, more) → with_ions front (ions_at few ws) ≡ total → with_ions (front ++ i ∷ []) (ions_at (few - 1) more) ≡ total
ion_more few i [] more front total e so_far = absurd cc
ion_more few i (word ∷ ws) more front total e so_far =
    let b = bind_ok (ion_at few word) (λ ion. Ok (ion, ws)) (i, more) e in
    let pair = ok_is (b.0, ws) (i, more) b.2 in
    subst (λ (p : Ion × List (List ℕ)). with_ions (front ++ p.0 ∷ []) (ions_at (few - 1) p.1) ≡ total) pair (sym (ion_step few b.0 word ws front b.1) ∙ so_far)

next_err : (few : ℕ) (kind : AsmKind) (word : List ℕ) (ws : List (List ℕ)) (r : Result Ion AsmKind) → ◌>>=◌ {B = Ion × List (List ℕ)} r (λ ion. Ok (ion, ws)) ≡ Err kind → r ≡ Err kind
next_err few kind word ws (Ok x) e = absurd cc
next_err few kind word ws (Err k) e = cc

pub ion_wrong : (few : ℕ) (kind : AsmKind) (ws : List (List ℕ)) (front : List Ion) (total : Result (List Ion) AsmKind) → is_end ws ≡ false → ion_next few ws ≡ Err kind → with_ions front (ions_at few ws) ≡ total → total ≡ Err kind
ion_wrong few kind [] front total some e so_far = absurd cc
ion_wrong few kind (word ∷ ws) front total some e so_far =
    let one : with_ions front (ions_at few (word ∷ ws)) ≡ Err kind = rw (next_err few kind word ws (ion_at few word) e) refl in
    sym so_far ∙ one

pub ions_end : (few : ℕ) (ws : List (List ℕ)) (front : List Ion) (total : Result (List Ion) AsmKind) → is_end ws ≡ true → with_ions front (ions_at few ws) ≡ total → total ≡ Ok front
ions_end few [] front total none so_far = sym so_far ∙ ap (λ (is : List Ion). Ok is) (append-nil front)
ions_end few (word ∷ ws) front total none so_far = absurd cc

pub ions_begin : (read : Result (List Ion) AsmKind) → with_ions [] read ≡ read
ions_begin (Ok is) = refl
ions_begin (Err e) = refl

-- ---- the whole text

ended_err : {A : Type 0} (value : A) (number : ℕ) (parts : List (List ℕ)) (r : Refusal) → ends_in (tt {0}) number parts ≡ Err r → ends_in value number parts ≡ Err r
ended_err value number [] r e = cc
ended_err value number ([] ∷ []) r e = absurd cc
ended_err value number ((c ∷ cs) ∷ []) r e = cc
ended_err value number ([] ∷ part ∷ parts) r e = cc
ended_err value number ((c ∷ cs) ∷ part ∷ parts) r e = cc

ended_ok : {A : Type 0} (value : A) (number : ℕ) (parts : List (List ℕ)) → ends_in (tt {0}) number parts ≡ Ok tt → ends_in value number parts ≡ Ok value
ended_ok value number [] e = absurd cc
ended_ok value number ([] ∷ []) e = refl
ended_ok value number ((c ∷ cs) ∷ []) e = absurd cc
ended_ok value number ([] ∷ part ∷ parts) e = absurd cc
ended_ok value number ((c ∷ cs) ∷ part ∷ parts) e = absurd cc

pub read_fails : (text : List ℕ) (fault : AsmFault) → Fails fault (program_block.read (all_of text)) → Fails fault (read_text text)
unfolding read_text
read_fails text NoMemory e = tt
read_fails text (Refused line kind) e = rw e refl

pub read_goes_on : (text : List ℕ) (raw : RawData) (left : Unread) (fault : AsmFault) → program_block.read (all_of text) ≡ Ok (value_of raw, left) → Fails fault (ended (tt {0}) left) → Fails fault (read_text text)
unfolding read_text
read_goes_on text raw left NoMemory e f = tt
read_goes_on text raw left (Refused line kind) e f = rw (e, ended_err (value_of raw) left.number left.parts (refused line kind) f) refl

pub read_done : (text : List ℕ) (raw : RawData) (left : Unread) → program_block.read (all_of text) ≡ Ok (value_of raw, left) → ended (tt {0}) left ≡ Ok tt → read_text text ≡ Ok raw
unfolding read_text
read_done text raw left e f = rw (e, ended_ok (value_of raw) left.number left.parts f) refl

pub stands : (number : ℕ) (rest : List ℕ) → length rest ≡ 0 → ends_in (tt {0}) number (slice_split (λ c. c == 10) rest) ≡ Ok tt
stands number [] none = refl
stands number (c ∷ cs) none = absurd (omega arith)
