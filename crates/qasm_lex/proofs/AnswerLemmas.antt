-- A text has one list of tokens or one first fault, and not both.
use Rattle.std.proofs.Common.{◌≡◌, ℕ, ◌-◌, ◌≤◌, inl, inr, ◌⊎◌, List, [], ◌∷◌, ◌++◌, length, take, drop, Option, Some, None, All, refl, sym, ap, ◌∙◌, subst, arith}
use Rattle.std.specs.List.{AllByRecursion, slice_get}
use Rattle.std.proofs.lemmas.Bool.{cases_eq}
use Rattle.std.proofs.lemmas.List.{length-append, length-drop, take_at, drop_at, drop-drop}
use Rattle.std.proofs.lemmas.List.Elements.{All-from_recursion}
use Rattle.qasm_lex.specs.declared.tokens.Token.{Token}
use Rattle.qasm_lex.specs.declared.fault.LexFault.{LexFault}
use Rattle.qasm_lex.specs.declared.fault.LexFault.TheVariants.{BadByte, OpenString, NoMemory}
use Rattle.qasm_lex.specs.Tokens.{IsToken}
use Rattle.qasm_lex.specs.Reading.{AreTokens, IsFaultOf, IsFirstFault, IsNext, IsStuckAt, IsTokenOf, Reads}
use Rattle.qasm_lex.specs.Fronts.{IsFaultFrom}
use Rattle.qasm_lex.proofs.ReadingLemmas.{reads-exists, reads-unique, some_bytes}

-- ---- one list of tokens

pub tokens-unique : (text : List ℕ) (ts us : List Token) → AreTokens text ts → AreTokens text us → ts ≡ us
tokens-unique text ts us one two = (reads-unique text 0 ts us None None one two).0

-- ---- one first fault

-- where it stands, and whether a quote stands there
fault_stuck : (text : List ℕ) (fault : LexFault) → IsFirstFault text fault → (at : ℕ) × IsStuckAt text at
fault_stuck text (BadByte at) is = (at, is.0)
fault_stuck text (OpenString at) is = (at, is.0)
fault_stuck text NoMemory is = absurd is

stuck_at-unique : (text : List ℕ) (a b : ℕ) → IsStuckAt text a → IsStuckAt text b → a ≡ b
stuck_at-unique text a b one two = let same = (reads-unique text 0 one.0 two.0 (Some a) (Some b) one.1 two.1).1 in cc

pub fault-unique : (text : List ℕ) (a b : LexFault) → IsFirstFault text a → IsFirstFault text b → a ≡ b
fault-unique text (BadByte a) (BadByte b) one two = ap (λ (n : ℕ). BadByte n) (stuck_at-unique text a b one.0 two.0)
fault-unique text (BadByte a) (OpenString b) one two =
    absurd (one.1 (ap (slice_get text) (stuck_at-unique text a b one.0 two.0) ∙ two.1))
fault-unique text (BadByte a) NoMemory one two = absurd two
fault-unique text (OpenString a) (BadByte b) one two =
    absurd (two.1 (ap (slice_get text) (stuck_at-unique text b a two.0 one.0) ∙ one.1))
fault-unique text (OpenString a) (OpenString b) one two = ap (λ (n : ℕ). OpenString n) (stuck_at-unique text a b one.0 two.0)
fault-unique text (OpenString a) NoMemory one two = absurd two
fault-unique text NoMemory b one two = absurd one

-- ---- not both

pub not_both : (text : List ℕ) (ts : List Token) (fault : LexFault) → AreTokens text ts → IsFirstFault text fault → ⊥
not_both text ts fault are is =
    let stuck = fault_stuck text fault is in
    let same : None ≡ Some stuck.0 = (reads-unique text 0 ts stuck.1.0 None (Some stuck.0) are stuck.1.1).1 in cc

-- ---- one of both

-- a byte is a quote or it is not
quote_or_not : (text : List ℕ) (at : ℕ) → (slice_get text at ≡ Some 34) ⊎ (slice_get text at ≡ Some 34 → ⊥)
quote_or_not text at = by_byte (slice_get text at)
  where
    by_byte : (b : Option ℕ) → (b ≡ Some 34) ⊎ (b ≡ Some 34 → ⊥)
    by_byte None = inr (λ h. cc)
    by_byte (Some c) = elim (cases_eq c 34) [ inl is ↦ inl (ap (λ (n : ℕ). Some n) is) | inr other ↦ inr (λ h. let is : c ≡ 34 = cc in other is) ]

pub tokens_or_fault : (text : List ℕ) → ((ts : List Token) × AreTokens text ts) ⊎ ((fault : LexFault) × IsFirstFault text fault)
tokens_or_fault text = by_end (reads-exists text).ts (reads-exists text).stuck (reads-exists text).reads
  where
    by_end :
        (ts : List Token) (stuck : Option ℕ) → Reads text 0 ts stuck
        → ((ts : List Token) × AreTokens text ts) ⊎ ((fault : LexFault) × IsFirstFault text fault)
    by_end ts None reads = inl (ts, reads)
    by_end ts (Some at) reads = elim (quote_or_not text at)
        [ inl quote ↦ inr (OpenString at, ((ts, reads), quote)) | inr other ↦ inr (BadByte at, ((ts, reads), other)) ]

-- ---- what an answer tells

pub only_memory : (text : List ℕ) (ts : List Token) (e : LexFault) → AreTokens text ts → IsFaultOf text e → e ≡ NoMemory
only_memory text ts (BadByte at) are is = absurd (not_both text ts (BadByte at) are is)
only_memory text ts (OpenString at) are is = absurd (not_both text ts (OpenString at) are is)
only_memory text ts NoMemory are is = refl

pub same_fault : (text : List ℕ) (fault e : LexFault) → IsFirstFault text fault → IsFaultOf text e → (e ≡ fault) ⊎ (e ≡ NoMemory)
same_fault text fault (BadByte at) is told = inl (fault-unique text (BadByte at) fault told is)
same_fault text fault (OpenString at) is told = inl (fault-unique text (OpenString at) fault told is)
same_fault text fault NoMemory is told = inr refl

-- the fault at a place is that of the text, behind the tokens before it
pub fault_behind :
    (text : List ℕ) (place : ℕ) (before : List Token) (e : LexFault)
    → ((ts : List Token) (stuck : Option ℕ) → Reads (drop place text) place ts stuck → Reads text 0 (before ++ ts) stuck)
    → IsFaultFrom text place e → IsFaultOf text e
fault_behind text place before (BadByte at) goes_on is = ((before ++ [], goes_on [] (Some at) is.0), is.1)
fault_behind text place before (OpenString at) goes_on is = ((before ++ [], goes_on [] (Some at) is.0), is.1)
fault_behind text place before NoMemory goes_on is = tt

-- ---- the bytes of each token

pub next_token_of :
    (text left : List ℕ) (place : ℕ) (t : Token) (follows : List ℕ) → left ≡ drop place text → place ≤ length text → IsNext left place t follows
    → IsTokenOf text t × (follows ≡ drop t.end text)
next_token_of text left place t follows left_is within next =
    let gap = next.gap in
    let bytes = next.bytes in
    let rest_is : drop t.start text ≡ bytes ++ follows =
    ap (λ (n : ℕ). drop n text) next.start ∙ sym (drop-drop (length gap) place text) ∙ ap (drop (length gap)) (sym left_is ∙ next.left_is)
    ∙ drop_at gap (bytes ++ follows) (length gap) refl in
    let size : t.end - t.start ≡ length bytes = omega (arith, next.end) in
    let bytes_is : take (t.end - t.start) (drop t.start text) ≡ bytes =
    ap (λ (n : ℕ). take n (drop t.start text)) size ∙ ap (take (length bytes)) rest_is ∙ take_at bytes follows (length bytes) refl in
    let some = some_bytes t.kind bytes next.is_longest.token in
    let behind : follows ≡ drop t.end text =
    sym (ap (λ (n : ℕ). drop n text) next.end ∙ sym (drop-drop (length bytes) t.start text) ∙ ap (drop (length bytes)) rest_is
    ∙ drop_at bytes follows (length bytes) refl) in (
      record {
        some = omega (arith, next.end, some);
        fits = omega (
          arith,
          next.end,
          next.start,
          ap length (sym left_is ∙ next.left_is),
          length-drop place text,
          length-append gap (bytes ++ follows),
          length-append bytes follows,
        );
        token = subst (λ (b : List ℕ). IsToken t.kind b) (sym bytes_is) next.is_longest.token;
      },
      behind,
    )

each_token :
    (text left : List ℕ) (place : ℕ) (ts : List Token) (stuck : Option ℕ) → left ≡ drop place text → place ≤ length text → Reads left place ts stuck
    → AllByRecursion (IsTokenOf text) ts
each_token text left place [] stuck left_is within reads = tt
each_token text left place (t ∷ ts) stuck left_is within reads =
    let first = next_token_of text left place t reads.0 left_is within reads.1 in
    (first.0, each_token text reads.0 t.end ts stuck first.1 first.0.fits reads.2)

pub tokens_each : (text : List ℕ) (ts : List Token) → AreTokens text ts → All (IsTokenOf text) ts
tokens_each text ts are = All-from_recursion (IsTokenOf text) ts (each_token text text 0 ts None refl (omega arith) are)
