-- Each text has one circuit, or one refusal.
use Rattle.std.proofs.Common.{◌≡◌, ℕ, not, ◌⊎◌, inl, inr, List, [], ◌∷◌, ◌++◌, length, codes, Option, Some, None, Result, Ok, Err, refl, sym, ap, ◌∙◌}
use Rattle.std.proofs.lemmas.Bool.{cases_eq}
use Rattle.std.specs.Prelude.{slice_get}
use Rattle.qasm_lex.specs.declared.tokens.Token.{Token}
use Rattle.qasm_lex.specs.declared.tokens.TokenKind.{TokenKind}
use Rattle.qasm_lex.specs.declared.tokens.TokenKind.TheVariants as token
use Rattle.qasm_lex.specs.declared.fault.LexFault.{LexFault}
use Rattle.qasm_lex.specs.declared.fault.LexFault.TheVariants.{BadByte, OpenString, NoMemory}
use Rattle.qasm_lex.specs.Reading.{AreTokens, IsFirstFault, IsStuckAt}
use Rattle.qasm_reader.specs.declared.fault.QasmKind.{QasmKind}
use Rattle.qasm_reader.specs.declared.fault.QasmKind.TheVariants as kind
use Rattle.qccd_circuit.specs.Circuit.{CircuitData}
use Rattle.qasm_reader.specs.Lexeme.{Lexeme, lexemes, is_exactly}
use Rattle.qasm_reader.specs.Check.{Fault, Check, wrong}
use Rattle.qasm_reader.specs.Known.{nothing}
use Rattle.qasm_reader.specs.Expected.{header, between}
use Rattle.qasm_reader.specs.Reading.{Answer, answer, heading, reads, at_end, IsHeading, IsCircuitOf, IsRefusedAt}
use Rattle.qasm_reader.proofs.Steps.{goes_on, not_false, not_true, err_no_ok}
use Rattle.qasm_reader.proofs.AcceptsGates.{statements_read}
use Rattle.qasm_reader.proofs.Splits.{gone}
use Rattle.qasm_reader.proofs.SplitsGates.{statements_split}

abbrev header_check : TokenKind → List ℕ → Lexeme → List Check
header_check k bytes l = wrong kind.Header l.at (not (is_exactly k bytes l)) ∷ []

heading_read : (size : ℕ) (ls rest : List Lexeme) → IsHeading ls → answer size (ls ++ rest) ≡ reads size nothing between rest
heading_read size ls rest s =
    ap (λ (t : List Lexeme). answer size (t ++ rest)) s.tokens
    ∙ goes_on size nothing (header heading) s.word (s.version ∷ s.end ∷ rest) (header_check token.Word (codes "OPENQASM") s.word)
    (nothing, header ((token.Real, codes "2.0") ∷ (token.Semi, codes ";") ∷ [])) refl (not_true _ s.word_is, tt)
    ∙ goes_on size nothing (header ((token.Real, codes "2.0") ∷ (token.Semi, codes ";") ∷ [])) s.version (s.end ∷ rest) (header_check token.Real (codes "2.0") s.version)
    (nothing, header ((token.Semi, codes ";") ∷ [])) refl (not_true _ s.version_is, tt)
    ∙ goes_on size nothing (header ((token.Semi, codes ";") ∷ [])) s.end rest (header_check token.Semi (codes ";") s.end) (nothing, between) refl (not_true _ s.end_is, tt)

pub record HeadingAt (size : ℕ) (ls : List Lexeme) (c : CircuitData) : Type 0 where
  pub front : List Lexeme
  pub rest : List Lexeme
  pub split : ls ≡ front ++ rest
  pub heading_is : IsHeading front
  pub so : reads size nothing between rest ≡ Ok c

no_end : (size : ℕ) (ts : List (TokenKind × List ℕ)) (c : CircuitData) → at_end size nothing (header ts) ≡ Ok c → ⊥
no_end size ts c same = err_no_ok _ c same

pub heading_split : (size : ℕ) (ls : List Lexeme) (c : CircuitData) → answer size ls ≡ Ok c → HeadingAt size ls c
heading_split size ls c so =
    let two : List (TokenKind × List ℕ) = (token.Real, codes "2.0") ∷ (token.Semi, codes ";") ∷ [] in
    let one : List (TokenKind × List ℕ) = (token.Semi, codes ";") ∷ [] in
    let w = gone size nothing (header heading) ls c (header_check token.Word (codes "OPENQASM")) (λ _. (nothing, header two)) (λ _. refl) (no_end size heading c) so in
    let v = gone size nothing (header two) w.rest c (header_check token.Real (codes "2.0")) (λ _. (nothing, header one)) (λ _. refl) (no_end size two c) w.so in
    let e = gone size nothing (header one) v.rest c (header_check token.Semi (codes ";")) (λ _. (nothing, between)) (λ _. refl) (no_end size one c) v.so in
    record {
      front = w.l ∷ v.l ∷ e.l ∷ [];
      rest = e.rest;
      split = w.is ∙ ap (λ (u : List Lexeme). w.l ∷ u) (v.is ∙ ap (λ (u : List Lexeme). v.l ∷ u) e.is);
      heading_is = record { word = w.l; version = v.l; end = e.l; tokens = refl; word_is = not_false _ w.none.0; version_is = not_false _ v.none.0; end_is = not_false _ e.none.0 };
      so = e.so;
    }

-- the circuit of a text is what its tokens are read as, and back
pub circuit_read : (text : List ℕ) (c : CircuitData) (i : IsCircuitOf text c) → answer (length text) (lexemes text i.tokens) ≡ Ok c
circuit_read text c i =
    ap (answer (length text)) i.split
    ∙ heading_read (length text) i.heading i.rest i.heading_is
    ∙ statements_read (length text) nothing i.last i.rest i.statements
    ∙ ap (λ (d : CircuitData). Ok d) (sym i.circuit_is)

pub circuit_from : (text : List ℕ) (ts : List Token) (c : CircuitData) → AreTokens text ts → answer (length text) (lexemes text ts) ≡ Ok c → IsCircuitOf text c
circuit_from text ts c are so =
    let h = heading_split (length text) (lexemes text ts) c so in
    let s = statements_split (length text) nothing h.rest c h.so in
    record { tokens = ts; are = are; heading = h.front; rest = h.rest; last = s.last; split = h.split; heading_is = h.heading_is; statements = s.statements; circuit_is = s.circuit }

-- ---- the law, of what the lexer's law says

ok_one : {A B : Type 0} (a b : A) (r : Result A B) → r ≡ Ok a → r ≡ Ok b → a ≡ b
ok_one a b r one two = cc

err_one : {A : Type 0} (e f : Fault) (r : Result A Fault) → r ≡ Err e → r ≡ Err f → e ≡ f
err_one e f r one two = cc

not_ok_err : {A B : Type 0} (a : A) (e : B) (r : Result A B) → r ≡ Ok a → r ≡ Err e → ⊥
not_ok_err a e r one two = cc

pub one_circuit :
    ((text : List ℕ) (ts others : List Token) → AreTokens text ts → AreTokens text others → ts ≡ others) → (text : List ℕ) (c d : CircuitData) → IsCircuitOf text c → IsCircuitOf text d → c ≡ d
one_circuit one_list text c d i j =
    let same = one_list text i.tokens j.tokens i.are j.are in
    ok_one c d (answer (length text) (lexemes text i.tokens)) (circuit_read text c i)
    (ap (λ (ts : List Token). answer (length text) (lexemes text ts)) same ∙ circuit_read text d j)

pub every_text :
    ((text : List ℕ) → ((ts : List Token) × AreTokens text ts) ⊎ ((fault : LexFault) × IsFirstFault text fault))
    → (text : List ℕ) → ((c : CircuitData) × IsCircuitOf text c) ⊎ ((at : ℕ) × (k : QasmKind) × IsRefusedAt text at k)
every_text some text = by_list (some text)
  where
    by_answer : (ts : List Token) → AreTokens text ts → (r : Answer) → answer (length text) (lexemes text ts) ≡ r → ((c : CircuitData) × IsCircuitOf text c) ⊎ ((at : ℕ) × (k : QasmKind) × IsRefusedAt text at k)
    by_answer ts are (Ok c) so = inl (c, circuit_from text ts c are so)
    by_answer ts are (Err f) so = inr (f.at, f.kind, inr (record { tokens = ts; are = are; reads_so = so }))

    by_fault : (fault : LexFault) → IsFirstFault text fault → ((c : CircuitData) × IsCircuitOf text c) ⊎ ((at : ℕ) × (k : QasmKind) × IsRefusedAt text at k)
    by_fault (BadByte at) fault = inr (at, kind.Token, inl (fault.0, refl))
    by_fault (OpenString at) fault = inr (at, kind.Token, inl (fault.0, refl))
    by_fault NoMemory fault = absurd fault

    by_list : ((ts : List Token) × AreTokens text ts) ⊎ ((fault : LexFault) × IsFirstFault text fault) → ((c : CircuitData) × IsCircuitOf text c) ⊎ ((at : ℕ) × (k : QasmKind) × IsRefusedAt text at k)
    by_list (inl found) = by_answer found.0 found.1 (answer (length text) (lexemes text found.0)) refl
    by_list (inr found) = by_fault found.0 found.1

pub no_both :
    ((text : List ℕ) (ts others : List Token) → AreTokens text ts → AreTokens text others → ts ≡ others)
    → ((text : List ℕ) (ts : List Token) (at : ℕ) → AreTokens text ts → IsStuckAt text at → ⊥)
    → (text : List ℕ) (c : CircuitData) (at : ℕ) (k : QasmKind) → IsCircuitOf text c → IsRefusedAt text at k → ⊥
no_both one_list not_stuck text c at k i (inl token_fault) = not_stuck text i.tokens at i.are token_fault.0
no_both one_list not_stuck text c at k i (inr fault) =
    let same = one_list text i.tokens fault.tokens i.are fault.are in
    not_ok_err c _ (answer (length text) (lexemes text i.tokens)) (circuit_read text c i)
    (ap (λ (ts : List Token). answer (length text) (lexemes text ts)) same ∙ fault.reads_so)

pub one_refusal :
    ((text : List ℕ) (ts others : List Token) → AreTokens text ts → AreTokens text others → ts ≡ others)
    → ((text : List ℕ) (ts : List Token) (at : ℕ) → AreTokens text ts → IsStuckAt text at → ⊥)
    → ((text : List ℕ) (at other : ℕ) → IsStuckAt text at → IsStuckAt text other → at ≡ other)
    → (text : List ℕ) (at other : ℕ) (k l : QasmKind) → IsRefusedAt text at k → IsRefusedAt text other l → (at ≡ other) × (k ≡ l)
one_refusal one_list not_stuck one_stuck text at other k l (inl a) (inl b) = (one_stuck text at other a.0 b.0, a.1 ∙ sym b.1)
one_refusal one_list not_stuck one_stuck text at other k l (inl a) (inr b) = absurd (not_stuck text b.tokens at b.are a.0)
one_refusal one_list not_stuck one_stuck text at other k l (inr a) (inl b) = absurd (not_stuck text a.tokens other a.are b.0)
one_refusal one_list not_stuck one_stuck text at other k l (inr a) (inr b) =
    let same = one_list text a.tokens b.tokens a.are b.are in
    let faults = err_one (record { at = at; kind = k }) (record { at = other; kind = l }) (answer (length text) (lexemes text a.tokens)) a.reads_so
    (ap (λ (ts : List Token). answer (length text) (lexemes text ts)) same ∙ b.reads_so) in
    (ap (λ (f : Fault). f.at) faults, ap (λ (f : Fault). f.kind) faults)

-- ---- where the lexer is stuck

abbrev pub place_of : LexFault → ℕ
place_of (BadByte at) = at
place_of (OpenString at) = at
place_of NoMemory = 0

pub record StuckAs (text : List ℕ) (at : ℕ) : Type 0 where
  pub fault : LexFault
  pub first : IsFirstFault text fault
  pub place : place_of fault ≡ at

pub stuck_as : (text : List ℕ) (at : ℕ) → IsStuckAt text at → StuckAs text at
stuck_as text at stuck = by_byte (slice_get text at) refl
  where
    none_some : (n : ℕ) (same : Rattle.std.specs.Prelude.◌≡◌ {A = Option ℕ} None (Some n)) → ⊥
    none_some n same = cc

    some_same : (m n : ℕ) (same : Rattle.std.specs.Prelude.◌≡◌ {A = Option ℕ} (Some m) (Some n)) → m ≡ n
    some_same m n same = cc

    by_byte : (o : Option ℕ) → slice_get text at ≡ o → StuckAs text at
    by_byte None is_o = record { fault = BadByte at; first = (stuck, λ quote. none_some 34 (sym is_o ∙ quote)); place = refl }
    by_byte (Some b) is_o = by_quote (cases_eq b 34)
      where
        by_quote : (b ≡ 34) ⊎ (b ≡ 34 → ⊥) → StuckAs text at
        by_quote (inl same) = record { fault = OpenString at; first = (stuck, is_o ∙ ap (λ (n : ℕ). Some n) same); place = refl }
        by_quote (inr other) = record { fault = BadByte at; first = (stuck, λ quote. other (some_same b 34 (sym is_o ∙ quote))); place = refl }

pub one_stuck : ((text : List ℕ) (f g : LexFault) → IsFirstFault text f → IsFirstFault text g → f ≡ g) → (text : List ℕ) (at other : ℕ) → IsStuckAt text at → IsStuckAt text other → at ≡ other
one_stuck one_fault text at other a b =
    let f = stuck_as text at a in
    let g = stuck_as text other b in
    sym f.place ∙ ap place_of (one_fault text f.fault g.fault f.first g.first) ∙ g.place

pub not_stuck : ((text : List ℕ) (ts : List Token) (f : LexFault) → AreTokens text ts → IsFirstFault text f → ⊥) → (text : List ℕ) (ts : List Token) (at : ℕ) → AreTokens text ts → IsStuckAt text at → ⊥
not_stuck not_both text ts at are a = let f = stuck_as text at a in not_both text ts f.fault are f.first
