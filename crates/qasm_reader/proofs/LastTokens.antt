-- The tokens of a circuit end with a `;`, so where a text is stuck it is that of no circuit.
use Rattle.std.proofs.Common.{◌≡◌, ℕ, Bool, true, false, List, [], ◌∷◌, ◌++◌, Ok, sym, ap, subst, ◌∙◌}
use Rattle.std.proofs.lemmas.Bool.{and_parts, false≢true}
use Rattle.std.proofs.lemmas.List.{append_assoc, append-nil}
use Rattle.qasm_lex.specs.declared.tokens.TokenKind.TheVariants as token
use Rattle.qccd_circuit.specs.Circuit.{CircuitData}
use Rattle.qasm_reader.specs.Lexeme.{Lexeme, is}
use Rattle.qasm_reader.specs.Known.{Known, nothing}
use Rattle.qasm_reader.specs.Reading.{IsHeading, answer}
use Rattle.qasm_reader.specs.Statement.{Statement, Statements}
use Rattle.qasm_reader.specs.Statement as row
use Rattle.qasm_reader.proofs.OneAnswer.{heading_split}
use Rattle.qasm_reader.proofs.SplitsGates.{statements_split}
use Rattle.qasm_reader.proofs.Steps.{not_false}

-- the last token is a `;`
abbrev pub ends : List Lexeme → Bool
ends [] = false
ends (l ∷ []) = is token.Semi l
ends (l ∷ m ∷ ls) = ends (m ∷ ls)

pub ends_more : (xs ys : List Lexeme) → ends ys ≡ true → ends (xs ++ ys) ≡ true
ends_more [] ys is = is
ends_more (x ∷ []) [] is = absurd (false≢true is)
ends_more (x ∷ []) (y ∷ ys) is = is
ends_more (x ∷ z ∷ xs) ys is = ends_more (z ∷ xs) ys is

pub ends_last : (xs : List Lexeme) (y : Lexeme) → is token.Semi y ≡ false → ends (xs ++ y ∷ []) ≡ true → ⊥
ends_last [] y other is = false≢true (sym other ∙ is)
ends_last (x ∷ []) y other is = false≢true (sym other ∙ is)
ends_last (x ∷ z ∷ xs) y other is = ends_last (z ∷ xs) y other is

pub statement_ends : (k after : Known) (ls : List Lexeme) → Statement k ls after → ends ls ≡ true
statement_ends k after ls (row.include s) = ap ends s.tokens ∙ s.end_is
statement_ends k after ls (row.register kind s) = ap ends s.tokens ∙ s.end_is
statement_ends k after ls (row.gate s) =
    ap ends s.tokens
    ∙ ends_more (s.name ∷ s.called) (s.operands ++ s.end ∷ []) (ends_more s.operands (s.end ∷ []) (not_false _ s.end_is.0))
statement_ends k after ls (row.measure s) =
    ap ends s.tokens
    ∙ ends_more (s.word ∷ s.left) (s.arrow ∷ (s.right ++ s.end ∷ [])) (ends_more (s.arrow ∷ s.right) (s.end ∷ []) (not_false _ s.end_is.0))
statement_ends k after ls (row.reset s) = ap ends s.tokens ∙ ends_more (s.word ∷ s.operand) (s.end ∷ []) (not_false _ s.end_is.0)
statement_ends k after ls (row.barrier s) = ap ends s.tokens ∙ ends_more (s.word ∷ s.operands) (s.end ∷ []) (not_false _ s.end_is.0)

-- behind tokens that end so, statements end so too
statements_end : (k last : Known) (before ls : List Lexeme) → ends before ≡ true → Statements k ls last → ends (before ++ ls) ≡ true
statements_end k _ before _ is row.none = subst (λ (ls : List Lexeme). ends ls ≡ true) (sym (append-nil before)) is
statements_end k last before _ is (row.next {rest = rest} front after one others) =
    subst (λ (ls : List Lexeme). ends ls ≡ true) (append_assoc before front rest)
    (statements_end after last (before ++ front) rest (ends_more before front (statement_ends k after front one)) others)

heading_ends : (ls : List Lexeme) → IsHeading ls → ends ls ≡ true
heading_ends ls h = ap ends h.tokens ∙ (and_parts _ _ h.end_is).0

pub circuit_ends : (size : ℕ) (ls : List Lexeme) (c : CircuitData) → answer size ls ≡ Ok c → ends ls ≡ true
circuit_ends size ls c so =
    let h = heading_split size ls c so in
    let s = statements_split size nothing h.rest c h.so in
    ap ends h.split ∙ statements_end nothing s.last h.front h.rest (heading_ends h.front h.heading_is) s.statements
