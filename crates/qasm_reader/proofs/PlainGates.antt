-- The application of a gate without angles on one or two cells, step by step.
use Rattle.std.proofs.Common.{◌≡◌, ℕ, Bool, true, false, not, List, [], ◌∷◌, ◌++◌, Some, Ok, refl, ap, ◌∙◌, ◌+◌, ◌&&◌, ◌||◌, arith}
use Rattle.std.specs.Prelude.{nat_lt}
use Rattle.std.proofs.lemmas.Bool.{and_parts, false≢true, ltb-true, not_from_true}
use Rattle.qasm_lex.specs.declared.tokens.TokenKind.TheVariants as token
use Rattle.qasm_reader.specs.declared.fault.QasmKind.TheVariants as kind
use Rattle.qasm_reader.specs.declared.kinds.Opening.{Opening}
use Rattle.qasm_reader.specs.declared.kinds.Opening.TheVariants as opening
use Rattle.qasm_reader.specs.Check.{wrong}
use Rattle.gate_defs.specs.Gates.{Gate, always, gate_of, included}
use Rattle.qasm_reader.specs.Known.{Known}
use Rattle.qasm_reader.specs.Lexeme.{Lexeme, is, opening_of}
use Rattle.qasm_reader.specs.declared.kinds.Cell.{Cell}
use Rattle.qasm_reader.specs.Operand.{cell_of, cell_operand, share}
use Rattle.qasm_reader.specs.Expected.{begin, begin_as, begin_gate, behind_gate, behind_operand, between, call, gate_name, of_gate, operand_done, step, with_operand}
use Rattle.gate_defs.proofs.Fitting.{holds_in}
use Rattle.qasm_reader.proofs.Ends.{past}

-- ---- the names of gates

abbrev is_gate : Opening → Bool
is_gate opening.Include = false
is_gate opening.Qreg = false
is_gate opening.Creg = false
is_gate opening.Measure = false
is_gate opening.Reset = false
is_gate opening.Barrier = false
is_gate opening.Later = false
is_gate opening.Gate = true

gate_from : (o : Opening) → is_gate o ≡ true → o ≡ opening.Gate
gate_from opening.Include is = absurd (false≢true is)
gate_from opening.Qreg is = absurd (false≢true is)
gate_from opening.Creg is = absurd (false≢true is)
gate_from opening.Measure is = absurd (false≢true is)
gate_from opening.Reset is = absurd (false≢true is)
gate_from opening.Barrier is = absurd (false≢true is)
gate_from opening.Later is = absurd (false≢true is)
gate_from opening.Gate is = refl

-- a word that may be a gate's name, and opens its statement
abbrev names_gate : List ℕ → Bool
names_gate bytes = is_gate (opening_of bytes) && gate_name true (record { kind = token.Word; at = 0; bytes = bytes })

-- each name of a known gate is one
named : (after : Bool) (name : List ℕ) (g : Gate) → gate_of after name ≡ Some g → names_gate name ≡ true
named false name g found = holds_in (λ n h. names_gate n) always name g refl found
named true name g found = holds_in (λ n h. names_gate n) (always ++ included) name g refl found

-- the name of a known gate leads to what is behind it
pub gate_step : (k : Known) (l : Lexeme) (g : Gate) → l.kind ≡ token.Word → gate_of k.included l.bytes ≡ Some g → step k between l ≡ Ok (k, behind_gate (call g))
gate_step k l g word found =
    let can = and_parts (is_gate (opening_of l.bytes)) (gate_name true (record { kind = token.Word; at = 0; bytes = l.bytes })) (named k.included l.bytes g found) in
    let name : gate_name (is token.Word l) l ≡ true = ap (λ kind. gate_name (is token.Word (record l { kind = kind })) (record l { kind = kind })) word ∙ can.1 in
    ap (λ kind. begin k (record l { kind = kind })) word
    ∙ ap (begin_as k (record l { kind = token.Word })) (gate_from (opening_of l.bytes) can.0)
    ∙ ap (begin_gate k (record l { kind = token.Word })) found
    ∙ past kind.Syntax l.at (not (gate_name true (record l { kind = token.Word }))) (wrong kind.UnknownName l.at false ∷ []) (k, behind_gate (call g))
    (not_from_true _ can.1)

-- ---- two cells

cells_apart : (a b : ℕ) → (a ≡ b → ⊥) → (nat_lt b (a + 1) && nat_lt a (b + 1)) ≡ false
cells_apart a b other = by_tests (nat_lt b (a + 1)) (nat_lt a (b + 1)) refl refl
  where
    by_tests : (x y : Bool) → nat_lt b (a + 1) ≡ x → nat_lt a (b + 1) ≡ y → (x && y) ≡ false
    by_tests true true first second = absurd (other (omega (arith, ltb-true b (a + 1) first, ltb-true a (b + 1) second)))
    by_tests true false first second = refl
    by_tests false y first second = refl

-- cells of other numbers share none
pub apart_cells : (a b : Cell) → (cell_of 0 (cell_operand a) ≡ cell_of 0 (cell_operand b) → ⊥) → (share (cell_operand b) (cell_operand a) || false) ≡ false
apart_cells a b other =
    ap (λ (x : Bool). x || false) (cells_apart (cell_of 0 (cell_operand a)) (cell_of 0 (cell_operand b)) other)

-- such a cell may be the second operand
pub second_done :
    (k : Known) (g : Gate) (a b : Cell) (at : ℕ) → (cell_of 0 (cell_operand a) ≡ cell_of 0 (cell_operand b) → ⊥)
    → operand_done k (of_gate (with_operand (call g) (cell_operand a))) at (cell_operand b)
    ≡ Ok (k, behind_operand (of_gate (with_operand (with_operand (call g) (cell_operand a)) (cell_operand b))))
second_done k g a b at other =
    past kind.SameQubit at (share (cell_operand b) (cell_operand a) || false) []
    (k, behind_operand (of_gate (with_operand (with_operand (call g) (cell_operand a)) (cell_operand b)))) (apart_cells a b other)
