-- What a text is read as: its circuit, or the first fault.
use Rattle.std.specs.Prelude.{◌≡◌, ◌⊎◌, ℕ, true, List, [], ◌∷◌, ◌++◌, length, Result, Ok, Err, codes}
use Rattle.qasm_lex.specs.declared.tokens.Token.{Token}
use Rattle.qasm_lex.specs.declared.tokens.TokenKind.{TokenKind}
use Rattle.qasm_lex.specs.declared.tokens.TokenKind.TheVariants as token
use Rattle.qasm_lex.specs.Reading.{AreTokens, IsStuckAt}
use Rattle.qasm_reader.specs.declared.fault.QasmKind.{QasmKind}
use Rattle.qasm_reader.specs.declared.fault.QasmKind.TheVariants as kind
use Rattle.qccd_circuit.specs.Circuit.{CircuitData}
use Rattle.qasm_reader.specs.Lexeme.{Lexeme, lexemes, is_exactly}
use Rattle.qasm_reader.specs.Check.{Fault, Check, wrong, unless}
use Rattle.qasm_reader.specs.Known.{Known, nothing, circuit_of}
use Rattle.qasm_reader.specs.Statement.{Statements}
use Rattle.qasm_reader.specs.Expected.{Expected, header, between, sign, ends, ends_with, file_name, register_name, register_size, operand, behind_name, index, behind_index, behind_operand, behind_gate, first_angle, within_angle, operand_last, whole_of, step}

abbrev pub Answer : Type 0
Answer = Result CircuitData Fault

-- where a text ends: between two statements all is well
abbrev pub unfinished : ℕ → Known → List Check → Answer
unfinished size k checks = unless (checks ++ wrong kind.Syntax size true ∷ []) (circuit_of k)

abbrev pub at_end : ℕ → Known → Expected → Answer
at_end size k (header ts) = Err (record { at = size; kind = kind.Header })
at_end size k between = Ok (circuit_of k)
at_end size k (sign s place) = unfinished size k []
at_end size k (ends known) = unfinished size k []
at_end size k (ends_with items) = unfinished size k []
at_end size k file_name = unfinished size k []
at_end size k (register_name r) = unfinished size k []
at_end size k (register_size r name) = unfinished size k []
at_end size k (operand role) = unfinished size k []
at_end size k (behind_name role at r) = unfinished size k (operand_last role at (whole_of r))
at_end size k (index role at r) = unfinished size k []
at_end size k (behind_index role at o) = unfinished size k []
at_end size k (behind_operand role) = unfinished size k []
at_end size k (behind_gate c) = unfinished size k []
at_end size k (first_angle c) = unfinished size k []
at_end size k (within_angle c s text) = unfinished size k []

-- from a place on, token by token, in a text of this size
unfoldable pub reads : ℕ → Known → Expected → List Lexeme → Answer
reads size k place [] = at_end size k place
reads size k place (l ∷ ls) = elim (step k place l) as (λ _. Answer) [ Ok n ↦ reads size n.0 n.1 ls | Err fault ↦ Err fault ]

-- the first three tokens
abbrev pub heading : List (TokenKind × List ℕ)
heading = (token.Word, codes "OPENQASM") ∷ (token.Real, codes "2.0") ∷ (token.Semi, codes ";") ∷ []

abbrev pub answer : ℕ → List Lexeme → Answer
answer size ls = reads size nothing (header heading) ls

-- OPENQASM 2.0;
pub record IsHeading (ls : List Lexeme) : Type 0 where
  pub word : Lexeme
  pub version : Lexeme
  pub end : Lexeme
  pub tokens : ls ≡ word ∷ version ∷ end ∷ []
  pub word_is : is_exactly token.Word (codes "OPENQASM") word ≡ true
  pub version_is : is_exactly token.Real (codes "2.0") version ≡ true
  pub end_is : is_exactly token.Semi (codes ";") end ≡ true

-- the text is that of this circuit: its tokens are the heading and then statements, which leave the circuit
pub record IsCircuitOf (text : List ℕ) (c : CircuitData) : Type 0 where
  pub tokens : List Token
  pub are : AreTokens text tokens
  pub heading : List Lexeme
  pub rest : List Lexeme
  pub last : Known
  pub split : lexemes text tokens ≡ heading ++ rest
  pub heading_is : IsHeading heading
  pub statements : Statements nothing rest last
  pub circuit_is : c ≡ circuit_of last

-- the text has tokens, and the first fault that is decided at one of them, or at the end, is this
pub record IsAtFault (text : List ℕ) (at : ℕ) (k : QasmKind) : Type 0 where
  pub tokens : List Token
  pub are : AreTokens text tokens
  pub reads_so : answer (length text) (lexemes text tokens) ≡ Err (record { at = at; kind = k })

-- the text is refused at this byte for this kind of fault
abbrev pub IsRefusedAt : List ℕ → ℕ → QasmKind → Type 0
IsRefusedAt text at k = (IsStuckAt text at × (k ≡ kind.Token)) ⊎ IsAtFault text at k
