-- The statements, by cases: the tokens of each, and what is known before it and after it.
use Rattle.std.specs.Prelude.{◌≡◌, ℕ, true, false, ◌≤◌, List, [], ◌∷◌, ◌++◌, length, Some}
use Rattle.qasm_lex.specs.declared.tokens.TokenKind.TheVariants as token
use Rattle.qasm_reader.specs.declared.kinds.RegisterKind.{RegisterKind}
use Rattle.qasm_reader.specs.declared.kinds.RegisterKind.TheVariants.{Quantum, Classical}
use Rattle.qasm_reader.specs.declared.kinds.Register.{Register}
use Rattle.qasm_reader.specs.declared.kinds.Operand.{Operand}
use Rattle.qasm_reader.specs.declared.kinds.Opening.{Opening}
use Rattle.qasm_reader.specs.declared.kinds.Opening.TheVariants as opening
use Rattle.qasm_reader.specs.Lexeme.{Lexeme, is, number, opening_of}
use Rattle.qasm_reader.specs.Check.{Check}
use Rattle.gate_defs.specs.Gates.{Gate, gate_of}
use Rattle.qasm_reader.specs.Known.{Known, with_include, with_register, with_items}
use Rattle.qasm_reader.specs.Angle.{IsAngle, angle, joined_bytes}
use Rattle.qasm_reader.specs.Operand.{measure_items, reset_items}
use Rattle.qasm_reader.specs.Expected.{Call, Role, of_gate, of_left, of_right, of_reset, of_barrier, call, lacking, with_angle, with_operand, whole_of, new_name, new_size, operand_name, operand_index, operand_last, items_end, list_end, listed_items, known_gate, known_file, angles_end}

-- none of the checks applies
abbrev pub NoneApplies : List Check → Type 0
NoneApplies [] = Unit {0}
NoneApplies (c ∷ cs) = (c.applies ≡ false) × NoneApplies cs

-- the first word of a statement
pub record Opens (o : Opening) (l : Lexeme) : Type 0 where
  pub word : is token.Word l ≡ true
  pub opens : opening_of l.bytes ≡ o

-- include "qelib1.inc";
pub record IsInclude (k : Known) (ls : List Lexeme) (after : Known) : Type 0 where
  pub word : Lexeme
  pub file : Lexeme
  pub end : Lexeme
  pub tokens : ls ≡ word ∷ file ∷ end ∷ []
  pub first : Opens opening.Include word
  pub file_is : NoneApplies (known_file file)
  pub end_is : is token.Semi end ≡ true
  pub leaves : after ≡ with_include k

abbrev pub keyword : RegisterKind → Opening
keyword Quantum = opening.Qreg
keyword Classical = opening.Creg

-- qreg name[size]; creg name[size];
pub record IsRegister (kind : RegisterKind) (k : Known) (ls : List Lexeme) (after : Known) : Type 0 where
  pub word : Lexeme
  pub name : Lexeme
  pub open_bracket : Lexeme
  pub size : Lexeme
  pub close_bracket : Lexeme
  pub end : Lexeme
  pub tokens : ls ≡ word ∷ name ∷ open_bracket ∷ size ∷ close_bracket ∷ end ∷ []
  pub first : Opens (keyword kind) word
  pub name_is : NoneApplies (new_name k name)
  pub open_is : is token.LBracket open_bracket ≡ true
  pub size_is : NoneApplies (new_size k kind size)
  pub close_is : is token.RBracket close_bracket ≡ true
  pub end_is : is token.Semi end ≡ true
  pub leaves : after ≡ with_register k kind name.bytes (number size.bytes)

-- name, as an operand
pub record IsWhole (k : Known) (role : Role) (ls : List Lexeme) (o : Operand) : Type 0 where
  pub name : Lexeme
  pub register : Register
  pub tokens : ls ≡ name ∷ []
  pub stands_for : k.registers name.bytes ≡ Some register
  pub name_is : NoneApplies (operand_name k role name)
  pub operand_is : o ≡ whole_of register
  pub last_is : NoneApplies (operand_last role name.at o)

-- name[index]
pub record IsCell (k : Known) (role : Role) (ls : List Lexeme) (o : Operand) : Type 0 where
  pub name : Lexeme
  pub open_bracket : Lexeme
  pub index : Lexeme
  pub close_bracket : Lexeme
  pub register : Register
  pub tokens : ls ≡ name ∷ open_bracket ∷ index ∷ close_bracket ∷ []
  pub stands_for : k.registers name.bytes ≡ Some register
  pub name_is : NoneApplies (operand_name k role name)
  pub open_is : is token.LBracket open_bracket ≡ true
  pub index_is : NoneApplies (operand_index register index)
  pub close_is : is token.RBracket close_bracket ≡ true
  pub operand_is : o ≡ record { register = register; index = Some (number index.bytes) }
  pub last_is : NoneApplies (operand_last role name.at o)

pub data IsOperand (k : Known) (role : Role) (ls : List Lexeme) (o : Operand) : Type 0 where
  whole : IsWhole k role ls o → IsOperand k role ls o
  cell : IsCell k role ls o → IsOperand k role ls o

-- a gate with one more operand, or a barrier
abbrev pub joined : Role → Operand → Role
joined (of_gate c) o = of_gate (with_operand c o)
joined of_left o = of_left
joined (of_right left) o = of_right left
joined of_reset o = of_reset
joined (of_barrier os) o = of_barrier (os ++ o ∷ [])

-- operands with a comma between each two
pub data AreOperands (k : Known) : Role → List Lexeme → Role → Type 0 where
  last : {role : Role} {ls : List Lexeme} (o : Operand) → IsOperand k role ls o → AreOperands k role ls (joined role o)
  more :
      {role : Role} {rest : List Lexeme} {done : Role} (front : List Lexeme) (comma : Lexeme) (o : Operand)
      → IsOperand k role front o → is token.Comma comma ≡ true → AreOperands k (joined role o) rest done
      → AreOperands k role (front ++ comma ∷ rest) done

-- the tokens are an angle with this text
pub record IsAngleOf (ls : List Lexeme) (text : List ℕ) : Type 0 where
  pub is_angle : IsAngle angle ls
  pub text_is : text ≡ joined_bytes ls
  pub short : length text ≤ 1024

-- angles with a comma between each two, and the `)` behind them
pub data AreAngleTokens : Call → List Lexeme → Call → Type 0 where
  last :
      {c : Call} (tokens : List Lexeme) (text : List ℕ) (close : Lexeme) → IsAngleOf tokens text → is token.RParen close ≡ true
      → NoneApplies (angles_end c (length (with_angle c text).angles) close) → AreAngleTokens c (tokens ++ close ∷ []) (with_angle c text)
  more :
      {c : Call} {rest : List Lexeme} {done : Call} (tokens : List Lexeme) (text : List ℕ) (comma : Lexeme) → IsAngleOf tokens text
      → is token.Comma comma ≡ true → AreAngleTokens (with_angle c text) rest done → AreAngleTokens c (tokens ++ comma ∷ rest) done

-- what stands between a gate's name and its operands: nothing, `()`, or angles in parentheses
pub data IsCalled : Call → List Lexeme → Call → Type 0 where
  bare : {c : Call} → IsCalled c [] (lacking c)
  empty :
      {c : Call} (open_paren close : Lexeme) → is token.LParen open_paren ≡ true → is token.RParen close ≡ true → NoneApplies (angles_end c 0 close)
      → IsCalled c (open_paren ∷ close ∷ []) c
  angles : {c done : Call} {ls : List Lexeme} (open_paren : Lexeme) → is token.LParen open_paren ≡ true → AreAngleTokens c ls done → IsCalled c (open_paren ∷ ls) done

-- gate operands; or gate(angles) operands;
pub record IsGate (k : Known) (ls : List Lexeme) (after : Known) : Type 0 where
  pub name : Lexeme
  pub gate : Gate
  pub called : List Lexeme
  pub operands : List Lexeme
  pub end : Lexeme
  pub begun : Call
  pub done : Role
  pub tokens : ls ≡ name ∷ (called ++ (operands ++ end ∷ []))
  pub first : Opens opening.Gate name
  pub gate_is : gate_of k.included name.bytes ≡ Some gate
  pub name_is : NoneApplies (known_gate name (Some gate))
  pub called_is : IsCalled (call gate) called begun
  pub operands_are : AreOperands k (of_gate begun) operands done
  pub end_is : NoneApplies (list_end k done end)
  pub leaves : after ≡ with_items k (listed_items done)

-- barrier operands;
pub record IsBarrier (k : Known) (ls : List Lexeme) (after : Known) : Type 0 where
  pub word : Lexeme
  pub operands : List Lexeme
  pub end : Lexeme
  pub done : Role
  pub tokens : ls ≡ word ∷ (operands ++ end ∷ [])
  pub first : Opens opening.Barrier word
  pub operands_are : AreOperands k (of_barrier []) operands done
  pub end_is : NoneApplies (list_end k done end)
  pub leaves : after ≡ with_items k (listed_items done)

-- measure a -> b;
pub record IsMeasure (k : Known) (ls : List Lexeme) (after : Known) : Type 0 where
  pub word : Lexeme
  pub left : List Lexeme
  pub arrow : Lexeme
  pub right : List Lexeme
  pub end : Lexeme
  pub a : Operand
  pub b : Operand
  pub tokens : ls ≡ word ∷ (left ++ arrow ∷ (right ++ end ∷ []))
  pub first : Opens opening.Measure word
  pub left_is : IsOperand k of_left left a
  pub arrow_is : is token.Arrow arrow ≡ true
  pub right_is : IsOperand k (of_right a) right b
  pub end_is : NoneApplies (items_end k (measure_items a b) end)
  pub leaves : after ≡ with_items k (measure_items a b)

-- reset a;
pub record IsReset (k : Known) (ls : List Lexeme) (after : Known) : Type 0 where
  pub word : Lexeme
  pub operand : List Lexeme
  pub end : Lexeme
  pub a : Operand
  pub tokens : ls ≡ word ∷ (operand ++ end ∷ [])
  pub first : Opens opening.Reset word
  pub operand_is : IsOperand k of_reset operand a
  pub end_is : NoneApplies (items_end k (reset_items a) end)
  pub leaves : after ≡ with_items k (reset_items a)

-- a statement: its tokens, what is known before it, and what is known after it
pub data Statement (k : Known) (ls : List Lexeme) (after : Known) : Type 0 where
  include : IsInclude k ls after → Statement k ls after
  register : (kind : RegisterKind) → IsRegister kind k ls after → Statement k ls after
  gate : IsGate k ls after → Statement k ls after
  measure : IsMeasure k ls after → Statement k ls after
  reset : IsReset k ls after → Statement k ls after
  barrier : IsBarrier k ls after → Statement k ls after

-- statements one after another
pub data Statements : Known → List Lexeme → Known → Type 0 where
  none : {k : Known} → Statements k [] k
  next :
      {k : Known} {rest : List Lexeme} {last : Known} (front : List Lexeme) (after : Known) → Statement k front after → Statements after rest last
      → Statements k (front ++ rest) last
