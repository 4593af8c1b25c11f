-- How the code meets the definition of reading.
use Rattle.std.specs.Prelude.{◌≡◌, ℕ, Bool, false, List, [], ◌∷◌, ◌++◌, codes, length, Option, None, Some, Result, Ok, Err}
use Rattle.qasm_reader.specs.declared.fault.QasmFault.{QasmFault}
use Rattle.qasm_reader.specs.declared.fault.QasmFault.TheVariants.{Refused, NoMemory}
use Rattle.qasm_reader.specs.declared.cursor.Cursor.{Cursor}
use Rattle.qasm_reader.specs.declared.cursor.Piece.{Piece}
use Rattle.qasm_reader.specs.Lexeme.{Lexeme, is, lexemes}
use Rattle.qasm_lex.specs.declared.tokens.TokenKind.{TokenKind}
use Rattle.qasm_lex.specs.declared.tokens.TokenKind.TheVariants as token
use Rattle.qasm_lex.proofs.LeftLemmas.{stuck_left, tokens_left}
use Rattle.qasm_reader.specs.Known.{Known, circuit_of}
use Rattle.qasm_reader.specs.Named.{stands_for}
use Rattle.qasm_reader.specs.declared.state.State.{State}
use Rattle.qasm_reader.specs.declared.angle.Phase.TheVariants.{Part}
use Rattle.qasm_reader.specs.Angle.{angle_state}
use Rattle.qasm_reader.specs.Expected.{Call, Expected, Next, between, ends_angle, of_gate, operand, within_angle}
use Rattle.qasm_reader.specs.Reading.{Answer, IsRefusedAt, reads}

-- Where no token begins, a string of one quote is read. It can stand nowhere.
abbrev pub stuck_lexemes : Option ℕ → List Lexeme
stuck_lexemes None = []
stuck_lexemes (Some at) = record { kind = token.Text; at = 0; bytes = codes "\"" } ∷ []

-- what is read of a text from a place on
unfoldable pub lexemes_left : List ℕ → ℕ → List Lexeme
lexemes_left text place = lexemes text (tokens_left text place) ++ stuck_lexemes (stuck_left text place)

-- the tokens that are still to come
abbrev pub ahead : Cursor → List Lexeme
ahead c = lexemes_left c.text.now c.place

-- whether they begin with one of this kind
abbrev pub begins : TokenKind → List Lexeme → Bool
begins kind [] = false
begins kind (l ∷ ls) = is kind l

-- they begin with a token behind which no angle goes on
abbrev pub begins_end : List Lexeme → Bool
begins_end [] = false
begins_end (l ∷ ls) = ends_angle l

abbrev pub seen : Piece → Lexeme
seen p = record { kind = p.kind; at = p.at; bytes = p.bytes.now }

-- the answer from a place on
abbrev pub answer_from : Known → Expected → Cursor → Answer
answer_from k place c = reads (length c.text.now) k place (ahead c)

-- the answer is this fault, or memory ran out
abbrev pub Tells : Answer → QasmFault → Type 0
Tells whole (Refused at kind) = whole ≡ Err (record { at = at; kind = kind })
Tells whole NoMemory = Unit {0}

-- The answer was the whole before the call, and after it is what `next` says; or the call tells it, or memory ran out.
abbrev pub Leads : {X : Type 0} → Answer → (X → Answer) → Result X QasmFault → Type 0
Leads whole next (Ok x) = whole ≡ next x
Leads whole next (Err e) = Tells whole e

-- the answer behind a token, or the fault that it has
abbrev pub answer_behind : Next → Cursor → Answer
answer_behind r c = elim r as (λ _. Answer) [ Ok n ↦ answer_from n.0 n.1 c | Err fault ↦ Err fault ]

-- what a state of the code makes known
abbrev pub known : State → Known
known s = record { included = s.included; qubits = s.qubits; bits = s.bits; registers = stands_for s.names; items = s.items.items }

-- memory may run out at each text
abbrev pub IsFaultOf : List ℕ → QasmFault → Type 0
IsFaultOf text (Refused at kind) = IsRefusedAt text at kind
IsFaultOf text NoMemory = Unit {0}

-- the answer behind the `)` of no angles, or that of a first angle
abbrev pub behind_paren : Known → Call → Cursor → Option Cursor → Answer
behind_paren k c here None = answer_from k (within_angle c (angle_state Part 0) []) here
behind_paren k c here (Some rest) = answer_from k (operand (of_gate c)) rest

-- the answer behind a statement, or where the text ended before one
abbrev pub behind_statement : Known → Option Cursor → Answer
behind_statement k None = Ok (circuit_of k)
behind_statement k (Some rest) = answer_from k between rest
