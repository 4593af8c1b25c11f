-- The places at which a reader may stand, and at each what may be wrong with the next token.
use Rattle.std.specs.Prelude.{ℕ, zero, suc, ◌+◌, ◌==◌, nat_lt, Bool, true, false, ◌&&◌, ◌||◌, not, if◌then◌else◌, List, [], ◌∷◌, ◌++◌, length, Option, None, Some, is_none, Result, Ok, Err, codes}
use Rattle.std.specs.List.{list_any}
use Rattle.std.specs.Str.{bytes_eq}
use Rattle.qasm_lex.specs.declared.tokens.TokenKind.{TokenKind}
use Rattle.qasm_lex.specs.declared.tokens.TokenKind.TheVariants as token
use Rattle.qasm_reader.specs.declared.fault.Many.TheVariants.{Qubits, Bits, Items, AngleBytes}
use Rattle.qasm_reader.specs.declared.fault.Many.{Many}
use Rattle.qasm_reader.specs.declared.fault.QasmKind.TheVariants.{Header, Syntax, UnknownInclude, DuplicateName, UnknownName, WrongKind, IndexOut, SizeMismatch, SameQubit, AngleCount, OperandCount, EmptyRegister, TooMany, NotBuilt}
use Rattle.qccd_circuit.specs.Item.{ItemData}
use Rattle.qasm_reader.specs.declared.kinds.RegisterKind.{RegisterKind}
use Rattle.qasm_reader.specs.declared.kinds.RegisterKind.TheVariants.{Quantum, Classical}
use Rattle.qasm_reader.specs.declared.kinds.Opening.{Opening}
use Rattle.qasm_reader.specs.declared.kinds.Opening.TheVariants as opening
use Rattle.qasm_reader.specs.declared.kinds.Operand.{Operand}
use Rattle.qasm_reader.specs.declared.kinds.Register.{Register}
use Rattle.qasm_reader.specs.Lexeme.{Lexeme, is, is_exactly, is_identifier, number, opening_of}
use Rattle.qasm_reader.specs.Check.{Fault, Check, wrong, unless}
use Rattle.gate_defs.specs.Gates.{Gate, gate_of}
use Rattle.qasm_reader.specs.Known.{Known, is_declared, count_of, with_include, with_register, with_items}
use Rattle.qasm_reader.specs.Operand.{differ, share, alike, gate_items, measure_items, reset_items, barrier_items}
use Rattle.qasm_reader.specs.declared.angle.Phase.TheVariants.{Part, Paren, Whole}
use Rattle.qasm_reader.specs.declared.angle.AngleState.{AngleState}
use Rattle.qasm_reader.specs.Angle.{angle_state, angle_step}

-- a gate with what was read of its statement; angles may still be missing where it has no parentheses
pub record Call : Type 0 where
  pub gate : Gate
  pub angles : List (List ℕ)
  pub missing : Bool
  pub operands : List Operand

-- what an operand belongs to
pub data Role : Type 0 where
  of_gate : Call → Role
  of_left : Role
  of_right : Operand → Role
  of_reset : Role
  of_barrier : List Operand → Role

pub data Expected : Type 0 where
  -- these tokens are still to come
  header : List (TokenKind × List ℕ) → Expected
  -- a statement begins, or the text ends
  between : Expected
  -- this sign, and then that
  sign : TokenKind → Expected → Expected
  -- the `;` of a statement after which this is known
  ends : Known → Expected
  -- the `;` of a statement with these items
  ends_with : List ItemData → Expected
  file_name : Expected
  register_name : RegisterKind → Expected
  register_size : RegisterKind → List ℕ → Expected
  -- an operand
  operand : Role → Expected
  -- what follows a register's name, which is told at the byte
  behind_name : Role → ℕ → Register → Expected
  index : Role → ℕ → Register → Expected
  behind_index : Role → ℕ → Operand → Expected
  -- a comma and a further operand, or the `;`
  behind_operand : Role → Expected
  -- what follows a gate's name
  behind_gate : Call → Expected
  -- the first token behind the parenthesis
  first_angle : Call → Expected
  -- within an angle, of which these bytes were read
  within_angle : Call → AngleState → List ℕ → Expected

-- what is known and the place behind a token, or what is wrong there
abbrev pub Next : Type 0
Next = Result (Known × Expected) Fault

-- ---- what may be wrong, in the order of the kinds' numbers

abbrev pub wants : Bool → Lexeme → List Check
wants good l = wrong Syntax l.at (not good) ∷ []

abbrev pub many_of : RegisterKind → Many
many_of Quantum = Qubits
many_of Classical = Bits

abbrev pub is_of : RegisterKind → Option Register → Bool
is_of kind None = false
is_of Quantum (Some r) = elim r.kind as (λ _. Bool) [ Quantum ↦ true | Classical ↦ false ]
is_of Classical (Some r) = elim r.kind as (λ _. Bool) [ Quantum ↦ false | Classical ↦ true ]

-- a register's name in its declaration
abbrev pub new_name : Known → Lexeme → List Check
new_name k l =
    wrong Syntax l.at (not (is_identifier l))
    ∷ wrong DuplicateName l.at (is_declared k l.bytes)
    ∷ []

-- its size
abbrev pub new_size : Known → RegisterKind → Lexeme → List Check
new_size k kind l =
    wrong Syntax l.at (not (is token.Int l))
    ∷ wrong EmptyRegister l.at (number l.bytes == 0)
    ∷ wrong (TooMany (many_of kind) 256) l.at (nat_lt 256 (count_of kind k.qubits k.bits + number l.bytes))
    ∷ []

-- which kind of register is wanted
abbrev pub wanted : Role → RegisterKind
wanted (of_gate call) = Quantum
wanted of_left = Quantum
wanted (of_right left) = Classical
wanted of_reset = Quantum
wanted (of_barrier os) = Quantum

-- angles are wanted, and there were no parentheses
abbrev pub lacks_angles : Role → Bool
lacks_angles (of_gate call) = call.missing
lacks_angles of_left = false
lacks_angles (of_right left) = false
lacks_angles of_reset = false
lacks_angles (of_barrier os) = false

-- the first token of an operand
abbrev pub operand_name : Known → Role → Lexeme → List Check
operand_name k role l =
    wrong Syntax l.at (not (is_identifier l))
    ∷ wrong UnknownName l.at (is_none (k.registers l.bytes))
    ∷ wrong WrongKind l.at (not (is_of (wanted role) (k.registers l.bytes)))
    ∷ wrong AngleCount l.at (lacks_angles role)
    ∷ []

-- the index of a cell
abbrev pub operand_index : Register → Lexeme → List Check
operand_index r l =
    wrong Syntax l.at (not (is token.Int l))
    ∷ wrong IndexOut l.at (not (nat_lt (number l.bytes) r.size))
    ∷ []

-- the last token of an operand; what is told is the operand's first
abbrev pub operand_last : Role → ℕ → Operand → List Check
operand_last (of_gate call) at o =
    wrong SizeMismatch at (list_any (differ o) call.operands)
    ∷ wrong SameQubit at (list_any (share o) call.operands)
    ∷ []
operand_last (of_right left) at o = wrong SizeMismatch at (not (alike left o)) ∷ []
operand_last of_left at o = []
operand_last of_reset at o = []
operand_last (of_barrier os) at o = []

-- the `;` of a statement that adds items
abbrev pub last_sign : Known → List ItemData → Lexeme → List Check
last_sign k items l = wrong (TooMany Items 65536) l.at (nat_lt 65536 (length k.items + length items)) ∷ []

-- the `)` of the angles
abbrev pub angles_end : Call → ℕ → Lexeme → List Check
angles_end call n l = wrong AngleCount l.at (not (call.gate.angles == n)) ∷ []

-- ---- from place to place

abbrev pub on : Known → Expected → List Check → Next
on k place checks = unless checks (k, place)

-- a list of operands with one more
abbrev pub with_operand : Call → Operand → Call
with_operand call o = record call { missing = false; operands = call.operands ++ o ∷ [] }

-- what stands behind an operand
abbrev pub behind : Role → Operand → Expected
behind (of_gate call) o = behind_operand (of_gate (with_operand call o))
behind of_left o = sign token.Arrow (operand (of_right o))
behind (of_right left) o = ends_with (measure_items left o)
behind of_reset o = ends_with (reset_items o)
behind (of_barrier os) o = behind_operand (of_barrier (os ++ o ∷ []))

-- the `;` behind a list of operands: whether their number is right, and the items
abbrev pub number_is_right : Role → Bool
number_is_right (of_gate call) = call.gate.qubits == length call.operands
number_is_right of_left = true
number_is_right (of_right left) = true
number_is_right of_reset = true
number_is_right (of_barrier os) = true

abbrev pub listed_items : Role → List ItemData
listed_items (of_gate call) = gate_items call.gate call.angles call.operands
listed_items of_left = []
listed_items (of_right left) = []
listed_items of_reset = []
listed_items (of_barrier os) = barrier_items os

-- behind an operand and its last token
abbrev pub operand_done : Known → Role → ℕ → Operand → Next
operand_done k role at o = on k (behind role o) (operand_last role at o)

abbrev pub begin_operand : Known → Role → Lexeme → Option Register → Next
begin_operand k role l None = on k between (operand_name k role l)
begin_operand k role l (Some r) = on k (behind_name role l.at r) (operand_name k role l)

abbrev pub at_operand : Known → Role → Lexeme → Next
at_operand k role l = begin_operand k role l (k.registers l.bytes)

abbrev pub items_end : Known → List ItemData → Lexeme → List Check
items_end k items l = wrong Syntax l.at (not (is token.Semi l)) ∷ last_sign k items l

abbrev pub at_semi : Known → List ItemData → Lexeme → Next
at_semi k items l = on (with_items k items) between (items_end k items l)

abbrev pub at_sign : Known → TokenKind → Expected → Lexeme → Next
at_sign k kind place l = on k place (wants (is kind l) l)

-- the `;` behind a list of operands
abbrev pub list_end : Known → Role → Lexeme → List Check
list_end k role l =
    wrong Syntax l.at (not (is token.Semi l))
    ∷ wrong OperandCount l.at (not (number_is_right role))
    ∷ last_sign k (listed_items role) l

abbrev pub behind_list : Known → Role → Lexeme → Next
behind_list k role l =
    if is token.Comma l then on k (operand role) [] else on (with_items k (listed_items role)) between (list_end k role l)

abbrev pub call : Gate → Call
call g = record { gate = g; angles = []; missing = false; operands = [] }

-- a gate's name
abbrev pub gate_name : Bool → Lexeme → Bool
gate_name word l = word && (is_identifier l || (bytes_eq l.bytes (codes "U") || bytes_eq l.bytes (codes "CX")))

abbrev pub known_gate : Lexeme → Option Gate → List Check
known_gate l g = wrong Syntax l.at (not (gate_name (is token.Word l) l)) ∷ wrong UnknownName l.at (is_none g) ∷ []

abbrev pub begin_gate : Known → Lexeme → Option Gate → Next
begin_gate k l None = on k between (known_gate l None)
begin_gate k l (Some g) = on k (behind_gate (call g)) (known_gate l (Some g))

-- the file's name
abbrev pub known_file : Lexeme → List Check
known_file l = wrong Syntax l.at (not (is token.Text l)) ∷ wrong UnknownInclude l.at (not (bytes_eq l.bytes (codes "\"qelib1.inc\""))) ∷ []

-- the `]` of a cell
abbrev pub cell_end : Role → ℕ → Operand → Lexeme → List Check
cell_end role at o l = wrong Syntax l.at (not (is token.RBracket l)) ∷ operand_last role at o

abbrev pub begin_as : Known → Lexeme → Opening → Next
begin_as k l opening.Include = on k file_name []
begin_as k l opening.Qreg = on k (register_name Quantum) []
begin_as k l opening.Creg = on k (register_name Classical) []
begin_as k l opening.Measure = on k (operand of_left) []
begin_as k l opening.Reset = on k (operand of_reset) []
begin_as k l opening.Barrier = on k (operand (of_barrier [])) []
begin_as k l opening.Later = on k between (wrong NotBuilt l.at true ∷ [])
begin_as k l opening.Gate = begin_gate k l (gate_of k.included l.bytes)

-- the first token of a statement
abbrev pub begin : Known → Lexeme → Next
begin k l = elim (is token.Word l) as (λ _. Next) [ true ↦ begin_as k l (opening_of l.bytes) | false ↦ on k between (wants false l) ]

abbrev pub with_angle : Call → List ℕ → Call
with_angle c text = record c { angles = c.angles ++ text ∷ [] }

-- the text of an angle
abbrev pub too_long : List ℕ → Lexeme → List Check
too_long text l = wrong (TooMany AngleBytes 1024) l.at (nat_lt 1024 (length text)) ∷ []

-- one more token of an angle
abbrev pub angle_on : Known → Call → List ℕ → Lexeme → Option AngleState → Next
angle_on k c text l None = on k between (wants false l)
angle_on k c text l (Some s) = on k (within_angle c s (text ++ l.bytes)) (too_long (text ++ l.bytes) l)

-- behind a whole angle: a comma and the next, or the end of the angles
abbrev pub behind_angle : Known → Call → Lexeme → Next
behind_angle k c l =
    if is token.Comma l then on k (within_angle c (angle_state Part 0) []) []
    else (if is token.RParen l then on k (operand (of_gate c)) (angles_end c (length c.angles) l) else on k between (wants false l))

abbrev pub is_zero : ℕ → Bool
is_zero zero = true
is_zero (suc n) = false

abbrev pub is_whole_angle : AngleState → Bool
is_whole_angle s = elim s.phase as (λ _. Bool) [ Part ↦ false | Paren ↦ false | Whole ↦ is_zero s.depth ]

abbrev pub ends_angle : Lexeme → Bool
ends_angle l = is token.Comma l || is token.RParen l

abbrev pub at_angle : Known → Call → AngleState → List ℕ → Lexeme → Next
at_angle k c s text l =
    if is_whole_angle s && ends_angle l then behind_angle k (with_angle c text) l else angle_on k c text l (angle_step s l)

-- the first token behind a gate's name
abbrev pub lacking : Call → Call
lacking c = record c { missing = not (c.gate.angles == 0) }

-- behind one of the first tokens
abbrev pub behind_header : List (TokenKind × List ℕ) → Expected
behind_header [] = between
behind_header (t ∷ ts) = header (t ∷ ts)

abbrev pub at_header : Known → List (TokenKind × List ℕ) → Lexeme → Next
at_header k [] l = on k between (wrong Header l.at true ∷ [])
at_header k (t ∷ ts) l = on k (behind_header ts) (wrong Header l.at (not (is_exactly t.0 t.1 l)) ∷ [])

-- the register as an operand
abbrev pub whole_of : Register → Operand
whole_of r = record { register = r; index = None }

-- the token behind an operand that ended before it
abbrev pub behind_operand_at : Known → Role → Operand → Lexeme → Next
behind_operand_at k (of_gate call) o l = behind_list k (of_gate (with_operand call o)) l
behind_operand_at k of_left o l = at_sign k token.Arrow (operand (of_right o)) l
behind_operand_at k (of_right left) o l = at_semi k (measure_items left o) l
behind_operand_at k of_reset o l = at_semi k (reset_items o) l
behind_operand_at k (of_barrier os) o l = behind_list k (of_barrier (os ++ o ∷ [])) l

-- at each place, what is behind the next token or what is wrong with it
abbrev pub step : Known → Expected → Lexeme → Next
step k (header ts) l = at_header k ts l
step k between l = begin k l
step k (sign kind place) l = at_sign k kind place l
step k (ends known) l = on known between (wants (is token.Semi l) l)
step k (ends_with items) l = at_semi k items l
step k file_name l = on k (ends (with_include k)) (known_file l)
step k (register_name kind) l = on k (sign token.LBracket (register_size kind l.bytes)) (new_name k l)
step k (register_size kind name) l = on k (sign token.RBracket (ends (with_register k kind name (number l.bytes)))) (new_size k kind l)
step k (operand role) l = at_operand k role l
step k (behind_name role at r) l =
    if is token.LBracket l then on k (index role at r) []
    else (elim (operand_done k role at (whole_of r)) as (λ _. Next) [ Ok n ↦ behind_operand_at k role (whole_of r) l | Err fault ↦ Err fault ])
step k (index role at r) l = on k (behind_index role at (record { register = r; index = Some (number l.bytes) })) (operand_index r l)
step k (behind_index role at o) l = on k (behind role o) (cell_end role at o l)
step k (behind_operand role) l = behind_list k role l
step k (behind_gate c) l = if is token.LParen l then on k (first_angle c) [] else at_operand k (of_gate (lacking c)) l
step k (first_angle c) l = if is token.RParen l then on k (operand (of_gate c)) (angles_end c 0 l) else at_angle k c (angle_state Part 0) [] l
step k (within_angle c s text) l = at_angle k c s text l
