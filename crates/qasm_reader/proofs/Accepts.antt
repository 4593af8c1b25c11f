-- The tokens of a statement are gone past, and lead to what is known after it.
use Rattle.std.proofs.Common.{◌≡◌, ℕ, ◌==◌, Bool, true, false, List, [], ◌∷◌, ◌++◌, Some, Result, Ok, Err, refl, sym, ap, subst, ◌∙◌}
use Rattle.std.specs.Prelude.{if◌then◌else◌}
use Rattle.std.proofs.lemmas.Bool.{false≢true, eqb-true}
use Rattle.std.proofs.lemmas.List.{append_assoc}
use Rattle.qasm_lex.specs.declared.tokens.TokenKind.{TokenKind}
use Rattle.qasm_lex.specs.declared.tokens.TokenKind.TheVariants as token
use Rattle.qasm_reader.specs.declared.fault.QasmKind.TheVariants as kind
use Rattle.qasm_reader.specs.declared.kinds.RegisterKind.TheVariants.{Quantum, Classical}
use Rattle.qasm_reader.specs.declared.kinds.Register.{Register}
use Rattle.qasm_reader.specs.declared.kinds.Operand.{Operand}
use Rattle.qasm_reader.specs.declared.kinds.Opening.{Opening}
use Rattle.qasm_reader.specs.declared.kinds.Opening.TheVariants as opening
use Rattle.qasm_reader.specs.Lexeme.{Lexeme, is, rank, number, opening_of}
use Rattle.qasm_reader.specs.Check.{Check, Fault, wrong, unless}
use Rattle.qasm_reader.specs.Known.{Known, with_include, with_register, with_items}
use Rattle.qasm_reader.specs.Expected.{Expected, Next, Role, of_gate, of_left, of_right, of_reset, of_barrier, header, between, file_name, ends, ends_with, register_name, register_size, operand, behind_name, index, behind_index, behind_operand, begin_as, begin_operand, step, wants, whole_of, behind, behind_operand_at, behind_list, operand_done, new_name, new_size, operand_name, operand_index, operand_last, cell_end, known_file, list_end, listed_items, items_end}
use Rattle.qasm_reader.specs.Expected as expected
use Rattle.qasm_reader.specs.Statement.{NoneApplies, Opens, IsInclude, IsRegister, IsOperand, whole, cell, AreOperands, last, more, joined, keyword}
use Rattle.qasm_reader.specs.Reading.{reads, at_end, unfinished}
use Rattle.qasm_reader.specs.Code.{begins}
use Rattle.qasm_reader.proofs.Steps.{then_reads, reads_token, reads_end, passes, goes_on, not_true}

-- the first word of a statement
pub begun : (k : Known) (l : Lexeme) (o : Opening) → Opens o l → step k between l ≡ begin_as k l o
begun k l o opens =
    ap (λ (b : Bool). elim b as (λ _. Next) [ true ↦ begin_as k l (opening_of l.bytes) | false ↦ unless (wants false l) (k, between) ]) opens.word
    ∙ ap (begin_as k l) opens.opens

wanted : (b : Bool) (l : Lexeme) → b ≡ true → NoneApplies (wants b l)
wanted b l is = (not_true b is, tt)

pub include_read : (size : ℕ) (k after : Known) (ls rest : List Lexeme) → IsInclude k ls after → reads size k between (ls ++ rest) ≡ reads size after between rest
include_read size k after ls rest s =
    ap (λ (t : List Lexeme). reads size k between (t ++ rest)) s.tokens
    ∙ goes_on size k between s.word (s.file ∷ s.end ∷ rest) [] (k, file_name) (begun k s.word opening.Include s.first) tt
    ∙ goes_on size k file_name s.file (s.end ∷ rest) (known_file s.file) (k, ends (with_include k)) refl s.file_is
    ∙ goes_on size k (ends (with_include k)) s.end rest (wants (is token.Semi s.end) s.end) (with_include k, between) refl (wanted _ s.end s.end_is)
    ∙ ap (λ (j : Known). reads size j between rest) (sym s.leaves)

begun_register : (k : Known) (l : Lexeme) (r : Rattle.qasm_reader.specs.declared.kinds.RegisterKind.RegisterKind) → Opens (keyword r) l → step k between l ≡ Ok (k, register_name r)
begun_register k l Quantum opens = begun k l opening.Qreg opens
begun_register k l Classical opens = begun k l opening.Creg opens

pub register_read :
    (size : ℕ) (r : Rattle.qasm_reader.specs.declared.kinds.RegisterKind.RegisterKind) (k after : Known) (ls rest : List Lexeme) → IsRegister r k ls after
    → reads size k between (ls ++ rest) ≡ reads size after between rest
register_read size r k after ls rest s =
    let next = with_register k r s.name.bytes (number s.size.bytes) in
    ap (λ (t : List Lexeme). reads size k between (t ++ rest)) s.tokens
    ∙ goes_on size k between s.word (s.name ∷ s.open_bracket ∷ s.size ∷ s.close_bracket ∷ s.end ∷ rest) [] (k, register_name r) (begun_register k s.word r s.first) tt
    ∙ goes_on size k (register_name r) s.name (s.open_bracket ∷ s.size ∷ s.close_bracket ∷ s.end ∷ rest) (new_name k s.name)
    (k, expected.sign token.LBracket (register_size r s.name.bytes)) refl s.name_is
    ∙ goes_on size k (expected.sign token.LBracket (register_size r s.name.bytes)) s.open_bracket (s.size ∷ s.close_bracket ∷ s.end ∷ rest)
    (wants (is token.LBracket s.open_bracket) s.open_bracket) (k, register_size r s.name.bytes) refl (wanted _ s.open_bracket s.open_is)
    ∙ goes_on size k (register_size r s.name.bytes) s.size (s.close_bracket ∷ s.end ∷ rest) (new_size k r s.size)
    (k, expected.sign token.RBracket (ends next)) refl s.size_is
    ∙ goes_on size k (expected.sign token.RBracket (ends next)) s.close_bracket (s.end ∷ rest) (wants (is token.RBracket s.close_bracket) s.close_bracket)
    (k, ends next) refl (wanted _ s.close_bracket s.close_is)
    ∙ goes_on size k (ends next) s.end rest (wants (is token.Semi s.end) s.end) (next, between) refl (wanted _ s.end s.end_is)
    ∙ ap (λ (j : Known). reads size j between rest) (sym s.leaves)

-- ---- operands

-- what is left begins with an opening bracket
abbrev pub begins_open : List Lexeme → Bool
begins_open ls = begins token.LBracket ls

-- no check of the first list applies
unless_behind : {A : Type 0} (front checks : List Check) (a : A) → NoneApplies front → unless (front ++ checks) a ≡ unless checks a
unless_behind [] checks a none = refl
unless_behind {A = A} (c ∷ front) checks a none =
    ap (λ (b : Bool). elim b as (λ _. Result A Fault) [ true ↦ Err (record { at = c.at; kind = c.kind }) | false ↦ unless (front ++ checks) a ]) none.0
    ∙ unless_behind front checks a none.1

pub end_behind : (size : ℕ) (k : Known) (role : Role) (o : Operand) → at_end size k (behind role o) ≡ unfinished size k []
end_behind size k (of_gate c) o = refl
end_behind size k of_left o = refl
end_behind size k (of_right left) o = refl
end_behind size k of_reset o = refl
end_behind size k (of_barrier os) o = refl

pub step_behind : (k : Known) (role : Role) (o : Operand) (l : Lexeme) → behind_operand_at k role o l ≡ step k (behind role o) l
step_behind k (of_gate c) o l = refl
step_behind k of_left o l = refl
step_behind k (of_right left) o l = refl
step_behind k of_reset o l = refl
step_behind k (of_barrier os) o l = refl

-- behind a register's name that was the whole operand
pub whole_read :
    (size : ℕ) (k : Known) (role : Role) (at : ℕ) (r : Register) (rest : List Lexeme) → begins_open rest ≡ false → NoneApplies (operand_last role at (whole_of r))
    → reads size k (behind_name role at r) rest ≡ reads size k (behind role (whole_of r)) rest
whole_read size k role at r [] other none =
    reads_end size k (behind_name role at r)
    ∙ unless_behind (operand_last role at (whole_of r)) (wrong kind.Syntax size true ∷ []) (Rattle.qasm_reader.specs.Known.circuit_of k) none
    ∙ sym (end_behind size k role (whole_of r)) ∙ sym (reads_end size k (behind role (whole_of r)))
whole_read size k role at r (l ∷ rest) other none =
    let done = operand_done k role at (whole_of r) in
    reads_token size k (behind_name role at r) l rest
    ∙ ap (λ (b : Bool). then_reads size (if b then Ok (k, index role at r) else (elim done as (λ _. Next) [ Ok n ↦ behind_operand_at k role (whole_of r) l | Err f ↦ Err f ])) rest) other
    ∙ ap (λ (d : Next). then_reads size (elim d as (λ _. Next) [ Ok n ↦ behind_operand_at k role (whole_of r) l | Err f ↦ Err f ]) rest)
    (passes (operand_last role at (whole_of r)) (k, behind role (whole_of r)) none)
    ∙ ap (λ (d : Next). then_reads size d rest) (step_behind k role (whole_of r) l)
    ∙ sym (reads_token size k (behind role (whole_of r)) l rest)

named : (k : Known) (role : Role) (l : Lexeme) (r : Register) → k.registers l.bytes ≡ Some r → step k (operand role) l ≡ unless (operand_name k role l) (k, behind_name role l.at r)
named k role l r stands = ap (begin_operand k role l) stands

open_step : (k : Known) (role : Role) (at : ℕ) (r : Register) (l : Lexeme) → is token.LBracket l ≡ true → step k (behind_name role at r) l ≡ Ok (k, index role at r)
open_step k role at r l is_open =
    ap (λ (b : Bool). if b then Ok (k, index role at r) else (elim (operand_done k role at (whole_of r)) as (λ _. Next) [ Ok n ↦ behind_operand_at k role (whole_of r) l | Err f ↦ Err f ])) is_open

pub operand_read :
    (size : ℕ) (k : Known) (role : Role) (ls : List Lexeme) (o : Operand) (rest : List Lexeme) → IsOperand k role ls o → begins_open rest ≡ false
    → reads size k (operand role) (ls ++ rest) ≡ reads size k (behind role o) rest
operand_read size k role ls o rest (whole w) other =
    ap (λ (t : List Lexeme). reads size k (operand role) (t ++ rest)) w.tokens
    ∙ goes_on size k (operand role) w.name rest (operand_name k role w.name) (k, behind_name role w.name.at w.register) (named k role w.name w.register w.stands_for) w.name_is
    ∙ whole_read size k role w.name.at w.register rest other (subst (λ (p : Operand). NoneApplies (operand_last role w.name.at p)) w.operand_is w.last_is)
    ∙ ap (λ (p : Operand). reads size k (behind role p) rest) (sym w.operand_is)
operand_read size k role ls o rest (cell w) other =
    let o' : Operand = record { register = w.register; index = Some (number w.index.bytes) } in
    ap (λ (t : List Lexeme). reads size k (operand role) (t ++ rest)) w.tokens
    ∙ goes_on size k (operand role) w.name (w.open_bracket ∷ w.index ∷ w.close_bracket ∷ rest) (operand_name k role w.name) (k, behind_name role w.name.at w.register)
    (named k role w.name w.register w.stands_for) w.name_is
    ∙ goes_on size k (behind_name role w.name.at w.register) w.open_bracket (w.index ∷ w.close_bracket ∷ rest) [] (k, index role w.name.at w.register)
    (open_step k role w.name.at w.register w.open_bracket w.open_is) tt
    ∙ goes_on size k (index role w.name.at w.register) w.index (w.close_bracket ∷ rest) (operand_index w.register w.index) (k, behind_index role w.name.at o') refl w.index_is
    ∙ goes_on size k (behind_index role w.name.at o') w.close_bracket rest (cell_end role w.name.at o' w.close_bracket) (k, behind role o') refl
    (not_true _ w.close_is, subst (λ (p : Operand). NoneApplies (operand_last role w.name.at p)) w.operand_is w.last_is)
    ∙ ap (λ (p : Operand). reads size k (behind role p) rest) (sym w.operand_is)

-- two kinds of a token
pub kind_apart : (a b : TokenKind) (l : Lexeme) → is a l ≡ true → (rank a == rank b) ≡ false → is b l ≡ false
kind_apart a b l this apart = ap (λ (n : ℕ). n == rank b) (eqb-true (rank l.kind) (rank a) this) ∙ apart

-- a role with a list of operands
abbrev pub is_list : Role → Bool
is_list (of_gate c) = true
is_list of_left = false
is_list (of_right left) = false
is_list of_reset = false
is_list (of_barrier os) = true

pub behind_joined : (role : Role) (o : Operand) → is_list role ≡ true → behind role o ≡ behind_operand (joined role o)
behind_joined (of_gate c) o list = refl
behind_joined of_left o list = absurd (false≢true list)
behind_joined (of_right left) o list = absurd (false≢true list)
behind_joined of_reset o list = absurd (false≢true list)
behind_joined (of_barrier os) o list = refl

pub joined_list : (role : Role) (o : Operand) → is_list role ≡ true → is_list (joined role o) ≡ true
joined_list (of_gate c) o list = refl
joined_list of_left o list = list
joined_list (of_right left) o list = list
joined_list of_reset o list = list
joined_list (of_barrier os) o list = refl

comma_step : (k : Known) (role : Role) (l : Lexeme) → is token.Comma l ≡ true → step k (behind_operand role) l ≡ Ok (k, operand role)
comma_step k role l comma = ap (λ (b : Bool). if b then Ok (k, operand role) else unless (list_end k role l) (with_items k (listed_items role), between)) comma

pub operands_read :
    (size : ℕ) (k : Known) (role done : Role) (ls rest : List Lexeme) → AreOperands k role ls done → is_list role ≡ true → begins_open rest ≡ false
    → reads size k (operand role) (ls ++ rest) ≡ reads size k (behind_operand done) rest
operands_read size k role _ ls rest (last o one) list other =
    operand_read size k role ls o rest one other ∙ ap (λ (p : Expected). reads size k p rest) (behind_joined role o list)
operands_read size k role done _ rest (more {rest = behind_comma} front comma o one is_comma others) list other =
    ap (λ (t : List Lexeme). reads size k (operand role) t) (append_assoc front (comma ∷ behind_comma) rest)
    ∙ operand_read size k role front o (comma ∷ (behind_comma ++ rest)) one (kind_apart token.Comma token.LBracket comma is_comma refl)
    ∙ ap (λ (p : Expected). reads size k p (comma ∷ (behind_comma ++ rest))) (behind_joined role o list)
    ∙ goes_on size k (behind_operand (joined role o)) comma (behind_comma ++ rest) [] (k, operand (joined role o)) (comma_step k (joined role o) comma is_comma) tt
    ∙ operands_read size k (joined role o) done behind_comma rest others (joined_list role o list) other
