-- The same for gates and for statements of other operands.
use Rattle.std.proofs.Common.{◌≡◌, ℕ, zero, suc, ◌==◌, Bool, true, false, not, ◌&&◌, ◌||◌, List, [], ◌∷◌, ◌++◌, length, codes, Some, None, Ok, refl, sym, ap, ◌∙◌}
use Rattle.std.specs.Prelude.{if◌then◌else◌}
use Rattle.std.specs.Str.{bytes_eq}
use Rattle.std.proofs.lemmas.Bool.{false≢true, eqb-true}
use Rattle.std.proofs.lemmas.List.{append_assoc}
use Rattle.qasm_lex.specs.declared.tokens.TokenKind.{TokenKind}
use Rattle.qasm_lex.specs.declared.tokens.TokenKind.TheVariants as token
use Rattle.qasm_reader.specs.declared.kinds.Opening.TheVariants as opening
use Rattle.qasm_reader.specs.Lexeme.{Lexeme, is, is_function, is_identifier, begins_small, is_reserved, rank}
use Rattle.qasm_reader.specs.Check.{unless}
use Rattle.qasm_reader.specs.Code.{begins}
use Rattle.qasm_reader.specs.Known.{Known, with_items}
use Rattle.qasm_reader.specs.declared.angle.Phase.{Phase}
use Rattle.qasm_reader.specs.declared.angle.Phase.TheVariants.{Part, Paren, Whole}
use Rattle.qasm_reader.specs.declared.angle.AngleState.{AngleState}
use Rattle.qasm_reader.specs.Angle.{angle_state, angle_step, is_operator}
use Rattle.qasm_reader.specs.Operand.{measure_items, reset_items}
use Rattle.qasm_reader.specs.Expected.{Expected, Next, Call, Role, of_gate, of_left, of_right, of_reset, of_barrier, between, ends_with, operand, behind_operand, behind_gate, first_angle, within_angle, call, lacking, with_angle, begin_gate, begin_as, step, known_gate, angles_end, too_long, is_whole_angle, ends_angle, behind_angle, angle_on, at_angle, at_operand, list_end, listed_items, items_end, wants}
use Rattle.qasm_reader.specs.Expected as expected
use Rattle.qasm_reader.specs.Statement.{NoneApplies, Opens, IsOperand, AreOperands, AreAngleTokens, IsCalled, IsGate, IsBarrier, IsMeasure, IsReset, Statement, Statements}
use Rattle.qasm_reader.specs.Statement as row
use Rattle.qasm_reader.specs.Reading.{reads}
use Rattle.qasm_reader.proofs.Steps.{then_reads, reads_token, goes_on, not_false, not_true, passes}
use Rattle.qasm_reader.proofs.AngleTexts.{IsAngleFrom, angle_from}
use Rattle.qasm_reader.proofs.Accepts.{begun, begins_open, kind_apart, operand_read, operands_read, include_read, register_read}

-- ---- angles

-- a token that ends an angle does not go on with it where it is whole
not_both : (s : Phase) (depth : ℕ) (l : Lexeme) (next : AngleState) → angle_step (angle_state s depth) l ≡ Some next → is_whole_angle (angle_state s depth) && ends_angle l ≡ false
not_both Part depth l next is_next = refl
not_both Paren depth l next is_next = refl
not_both Whole (suc depth) l next is_next = refl
not_both Whole zero l next is_next = by_operator (is_operator l) refl
  where
    ended : (kind : TokenKind) → is kind l ≡ true → is_operator l ≡ true → (rank kind == 12) ≡ false → (rank kind == 13) ≡ false → (rank kind == 14) ≡ false → (rank kind == 15) ≡ false → (rank kind == 16) ≡ false → ⊥
    ended kind this operator a b c d e = false≢true (sym (
        ap (λ (n : ℕ). n == 12 || (n == 13 || (n == 14 || (n == 15 || n == 16)))) (eqb-true (rank l.kind) (rank kind) this)
        ∙ ap (λ (x : Bool). x || (rank kind == 13 || (rank kind == 14 || (rank kind == 15 || rank kind == 16)))) a
        ∙ ap (λ (x : Bool). x || (rank kind == 14 || (rank kind == 15 || rank kind == 16))) b
        ∙ ap (λ (x : Bool). x || (rank kind == 15 || rank kind == 16)) c
        ∙ ap (λ (x : Bool). x || rank kind == 16) d ∙ e) ∙ operator)

    by_end : (comma close : Bool) → is token.Comma l ≡ comma → is token.RParen l ≡ close → is_operator l ≡ true → comma || close ≡ false
    by_end true close is_comma is_close operator = absurd (ended token.Comma is_comma operator refl refl refl refl refl)
    by_end false true is_comma is_close operator = absurd (ended token.RParen is_close operator refl refl refl refl refl)
    by_end false false is_comma is_close operator = refl

    no_next : (b : Bool) → is_operator l ≡ b → (if b then Some (angle_state Part 0) else None) ≡ Some next → b ≡ true
    no_next true is_b some = refl
    no_next false is_b some = absurd (cc)

    by_operator : (b : Bool) → is_operator l ≡ b → ends_angle l ≡ false
    by_operator true is_b = by_end (is token.Comma l) (is token.RParen l) refl refl is_b
    by_operator false is_b = absurd (false≢true (no_next false is_b (sym (ap (λ (b : Bool). if b then Some (angle_state Part 0) else None) is_b) ∙ is_next)))

angle_next : (k : Known) (c : Call) (s next : AngleState) (text : List ℕ) (l : Lexeme) → angle_step s l ≡ Some next → at_angle k c s text l ≡ unless (too_long (text ++ l.bytes) l) (k, within_angle c next (text ++ l.bytes))
angle_next k c s next text l is_next =
    ap (λ (b : Bool). if b then behind_angle k (with_angle c text) l else angle_on k c text l (angle_step s l)) (not_both s.phase s.depth l next is_next)
    ∙ ap (angle_on k c text l) is_next

first_true : (a b : Bool) → a && b ≡ true → a ≡ true
first_true true b is = refl
first_true false b is = is

both_true : (a b : Bool) → a ≡ true → b ≡ true → a && b ≡ true
both_true true true x y = refl
both_true true false x y = y
both_true false b x y = x

angle_last : (k : Known) (c : Call) (s : AngleState) (text : List ℕ) (l : Lexeme) → is_whole_angle s ≡ true → ends_angle l ≡ true → at_angle k c s text l ≡ behind_angle k (with_angle c text) l
angle_last k c s text l whole_is end_is =
    ap (λ (b : Bool). if b then behind_angle k (with_angle c text) l else angle_on k c text l (angle_step s l)) (both_true _ _ whole_is end_is)

-- an angle, and the token that ends it
pub angle_read :
    (size : ℕ) (k : Known) (c : Call) (s : AngleState) (text all : List ℕ) (angle : List Lexeme) (l : Lexeme) (rest : List Lexeme) → IsAngleFrom s text angle all
    → ends_angle l ≡ true → reads size k (within_angle c s text) (angle ++ l ∷ rest) ≡ then_reads size (behind_angle k (with_angle c all) l) rest
angle_read size k c s text all [] l rest from end_is =
    reads_token size k (within_angle c s text) l rest
    ∙ ap (λ (r : Next). then_reads size r rest) (angle_last k c s text l from.0 end_is)
    ∙ ap (λ (t : List ℕ). then_reads size (behind_angle k (with_angle c t) l) rest) from.1
angle_read size k c s text all (x ∷ angle) l rest from end_is =
    goes_on size k (within_angle c s text) x (angle ++ l ∷ rest) (too_long (text ++ x.bytes) x) (k, within_angle c from.0 (text ++ x.bytes)) (angle_next k c s from.0 text x from.1) from.2
    ∙ angle_read size k c from.0 (text ++ x.bytes) all angle l rest from.3 end_is

comma_ends : (l : Lexeme) → is token.Comma l ≡ true → ends_angle l ≡ true
comma_ends l is_comma = ap (λ (b : Bool). b || is token.RParen l) is_comma

or_second : (a b : Bool) → b ≡ true → a || b ≡ true
or_second true b x = refl
or_second false b x = x

close_ends : (l : Lexeme) → is token.RParen l ≡ true → ends_angle l ≡ true
close_ends l is_close = or_second (is token.Comma l) (is token.RParen l) is_close

comma_next : (k : Known) (c : Call) (l : Lexeme) → is token.Comma l ≡ true → behind_angle k c l ≡ Ok (k, within_angle c (angle_state Part 0) [])
comma_next k c l is_comma =
    ap (λ (b : Bool). if b then Ok (k, within_angle c (angle_state Part 0) []) else (if is token.RParen l then unless (angles_end c (length c.angles) l) (k, operand (of_gate c)) else unless (wants false l) (k, between))) is_comma

close_next : (k : Known) (c : Call) (l : Lexeme) → is token.RParen l ≡ true → behind_angle k c l ≡ unless (angles_end c (length c.angles) l) (k, operand (of_gate c))
close_next k c l is_close =
    ap (λ (b : Bool). if b then Ok (k, within_angle c (angle_state Part 0) []) else (if is token.RParen l then unless (angles_end c (length c.angles) l) (k, operand (of_gate c)) else unless (wants false l) (k, between)))
    (kind_apart token.RParen token.Comma l is_close refl)
    ∙ ap (λ (b : Bool). if b then unless (angles_end c (length c.angles) l) (k, operand (of_gate c)) else unless (wants false l) (k, between)) is_close

pub angles_read :
    (size : ℕ) (k : Known) (c done : Call) (ls rest : List Lexeme) → AreAngleTokens c ls done
    → reads size k (within_angle c (angle_state Part 0) []) (ls ++ rest) ≡ reads size k (operand (of_gate done)) rest
angles_read size k c _ _ rest (row.last angle text close from is_close none) =
    ap (λ (t : List Lexeme). reads size k (within_angle c (angle_state Part 0) []) t) (append_assoc angle (close ∷ []) rest)
    ∙ angle_read size k c (angle_state Part 0) [] text angle close rest (angle_from angle text from) (close_ends close is_close)
    ∙ ap (λ (r : Next). then_reads size r rest) (close_next k (with_angle c text) close is_close
    ∙ passes (angles_end (with_angle c text) (length (with_angle c text).angles) close) (k, operand (of_gate (with_angle c text))) none)
angles_read size k c done _ rest (row.more {rest = more} angle text comma from is_comma others) =
    ap (λ (t : List Lexeme). reads size k (within_angle c (angle_state Part 0) []) t) (append_assoc angle (comma ∷ more) rest)
    ∙ angle_read size k c (angle_state Part 0) [] text angle comma (more ++ rest) (angle_from angle text from) (comma_ends comma is_comma)
    ∙ ap (λ (r : Next). then_reads size r (more ++ rest)) (comma_next k (with_angle c text) comma is_comma)
    ∙ angles_read size k (with_angle c text) done more rest others

-- the first token of the angles is no `)`, and so it is that of an angle
first_is : (k : Known) (c : Call) (l : Lexeme) → is token.RParen l ≡ false → step k (first_angle c) l ≡ step k (within_angle c (angle_state Part 0) []) l
first_is k c l other = ap (λ (b : Bool). if b then unless (angles_end c 0 l) (k, operand (of_gate c)) else at_angle k c (angle_state Part 0) [] l) other

no_part : (l : Lexeme) (next : AngleState) → angle_step (angle_state Part 0) l ≡ Some next → is token.RParen l ≡ true → ⊥
no_part l next is_next is_close =
    let none : angle_step (angle_state Part 0) l ≡ None =
    ap (λ (n : ℕ).
    if n == 13 then Some (angle_state Part 0)
    else (if n == 1 || (n == 2 || (n == 0 && bytes_eq l.bytes (codes "pi"))) then Some (angle_state Whole 0)
    else (if n == 6 then Some (angle_state Part 1)
    else (if n == 0 && is_function l.bytes then Some (angle_state Paren 0) else None)))) (eqb-true (rank l.kind) 7 is_close) in
    none_some next (sym none ∙ is_next)
  where
    none_some : (s : AngleState) → None ≡ Some s → ⊥
    none_some s same = cc

open_not : (b : Bool) → (b ≡ true → ⊥) → b ≡ false
open_not true other = absurd (other refl)
open_not false other = refl

-- the same tokens read as an angle, or as the first one
first_angle_read : (size : ℕ) (k : Known) (c : Call) (l : Lexeme) (ls : List Lexeme) (next : AngleState) → angle_step (angle_state Part 0) l ≡ Some next
    → reads size k (first_angle c) (l ∷ ls) ≡ reads size k (within_angle c (angle_state Part 0) []) (l ∷ ls)
first_angle_read size k c l ls next is_next =
    reads_token size k (first_angle c) l ls
    ∙ ap (λ (r : Next). then_reads size r ls) (first_is k c l (open_not (is token.RParen l) (no_part l next is_next)))
    ∙ sym (reads_token size k (within_angle c (angle_state Part 0) []) l ls)

angle_first : (size : ℕ) (k : Known) (c : Call) (angle : List Lexeme) (text : List ℕ) (more : List Lexeme) → IsAngleFrom (angle_state Part 0) [] angle text
    → reads size k (first_angle c) (angle ++ more) ≡ reads size k (within_angle c (angle_state Part 0) []) (angle ++ more)
angle_first size k c [] text more from = absurd (false≢true from.0)
angle_first size k c (l ∷ angle) text more from = first_angle_read size k c l (angle ++ more) from.0 from.1

angles_first : (size : ℕ) (k : Known) (c done : Call) (ls rest : List Lexeme) → AreAngleTokens c ls done
    → reads size k (first_angle c) (ls ++ rest) ≡ reads size k (within_angle c (angle_state Part 0) []) (ls ++ rest)
angles_first size k c _ _ rest (row.last angle text close from is_close none) =
    ap (reads size k (first_angle c)) (append_assoc angle (close ∷ []) rest)
    ∙ angle_first size k c angle text (close ∷ rest) (angle_from angle text from)
    ∙ ap (reads size k (within_angle c (angle_state Part 0) [])) (sym (append_assoc angle (close ∷ []) rest))
angles_first size k c done _ rest (row.more {rest = more} angle text comma from is_comma others) =
    ap (reads size k (first_angle c)) (append_assoc angle (comma ∷ more) rest)
    ∙ angle_first size k c angle text (comma ∷ (more ++ rest)) (angle_from angle text from)
    ∙ ap (reads size k (within_angle c (angle_state Part 0) [])) (sym (append_assoc angle (comma ∷ more) rest))

-- ---- gates

open_step : (k : Known) (c : Call) (l : Lexeme) → is token.LParen l ≡ true → step k (behind_gate c) l ≡ Ok (k, first_angle c)
open_step k c l is_open = ap (λ (b : Bool). if b then Ok (k, first_angle c) else at_operand k (of_gate (lacking c)) l) is_open

close_step : (k : Known) (c : Call) (l : Lexeme) → is token.RParen l ≡ true → step k (first_angle c) l ≡ unless (angles_end c 0 l) (k, operand (of_gate c))
close_step k c l is_close = ap (λ (b : Bool). if b then unless (angles_end c 0 l) (k, operand (of_gate c)) else at_angle k c (angle_state Part 0) [] l) is_close

-- what is left begins with an opening parenthesis
abbrev pub begins_paren : List Lexeme → Bool
begins_paren ls = begins token.LParen ls

pub bare_read : (size : ℕ) (k : Known) (c : Call) (rest : List Lexeme) → begins_paren rest ≡ false → reads size k (behind_gate c) rest ≡ reads size k (operand (of_gate (lacking c))) rest
bare_read size k c [] other = Rattle.qasm_reader.proofs.Steps.reads_end size k (behind_gate c) ∙ sym (Rattle.qasm_reader.proofs.Steps.reads_end size k (operand (of_gate (lacking c))))
bare_read size k c (l ∷ ls) other =
    reads_token size k (behind_gate c) l ls
    ∙ ap (λ (b : Bool). then_reads size (if b then Ok (k, first_angle c) else at_operand k (of_gate (lacking c)) l) ls) other
    ∙ sym (reads_token size k (operand (of_gate (lacking c))) l ls)

pub called_read : (size : ℕ) (k : Known) (c begun : Call) (ls rest : List Lexeme) → IsCalled c ls begun → begins_paren rest ≡ false
    → reads size k (behind_gate c) (ls ++ rest) ≡ reads size k (operand (of_gate begun)) rest
called_read size k c _ _ rest row.bare other = bare_read size k c rest other
called_read size k c _ _ rest (row.empty open_paren close is_open is_close none) other =
    goes_on size k (behind_gate c) open_paren (close ∷ rest) [] (k, first_angle c) (open_step k c open_paren is_open) tt
    ∙ goes_on size k (first_angle c) close rest (angles_end c 0 close) (k, operand (of_gate c)) (close_step k c close is_close) none
called_read size k c done _ rest (row.angles {ls = ls} open_paren is_open are) other =
    goes_on size k (behind_gate c) open_paren (ls ++ rest) [] (k, first_angle c) (open_step k c open_paren is_open) tt
    ∙ angles_first size k c done ls rest are
    ∙ angles_read size k c done ls rest are

-- an identifier is a word
pub word_of : (l : Lexeme) → not (is_identifier l) ≡ false → is token.Word l ≡ true
word_of l good =
    first_true (is token.Word l) (begins_small l.bytes)
    (first_true (is token.Word l && begins_small l.bytes) (not (is_reserved l.bytes)) (not_false (is_identifier l) good))

-- the operands begin with a name
operand_no_paren : (k : Known) (role : Role) (ls rest : List Lexeme) (o : Rattle.qasm_reader.specs.declared.kinds.Operand.Operand) → IsOperand k role ls o → begins_paren (ls ++ rest) ≡ false
operand_no_paren k role ls rest o (row.whole w) =
    ap (λ (t : List Lexeme). begins_paren (t ++ rest)) w.tokens
    ∙ kind_apart token.Word token.LParen w.name (word_of w.name w.name_is.0) refl
operand_no_paren k role ls rest o (row.cell w) =
    ap (λ (t : List Lexeme). begins_paren (t ++ rest)) w.tokens
    ∙ kind_apart token.Word token.LParen w.name (word_of w.name w.name_is.0) refl

operands_no_paren : (k : Known) (role done : Role) (ls rest : List Lexeme) → AreOperands k role ls done → begins_paren (ls ++ rest) ≡ false
operands_no_paren k role _ ls rest (row.last o one) = operand_no_paren k role ls rest o one
operands_no_paren k role done _ rest (row.more {rest = more} front comma o one is_comma others) =
    ap begins_paren (append_assoc front (comma ∷ more) rest) ∙ operand_no_paren k role front (comma ∷ (more ++ rest)) o one

pub list_step : (k : Known) (role : Role) (l : Lexeme) → is token.Semi l ≡ true → step k (behind_operand role) l ≡ unless (list_end k role l) (with_items k (listed_items role), between)
list_step k role l is_semi =
    ap (λ (b : Bool). if b then Ok (k, operand role) else unless (list_end k role l) (with_items k (listed_items role), between)) (kind_apart token.Semi token.Comma l is_semi refl)

-- the operands of a statement and its end
listed_read : (size : ℕ) (k : Known) (role done : Role) (operands : List Lexeme) (end : Lexeme) (rest : List Lexeme) → AreOperands k role operands done
    → Rattle.qasm_reader.proofs.Accepts.is_list role ≡ true → NoneApplies (list_end k done end)
    → reads size k (operand role) ((operands ++ end ∷ []) ++ rest) ≡ reads size (with_items k (listed_items done)) between rest
listed_read size k role done operands end rest are list none =
    let semi = not_false _ none.0 in
    ap (reads size k (operand role)) (append_assoc operands (end ∷ []) rest)
    ∙ operands_read size k role done operands (end ∷ rest) are list (kind_apart token.Semi token.LBracket end semi refl)
    ∙ goes_on size k (behind_operand done) end rest (list_end k done end) (with_items k (listed_items done), between) (list_step k done end semi) none

pub gate_read : (size : ℕ) (k after : Known) (ls rest : List Lexeme) → IsGate k ls after → reads size k between (ls ++ rest) ≡ reads size after between rest
gate_read size k after ls rest s =
    ap (λ (t : List Lexeme). reads size k between (t ++ rest)) s.tokens
    ∙ goes_on size k between s.name ((s.called ++ (s.operands ++ s.end ∷ [])) ++ rest) (known_gate s.name (Some s.gate)) (k, behind_gate (call s.gate))
    (begun k s.name opening.Gate s.first ∙ ap (begin_gate k s.name) s.gate_is) s.name_is
    ∙ ap (reads size k (behind_gate (call s.gate))) (append_assoc s.called (s.operands ++ s.end ∷ []) rest)
    ∙ called_read size k (call s.gate) s.begun s.called ((s.operands ++ s.end ∷ []) ++ rest) s.called_is
    (ap begins_paren (append_assoc s.operands (s.end ∷ []) rest) ∙ operands_no_paren k (of_gate s.begun) s.done s.operands (s.end ∷ rest) s.operands_are)
    ∙ listed_read size k (of_gate s.begun) s.done s.operands s.end rest s.operands_are refl s.end_is
    ∙ ap (λ (j : Known). reads size j between rest) (sym s.leaves)

pub barrier_read : (size : ℕ) (k after : Known) (ls rest : List Lexeme) → IsBarrier k ls after → reads size k between (ls ++ rest) ≡ reads size after between rest
barrier_read size k after ls rest s =
    ap (λ (t : List Lexeme). reads size k between (t ++ rest)) s.tokens
    ∙ goes_on size k between s.word ((s.operands ++ s.end ∷ []) ++ rest) [] (k, operand (of_barrier [])) (begun k s.word opening.Barrier s.first) tt
    ∙ listed_read size k (of_barrier []) s.done s.operands s.end rest s.operands_are refl s.end_is
    ∙ ap (λ (j : Known). reads size j between rest) (sym s.leaves)

pub reset_read : (size : ℕ) (k after : Known) (ls rest : List Lexeme) → IsReset k ls after → reads size k between (ls ++ rest) ≡ reads size after between rest
reset_read size k after ls rest s =
    let semi = not_false _ s.end_is.0 in
    ap (λ (t : List Lexeme). reads size k between (t ++ rest)) s.tokens
    ∙ goes_on size k between s.word ((s.operand ++ s.end ∷ []) ++ rest) [] (k, operand of_reset) (begun k s.word opening.Reset s.first) tt
    ∙ ap (reads size k (operand of_reset)) (append_assoc s.operand (s.end ∷ []) rest)
    ∙ operand_read size k of_reset s.operand s.a (s.end ∷ rest) s.operand_is (kind_apart token.Semi token.LBracket s.end semi refl)
    ∙ goes_on size k (ends_with (reset_items s.a)) s.end rest (items_end k (reset_items s.a) s.end) (with_items k (reset_items s.a), between) refl s.end_is
    ∙ ap (λ (j : Known). reads size j between rest) (sym s.leaves)

pub measure_read : (size : ℕ) (k after : Known) (ls rest : List Lexeme) → IsMeasure k ls after → reads size k between (ls ++ rest) ≡ reads size after between rest
measure_read size k after ls rest s =
    let semi = not_false _ s.end_is.0 in
    ap (λ (t : List Lexeme). reads size k between (t ++ rest)) s.tokens
    ∙ goes_on size k between s.word ((s.left ++ s.arrow ∷ (s.right ++ s.end ∷ [])) ++ rest) [] (k, operand of_left) (begun k s.word opening.Measure s.first) tt
    ∙ ap (reads size k (operand of_left)) (append_assoc s.left (s.arrow ∷ (s.right ++ s.end ∷ [])) rest)
    ∙ operand_read size k of_left s.left s.a (s.arrow ∷ ((s.right ++ s.end ∷ []) ++ rest)) s.left_is (kind_apart token.Arrow token.LBracket s.arrow s.arrow_is refl)
    ∙ goes_on size k (expected.sign token.Arrow (operand (of_right s.a))) s.arrow ((s.right ++ s.end ∷ []) ++ rest) (wants (is token.Arrow s.arrow) s.arrow)
    (k, operand (of_right s.a)) refl (not_true _ s.arrow_is, tt)
    ∙ ap (reads size k (operand (of_right s.a))) (append_assoc s.right (s.end ∷ []) rest)
    ∙ operand_read size k (of_right s.a) s.right s.b (s.end ∷ rest) s.right_is (kind_apart token.Semi token.LBracket s.end semi refl)
    ∙ goes_on size k (ends_with (measure_items s.a s.b)) s.end rest (items_end k (measure_items s.a s.b) s.end) (with_items k (measure_items s.a s.b), between) refl s.end_is
    ∙ ap (λ (j : Known). reads size j between rest) (sym s.leaves)

pub statement_read : (size : ℕ) (k after : Known) (ls rest : List Lexeme) → Statement k ls after → reads size k between (ls ++ rest) ≡ reads size after between rest
statement_read size k after ls rest (row.include s) = include_read size k after ls rest s
statement_read size k after ls rest (row.register r s) = register_read size r k after ls rest s
statement_read size k after ls rest (row.gate s) = gate_read size k after ls rest s
statement_read size k after ls rest (row.measure s) = measure_read size k after ls rest s
statement_read size k after ls rest (row.reset s) = reset_read size k after ls rest s
statement_read size k after ls rest (row.barrier s) = barrier_read size k after ls rest s

-- statements are read as they mean
pub statements_read : (size : ℕ) (k last : Known) (ls : List Lexeme) → Statements k ls last → reads size k between ls ≡ Ok (Rattle.qasm_reader.specs.Known.circuit_of last)
statements_read size k _ _ row.none = Rattle.qasm_reader.proofs.Steps.reads_end size k between
statements_read size k last _ (row.next {rest = rest} front after one others) = statement_read size k after front rest one ∙ statements_read size after last rest others
