-- Where a circuit was read, the tokens are those of statements.
use Rattle.std.proofs.Common.{◌≡◌, ℕ, zero, suc, ◌<◌, Bool, true, false, List, [], ◌∷◌, ◌++◌, length, Option, Some, None, is_none, Ok, Err, refl, sym, ap, ◌∙◌, arith}
use Rattle.std.specs.Prelude.{if◌then◌else◌}
use Rattle.std.proofs.lemmas.Bool.{false≢true}
use Rattle.std.proofs.lemmas.List.{append_assoc}
use Rattle.qccd_circuit.specs.Circuit.{CircuitData}
use Rattle.qasm_lex.specs.declared.tokens.TokenKind.TheVariants as token
use Rattle.qasm_reader.specs.declared.fault.QasmKind.TheVariants as kind
use Rattle.qasm_reader.specs.declared.kinds.Register.{Register}
use Rattle.qasm_reader.specs.declared.kinds.Operand.{Operand}
use Rattle.qasm_reader.specs.Lexeme.{Lexeme, is, number}
use Rattle.qasm_reader.specs.Check.{Check, wrong, unless}
use Rattle.qasm_reader.specs.Known.{Known, with_items}
use Rattle.qasm_reader.specs.Expected.{Expected, Next, Role, between, operand, behind_name, index, behind_index, behind_operand, begin_operand, step, whole_of, behind, behind_operand_at, operand_done, operand_name, operand_index, operand_last, cell_end, list_end, listed_items}
use Rattle.qasm_reader.specs.Statement.{NoneApplies, IsOperand, AreOperands, joined, AreAngleTokens, IsCalled}
use Rattle.qasm_reader.specs.Statement as row
use Rattle.qasm_reader.specs.Reading.{Answer, reads, at_end, unfinished}
use Rattle.qasm_reader.proofs.Steps.{then_reads, reads_token, reads_end, took, went_on, passed, err_no_ok, not_false}
use Rattle.qasm_reader.proofs.Accepts.{whole_read, is_list, behind_joined, joined_list}

-- a token at which none of the checks applied, and what was read behind it
pub record Gone (size : ℕ) (ls : List Lexeme) (c : CircuitData) (checks : Lexeme → List Check) (n : Lexeme → Known × Expected) : Type 0 where
  pub l : Lexeme
  pub rest : List Lexeme
  pub is : ls ≡ l ∷ rest
  pub none : NoneApplies (checks l)
  pub so : reads size (n l).0 (n l).1 rest ≡ Ok c

pub gone :
    (size : ℕ) (k : Known) (p : Expected) (ls : List Lexeme) (c : CircuitData) (checks : Lexeme → List Check) (n : Lexeme → Known × Expected)
    → ((l : Lexeme) → step k p l ≡ unless (checks l) (n l)) → (at_end size k p ≡ Ok c → ⊥) → reads size k p ls ≡ Ok c → Gone size ls c checks n
gone size k p ls c checks n steps no_end so =
    let t = took size k p ls c no_end so in
    let parts = went_on size (step k p t.l) t.rest c (checks t.l) (n t.l) (steps t.l) t.reads_so in
    record { l = t.l; rest = t.rest; is = t.is; none = parts.0; so = parts.1 }

pub no_syntax : (size : ℕ) (k : Known) (c : CircuitData) → unfinished size k [] ≡ Ok c → ⊥
no_syntax size k c is = err_no_ok _ c is

-- a check at the end of a list that applies
last_applies : (checks : List Check) (c : Check) → c.applies ≡ true → NoneApplies (checks ++ c ∷ []) → ⊥
last_applies [] c applies none = false≢true (sym none.0 ∙ applies)
last_applies (d ∷ checks) c applies none = last_applies checks c applies none.1

-- ---- operands

pub record OperandAt (size : ℕ) (k : Known) (role : Role) (ls : List Lexeme) (c : CircuitData) : Type 0 where
  pub front : List Lexeme
  pub rest : List Lexeme
  pub o : Operand
  pub is : ls ≡ front ++ rest
  pub one : IsOperand k role front o
  pub so : reads size k (behind role o) rest ≡ Ok c
  pub shorter : length rest < length ls

-- behind a register's name
behind_split :
    (size : ℕ) (k : Known) (role : Role) (l : Lexeme) (r : Register) (rest : List Lexeme) (c : CircuitData) → k.registers l.bytes ≡ Some r
    → NoneApplies (operand_name k role l) → reads size k (behind_name role l.at r) rest ≡ Ok c → OperandAt size k role (l ∷ rest) c
behind_split size k role l r [] c stands named so =
    let none = passed (operand_last role l.at (whole_of r) ++ wrong kind.Syntax size true ∷ []) (Rattle.qasm_reader.specs.Known.circuit_of k) c (sym (reads_end size k (behind_name role l.at r)) ∙ so) in
    absurd (last_applies (operand_last role l.at (whole_of r)) (wrong kind.Syntax size true) refl none.0)
behind_split size k role l r (m ∷ rest) c stands named so = by_bracket (is token.LBracket m) refl
  where
    as_cell : is token.LBracket m ≡ true → reads size k (index role l.at r) rest ≡ Ok c → OperandAt size k role (l ∷ m ∷ rest) c
    as_cell is_open so =
        let i = gone size k (index role l.at r) rest c (operand_index r) (λ i. (k, behind_index role l.at (record { register = r; index = Some (number i.bytes) }))) (λ i. refl) (no_syntax size k c) so in
        let o : Operand = record { register = r; index = Some (number i.l.bytes) } in
        let e = gone size k (behind_index role l.at o) i.rest c (cell_end role l.at o) (λ _. (k, behind role o)) (λ _. refl) (no_syntax size k c) i.so in
        record {
          front = l ∷ m ∷ i.l ∷ e.l ∷ [];
          rest = e.rest;
          o = o;
          is = ap (λ (t : List Lexeme). l ∷ m ∷ t) (i.is ∙ ap (λ (t : List Lexeme). i.l ∷ t) e.is);
          one = row.cell (record {
            name = l;
            open_bracket = m;
            index = i.l;
            close_bracket = e.l;
            register = r;
            tokens = refl;
            stands_for = stands;
            name_is = named;
            open_is = is_open;
            index_is = i.none;
            close_is = not_false _ e.none.0;
            operand_is = refl;
            last_is = e.none.1;
          });
          so = e.so;
          shorter = omega (arith, ap length i.is, ap length e.is);
        }

    as_whole : is token.LBracket m ≡ false → NoneApplies (operand_last role l.at (whole_of r)) → OperandAt size k role (l ∷ m ∷ rest) c
    as_whole other none =
        record {
          front = l ∷ [];
          rest = m ∷ rest;
          o = whole_of r;
          is = refl;
          one = row.whole (record { name = l; register = r; tokens = refl; stands_for = stands; name_is = named; operand_is = refl; last_is = none });
          so = sym (whole_read size k role l.at r (m ∷ rest) other none) ∙ so;
          shorter = omega arith;
        }

    by_done :
        (d : Next) → d ≡ operand_done k role l.at (whole_of r) → is token.LBracket m ≡ false
        → then_reads size (elim d as (λ _. Next) [ Ok n ↦ behind_operand_at k role (whole_of r) m | Err f ↦ Err f ]) rest ≡ Ok c → OperandAt size k role (l ∷ m ∷ rest) c
    by_done (Ok n) is other so = as_whole other (passed (operand_last role l.at (whole_of r)) (k, behind role (whole_of r)) n (sym is)).0
    by_done (Err f) is other so = absurd (err_no_ok f c so)

    then_if : Bool → Answer
    then_if b = then_reads size (if b then Ok (k, index role l.at r) else (elim (operand_done k role l.at (whole_of r)) as (λ _. Next) [ Ok n ↦ behind_operand_at k role (whole_of r) m | Err f ↦ Err f ])) rest

    by_bracket : (b : Bool) → is token.LBracket m ≡ b → OperandAt size k role (l ∷ m ∷ rest) c
    by_bracket true is_b = as_cell is_b (ap then_if (sym is_b) ∙ sym (reads_token size k (behind_name role l.at r) m rest) ∙ so)
    by_bracket false is_b = by_done (operand_done k role l.at (whole_of r)) refl is_b (ap then_if (sym is_b) ∙ sym (reads_token size k (behind_name role l.at r) m rest) ∙ so)

none_is : (o : Option Register) → o ≡ None → is_none o ≡ false → ⊥
none_is o is other = false≢true (sym other ∙ ap is_none is)

pub operand_split : (size : ℕ) (k : Known) (role : Role) (ls : List Lexeme) (c : CircuitData) → reads size k (operand role) ls ≡ Ok c → OperandAt size k role ls c
operand_split size k role [] c so = absurd (no_syntax size k c (sym (reads_end size k (operand role)) ∙ so))
operand_split size k role (l ∷ rest) c so = by_register (k.registers l.bytes) refl (sym (reads_token size k (operand role) l rest) ∙ so)
  where
    by_register : (r : Option Register) → r ≡ k.registers l.bytes → then_reads size (begin_operand k role l r) rest ≡ Ok c → OperandAt size k role (l ∷ rest) c
    by_register None is so =
        let parts = went_on size (begin_operand k role l None) rest c (operand_name k role l) (k, between) refl so in
        absurd (none_is (k.registers l.bytes) (sym is) parts.0.1.0)
    by_register (Some r) is so =
        let parts = went_on size (begin_operand k role l (Some r)) rest c (operand_name k role l) (k, behind_name role l.at r) refl so in
        behind_split size k role l r rest c (sym is) parts.0 parts.1

-- a list of operands and the sign behind it
pub record ListAt (size : ℕ) (k : Known) (role : Role) (ls : List Lexeme) (c : CircuitData) : Type 0 where
  pub front : List Lexeme
  pub end : Lexeme
  pub rest : List Lexeme
  pub done : Role
  pub is : ls ≡ front ++ end ∷ rest
  pub are : AreOperands k role front done
  pub none : NoneApplies (list_end k done end)
  pub so : reads size (with_items k (listed_items done)) between rest ≡ Ok c
  pub shorter : length rest < length ls

list_behind :
    (size : ℕ) (k : Known) (role : Role) (ls : List Lexeme) (c : CircuitData) (at : OperandAt size k role ls c)
    → ((rest : List Lexeme) → length rest < length ls → reads size k (operand (joined role at.o)) rest ≡ Ok c → ListAt size k (joined role at.o) rest c)
    → is_list role ≡ true → ListAt size k role ls c
list_behind size k role ls c at more list = by_comma (is token.Comma t.l) refl
  where
    behind_is : reads size k (behind_operand (joined role at.o)) at.rest ≡ Ok c
    behind_is = ap (λ (p : Expected). reads size k p at.rest) (sym (behind_joined role at.o list)) ∙ at.so

    t : Rattle.qasm_reader.proofs.Steps.Took size k (behind_operand (joined role at.o)) at.rest c
    t = took size k (behind_operand (joined role at.o)) at.rest c (no_syntax size k c) behind_is

    then_if : Bool → Answer
    then_if b = then_reads size (if b then Ok (k, operand (joined role at.o)) else unless (list_end k (joined role at.o) t.l) (with_items k (listed_items (joined role at.o)), between)) t.rest

    tokens : ls ≡ at.front ++ t.l ∷ t.rest
    tokens = at.is ∙ ap (λ (u : List Lexeme). at.front ++ u) t.is

    by_comma : (b : Bool) → is token.Comma t.l ≡ b → ListAt size k role ls c
    by_comma true is_b =
        let others = more t.rest (omega (arith, at.shorter, ap length t.is)) (ap then_if (sym is_b) ∙ t.reads_so) in
        record {
          front = at.front ++ t.l ∷ others.front;
          end = others.end;
          rest = others.rest;
          done = others.done;
          is = tokens ∙ ap (λ (u : List Lexeme). at.front ++ t.l ∷ u) others.is ∙ sym (append_assoc at.front (t.l ∷ others.front) (others.end ∷ others.rest));
          are = row.more at.front t.l at.o at.one is_b others.are;
          none = others.none;
          so = others.so;
          shorter = omega (arith, at.shorter, ap length t.is, others.shorter);
        }
    by_comma false is_b =
        let parts = went_on size (unless (list_end k (joined role at.o) t.l) (with_items k (listed_items (joined role at.o)), between)) t.rest c
        (list_end k (joined role at.o) t.l) (with_items k (listed_items (joined role at.o)), between) refl (ap then_if (sym is_b) ∙ t.reads_so) in
        record {
          front = at.front;
          end = t.l;
          rest = t.rest;
          done = joined role at.o;
          is = tokens;
          are = row.last at.o at.one;
          none = parts.0;
          so = parts.1;
          shorter = omega (arith, at.shorter, ap length t.is);
        }

list_split : (fuel size : ℕ) (k : Known) (role : Role) (ls : List Lexeme) (c : CircuitData) → length ls < fuel → is_list role ≡ true → reads size k (operand role) ls ≡ Ok c → ListAt size k role ls c
list_split zero size k role ls c few list so = absurd (omega (arith, few))
list_split (suc fuel) size k role ls c few list so =
    let at = operand_split size k role ls c so in
    list_behind size k role ls c at (λ rest shorter more. list_split fuel size k (joined role at.o) rest c (omega (arith, few, shorter)) (joined_list role at.o list) more) list

pub operands_split : (size : ℕ) (k : Known) (role : Role) (ls : List Lexeme) (c : CircuitData) → is_list role ≡ true → reads size k (operand role) ls ≡ Ok c → ListAt size k role ls c
operands_split size k role ls c list so = list_split (suc (length ls)) size k role ls c (omega arith) list so
