-- The same for gates and for whole texts.
use Rattle.std.proofs.Common.{◌≡◌, ℕ, zero, suc, ◌<◌, Bool, true, false, ◌&&◌, ◌||◌, List, [], ◌∷◌, ◌++◌, length, Option, Some, None, Ok, refl, sym, ap, subst, ◌∙◌, arith}
use Rattle.std.specs.Prelude.{if◌then◌else◌}
use Rattle.std.proofs.lemmas.Bool.{false≢true}
use Rattle.std.proofs.lemmas.List.{append_assoc}
use Rattle.qccd_circuit.specs.Circuit.{CircuitData}
use Rattle.qasm_lex.specs.declared.tokens.TokenKind.TheVariants as token
use Rattle.qasm_reader.specs.declared.kinds.RegisterKind.{RegisterKind}
use Rattle.qasm_reader.specs.declared.kinds.RegisterKind.TheVariants.{Quantum, Classical}
use Rattle.qasm_reader.specs.declared.kinds.Opening.{Opening}
use Rattle.qasm_reader.specs.declared.kinds.Opening.TheVariants as opening
use Rattle.qasm_reader.specs.Lexeme.{Lexeme, is, number, opening_of}
use Rattle.qasm_reader.specs.Check.{unless}
use Rattle.gate_defs.specs.Gates.{Gate, gate_of}
use Rattle.qasm_reader.specs.Known.{Known, with_include, with_register, with_items, circuit_of}
use Rattle.qasm_reader.specs.declared.angle.Phase.TheVariants.{Part}
use Rattle.qasm_reader.specs.declared.angle.AngleState.{AngleState}
use Rattle.qasm_reader.specs.Angle.{angle_state, angle_step}
use Rattle.qasm_reader.specs.Operand.{measure_items, reset_items}
use Rattle.qasm_reader.specs.Expected.{Expected, Next, Call, Role, of_gate, of_left, of_right, of_reset, of_barrier, between, ends, ends_with, file_name, register_name, register_size, operand, behind_gate, first_angle, within_angle, step, wants, angle_on, at_angle, behind_angle, ends_angle, is_whole_angle, too_long, with_angle, angles_end, lacking, at_operand, call, begin_gate, begin_as, known_gate, known_file, new_name, new_size, items_end, list_end, listed_items, behind}
use Rattle.qasm_reader.specs.Expected as expected
use Rattle.qasm_reader.specs.Statement.{NoneApplies, Opens, AreAngleTokens, IsCalled, Statement, Statements}
use Rattle.qasm_reader.specs.Statement as row
use Rattle.qasm_reader.specs.Reading.{Answer, reads}
use Rattle.qasm_reader.proofs.Steps.{then_reads, reads_token, reads_end, went_on, err_no_ok, not_false}
use Rattle.qasm_reader.proofs.AngleTexts.{IsAngleFrom, angle_to}
use Rattle.qasm_reader.proofs.Splits.{gone, operand_split, operands_split, no_syntax}

-- ---- angles

and_parts : (a b : Bool) → a && b ≡ true → (a ≡ true) × (b ≡ true)
and_parts true true is = (refl, refl)
and_parts true false is = absurd (false≢true is)
and_parts false b is = absurd (false≢true is)

pub record AngleAt (size : ℕ) (k : Known) (c : Call) (s : AngleState) (text : List ℕ) (ls : List Lexeme) (d : CircuitData) : Type 0 where
  pub angle : List Lexeme
  pub all : List ℕ
  pub l : Lexeme
  pub rest : List Lexeme
  pub is : ls ≡ angle ++ l ∷ rest
  pub from : IsAngleFrom s text angle all
  pub ends : ends_angle l ≡ true
  pub so : then_reads size (behind_angle k (with_angle c all) l) rest ≡ Ok d
  pub shorter : length rest < length ls

pub angle_split : (size : ℕ) (k : Known) (c : Call) (s : AngleState) (text : List ℕ) (ls : List Lexeme) (d : CircuitData) → reads size k (within_angle c s text) ls ≡ Ok d → AngleAt size k c s text ls d
angle_split size k c s text [] d so = absurd (no_syntax size k d (sym (reads_end size k (within_angle c s text)) ∙ so))
angle_split size k c s text (l ∷ ls) d so =
    by_end (is_whole_angle s && ends_angle l) refl (angle_step s l) refl (λ next more. angle_split size k c next (text ++ l.bytes) ls d more)
  where
    then_if : Bool → Option AngleState → Answer
    then_if b o = then_reads size (if b then behind_angle k (with_angle c text) l else angle_on k c text l o) ls

    here : then_if (is_whole_angle s && ends_angle l) (angle_step s l) ≡ Ok d
    here = sym (reads_token size k (within_angle c s text) l ls) ∙ so

    by_end :
        (b : Bool) → is_whole_angle s && ends_angle l ≡ b → (o : Option AngleState) → angle_step s l ≡ o
        → ((next : AngleState) → reads size k (within_angle c next (text ++ l.bytes)) ls ≡ Ok d → AngleAt size k c next (text ++ l.bytes) ls d)
        → AngleAt size k c s text (l ∷ ls) d
    by_end true is_b o is_o more =
        let parts = and_parts (is_whole_angle s) (ends_angle l) is_b in
        record {
          angle = [];
          all = text;
          l = l;
          rest = ls;
          is = refl;
          from = (parts.0, refl);
          ends = parts.1;
          so = ap (λ (b : Bool). then_if b (angle_step s l)) (sym is_b) ∙ here;
          shorter = omega arith;
        }
    by_end false is_b None is_o more =
        let parts = went_on size (unless (wants false l) (k, between)) ls d (wants false l) (k, between) refl
        (ap (λ (b : Bool). then_if b None) (sym is_b) ∙ ap (then_if (is_whole_angle s && ends_angle l)) (sym is_o) ∙ here) in
        absurd (false≢true (sym parts.0.0))
    by_end false is_b (Some next) is_o more =
        let n : Known × Expected = (k, within_angle c next (text ++ l.bytes)) in
        let parts = went_on size (unless (too_long (text ++ l.bytes) l) n) ls d (too_long (text ++ l.bytes) l) n refl
        (ap (λ (b : Bool). then_if b (Some next)) (sym is_b) ∙ ap (then_if (is_whole_angle s && ends_angle l)) (sym is_o) ∙ here) in
        let others = more next parts.1 in
        record {
          angle = l ∷ others.angle;
          all = others.all;
          l = others.l;
          rest = others.rest;
          is = ap (λ (u : List Lexeme). l ∷ u) others.is;
          from = (next, is_o, parts.0, others.from);
          ends = others.ends;
          so = others.so;
          shorter = omega (arith, others.shorter);
        }

pub record AnglesAt (size : ℕ) (k : Known) (c : Call) (ls : List Lexeme) (d : CircuitData) : Type 0 where
  pub front : List Lexeme
  pub rest : List Lexeme
  pub done : Call
  pub is : ls ≡ front ++ rest
  pub are : AreAngleTokens c front done
  pub so : reads size k (operand (of_gate done)) rest ≡ Ok d
  pub shorter : length rest < length ls

angles_behind :
    (size : ℕ) (k : Known) (c : Call) (ls : List Lexeme) (d : CircuitData) (at : AngleAt size k c (angle_state Part 0) [] ls d)
    → ((next : Call) (rest : List Lexeme) → length rest < length ls → reads size k (within_angle next (angle_state Part 0) []) rest ≡ Ok d → AnglesAt size k next rest d)
    → AnglesAt size k c ls d
angles_behind size k c ls d at more = by_kind (is token.Comma at.l) refl (is token.RParen at.l) refl
  where
    next : Call
    next = with_angle c at.all

    then_if : Bool → Bool → Answer
    then_if b e = then_reads size (if b then Ok (k, within_angle next (angle_state Part 0) []) else (if e then unless (angles_end next (length next.angles) at.l) (k, operand (of_gate next)) else unless (wants false at.l) (k, between))) at.rest

    by_kind : (b : Bool) → is token.Comma at.l ≡ b → (e : Bool) → is token.RParen at.l ≡ e → AnglesAt size k c ls d
    by_kind true is_b e is_e =
        let others = more next at.rest at.shorter (ap (λ (x : Bool). then_if x (is token.RParen at.l)) (sym is_b) ∙ at.so) in
        record {
          front = at.angle ++ at.l ∷ others.front;
          rest = others.rest;
          done = others.done;
          is = at.is ∙ ap (λ (u : List Lexeme). at.angle ++ at.l ∷ u) others.is ∙ sym (append_assoc at.angle (at.l ∷ others.front) others.rest);
          are = row.more at.angle at.all at.l (angle_to at.angle at.all at.from) is_b others.are;
          so = others.so;
          shorter = omega (arith, at.shorter, others.shorter);
        }
    by_kind false is_b true is_e =
        let n : Known × Expected = (k, operand (of_gate next)) in
        let parts = went_on size (unless (angles_end next (length next.angles) at.l) n) at.rest d (angles_end next (length next.angles) at.l) n refl
        (ap (then_if false) (sym is_e) ∙ ap (λ (x : Bool). then_if x (is token.RParen at.l)) (sym is_b) ∙ at.so) in
        record {
          front = at.angle ++ at.l ∷ [];
          rest = at.rest;
          done = next;
          is = at.is ∙ sym (append_assoc at.angle (at.l ∷ []) at.rest);
          are = row.last at.angle at.all at.l (angle_to at.angle at.all at.from) is_e parts.0;
          so = parts.1;
          shorter = at.shorter;
        }
    by_kind false is_b false is_e =
        absurd (false≢true (sym (ap (λ (x : Bool). x || is token.RParen at.l) is_b ∙ is_e) ∙ at.ends))

angles_in : (fuel size : ℕ) (k : Known) (c : Call) (ls : List Lexeme) (d : CircuitData) → length ls < fuel → reads size k (within_angle c (angle_state Part 0) []) ls ≡ Ok d → AnglesAt size k c ls d
angles_in zero size k c ls d few so = absurd (omega (arith, few))
angles_in (suc fuel) size k c ls d few so =
    angles_behind size k c ls d (angle_split size k c (angle_state Part 0) [] ls d so) (λ next rest shorter more. angles_in fuel size k next rest d (omega (arith, few, shorter)) more)

-- ---- gates

pub record CalledAt (size : ℕ) (k : Known) (c : Call) (ls : List Lexeme) (d : CircuitData) : Type 0 where
  pub front : List Lexeme
  pub rest : List Lexeme
  pub begun : Call
  pub is : ls ≡ front ++ rest
  pub called : IsCalled c front begun
  pub so : reads size k (operand (of_gate begun)) rest ≡ Ok d
  pub shorter : length rest < suc (length ls)

first_split : (size : ℕ) (k : Known) (c : Call) (p : Lexeme) (ls : List Lexeme) (d : CircuitData) → is token.LParen p ≡ true → reads size k (first_angle c) ls ≡ Ok d → CalledAt size k c (p ∷ ls) d
first_split size k c p [] d is_open so = absurd (no_syntax size k d (sym (reads_end size k (first_angle c)) ∙ so))
first_split size k c p (l ∷ ls) d is_open so = by_close (is token.RParen l) refl
  where
    then_if : Bool → Answer
    then_if b = then_reads size (if b then unless (angles_end c 0 l) (k, operand (of_gate c)) else at_angle k c (angle_state Part 0) [] l) ls

    here : then_if (is token.RParen l) ≡ Ok d
    here = sym (reads_token size k (first_angle c) l ls) ∙ so

    by_close : (b : Bool) → is token.RParen l ≡ b → CalledAt size k c (p ∷ l ∷ ls) d
    by_close true is_b =
        let n : Known × Expected = (k, operand (of_gate c)) in
        let parts = went_on size (unless (angles_end c 0 l) n) ls d (angles_end c 0 l) n refl (ap then_if (sym is_b) ∙ here) in
        record { front = p ∷ l ∷ []; rest = ls; begun = c; is = refl; called = row.empty p l is_open is_b parts.0; so = parts.1; shorter = omega arith }
    by_close false is_b =
        let others = angles_in (suc (suc (length ls))) size k c (l ∷ ls) d (omega arith) (reads_token size k (within_angle c (angle_state Part 0) []) l ls ∙ ap then_if (sym is_b) ∙ here) in
        record {
          front = p ∷ others.front;
          rest = others.rest;
          begun = others.done;
          is = ap (λ (u : List Lexeme). p ∷ u) others.is;
          called = row.angles p is_open others.are;
          so = others.so;
          shorter = omega (arith, others.shorter);
        }

pub called_split : (size : ℕ) (k : Known) (c : Call) (ls : List Lexeme) (d : CircuitData) → reads size k (behind_gate c) ls ≡ Ok d → CalledAt size k c ls d
called_split size k c [] d so = absurd (no_syntax size k d (sym (reads_end size k (behind_gate c)) ∙ so))
called_split size k c (l ∷ ls) d so = by_open (is token.LParen l) refl
  where
    then_if : Bool → Answer
    then_if b = then_reads size (if b then Ok (k, first_angle c) else at_operand k (of_gate (lacking c)) l) ls

    here : then_if (is token.LParen l) ≡ Ok d
    here = sym (reads_token size k (behind_gate c) l ls) ∙ so

    by_open : (b : Bool) → is token.LParen l ≡ b → CalledAt size k c (l ∷ ls) d
    by_open true is_b = first_split size k c l ls d is_b (ap then_if (sym is_b) ∙ here)
    by_open false is_b =
        record {
          front = [];
          rest = l ∷ ls;
          begun = lacking c;
          is = refl;
          called = row.bare;
          so = reads_token size k (operand (of_gate (lacking c))) l ls ∙ ap then_if (sym is_b) ∙ here;
          shorter = omega arith;
        }

-- ---- statements

pub record StatementAt (size : ℕ) (k : Known) (ls : List Lexeme) (d : CircuitData) : Type 0 where
  pub front : List Lexeme
  pub rest : List Lexeme
  pub after : Known
  pub is : ls ≡ front ++ rest
  pub one : Statement k front after
  pub so : reads size after between rest ≡ Ok d
  pub shorter : length rest < length ls

include_split : (size : ℕ) (k : Known) (l : Lexeme) (ls : List Lexeme) (d : CircuitData) → Opens opening.Include l → reads size k file_name ls ≡ Ok d → StatementAt size k (l ∷ ls) d
include_split size k l ls d opens so =
    let f = gone size k file_name ls d known_file (λ _. (k, ends (with_include k))) (λ _. refl) (no_syntax size k d) so in
    let e = gone size k (ends (with_include k)) f.rest d (λ e. wants (is token.Semi e) e) (λ _. (with_include k, between)) (λ _. refl) (no_syntax size k d) f.so in
    record {
      front = l ∷ f.l ∷ e.l ∷ [];
      rest = e.rest;
      after = with_include k;
      is = ap (λ (u : List Lexeme). l ∷ u) (f.is ∙ ap (λ (u : List Lexeme). f.l ∷ u) e.is);
      one = row.include (record { word = l; file = f.l; end = e.l; tokens = refl; first = opens; file_is = f.none; end_is = not_false _ e.none.0; leaves = refl });
      so = e.so;
      shorter = omega (arith, ap length f.is, ap length e.is);
    }

register_split : (size : ℕ) (r : RegisterKind) (k : Known) (l : Lexeme) (ls : List Lexeme) (d : CircuitData) → Opens (row.keyword r) l → reads size k (register_name r) ls ≡ Ok d → StatementAt size k (l ∷ ls) d
register_split size r k l ls d opens so =
    let n = gone size k (register_name r) ls d (new_name k) (λ t. (k, expected.sign token.LBracket (register_size r t.bytes))) (λ _. refl) (no_syntax size k d) so in
    let o = gone size k (expected.sign token.LBracket (register_size r n.l.bytes)) n.rest d (λ t. wants (is token.LBracket t) t) (λ _. (k, register_size r n.l.bytes)) (λ _. refl) (no_syntax size k d) n.so in
    let s = gone size k (register_size r n.l.bytes) o.rest d (new_size k r) (λ t. (k, expected.sign token.RBracket (ends (with_register k r n.l.bytes (number t.bytes))))) (λ _. refl) (no_syntax size k d) o.so in
    let next = with_register k r n.l.bytes (number s.l.bytes) in
    let b = gone size k (expected.sign token.RBracket (ends next)) s.rest d (λ t. wants (is token.RBracket t) t) (λ _. (k, ends next)) (λ _. refl) (no_syntax size k d) s.so in
    let e = gone size k (ends next) b.rest d (λ t. wants (is token.Semi t) t) (λ _. (next, between)) (λ _. refl) (no_syntax size k d) b.so in
    record {
      front = l ∷ n.l ∷ o.l ∷ s.l ∷ b.l ∷ e.l ∷ [];
      rest = e.rest;
      after = next;
      is = ap (λ (u : List Lexeme). l ∷ u) (n.is ∙ ap (λ (u : List Lexeme). n.l ∷ u) (o.is ∙ ap (λ (u : List Lexeme). o.l ∷ u) (s.is ∙ ap (λ (u : List Lexeme). s.l ∷ u) (b.is ∙ ap (λ (u : List Lexeme). b.l ∷ u) e.is))));
      one = row.register r (record {
        word = l;
        name = n.l;
        open_bracket = o.l;
        size = s.l;
        close_bracket = b.l;
        end = e.l;
        tokens = refl;
        first = opens;
        name_is = n.none;
        open_is = not_false _ o.none.0;
        size_is = s.none;
        close_is = not_false _ b.none.0;
        end_is = not_false _ e.none.0;
        leaves = refl;
      });
      so = e.so;
      shorter = omega (arith, ap length n.is, ap length o.is, ap length s.is, ap length b.is, ap length e.is);
    }

gate_split : (size : ℕ) (k : Known) (l : Lexeme) (ls : List Lexeme) (d : CircuitData) → Opens opening.Gate l → (g : Option Gate) → gate_of k.included l.bytes ≡ g → then_reads size (begin_gate k l g) ls ≡ Ok d → StatementAt size k (l ∷ ls) d
gate_split size k l ls d opens None is so =
    let parts = went_on size (begin_gate k l None) ls d (known_gate l None) (k, between) refl so in absurd (false≢true (sym parts.0.1.0))
gate_split size k l ls d opens (Some g) is so =
    let parts = went_on size (begin_gate k l (Some g)) ls d (known_gate l (Some g)) (k, behind_gate (call g)) refl so in
    let called = called_split size k (call g) ls d parts.1 in
    let list = operands_split size k (of_gate called.begun) called.rest d refl called.so in
    record {
      front = l ∷ (called.front ++ (list.front ++ list.end ∷ []));
      rest = list.rest;
      after = with_items k (listed_items list.done);
      is = ap (λ (u : List Lexeme). l ∷ u) (called.is ∙ ap (λ (u : List Lexeme). called.front ++ u) (list.is ∙ sym (append_assoc list.front (list.end ∷ []) list.rest)) ∙ sym (append_assoc called.front (list.front ++ list.end ∷ []) list.rest));
      one = row.gate (record {
        name = l;
        gate = g;
        called = called.front;
        operands = list.front;
        end = list.end;
        begun = called.begun;
        done = list.done;
        tokens = refl;
        first = opens;
        gate_is = is;
        name_is = parts.0;
        called_is = called.called;
        operands_are = list.are;
        end_is = list.none;
        leaves = refl;
      });
      so = list.so;
      shorter = omega (arith, called.shorter, list.shorter);
    }

barrier_split : (size : ℕ) (k : Known) (l : Lexeme) (ls : List Lexeme) (d : CircuitData) → Opens opening.Barrier l → reads size k (operand (of_barrier [])) ls ≡ Ok d → StatementAt size k (l ∷ ls) d
barrier_split size k l ls d opens so =
    let list = operands_split size k (of_barrier []) ls d refl so in
    record {
      front = l ∷ (list.front ++ list.end ∷ []);
      rest = list.rest;
      after = with_items k (listed_items list.done);
      is = ap (λ (u : List Lexeme). l ∷ u) (list.is ∙ sym (append_assoc list.front (list.end ∷ []) list.rest));
      one = row.barrier (record { word = l; operands = list.front; end = list.end; done = list.done; tokens = refl; first = opens; operands_are = list.are; end_is = list.none; leaves = refl });
      so = list.so;
      shorter = omega (arith, list.shorter);
    }

reset_split : (size : ℕ) (k : Known) (l : Lexeme) (ls : List Lexeme) (d : CircuitData) → Opens opening.Reset l → reads size k (operand of_reset) ls ≡ Ok d → StatementAt size k (l ∷ ls) d
reset_split size k l ls d opens so =
    let a = operand_split size k of_reset ls d so in
    let items = reset_items a.o in
    let e = gone size k (ends_with items) a.rest d (items_end k items) (λ _. (with_items k items, between)) (λ _. refl) (no_syntax size k d) a.so in
    record {
      front = l ∷ (a.front ++ e.l ∷ []);
      rest = e.rest;
      after = with_items k items;
      is = ap (λ (u : List Lexeme). l ∷ u) (a.is ∙ ap (λ (u : List Lexeme). a.front ++ u) e.is ∙ sym (append_assoc a.front (e.l ∷ []) e.rest));
      one = row.reset (record { word = l; operand = a.front; end = e.l; a = a.o; tokens = refl; first = opens; operand_is = a.one; end_is = e.none; leaves = refl });
      so = e.so;
      shorter = omega (arith, a.shorter, ap length e.is);
    }

measure_split : (size : ℕ) (k : Known) (l : Lexeme) (ls : List Lexeme) (d : CircuitData) → Opens opening.Measure l → reads size k (operand of_left) ls ≡ Ok d → StatementAt size k (l ∷ ls) d
measure_split size k l ls d opens so =
    let a = operand_split size k of_left ls d so in
    let w = gone size k (expected.sign token.Arrow (operand (of_right a.o))) a.rest d (λ t. wants (is token.Arrow t) t) (λ _. (k, operand (of_right a.o))) (λ _. refl) (no_syntax size k d) a.so in
    let b = operand_split size k (of_right a.o) w.rest d w.so in
    let items = measure_items a.o b.o in
    let e = gone size k (ends_with items) b.rest d (items_end k items) (λ _. (with_items k items, between)) (λ _. refl) (no_syntax size k d) b.so in
    record {
      front = l ∷ (a.front ++ w.l ∷ (b.front ++ e.l ∷ []));
      rest = e.rest;
      after = with_items k items;
      is = ap (λ (u : List Lexeme). l ∷ u) (a.is ∙ ap (λ (u : List Lexeme). a.front ++ u) (w.is ∙ ap (λ (u : List Lexeme). w.l ∷ u) (b.is ∙ ap (λ (u : List Lexeme). b.front ++ u) e.is ∙ sym (append_assoc b.front (e.l ∷ []) e.rest))) ∙ sym (append_assoc a.front (w.l ∷ (b.front ++ e.l ∷ [])) e.rest));
      one = row.measure (record {
        word = l;
        left = a.front;
        arrow = w.l;
        right = b.front;
        end = e.l;
        a = a.o;
        b = b.o;
        tokens = refl;
        first = opens;
        left_is = a.one;
        arrow_is = not_false _ w.none.0;
        right_is = b.one;
        end_is = e.none;
        leaves = refl;
      });
      so = e.so;
      shorter = omega (arith, a.shorter, ap length w.is, b.shorter, ap length e.is);
    }

statement_split : (size : ℕ) (k : Known) (l : Lexeme) (ls : List Lexeme) (d : CircuitData) → reads size k between (l ∷ ls) ≡ Ok d → StatementAt size k (l ∷ ls) d
statement_split size k l ls d so = by_word (is token.Word l) refl (opening_of l.bytes) refl
  where
    then_if : Bool → Opening → Answer
    then_if b o = then_reads size (elim b as (λ _. Next) [ true ↦ begin_as k l o | false ↦ unless (wants false l) (k, between) ]) ls

    here : then_if (is token.Word l) (opening_of l.bytes) ≡ Ok d
    here = sym (reads_token size k between l ls) ∙ so

    by_opening : (o : Opening) → Opens o l → then_reads size (begin_as k l o) ls ≡ Ok d → StatementAt size k (l ∷ ls) d
    by_opening opening.Include opens so = include_split size k l ls d opens so
    by_opening opening.Qreg opens so = register_split size Quantum k l ls d opens so
    by_opening opening.Creg opens so = register_split size Classical k l ls d opens so
    by_opening opening.Measure opens so = measure_split size k l ls d opens so
    by_opening opening.Reset opens so = reset_split size k l ls d opens so
    by_opening opening.Barrier opens so = barrier_split size k l ls d opens so
    by_opening opening.Later opens so = absurd (err_no_ok _ d so)
    by_opening opening.Gate opens so = gate_split size k l ls d opens (gate_of k.included l.bytes) refl so

    by_word : (b : Bool) → is token.Word l ≡ b → (o : Opening) → opening_of l.bytes ≡ o → StatementAt size k (l ∷ ls) d
    by_word true is_b o is_o =
        by_opening o (record { word = is_b; opens = is_o }) (ap (then_if true) (sym is_o) ∙ ap (λ (b : Bool). then_if b (opening_of l.bytes)) (sym is_b) ∙ here)
    by_word false is_b o is_o = absurd (err_no_ok _ d (ap (λ (b : Bool). then_if b (opening_of l.bytes)) (sym is_b) ∙ here))

ok_same : (c d : CircuitData) (same : Rattle.std.specs.Prelude.◌≡◌ {A = Answer} (Ok c) (Ok d)) → d ≡ c
ok_same c d same = cc

pub record StatementsAre (k : Known) (ls : List Lexeme) (d : CircuitData) : Type 0 where
  pub last : Known
  pub statements : Statements k ls last
  pub circuit : d ≡ circuit_of last

split_from : (fuel size : ℕ) (k : Known) (ls : List Lexeme) (d : CircuitData) → length ls < fuel → reads size k between ls ≡ Ok d → StatementsAre k ls d
split_from zero size k ls d few so = absurd (omega (arith, few))
split_from (suc fuel) size k [] d few so = record { last = k; statements = row.none; circuit = ok_same (circuit_of k) d (sym (reads_end size k between) ∙ so) }
split_from (suc fuel) size k (l ∷ ls) d few so =
    let at = statement_split size k l ls d so in
    let more = split_from fuel size at.after at.rest d (omega (arith, few, at.shorter)) at.so in
    record {
      last = more.last;
      statements = subst (λ (t : List Lexeme). Statements k t more.last) (sym at.is) (row.next at.front at.after at.one more.statements);
      circuit = more.circuit;
    }

-- where a circuit was read, the tokens are those of statements, and the circuit is what they leave
pub statements_split : (size : ℕ) (k : Known) (ls : List Lexeme) (d : CircuitData) → reads size k between ls ≡ Ok d → StatementsAre k ls d
statements_split size k ls d so = split_from (suc (length ls)) size k ls d (omega arith) so
