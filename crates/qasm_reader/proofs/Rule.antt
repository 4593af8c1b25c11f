-- Statements keep what is known sound, and so a text's circuit is a circuit.
use Rattle.std.proofs.Common.{◌≡◌, ℕ, ◌+◌, ◌<◌, ◌≤◌, Bool, true, false, ◌&&◌, List, [], ◌∷◌, ◌++◌, length, All, Option, Some, None, refl, sym, ap, subst, ◌∙◌, arith}
use Rattle.std.specs.Prelude.{nat_le, nat_lt, if◌then◌else◌}
use Rattle.std.specs.Str.{bytes_eq}
use Rattle.std.specs.List.{list_all, list_any}
use Rattle.std.proofs.lemmas.Bool.{false≢true, and_from, and_parts, le-leb, leb-true, ltb-false}
use Rattle.std.proofs.lemmas.List.{length-append}
use Rattle.std.proofs.lemmas.List.Folds.{list_all-append}
use Rattle.std.proofs.lemmas.List.Elements.{All-append, All-head, All-nil, All-push, All-tail, All-weaker}
use Rattle.qasm_lex.specs.declared.tokens.Token.{Token}
use Rattle.qasm_lex.specs.Reading.{AreTokens, IsTokenOf}
use Rattle.qccd_circuit.specs.Circuit.{CircuitData, IsCircuit, IsWithin}
use Rattle.qccd_circuit.specs.Item.{AreAngles, Fits, ItemData, is_angle, is_angle_byte, bits_of}
use Rattle.qasm_reader.specs.declared.angle.AngleState.{AngleState}
use Rattle.qasm_reader.specs.declared.angle.Phase.TheVariants.{Part}
use Rattle.qasm_reader.specs.declared.kinds.RegisterKind.{RegisterKind}
use Rattle.qasm_reader.specs.declared.kinds.RegisterKind.TheVariants.{Quantum, Classical}
use Rattle.qasm_reader.specs.declared.kinds.Register.{Register}
use Rattle.qasm_reader.specs.declared.kinds.Operand.{Operand}
use Rattle.qasm_reader.specs.Lexeme.{Lexeme, has_angle_bytes, is, lexemes, number}
use Rattle.qasm_reader.specs.Angle.{angle_state}
use Rattle.gate_defs.specs.Gates.{Gate, always, gate_of, included}
use Rattle.qasm_reader.specs.Known.{Known, count_of, nothing, with_items, with_name, with_register}
use Rattle.qasm_reader.specs.Operand.{differ, measure_items, reset_items, share}
use Rattle.qasm_reader.specs.Expected.{Call, Role, of_gate, of_left, of_right, of_reset, of_barrier, call, is_of, listed_items, operand_last, operand_name, wanted, with_angle, with_operand}
use Rattle.qasm_reader.specs.Statement.{NoneApplies, IsAngleOf, AreAngleTokens, AreOperands, IsBarrier, IsCalled, IsCell, IsGate, IsInclude, IsMeasure, IsOperand, IsRegister, IsReset, IsWhole, Statement, Statements, joined}
use Rattle.qasm_reader.specs.Statement as row
use Rattle.qasm_reader.specs.Reading.{IsCircuitOf}
use Rattle.qasm_reader.specs.Sound.{AreApart, IsGateOfItems, IsRegisterOf, IsSound, LiesBelow}
use Rattle.qasm_reader.proofs.AngleTexts.{IsAngleFrom, angle_from}
use Rattle.qasm_reader.proofs.Cells.{apart_more}
use Rattle.qasm_reader.proofs.Fitting.{AllGood, good_barrier, good_fits, good_gate, good_measures, good_resets, good_within}
use Rattle.gate_defs.proofs.Fitting.{can_be_name, holds_in, names}
use Rattle.qasm_reader.proofs.Steps.{not_false}
use Rattle.qasm_reader.proofs.TokenBytes.{angle_bytes, step_bytes, token_size}

-- the tokens have a byte each, and those that may stand in an angle have bytes that may
abbrev pub AreGiven : List Lexeme → Type 0
AreGiven [] = Unit {0}
AreGiven (l ∷ ls) = (has_angle_bytes l ≡ true) × (1 ≤ length l.bytes) × AreGiven ls

pub given_front : (xs ys : List Lexeme) → AreGiven (xs ++ ys) → AreGiven xs
given_front [] ys given = tt
given_front (x ∷ xs) ys given = (given.0, given.1, given_front xs ys given.2)

pub given_back : (xs ys : List Lexeme) → AreGiven (xs ++ ys) → AreGiven ys
given_back [] ys given = given
given_back (x ∷ xs) ys given = given_back xs ys given.2

-- ---- gates by their names

abbrev can_be : Gate → Bool
can_be g = can_be_name g.name && nat_le g.angles 16

pub gate_of_items : (b : Bool) (name : List ℕ) (g : Gate) → gate_of b name ≡ Some g → IsGateOfItems g
gate_of_items b name g found =
    let parts = and_parts (can_be_name g.name) _ (by_include b found) in
    let n = names g.name parts.0 in
    record { name = n.0; gate_name = n.1; few = leb-true g.angles 16 parts.1 }
  where
    by_include : (b : Bool) → gate_of b name ≡ Some g → can_be g ≡ true
    by_include true found = holds_in (λ n h. can_be h) (always ++ included) name g refl found
    by_include false found = holds_in (λ n h. can_be h) always name g refl found

-- ---- angles

-- what an angle's bytes are, from a state on
angle_bytes_from :
    (s : AngleState) (text all : List ℕ) (ls : List Lexeme) → AreGiven ls → list_all is_angle_byte text ≡ true → IsAngleFrom s text ls all
    → (list_all is_angle_byte all ≡ true) × (length text ≤ length all)
angle_bytes_from s text all [] given bytes from = (ap (list_all is_angle_byte) (sym from.1) ∙ bytes, omega (arith, ap length from.1))
angle_bytes_from s text all (l ∷ ls) given bytes from =
    let more = angle_bytes_from from.0 (text ++ l.bytes) all ls given.2
    (list_all-append is_angle_byte text l.bytes ∙ and_from _ _ bytes (step_bytes s from.0 l given.0 from.1)) from.3 in
    (more.0, omega (arith, more.1, length-append text l.bytes))

some_bytes : (ls : List Lexeme) (all : List ℕ) → AreGiven ls → IsAngleFrom (angle_state Part 0) [] ls all → 1 ≤ length all
some_bytes [] all given from = absurd (false≢true from.0)
some_bytes (l ∷ ls) all given from =
    let more = angle_bytes_from from.0 ([] ++ l.bytes) all ls given.2 (step_bytes (angle_state Part 0) from.0 l given.0 from.1) from.3 in
    omega (arith, more.1, given.1)

pub angle_good : (ls : List Lexeme) (text : List ℕ) → AreGiven ls → IsAngleOf ls text → is_angle text ≡ true
angle_good ls text given is_of =
    let from = angle_from ls text is_of in
    and_from _ _ (and_from _ _ (le-leb 1 (length text) (some_bytes ls text given from)) (le-leb (length text) 1024 is_of.short))
    (angle_bytes_from (angle_state Part 0) [] text ls given refl from).0

-- a gate with angles that its items can have
pub record IsSoundCall (n : ℕ) (c : Call) : Type 0 where
  pub gate : IsGateOfItems c.gate
  pub angles : AreAngles c.angles
  pub apart : AreApart c.operands
  pub below : All (LiesBelow n) c.operands

pub record AnglesAre (c done : Call) : Type 0 where
  pub gate : done.gate ≡ c.gate
  pub operands : done.operands ≡ c.operands
  pub each : list_all is_angle done.angles ≡ true
  pub count : length done.angles ≡ done.gate.angles

each_more : (c : Call) (ls : List Lexeme) (text : List ℕ) → AreGiven ls → IsAngleOf ls text → list_all is_angle c.angles ≡ true → list_all is_angle (with_angle c text).angles ≡ true
each_more c ls text given is_of each =
    list_all-append is_angle c.angles (text ∷ []) ∙ and_from _ _ each (and_from _ _ (angle_good ls text given is_of) refl)

pub angles_are : (c done : Call) (ls : List Lexeme) → AreGiven ls → list_all is_angle c.angles ≡ true → AreAngleTokens c ls done → AnglesAre c done
angles_are c _ _ given each (row.last tokens text close is_of is_close none) =
    record {
      gate = refl;
      operands = refl;
      each = each_more c tokens text (given_front tokens (close ∷ []) given) is_of each;
      count = sym (Rattle.std.proofs.lemmas.Bool.eqb-true c.gate.angles _ (not_false _ none.0));
    }
angles_are c done _ given each (row.more {rest = rest} tokens text comma is_of is_comma others) =
    let more = angles_are (with_angle c text) done rest (given_back tokens (comma ∷ rest) given).2
    (each_more c tokens text (given_front tokens (comma ∷ rest) given) is_of each) others in
    record { gate = more.gate; operands = more.operands; each = more.each; count = more.count }

pub called_sound : (n : ℕ) (g : Gate) (ls : List Lexeme) (begun : Call) → AreGiven ls → IsGateOfItems g → IsCalled (call g) ls begun → IsSoundCall n begun
called_sound n g _ _ given is_gate row.bare = record { gate = is_gate; angles = (refl, omega arith); apart = tt; below = All-nil (LiesBelow n) }
called_sound n g _ _ given is_gate (row.empty o c is_open is_close none) =
    record { gate = is_gate; angles = (refl, omega arith); apart = tt; below = All-nil (LiesBelow n) }
called_sound n g _ done given is_gate (row.angles {ls = ls} o is_open are) =
    let a = angles_are (call g) done ls given.2 refl are in
    record {
      gate = subst IsGateOfItems (sym a.gate) is_gate;
      angles = (a.each, omega (arith, a.count, ap (λ (h : Gate). h.angles) a.gate, is_gate.few));
      apart = subst AreApart (sym a.operands) tt;
      below = subst (All (LiesBelow n)) (sym a.operands) (All-nil (LiesBelow n));
    }

-- ---- operands

kind_is : (kind other : RegisterKind) (r : Register) → r.kind ≡ other → is_of kind (Some r) ≡ true → r.kind ≡ kind
kind_is Quantum Quantum r same is = same
kind_is Quantum Classical r same is =
    absurd (false≢true (sym (ap (λ (k : RegisterKind). elim k as (λ _. Bool) [ Quantum ↦ true | Classical ↦ false ]) same) ∙ is))
kind_is Classical Quantum r same is =
    absurd (false≢true (sym (ap (λ (k : RegisterKind). elim k as (λ _. Bool) [ Quantum ↦ false | Classical ↦ true ]) same) ∙ is))
kind_is Classical Classical r same is = same

-- the register of an operand is of the kind that is wanted
register_wanted :
    (k : Known) (role : Role) (l : Lexeme) (r : Register) → IsSound k → k.registers l.bytes ≡ Some r → NoneApplies (operand_name k role l)
    → (1 ≤ r.size) × (r.first + r.size ≤ count_of (wanted role) k.qubits k.bits)
register_wanted k role l r sound stands none =
    let of_kind = kind_is (wanted role) r.kind r refl (ap (is_of (wanted role)) (sym stands) ∙ not_false _ none.1.1.0) in
    let has = sound.registers l.bytes r stands in
    (has.some, subst (λ (x : RegisterKind). r.first + r.size ≤ count_of x k.qubits k.bits) of_kind has.below)

pub operand_sound :
    (k : Known) (role : Role) (ls : List Lexeme) (o : Operand) → IsSound k → IsOperand k role ls o → LiesBelow (count_of (wanted role) k.qubits k.bits) o
operand_sound k role ls o sound (row.whole w) =
    let has = register_wanted k role w.name w.register sound w.stands_for w.name_is in
    subst (LiesBelow (count_of (wanted role) k.qubits k.bits)) (sym w.operand_is) (record { some = has.0; below = has.1 })
operand_sound k role ls o sound (row.cell w) =
    let has = register_wanted k role w.name w.register sound w.stands_for w.name_is in
    let few = Rattle.std.proofs.lemmas.Bool.ltb-true (number w.index.bytes) w.register.size (not_false _ w.index_is.1.0) in
    subst (LiesBelow (count_of (wanted role) k.qubits k.bits)) (sym w.operand_is) (record { some = omega arith; below = omega (arith, few, has.1) })

abbrev pub IsSoundRole : ℕ → Role → Type 0
IsSoundRole n (of_gate c) = IsSoundCall n c
IsSoundRole n of_left = Unit {0}
IsSoundRole n (of_right left) = LiesBelow n left
IsSoundRole n of_reset = Unit {0}
IsSoundRole n (of_barrier os) = All (LiesBelow n) os

-- a barrier has an operand
abbrev pub HasOperand : Role → Type 0
HasOperand (of_gate c) = Unit {0}
HasOperand of_left = Unit {0}
HasOperand (of_right left) = Unit {0}
HasOperand of_reset = Unit {0}
HasOperand (of_barrier os) = 1 ≤ length os

last_none : (k : Known) (role : Role) (ls : List Lexeme) (o : Operand) → IsOperand k role ls o → (at : ℕ) × NoneApplies (operand_last role at o)
last_none k role ls o (row.whole w) = (w.name.at, w.last_is)
last_none k role ls o (row.cell w) = (w.name.at, w.last_is)

pub call_more :
    (n : ℕ) (c : Call) (o : Operand) → IsSoundCall n c → LiesBelow n o → list_any (differ o) c.operands ≡ false → list_any (share o) c.operands ≡ false
    → IsSoundCall n (with_operand c o)
call_more n c o sound below sizes cells =
    record { gate = sound.gate; angles = sound.angles; apart = apart_more c.operands o sound.apart sizes cells; below = All-push (LiesBelow n) c.operands o sound.below below }

joined_sound :
    (k : Known) (role : Role) (ls : List Lexeme) (o : Operand) → IsSound k → IsSoundRole k.qubits role → IsOperand k role ls o
    → IsSoundRole k.qubits (joined role o) × HasOperand (joined role o)
joined_sound k (of_gate c) ls o sound role_sound is_operand =
    let last = (last_none k (of_gate c) ls o is_operand).1 in (call_more k.qubits c o role_sound (operand_sound k (of_gate c) ls o sound is_operand) last.0 last.1.0, tt)
joined_sound k of_left ls o sound role_sound is_operand = (tt, tt)
joined_sound k (of_right left) ls o sound role_sound is_operand = (role_sound, tt)
joined_sound k of_reset ls o sound role_sound is_operand = (tt, tt)
joined_sound k (of_barrier os) ls o sound role_sound is_operand =
    (All-push (LiesBelow k.qubits) os o role_sound (operand_sound k (of_barrier os) ls o sound is_operand), omega (arith, length-append os (o ∷ [])))

operands_sound :
    (k : Known) (role done : Role) (ls : List Lexeme) → IsSound k → IsSoundRole k.qubits role → AreOperands k role ls done → IsSoundRole k.qubits done × HasOperand done
operands_sound k role _ ls sound role_sound (row.last o one) = joined_sound k role ls o sound role_sound one
operands_sound k role done _ sound role_sound (row.more {rest = rest} front comma o one is_comma others) =
    operands_sound k (joined role o) done rest sound (joined_sound k role front o sound role_sound one).0 others

listed_good : (m n : ℕ) (role : Role) → IsSoundRole m role → HasOperand role → AllGood m n (listed_items role)
listed_good m n (of_gate c) sound has = good_gate m n c.gate c.angles c.operands sound.gate sound.angles sound.apart sound.below
listed_good m n of_left sound has = tt
listed_good m n (of_right left) sound has = tt
listed_good m n of_reset sound has = tt
listed_good m n (of_barrier os) sound has = good_barrier m n os has sound

-- ---- statements

pub with_items_sound :
    (k : Known) (items : List ItemData) → IsSound k → AllGood k.qubits k.bits items → nat_lt 65536 (length k.items + length items) ≡ false → IsSound (with_items k items)
with_items_sound k items sound good few =
    record {
      circuit = record {
        few_qubits = sound.circuit.few_qubits;
        few_bits = sound.circuit.few_bits;
        few_items = omega (arith, ltb-false 65536 (length k.items + length items) few, length-append k.items items);
        fit = All-append Fits k.items items sound.circuit.fit (good_fits k.qubits k.bits items good);
        within = All-append (IsWithin k.qubits k.bits) k.items items sound.circuit.within (good_within k.qubits k.bits items good);
      };
      registers = sound.registers;
    }

within_more : (m n p q : ℕ) → m ≤ p → n ≤ q → (d : ItemData) → IsWithin m n d → IsWithin p q d
within_more m n p q more_qubits more_bits d within =
    record {
      qubits_below = All-weaker (λ q. q.0 < m) (λ q. q.0 < p) (λ q below. omega (arith, more_qubits, below)) d.qubits within.qubits_below;
      bits_below = All-weaker (λ b. b.0 < n) (λ b. b.0 < q) (λ b below. omega (arith, more_bits, below)) (bits_of d) within.bits_below;
    }

register_more : (m n p q : ℕ) → m ≤ p → n ≤ q → (r : Register) → IsRegisterOf m n r → IsRegisterOf p q r
register_more m n p q more_qubits more_bits r is_of = record { some = is_of.some; below = by_kind r.kind is_of.below }
  where
    by_kind : (kind : RegisterKind) → r.first + r.size ≤ count_of kind m n → r.first + r.size ≤ count_of kind p q
    by_kind Quantum below = omega (arith, below, more_qubits)
    by_kind Classical below = omega (arith, below, more_bits)

-- with one name more
registers_more :
    (p q : ℕ) (registers : List ℕ → Option Register) (name : List ℕ) (r : Register) → IsRegisterOf p q r
    → ((other : List ℕ) (s : Register) → registers other ≡ Some s → IsRegisterOf p q s) → (other : List ℕ) (s : Register)
    → with_name name r registers other ≡ Some s → IsRegisterOf p q s
registers_more p q registers name r new old other s stands = by_name (bytes_eq other name) stands
  where
    some_same : Rattle.std.specs.Prelude.◌≡◌ {A = Option Register} (Some r) (Some s) → r ≡ s
    some_same same = cc

    by_name : (b : Bool) → (if b then Some r else registers other) ≡ Some s → IsRegisterOf p q s
    by_name true stands = subst (IsRegisterOf p q) (some_same stands) new
    by_name false stands = old other s stands

abbrev new_few : Known → RegisterKind → ℕ → Type 0
new_few k kind size = count_of kind k.qubits k.bits + size ≤ 256

pub with_register_sound : (k : Known) (kind : RegisterKind) (name : List ℕ) (size : ℕ) → IsSound k → 1 ≤ size → new_few k kind size → IsSound (with_register k kind name size)
with_register_sound k Quantum name size sound some few =
    let more : k.qubits ≤ k.qubits + size = omega arith in
    let same : k.bits ≤ k.bits = omega arith in
    record {
      circuit = record {
        few_qubits = few;
        few_bits = sound.circuit.few_bits;
        few_items = sound.circuit.few_items;
        fit = sound.circuit.fit;
        within = All-weaker (IsWithin k.qubits k.bits) (IsWithin (k.qubits + size) k.bits) (within_more k.qubits k.bits (k.qubits + size) k.bits more same) k.items sound.circuit.within;
      };
      registers = registers_more (k.qubits + size) k.bits k.registers name (record { kind = Quantum; first = k.qubits; size = size })
          (record { some = some; below = omega arith }) (λ other s stands. register_more k.qubits k.bits (k.qubits + size) k.bits more same s (sound.registers other s stands));
    }
with_register_sound k Classical name size sound some few =
    let same : k.qubits ≤ k.qubits = omega arith in
    let more : k.bits ≤ k.bits + size = omega arith in
    record {
      circuit = record {
        few_qubits = sound.circuit.few_qubits;
        few_bits = few;
        few_items = sound.circuit.few_items;
        fit = sound.circuit.fit;
        within = All-weaker (IsWithin k.qubits k.bits) (IsWithin k.qubits (k.bits + size)) (within_more k.qubits k.bits k.qubits (k.bits + size) same more) k.items sound.circuit.within;
      };
      registers = registers_more k.qubits (k.bits + size) k.registers name (record { kind = Classical; first = k.bits; size = size })
          (record { some = some; below = omega arith }) (λ other s stands. register_more k.qubits k.bits k.qubits (k.bits + size) same more s (sound.registers other s stands));
    }

register_sound : (kind : RegisterKind) (k after : Known) (ls : List Lexeme) → IsSound k → IsRegister kind k ls after → IsSound after
register_sound kind k after ls sound s =
    subst IsSound (sym s.leaves) (with_register_sound k kind s.name.bytes (number s.size.bytes) sound
    (omega (arith, Rattle.std.proofs.lemmas.Bool.eqb-false (number s.size.bytes) 0 s.size_is.1.0))
    (ltb-false 256 _ s.size_is.1.1.0))

gate_sound : (k after : Known) (ls : List Lexeme) → AreGiven ls → IsSound k → IsGate k ls after → IsSound after
gate_sound k after ls given sound s =
    let called = subst AreGiven s.tokens given in
    let begun = called_sound k.qubits s.gate s.called s.begun (given_front s.called (s.operands ++ s.end ∷ []) called.2) (gate_of_items k.included s.name.bytes s.gate s.gate_is) s.called_is in
    let done = operands_sound k (of_gate s.begun) s.done s.operands sound begun s.operands_are in
    subst IsSound (sym s.leaves) (with_items_sound k (listed_items s.done) sound (listed_good k.qubits k.bits s.done done.0 done.1) s.end_is.1.1.0)

barrier_sound : (k after : Known) (ls : List Lexeme) → IsSound k → IsBarrier k ls after → IsSound after
barrier_sound k after ls sound s =
    let done = operands_sound k (of_barrier []) s.done s.operands sound (All-nil (LiesBelow k.qubits)) s.operands_are in
    subst IsSound (sym s.leaves) (with_items_sound k (listed_items s.done) sound (listed_good k.qubits k.bits s.done done.0 done.1) s.end_is.1.1.0)

reset_sound : (k after : Known) (ls : List Lexeme) → IsSound k → IsReset k ls after → IsSound after
reset_sound k after ls sound s =
    subst IsSound (sym s.leaves) (with_items_sound k (reset_items s.a) sound (good_resets k.qubits k.bits s.a (operand_sound k of_reset s.operand s.a sound s.operand_is)) s.end_is.1.0)

measure_sound : (k after : Known) (ls : List Lexeme) → IsSound k → IsMeasure k ls after → IsSound after
measure_sound k after ls sound s =
    let last = (last_none k (of_right s.a) s.right s.b s.right_is).1 in
    subst IsSound (sym s.leaves) (with_items_sound k (measure_items s.a s.b) sound
    (good_measures k.qubits k.bits s.a s.b (operand_sound k of_left s.left s.a sound s.left_is) (operand_sound k (of_right s.a) s.right s.b sound s.right_is) (not_false _ last.0)) s.end_is.1.0)

statement_sound : (k after : Known) (ls : List Lexeme) → AreGiven ls → IsSound k → Statement k ls after → IsSound after
statement_sound k after ls given sound (row.include s) = subst IsSound (sym s.leaves) (record { circuit = sound.circuit; registers = sound.registers })
statement_sound k after ls given sound (row.register kind s) = register_sound kind k after ls sound s
statement_sound k after ls given sound (row.gate s) = gate_sound k after ls given sound s
statement_sound k after ls given sound (row.measure s) = measure_sound k after ls sound s
statement_sound k after ls given sound (row.reset s) = reset_sound k after ls sound s
statement_sound k after ls given sound (row.barrier s) = barrier_sound k after ls sound s

pub statements_sound : (k last : Known) (ls : List Lexeme) → AreGiven ls → IsSound k → Statements k ls last → IsSound last
statements_sound k _ _ given sound row.none = sound
statements_sound k last _ given sound (row.next {rest = rest} front after one others) =
    statements_sound after last rest (given_back front rest given) (statement_sound k after front (given_front front rest given) sound one) others

pub nothing_sound : IsSound nothing
nothing_sound =
    record {
      circuit = record { few_qubits = omega arith; few_bits = omega arith; few_items = omega arith; fit = All-nil Fits; within = All-nil (IsWithin 0 0) };
      registers = λ name r stands. absurd (none_some r stands);
    }
  where
    none_some : (r : Register) → Rattle.std.specs.Prelude.◌≡◌ {A = Option Register} None (Some r) → ⊥
    none_some r same = cc

-- ---- texts

-- each lexeme of a text's tokens is given
pub lexemes_given : (text : List ℕ) (ts : List Token) → All (IsTokenOf text) ts → AreGiven (lexemes text ts)
lexemes_given text [] each = tt
lexemes_given text (t ∷ ts) each =
    let one = All-head (IsTokenOf text) t ts each in
    (angle_bytes t.kind t.start _ one.token, token_size text t one, lexemes_given text ts (All-tail (IsTokenOf text) t ts each))

-- the circuit of a text keeps the rule of circuits
pub circuit_sound : (text : List ℕ) (c : CircuitData) → ((ts : List Token) → AreTokens text ts → All (IsTokenOf text) ts) → IsCircuitOf text c → IsCircuit c
circuit_sound text c each i =
    let given = subst AreGiven i.split (lexemes_given text i.tokens (each i.tokens i.are)) in
    subst IsCircuit (sym i.circuit_is) (statements_sound nothing i.last i.rest (given_back i.heading i.rest given) nothing_sound i.statements).circuit
