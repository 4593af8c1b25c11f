-- What the `;` of a statement that adds items leads to.
use Rattle.std.proofs.Common.{◌≡◌, ℕ, ◌+◌, ◌*◌, Bool, true, false, not, List, [], ◌∷◌, ◌++◌, length, map, Result, Ok, Err, sym, ap, ◌∙◌, arith}
use Rattle.std.specs.Prelude.{nat_lt, zero, suc}
use Rattle.std.specs.List.{flat_map, range_with_len}
use Rattle.std.proofs.lemmas.Bool.{not_from_true}
use Rattle.std.proofs.lemmas.List.{append_assoc, append-nil, length-append}
use Rattle.qasm_reader.specs.declared.kinds.Operand.{Operand}
use Rattle.gate_defs.specs.Gates.{Gate}
use Rattle.qasm_reader.specs.Gates.{applied}
use Rattle.qasm_reader.specs.Operand.{cell_of, gate_items, times}
use Rattle.qasm_lex.specs.declared.tokens.TokenKind.TheVariants as token
use Rattle.qccd_circuit.specs.Item.{ItemData}
use Rattle.qasm_reader.specs.declared.cursor.Cursor.{Cursor}
use Rattle.qasm_reader.specs.declared.fault.Many.TheVariants.{Items}
use Rattle.qasm_reader.specs.declared.fault.QasmKind.{QasmKind}
use Rattle.qasm_reader.specs.declared.fault.QasmKind.TheVariants as kind
use Rattle.qasm_reader.specs.Check.{Check, Fault, unless, wrong}
use Rattle.qasm_reader.specs.Known.{Known, with_items}
use Rattle.qasm_reader.specs.Lexeme.{Lexeme, is}
use Rattle.qasm_reader.specs.Expected.{Expected, Next, Role, behind_operand, between, ends_with, last_sign, listed_items, number_is_right, step}
use Rattle.qasm_reader.specs.Reading.{reads}
use Rattle.qasm_reader.specs.Code.{ahead, answer_behind, answer_from}
use Rattle.qasm_reader.proofs.AcceptsGates.{list_step}
use Rattle.qasm_reader.proofs.Steps.{reads_token, then_reads}

-- the token that is next, and the places before and behind it
pub record IsSemicolon (cursor rest : Cursor) (l : Lexeme) : Type 0 where
  pub found : ahead cursor ≡ l ∷ ahead rest
  pub same : rest.text.now ≡ cursor.text.now
  pub is_semicolon : is token.Semi l ≡ true

-- one token of the answer
pub token_read :
    (k : Known) (p : Expected) (cursor rest : Cursor) (l : Lexeme) → ahead cursor ≡ l ∷ ahead rest → rest.text.now ≡ cursor.text.now
    → answer_from k p cursor ≡ answer_behind (step k p l) rest
token_read k p cursor rest l found same =
    ap (λ (ls : List Lexeme). reads (length cursor.text.now) k p ls) found
    ∙ reads_token (length cursor.text.now) k p l (ahead rest)
    ∙ ap (λ (t : List ℕ). then_reads (length t) (step k p l) (ahead rest)) (sym same)

-- and what it leads to
one_token : (k : Known) (p : Expected) (cursor rest : Cursor) (l : Lexeme) (r : Next) → IsSemicolon cursor rest l → step k p l ≡ r → answer_from k p cursor ≡ answer_behind r rest
one_token k p cursor rest l r s steps = token_read k p cursor rest l s.found s.same ∙ ap (λ (n : Next). answer_behind n rest) steps

-- a check that does not apply, and one that does
pub past : {A : Type 0} (k : QasmKind) (at : ℕ) (b : Bool) (checks : List Check) (a : A) → b ≡ false → unless (wrong k at b ∷ checks) a ≡ unless checks a
past {A = A} k at b checks a none = ap (λ (x : Bool). elim x as (λ _. Result A Fault) [ true ↦ Err (record { at = at; kind = k }) | false ↦ unless checks a ]) none

stops : {A : Type 0} (k : QasmKind) (at : ℕ) (b : Bool) (checks : List Check) (a : A) → b ≡ true → unless (wrong k at b ∷ checks) a ≡ Err (record { at = at; kind = k })
stops {A = A} k at b checks a one = ap (λ (x : Bool). elim x as (λ _. Result A Fault) [ true ↦ Err (record { at = at; kind = k }) | false ↦ unless checks a ]) one

abbrev too_many : Known → List ItemData → Bool
too_many k items = nat_lt 65536 (length k.items + length items)

last_done : (k : Known) (items : List ItemData) (l : Lexeme) → too_many k items ≡ false → unless {A = Known × Expected} (last_sign k items l) (with_items k items, between) ≡ Ok (with_items k items, between)
last_done k items l few = past (kind.TooMany Items 65536) l.at (too_many k items) [] (with_items k items, between) few

last_stops : (k : Known) (items : List ItemData) (l : Lexeme) → too_many k items ≡ true
    → unless {A = Known × Expected} (last_sign k items l) (with_items k items, between) ≡ Err (record { at = l.at; kind = kind.TooMany Items 65536 })
last_stops k items l many = stops (kind.TooMany Items 65536) l.at (too_many k items) [] (with_items k items, between) many

-- ---- behind the items of a statement

items_step : (k : Known) (items : List ItemData) (l : Lexeme) → is token.Semi l ≡ true → step k (ends_with items) l ≡ unless {A = Known × Expected} (last_sign k items l) (with_items k items, between)
items_step k items l semi = past kind.Syntax l.at (not (is token.Semi l)) (last_sign k items l) (with_items k items, between) (not_from_true _ semi)

pub items_done :
    (k : Known) (items : List ItemData) (cursor rest : Cursor) (l : Lexeme) → IsSemicolon cursor rest l → too_many k items ≡ false
    → answer_from k (ends_with items) cursor ≡ answer_from (with_items k items) between rest
items_done k items cursor rest l s few =
    one_token k (ends_with items) cursor rest l (Ok (with_items k items, between)) s (items_step k items l s.is_semicolon ∙ last_done k items l few)

pub items_many :
    (k : Known) (items : List ItemData) (cursor rest : Cursor) (l : Lexeme) → IsSemicolon cursor rest l → too_many k items ≡ true
    → answer_from k (ends_with items) cursor ≡ Err (record { at = l.at; kind = kind.TooMany Items 65536 })
items_many k items cursor rest l s many =
    one_token k (ends_with items) cursor rest l (Err (record { at = l.at; kind = kind.TooMany Items 65536 })) s
    (items_step k items l s.is_semicolon ∙ last_stops k items l many)

-- ---- behind a list of operands

list_past :
    (k : Known) (role : Role) (l : Lexeme) → is token.Semi l ≡ true
    → step k (behind_operand role) l ≡ unless {A = Known × Expected} (wrong kind.OperandCount l.at (not (number_is_right role)) ∷ last_sign k (listed_items role) l) (with_items k (listed_items role), between)
list_past k role l semi =
    list_step k role l semi
    ∙ past kind.Syntax l.at (not (is token.Semi l)) (wrong kind.OperandCount l.at (not (number_is_right role)) ∷ last_sign k (listed_items role) l)
    (with_items k (listed_items role), between) (not_from_true _ semi)

pub list_count :
    (k : Known) (role : Role) (cursor rest : Cursor) (l : Lexeme) → IsSemicolon cursor rest l → number_is_right role ≡ false
    → answer_from k (behind_operand role) cursor ≡ Err (record { at = l.at; kind = kind.OperandCount })
list_count k role cursor rest l s wrong_number =
    one_token k (behind_operand role) cursor rest l (Err (record { at = l.at; kind = kind.OperandCount })) s
    (list_past k role l s.is_semicolon
    ∙ stops kind.OperandCount l.at (not (number_is_right role)) (last_sign k (listed_items role) l) (with_items k (listed_items role), between) (ap not wrong_number))

list_right :
    (k : Known) (role : Role) (l : Lexeme) → is token.Semi l ≡ true → number_is_right role ≡ true
    → step k (behind_operand role) l ≡ unless {A = Known × Expected} (last_sign k (listed_items role) l) (with_items k (listed_items role), between)
list_right k role l semi right =
    list_past k role l semi
    ∙ past kind.OperandCount l.at (not (number_is_right role)) (last_sign k (listed_items role) l) (with_items k (listed_items role), between) (not_from_true _ right)

pub list_done :
    (k : Known) (role : Role) (cursor rest : Cursor) (l : Lexeme) → IsSemicolon cursor rest l → number_is_right role ≡ true → too_many k (listed_items role) ≡ false
    → answer_from k (behind_operand role) cursor ≡ answer_from (with_items k (listed_items role)) between rest
list_done k role cursor rest l s right few =
    one_token k (behind_operand role) cursor rest l (Ok (with_items k (listed_items role), between)) s
    (list_right k role l s.is_semicolon right ∙ last_done k (listed_items role) l few)

pub list_many :
    (k : Known) (role : Role) (cursor rest : Cursor) (l : Lexeme) → IsSemicolon cursor rest l → number_is_right role ≡ true → too_many k (listed_items role) ≡ true
    → answer_from k (behind_operand role) cursor ≡ Err (record { at = l.at; kind = kind.TooMany Items 65536 })
list_many k role cursor rest l s right many =
    one_token k (behind_operand role) cursor rest l (Err (record { at = l.at; kind = kind.TooMany Items 65536 })) s
    (list_right k role l s.is_semicolon right ∙ last_stops k (listed_items role) l many)

-- ---- how many items

length_each :
    (f : ℕ → List ItemData) (m from count : ℕ) → ((i : ℕ) → length (f i) ≡ m) → length (flat_map f (range_with_len from count)) ≡ count * m
length_each f m from zero each = omega arith
length_each f m from (suc count) each = grind (arith, length-append (f from) (flat_map f (range_with_len (from + 1) count)), each from, length_each f m (from + 1) count each)

pub length_gate :
    (g : Gate) (angles : List (List ℕ)) (os : List Operand) (m : ℕ) → ((i : ℕ) → length (applied g angles (map (cell_of i) os)) ≡ m)
    → length (gate_items g angles os) ≡ times os * m
length_gate g angles os m each = length_each (λ i. applied g angles (map (cell_of i) os)) m 0 (times os) each

-- ---- the items of one application after another

one_turn_more : (f : ℕ → List ItemData) (from n : ℕ) → flat_map f (range_with_len from (suc n)) ≡ flat_map f (range_with_len from n) ++ f (from + n)
one_turn_more f from zero = append-nil (f from) ∙ ap f (omega arith)
one_turn_more f from (suc n) =
    ap (λ (ds : List ItemData). f from ++ ds) (one_turn_more f (from + 1) n)
    ∙ sym (append_assoc (f from) (flat_map f (range_with_len (from + 1) n)) (f (from + 1 + n)))
    ∙ ap (λ (m : ℕ). (f from ++ flat_map f (range_with_len (from + 1) n)) ++ f m) (omega arith)

-- where the items of a further application were added
pub added :
    (start before after : Known) (f : ℕ → List ItemData) (turn next : ℕ) → before ≡ with_items start (flat_map f (range_with_len 0 turn))
    → after ≡ with_items before (f turn) → next ≡ turn + 1 → after ≡ with_items start (flat_map f (range_with_len 0 next))
added start before after f turn next was more one =
    more ∙ ap (λ (k : Known). with_items k (f turn)) was
    ∙ ap (λ (ds : List ItemData). record start { items = ds }) (append_assoc start.items (flat_map f (range_with_len 0 turn)) (f turn))
    ∙ ap (with_items start) (ap (λ (m : ℕ). flat_map f (range_with_len 0 turn) ++ f m) {x = turn} {y = 0 + turn} (omega arith) ∙ sym (one_turn_more f 0 turn)
    ∙ ap (λ (m : ℕ). flat_map f (range_with_len 0 m)) {x = suc turn} {y = next} (omega (arith, one)))
