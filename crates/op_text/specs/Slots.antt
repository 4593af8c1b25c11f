-- The words of a line, one by one: which refusals apply to a word, its value where none does, and the word of a value.
-- Of the refusals that apply to a word the first in the order Number, Count, NotBuilt, TooMany, Word decides, so each list
-- of checks stands in that order.
use Rattle.std.specs.Prelude.{ℕ, ◌+◌, ◌-◌, ◌^◌, Bool, false, ◌&&◌, ◌||◌, not, ◌==◌, nat_lt, nat_le, List, [], ◌∷◌, ◌++◌, length, drop, codes, decimal, bytes_eq, if◌then◌else◌, Result, Ok, Err}
use Rattle.std.specs.Char.{is_ascii_digit}
use Rattle.std.specs.List.{list_all, list_any, slice_split}
use Rattle.std.specs.Str.Parse.{digits_value}
use Rattle.qccd_base.specs.Names.{trap, segment, junction, qubit, bit}
use Rattle.qccd_base.specs.declared.names.TrapId.{TrapId}
use Rattle.qccd_base.specs.declared.names.SegId.{SegId}
use Rattle.qccd_base.specs.declared.names.JuncId.{JuncId}
use Rattle.qccd_base.specs.declared.names.Qubit.{Qubit}
use Rattle.qccd_base.specs.declared.names.Bit.{Bit}
use Rattle.qccd_base.specs.declared.names.End.{End}
use Rattle.qccd_base.specs.declared.names.End.TheVariants.{Left, Right}
use Rattle.qccd_circuit.specs.Item.{is_word, is_angle_byte}
use Rattle.op_text.specs.OpText.{trap_text, segment_text, junction_text, qubit_text, bit_text, end_text, operand_text, angles_text}
use Rattle.op_text.specs.declared.kind.AsmKind.{AsmKind}
use Rattle.op_text.specs.declared.kind.AsmKind.TheVariants.{Word, Number, Count, TooMany}
use Rattle.op_text.specs.Steps.{◌>>=◌, Check, judged}

pub record Slot (A : Type 0) : Type 0 where
  pub read : List ℕ → Result A AsmKind
  pub text : A → List ℕ

-- ---- numbers

abbrev pub are_digits : List ℕ → Bool
are_digits [] = false
are_digits (d ∷ ds) = list_all is_ascii_digit (d ∷ ds)

abbrev pub has_leading_zero : List ℕ → Bool
has_leading_zero [] = false
has_leading_zero (d ∷ []) = false
has_leading_zero (d ∷ e ∷ ds) = d == 48

abbrev pub number_in : List ℕ → ℕ
number_in digits = digits_value 10 digits

-- digits that write no number up to the limit
abbrev pub is_outside : ℕ → List ℕ → Bool
is_outside most digits = has_leading_zero digits || nat_lt most (number_in digits)

-- a number up to a limit
abbrev pub number_checks : ℕ → List ℕ → List Check
number_checks most word = (Number, are_digits word && is_outside most word) ∷ (Word, not (are_digits word)) ∷ []

abbrev pub number_slot : ℕ → Slot ℕ
number_slot most = record { read = λ word. judged (number_checks most word) (number_in word); text = decimal }

-- the greatest number where no other limit is stated
abbrev pub greatest : ℕ
greatest = 4294967295

-- a number that has to be the next
abbrev pub next_only : ℕ → ℕ → Result ℕ AsmKind
next_only next n = if n == next then Ok n else Err Count

abbrev pub next_slot : ℕ → ℕ → Slot ℕ
next_slot most next = record { read = λ word. (number_slot most).read word >>= next_only next; text = decimal }

-- a number of lines, with a limit of its own
abbrev pub up_to : ℕ → ℕ → Result ℕ AsmKind
up_to many n = if nat_lt many n then Err TooMany else Ok n

abbrev pub size_slot : ℕ → Slot ℕ
size_slot many = record { read = λ word. (number_slot greatest).read word >>= up_to many; text = decimal }

-- ---- words that are stated

abbrev pub fixed_checks : List ℕ → List ℕ → List Check
fixed_checks stated word = (Word, not (bytes_eq word stated)) ∷ []

abbrev pub fixed_slot : List ℕ → Slot (Unit {0})
fixed_slot stated = record { read = λ word. judged (fixed_checks stated word) tt; text = λ u. stated }

abbrev pub end_checks : List ℕ → List Check
end_checks word = (Word, not (bytes_eq word (codes "left") || bytes_eq word (codes "right"))) ∷ []

abbrev pub end_in : List ℕ → End
end_in word = if bytes_eq word (codes "left") then Left else Right

abbrev pub end_slot : Slot End
end_slot = record { read = λ word. judged (end_checks word) (end_in word); text = end_text }

-- ---- a letter and a number directly behind it

abbrev pub has_letter : ℕ → List ℕ → Bool
has_letter letter [] = false
has_letter letter (c ∷ digits) = c == letter && are_digits digits

abbrev pub letter_checks : ℕ → ℕ → List ℕ → List Check
letter_checks letter most word =
    (Number, has_letter letter word && is_outside most (drop 1 word)) ∷ (Word, not (has_letter letter word)) ∷ []

abbrev pub letter_value : List ℕ → ℕ
letter_value word = number_in (drop 1 word)

abbrev pub lettered : ℕ → ℕ → List ℕ → Result ℕ AsmKind
lettered letter most word = judged (letter_checks letter most word) (letter_value word)

abbrev pub trap_slot : Slot TrapId
trap_slot = record { read = λ word. lettered 84 255 word >>= λ n. Ok (trap n); text = trap_text }

abbrev pub segment_slot : Slot SegId
segment_slot = record { read = λ word. lettered 83 255 word >>= λ n. Ok (segment n); text = segment_text }

abbrev pub junction_slot : Slot JuncId
junction_slot = record { read = λ word. lettered 74 255 word >>= λ n. Ok (junction n); text = junction_text }

abbrev pub qubit_slot : Slot Qubit
qubit_slot = record { read = λ word. lettered 113 65535 word >>= λ n. Ok (qubit n); text = qubit_text }

abbrev pub bit_slot : Slot Bit
bit_slot = record { read = λ word. lettered 98 65535 word >>= λ n. Ok (bit n); text = bit_text }

-- the trap of a chain's line
abbrev pub next_trap_slot : ℕ → Slot ℕ
next_trap_slot next = record { read = λ word. lettered 84 255 word >>= next_only next; text = λ t. trap_text (trap t) }

-- ---- a condition

-- how many bits it may have behind the first: one at least, and none above the last number of a bit
abbrev pub is_count : Bit → ℕ → Bool
is_count first n = nat_le 1 n && nat_le n 65535 && nat_le (first.0 + n) 65536

abbrev pub counted_from : Bit → ℕ → Result ℕ AsmKind
counted_from first n = if is_count first n then Ok n else Err Word

abbrev pub count_slot : Bit → Slot ℕ
count_slot first = record { read = λ word. (number_slot greatest).read word >>= counted_from first; text = decimal }

-- the greatest value of bits
abbrev pub greatest_value : ℕ
greatest_value = 2 ^ 128 - 1

abbrev pub value_slot : Slot ℕ
value_slot = number_slot greatest_value

-- ---- a qubit at a position

abbrev pub operand_form : List ℕ → List ℕ → Bool
operand_form q p = has_letter 113 q && are_digits p

abbrev pub operand_numbers : List ℕ → List ℕ → Result (Qubit × ℕ) AsmKind
operand_numbers digits position = (number_slot 65535).read digits >>= λ n. (number_slot 255).read position >>= λ p. Ok (qubit n, p)

-- the form of both parts comes before either number
abbrev pub operand_of_parts : List (List ℕ) → Result (Qubit × ℕ) AsmKind
operand_of_parts [] = Err Word
operand_of_parts (q ∷ []) = Err Word
operand_of_parts (q ∷ p ∷ []) = if operand_form q p then operand_numbers (drop 1 q) p else Err Word
operand_of_parts (q ∷ p ∷ more ∷ parts) = Err Word

abbrev pub at_signs : List ℕ → List (List ℕ)
at_signs word = slice_split (λ c. c == 64) word

abbrev pub operand_slot : Slot (Qubit × ℕ)
operand_slot = record { read = λ word. operand_of_parts (at_signs word); text = operand_text }

-- ---- a gate

-- its name, and its angles where it has any
pub record Gate : Type 0 where
  pub name : List ℕ
  pub angles : List (List ℕ)

-- what stands in front of the first parenthesis, and what stands behind it
abbrev pub before_parenthesis : List ℕ → List ℕ
before_parenthesis [] = []
before_parenthesis (c ∷ cs) = if c == 40 then [] else c ∷ before_parenthesis cs

abbrev pub behind_parenthesis : List ℕ → List ℕ
behind_parenthesis [] = []
behind_parenthesis (c ∷ cs) = if c == 40 then cs else behind_parenthesis cs

abbrev pub has_parenthesis : List ℕ → Bool
has_parenthesis [] = false
has_parenthesis (c ∷ cs) = c == 40 || has_parenthesis cs

-- whether the last byte closes the parenthesis, and the bytes in front of it
abbrev pub is_closed : List ℕ → Bool
is_closed [] = false
is_closed (c ∷ []) = c == 41
is_closed (c ∷ d ∷ cs) = is_closed (d ∷ cs)

abbrev pub without_last : List ℕ → List ℕ
without_last [] = []
without_last (c ∷ []) = []
without_last (c ∷ d ∷ cs) = c ∷ without_last (d ∷ cs)

abbrev pub angles_in : List ℕ → List (List ℕ)
angles_in word = if is_closed (behind_parenthesis word) then slice_split (λ c. c == 44) (without_last (behind_parenthesis word)) else []

abbrev pub has_angle_form : List ℕ → Bool
has_angle_form angle = not (length angle == 0) && list_all is_angle_byte angle

abbrev pub has_gate_form : List ℕ → Bool
has_gate_form word = is_word (before_parenthesis word) && (not (has_parenthesis word) || (is_closed (behind_parenthesis word) && list_all has_angle_form (angles_in word)))

abbrev pub is_long_angle : List ℕ → Bool
is_long_angle angle = nat_lt 1024 (length angle)

abbrev pub passes_gate_limit : List ℕ → Bool
passes_gate_limit word = (is_word (before_parenthesis word) && nat_lt 64 (length (before_parenthesis word)))
    || (nat_lt 16 (length (angles_in word)) || list_any is_long_angle (angles_in word))

abbrev pub gate_checks : List ℕ → List Check
gate_checks word = (TooMany, passes_gate_limit word) ∷ (Word, not (has_gate_form word)) ∷ []

abbrev pub gate_slot : Slot Gate
gate_slot = record { read = λ word. judged (gate_checks word) (record { name = before_parenthesis word; angles = angles_in word }); text = λ g. g.name ++ angles_text g.angles }
