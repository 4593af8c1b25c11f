-- The words of gates, as the code reads them.
use Rattle.std.proofs.Common.{◌≡◌, ℕ, suc, ◌+◌, ◌<◌, ◌≤◌, Bool, true, false, cond, not, ◌&&◌, ◌||◌, ◌==◌, List, [], ◌∷◌, ◌++◌, length, take, drop, Option, Some, None, Err, refl, sym, ap, ◌∙◌, subst, arith, inl, inr}
use Rattle.std.specs.Prelude.{is_some, IfSome, option_copied, nat_lt}
use Rattle.std.specs.List.{list_all, list_any, slice_split, join_with_byte, position, position_or_len}
use Rattle.std.proofs.lemmas.Bool.{cases_lt, ltb-true, lt-ltb}
use Rattle.std.proofs.lemmas.Option.{cond_some, none-some}
use Rattle.std.proofs.lemmas.List.Splits.{join_with_byte-slice_split}
use denote.Ref.{Bor}
use Rattle.qccd_circuit.specs.Item.{is_word}
use Rattle.op_text.specs.declared.kind.AsmKind.TheVariants.{Word}
use Rattle.transport_asm.specs.Parts.{angles_left}
use Rattle.op_text.specs.Slots.{before_parenthesis, behind_parenthesis, has_parenthesis, is_closed, without_last, angles_in, has_angle_form, is_long_angle, gate_slot, passes_gate_limit, has_gate_form, are_digits, has_letter, operand_numbers, operand_of_parts}
use Rattle.transport_asm.proofs.Cut.{split-join}
use Rattle.transport_asm.proofs.GateLaws.{lacks_all}
use Rattle.std.specs.Char.{is_ascii_digit}

-- ---- the name and what stands behind the parenthesis

abbrev opens : ℕ → Bool
opens c = c == 40

abbrev place : List ℕ → ℕ
place word = position_or_len opens word

found_below : (word : List ℕ) → place word < length word → (take (place word) word ≡ before_parenthesis word) × (true ≡ has_parenthesis word) × (drop (place word + 1) word ≡ behind_parenthesis word)
found_below [] below = absurd (omega arith)
found_below (c ∷ word) below = by_test (c == 40) below (found_below word)
  where
    by_test : (t : Bool) → cond (not t) (1 + place word) 0 < suc (length word)
        → (place word < length word → (take (place word) word ≡ before_parenthesis word) × (true ≡ has_parenthesis word) × (drop (place word + 1) word ≡ behind_parenthesis word))
        → (take (cond (not t) (1 + place word) 0) (c ∷ word) ≡ cond t [] (c ∷ before_parenthesis word)) × (true ≡ (t || has_parenthesis word))
        × (drop (cond (not t) (1 + place word) 0 + 1) (c ∷ word) ≡ cond t word (behind_parenthesis word))
    by_test true below more = (refl, refl, refl)
    by_test false below more =
        let m = more (omega arith) in
        let one : 1 + place word ≡ suc (place word) = omega arith in
        let two : (1 + place word) + 1 ≡ suc (place word + 1) = omega arith in
        (ap (λ (k : ℕ). take k (c ∷ word)) one ∙ ap (λ (w : List ℕ). c ∷ w) m.0, m.1, ap (λ (k : ℕ). drop k (c ∷ word)) two ∙ m.2)

missed_below : (word : List ℕ) → length word ≤ place word → (word ≡ before_parenthesis word) × (false ≡ has_parenthesis word) × ([] ≡ behind_parenthesis word)
missed_below [] above = (refl, refl, refl)
missed_below (c ∷ word) above = by_test (c == 40) above (missed_below word)
  where
    by_test : (t : Bool) → suc (length word) ≤ cond (not t) (1 + place word) 0
        → (length word ≤ place word → (word ≡ before_parenthesis word) × (false ≡ has_parenthesis word) × ([] ≡ behind_parenthesis word))
        → (c ∷ word ≡ cond t [] (c ∷ before_parenthesis word)) × (false ≡ (t || has_parenthesis word)) × ([] ≡ cond t word (behind_parenthesis word))
    by_test true above more = absurd (omega arith)
    by_test false above more = let m = more (omega arith) in (ap (λ (w : List ℕ). c ∷ w) m.0, m.1, m.2)

pub found : (word : List ℕ) (i : ℕ) → position opens word ≡ Some i → (take i word ≡ before_parenthesis word) × (true ≡ has_parenthesis word) × (drop (i + 1) word ≡ behind_parenthesis word)
found word i is =
    let parts = cond_some _ _ _ is in
    subst (λ (k : ℕ). (take k word ≡ before_parenthesis word) × (true ≡ has_parenthesis word) × (drop (k + 1) word ≡ behind_parenthesis word)) parts.1 (found_below word (ltb-true _ _ parts.0))

here : (word : List ℕ) → place word < length word → position opens word ≡ Some (place word)
here word lt = rw (lt-ltb _ _ lt) refl

pub missed : (word : List ℕ) → position opens word ≡ None → (word ≡ before_parenthesis word) × (false ≡ has_parenthesis word) × ([] ≡ behind_parenthesis word)
missed word is =
    elim (cases_lt (place word) (length word)) [
      | inl lt ↦ absurd (none-some (place word) (sym is ∙ here word lt))
      | inr le ↦ missed_below word le
    ]

-- ---- what stands in front of the last byte

pub closed_by : (inner : List ℕ) (last : ℕ) → (is_closed (inner ++ last ∷ []) ≡ (last == 41)) × (without_last (inner ++ last ∷ []) ≡ inner)
closed_by [] last = (refl, refl)
closed_by (c ∷ []) last = (refl, refl)
closed_by (c ∷ d ∷ inner) last = let more = closed_by (d ∷ inner) last in (more.0, ap (λ (w : List ℕ). c ∷ w) more.1)

-- the angles, where what stands in front of the last byte is found
pub angles_are : (word : List ℕ) (inner : Option (Bor (List ℕ))) → is_some inner ≡ is_closed (behind_parenthesis word) → IfSome inner (λ i. i.now ≡ without_last (behind_parenthesis word))
    → angles_left (option_copied inner) ≡ angles_in word
angles_are word None is what = by_test (is_closed (behind_parenthesis word)) is
  where
    by_test : (t : Bool) → false ≡ t → [] ≡ cond t (slice_split (λ c. c == 44) (without_last (behind_parenthesis word))) []
    by_test true e = absurd cc
    by_test false e = refl
angles_are word (Some inner) is what = by_test (is_closed (behind_parenthesis word)) is
  where
    by_test : (t : Bool) → true ≡ t → slice_split (λ c. c == 44) inner.now ≡ cond t (slice_split (λ c. c == 44) (without_last (behind_parenthesis word))) []
    by_test true e = ap (λ (w : List ℕ). slice_split (λ c. c == 44) w) what
    by_test false e = absurd cc

-- what the code asks of a gate's word is what the definition asks
abbrev pub limit_in : List ℕ → List (List ℕ) → Bool
limit_in name angles = (is_word name && nat_lt 64 (length name)) || (nat_lt 16 (length angles) || list_any is_long_angle angles)

abbrev pub form_in : List ℕ → Bool → Bool → List (List ℕ) → Bool
form_in name has closed angles = is_word name && (not has || (closed && list_all has_angle_form angles))

pub limit_is : (word name : List ℕ) (inner : Option (Bor (List ℕ))) → name ≡ before_parenthesis word → is_some inner ≡ is_closed (behind_parenthesis word)
    → IfSome inner (λ i. i.now ≡ without_last (behind_parenthesis word)) → limit_in name (angles_left (option_copied inner)) ≡ passes_gate_limit word
limit_is word name inner name_is closed what =
    ap (λ (n : List ℕ). limit_in n (angles_left (option_copied inner))) name_is ∙ ap (limit_in (before_parenthesis word)) (angles_are word inner closed what)

pub form_is : (word name : List ℕ) (has : Bool) (inner : Option (Bor (List ℕ))) → name ≡ before_parenthesis word → has ≡ has_parenthesis word → is_some inner ≡ is_closed (behind_parenthesis word)
    → IfSome inner (λ i. i.now ≡ without_last (behind_parenthesis word)) → form_in name has (is_some inner) (angles_left (option_copied inner)) ≡ has_gate_form word
form_is word name has inner name_is has_is closed what =
    ap (λ (n : List ℕ). form_in n has (is_some inner) (angles_left (option_copied inner))) name_is
    ∙ ap (λ (h : Bool). form_in (before_parenthesis word) h (is_some inner) (angles_left (option_copied inner))) has_is
    ∙ ap (λ (t : Bool). form_in (before_parenthesis word) (has_parenthesis word) t (angles_left (option_copied inner))) closed
    ∙ ap (form_in (before_parenthesis word) (has_parenthesis word) (is_closed (behind_parenthesis word))) (angles_are word inner closed what)

pub no_form : (word : List ℕ) → passes_gate_limit word ≡ false → has_gate_form word ≡ false → gate_slot.read word ≡ Err Word
no_form word limit form = rw (limit, form) refl

-- ---- a qubit and its position

pub digits_whole : (digits : List ℕ) → are_digits digits ≡ true → slice_split (λ c. c == 64) digits ≡ digits ∷ []
digits_whole [] is = absurd cc
digits_whole (d ∷ ds) is = split-join 64 (d ∷ ds) [] (lacks_all is_ascii_digit 64 refl (d ∷ ds) is) tt

-- where the second half holds a further sign, it is no digits
pub two_parts : (q rest : List ℕ) → operand_of_parts (q ∷ slice_split (λ c. c == 64) rest) ≡ operand_of_parts (q ∷ rest ∷ [])
two_parts q rest = by_digits (are_digits rest) refl
  where
    by_digits : (t : Bool) → are_digits rest ≡ t → operand_of_parts (q ∷ slice_split (λ c. c == 64) rest) ≡ operand_of_parts (q ∷ rest ∷ [])
    by_digits true is = ap (λ (parts : List (List ℕ)). operand_of_parts (q ∷ parts)) (digits_whole rest is)
    by_digits false is = in_parts (slice_split (λ c. c == 64) rest) refl ∙ sym (other_form rest is)
      where
        other_form : (p : List ℕ) → are_digits p ≡ false → operand_of_parts (q ∷ p ∷ []) ≡ Err Word
        other_form p is = by_both (has_letter 113 q) (are_digits p) is
          where
            by_both : (a b : Bool) → b ≡ false → cond (a && b) (operand_numbers (drop 1 q) p) (Err Word) ≡ Err Word
            by_both a true e = absurd cc
            by_both true false e = refl
            by_both false false e = refl

        in_parts : (parts : List (List ℕ)) → slice_split (λ c. c == 64) rest ≡ parts → operand_of_parts (q ∷ parts) ≡ Err Word
        in_parts [] e = refl
        in_parts (p ∷ []) e =
            let joined : rest ≡ p = sym (join_with_byte-slice_split 64 rest) ∙ ap (λ (ps : List (List ℕ)). join_with_byte 64 ps) e in
            other_form p (ap are_digits (sym joined) ∙ is)
        in_parts (p ∷ r ∷ parts) e = refl
