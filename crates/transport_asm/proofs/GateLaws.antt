-- The words of gates and of qubits at positions.
use Rattle.std.proofs.Common.{◌≡◌, ℕ, ◌^◌, ◌<◌, ◌≤◌, Bool, true, false, cond, not, ◌&&◌, ◌||◌, ◌==◌, List, [], ◌∷◌, ◌++◌, length, decimal, Ok, Err, refl, sym, ap, ◌∙◌, subst, arith, append_assoc}
use Rattle.std.specs.Prelude.{nat_lt}
use Rattle.std.specs.Char.{is_ascii_digit, is_ascii_alphabetic}
use Rattle.std.specs.List.{list_all, list_any, slice_split, join_with_byte}
use Rattle.std.proofs.lemmas.Bool.{and_parts, eqb-true, ltb-false, le-ltb, ne_eqb}
use Rattle.std.proofs.lemmas.List.{append-nil}
use Rattle.std.proofs.lemmas.List.Splits.{join_with_byte-slice_split}
use Rattle.transport_asm.proofs.WideDigits.{digits_wide}
use Rattle.qccd_base.specs.declared.names.Qubit.{Qubit}
use Rattle.qccd_base.specs.Names.{qubit}
use Rattle.qccd_circuit.specs.Item.{is_word, is_name_byte, is_angle_byte}
use Rattle.op_text.specs.OpText.{angles_text, operand_text}
use Rattle.transport_asm.proofs.Fitting.{FitsGate, FitsOperand}
use Rattle.op_text.specs.declared.kind.AsmKind.TheVariants.{Word, TooMany}
use Rattle.op_text.specs.Steps.{◌>>=◌}
use Rattle.op_text.specs.Slots.{Gate, before_parenthesis, behind_parenthesis, has_parenthesis, is_closed, without_last, angles_in, has_angle_form, has_gate_form, is_long_angle, passes_gate_limit, gate_slot, are_digits, operand_form, operand_numbers, number_slot, operand_of_parts, at_signs, operand_slot}
use Rattle.transport_asm.proofs.Numbers.{own, number_takes, two_pass, neither, are_digits-decimal, is_outside-decimal, number_in-decimal}
use Rattle.op_text.specs.Shapes.{is_end}
use Rattle.transport_asm.proofs.Cut.{lacks, EachLacks, split-join, has_word}
use Rattle.transport_asm.proofs.SlotLaws.{bind_ok, ok_is, is_plain, is_plain_byte, IsSlot, plain_digits}

-- ---- the parts of a gate's word

not_true : (t : Bool) → not t ≡ false → t ≡ true
not_true true e = refl
not_true false e = absurd cc

both : (a b : Bool) → a ≡ true → b ≡ true → (a && b) ≡ true
both true true e f = refl
both true false e f = absurd cc
both false b e f = absurd cc

-- without a parenthesis the word is the name
no_parenthesis : (word : List ℕ) → has_parenthesis word ≡ false → (before_parenthesis word ≡ word) × (behind_parenthesis word ≡ [])
no_parenthesis [] none = (refl, refl)
no_parenthesis (c ∷ word) none = by_test (c == 40) (has_parenthesis word) none (no_parenthesis word)
  where
    by_test : (t h : Bool) → (t || h) ≡ false → (h ≡ false → (before_parenthesis word ≡ word) × (behind_parenthesis word ≡ []))
        → (cond t [] (c ∷ before_parenthesis word) ≡ c ∷ word) × (cond t word (behind_parenthesis word) ≡ [])
    by_test true h e more = absurd cc
    by_test false h e more = let m = more e in (ap (λ (w : List ℕ). c ∷ w) m.0, m.1)

-- with one it is the name, the parenthesis and what is behind it
one_parenthesis : (word : List ℕ) → has_parenthesis word ≡ true → word ≡ before_parenthesis word ++ 40 ∷ behind_parenthesis word
one_parenthesis [] some = absurd cc
one_parenthesis (c ∷ word) some = by_test (c == 40) refl (has_parenthesis word) some (one_parenthesis word)
  where
    by_test : (t : Bool) → (c == 40) ≡ t → (h : Bool) → (t || h) ≡ true → (h ≡ true → word ≡ before_parenthesis word ++ 40 ∷ behind_parenthesis word)
        → c ∷ word ≡ cond t [] (c ∷ before_parenthesis word) ++ 40 ∷ cond t word (behind_parenthesis word)
    by_test true is h e more = ap (λ (k : ℕ). k ∷ word) (eqb-true c 40 is)
    by_test false is h e more = ap (λ (w : List ℕ). c ∷ w) (more e)

closed_is : (bytes : List ℕ) → is_closed bytes ≡ true → bytes ≡ without_last bytes ++ 41 ∷ []
closed_is [] e = absurd cc
closed_is (c ∷ []) e = ap (λ (k : ℕ). k ∷ []) (eqb-true c 41 e)
closed_is (c ∷ d ∷ bytes) e = ap (λ (w : List ℕ). c ∷ w) (closed_is (d ∷ bytes) e)

closing : (bytes : List ℕ) → (is_closed (bytes ++ 41 ∷ []) ≡ true) × (without_last (bytes ++ 41 ∷ []) ≡ bytes)
closing [] = (refl, refl)
closing (c ∷ []) = (refl, refl)
closing (c ∷ d ∷ bytes) = let more = closing (d ∷ bytes) in (more.0, ap (λ (w : List ℕ). c ∷ w) more.1)

lacks_parenthesis : (name : List ℕ) (rest : List ℕ) → lacks 40 name ≡ true → (before_parenthesis (name ++ 40 ∷ rest) ≡ name) × (behind_parenthesis (name ++ 40 ∷ rest) ≡ rest) × (has_parenthesis (name ++ 40 ∷ rest) ≡ true)
lacks_parenthesis [] rest l = (refl, refl, refl)
lacks_parenthesis (c ∷ name) rest l =
    let parts = and_parts (not (c == 40)) (lacks 40 name) l in
    let not_here : (c == 40) ≡ false = not_false (c == 40) parts.0 in
    let more = lacks_parenthesis name rest parts.1 in
    (rw not_here (ap (λ (w : List ℕ). c ∷ w) more.0), rw not_here more.1, rw not_here more.2)
  where
    not_false : (t : Bool) → not t ≡ true → t ≡ false
    not_false true e = absurd cc
    not_false false e = refl

none_lacks : (name : List ℕ) → lacks 40 name ≡ true → has_parenthesis name ≡ false
none_lacks [] l = refl
none_lacks (c ∷ name) l =
    let parts = and_parts (not (c == 40)) (lacks 40 name) l in
    rw (not_false (c == 40) parts.0) (none_lacks name parts.1)
  where
    not_false : (t : Bool) → not t ≡ true → t ≡ false
    not_false true e = absurd cc
    not_false false e = refl

-- the angles of a closed parenthesis are its text
angles_closed : (rest : List ℕ) → is_closed rest ≡ true → angles_text (slice_split (λ c. c == 44) (without_last rest)) ≡ 40 ∷ rest
angles_closed rest closed = in_parts (slice_split (λ c. c == 44) (without_last rest)) refl
  where
    in_parts : (parts : List (List ℕ)) → slice_split (λ c. c == 44) (without_last rest) ≡ parts → angles_text parts ≡ 40 ∷ rest
    in_parts [] is = let none : true ≡ false = sym (ap is_end is) ∙ has_word (λ c. c == 44) (without_last rest) in absurd cc
    in_parts (a ∷ parts) is =
        let joined : join_with_byte 44 (a ∷ parts) ≡ without_last rest = sym (ap (λ (ps : List (List ℕ)). join_with_byte 44 ps) is) ∙ join_with_byte-slice_split 44 (without_last rest) in
        ap (λ (w : List ℕ). 40 ∷ (w ++ 41 ∷ [])) joined ∙ ap (λ (w : List ℕ). 40 ∷ w) (sym (closed_is rest closed))

gate_text : Gate → List ℕ
gate_text g = g.name ++ angles_text g.angles

gate_value : List ℕ → Gate
gate_value word = record { name = before_parenthesis word; angles = angles_in word }

or_true : (a b : Bool) → (not a || b) ≡ true → a ≡ true → b ≡ true
or_true true b e is = e
or_true false b e is = absurd cc

gate_word : (word : List ℕ) (t : Bool) → has_parenthesis word ≡ t → (not t || (is_closed (behind_parenthesis word) && list_all has_angle_form (angles_in word))) ≡ true
    → (before_parenthesis word ++ angles_text (angles_in word) ≡ word) × (list_all has_angle_form (angles_in word) ≡ true)
gate_word word true is form =
    let parts = and_parts (is_closed (behind_parenthesis word)) (list_all has_angle_form (angles_in word)) form in
    let angles : angles_text (angles_in word) ≡ 40 ∷ behind_parenthesis word = rw parts.0 (angles_closed (behind_parenthesis word) parts.0) in
    (ap (λ (w : List ℕ). before_parenthesis word ++ w) angles ∙ sym (one_parenthesis word is), parts.1)
gate_word word false is form =
    let parts = no_parenthesis word is in
    let none : angles_in word ≡ [] = ap (λ (b : List ℕ). cond (is_closed b) (slice_split (λ c. c == 44) (without_last b)) []) parts.1 in
    (ap (λ (xs : List (List ℕ)). before_parenthesis word ++ angles_text xs) none ∙ append-nil (before_parenthesis word) ∙ parts.0, ap (λ (xs : List (List ℕ)). list_all has_angle_form xs) none)

gate_takes : (word : List ℕ) (g : Gate) → gate_slot.read word ≡ Ok g → (word ≡ gate_text g) × FitsGate g
unfolding gate_text
gate_takes word g e =
    let passed = two_pass (passes_gate_limit word) (not (has_gate_form word)) TooMany Word (record { name = before_parenthesis word; angles = angles_in word }) g e in
    let form = and_parts (is_word (before_parenthesis word)) (not (has_parenthesis word) || (is_closed (behind_parenthesis word) && list_all has_angle_form (angles_in word))) (not_true (has_gate_form word) passed.1) in
    let limits = neither (is_word (before_parenthesis word) && nat_lt 64 (length (before_parenthesis word))) (nat_lt 16 (length (angles_in word)) || list_any is_long_angle (angles_in word)) passed.0 in
    let more = neither (nat_lt 16 (length (angles_in word))) (list_any is_long_angle (angles_in word)) limits.1 in
    let w = gate_word word (has_parenthesis word) refl form.1 in
    let short : nat_lt 64 (length (before_parenthesis word)) ≡ false = second_false (is_word (before_parenthesis word)) _ limits.0 form.0 in
    let made : Gate = record { name = before_parenthesis word; angles = angles_in word } in
    subst (λ (h : Gate). (word ≡ h.name ++ angles_text h.angles) × FitsGate h) passed.2
    (sym w.0, record { is_name = form.0; short_name = ltb-false _ _ short; are_angles = w.1; none_long = more.1; few = ltb-false _ _ more.0 })
  where
    second_false : (a b : Bool) → (a && b) ≡ false → a ≡ true → b ≡ false
    second_false true b e is = e
    second_false false b e is = absurd cc

-- ---- and back

apart_from : (P : ℕ → Bool) (k c : ℕ) → P k ≡ false → P c ≡ true → (c == k) ≡ false
apart_from P k c out in_it = ne_eqb c k (λ is. let f : true ≡ false = sym in_it ∙ ap P is ∙ out in absurd cc)

pub lacks_all : (P : ℕ → Bool) (k : ℕ) → P k ≡ false → (word : List ℕ) → list_all P word ≡ true → lacks k word ≡ true
lacks_all P k out [] all = refl
lacks_all P k out (c ∷ word) all =
    let parts = and_parts (P c) (list_all P word) all in
    rw (apart_from P k c out parts.0, lacks_all P k out word parts.1) refl

plain_all : (P : ℕ → Bool) → P 32 ≡ false → P 10 ≡ false → (word : List ℕ) → list_all P word ≡ true → is_plain word ≡ true
plain_all P space feed [] all = refl
plain_all P space feed (c ∷ word) all =
    let parts = and_parts (P c) (list_all P word) all in
    rw (apart_from P 32 c space parts.0, apart_from P 10 c feed parts.0, plain_all P space feed word parts.1) refl

lacks_word : (name : List ℕ) → is_word name ≡ true → lacks 40 name ≡ true
lacks_word [] word = absurd cc
lacks_word (c ∷ cs) word =
    let parts = and_parts (is_ascii_alphabetic c) (list_all is_name_byte cs) word in
    rw (apart_from is_ascii_alphabetic 40 c refl parts.0, lacks_all is_name_byte 40 refl cs parts.1) refl

plain_word : (name : List ℕ) → is_word name ≡ true → is_plain name ≡ true
plain_word [] word = absurd cc
plain_word (c ∷ cs) word =
    let parts = and_parts (is_ascii_alphabetic c) (list_all is_name_byte cs) word in
    rw (apart_from is_ascii_alphabetic 32 c refl parts.0, apart_from is_ascii_alphabetic 10 c refl parts.0, plain_all is_name_byte refl refl cs parts.1) refl

-- angles have no comma
each_comma : (angles : List (List ℕ)) → list_all has_angle_form angles ≡ true → EachLacks 44 angles
each_comma [] all = tt
each_comma (a ∷ angles) all =
    let parts = and_parts (has_angle_form a) (list_all has_angle_form angles) all in
    let bytes = and_parts (not (length a == 0)) (list_all is_angle_byte a) parts.0 in
    (lacks_all is_angle_byte 44 refl a bytes.1, each_comma angles parts.1)

not_false : (t : Bool) → t ≡ true → not t ≡ false
not_false true e = refl
not_false false e = absurd cc

gate_again : (g : Gate) → FitsGate g → gate_slot.read (gate_text g) ≡ Ok g
unfolding gate_text
gate_again g fits = by_angles g.name g.angles fits.is_name fits.short_name fits.are_angles fits.none_long fits.few
  where
    by_angles : (name : List ℕ) (angles : List (List ℕ)) → is_word name ≡ true → length name ≤ 64 → list_all has_angle_form angles ≡ true → list_any is_long_angle angles ≡ false → length angles ≤ 16
        → gate_slot.read (name ++ angles_text angles) ≡ Ok (record { name = name; angles = angles })
    by_angles name [] word short all long few =
        let none = none_lacks name (lacks_word name word) in
        let parts = no_parenthesis name none in
        ap gate_slot.read (append-nil name) ∙ rw (none, parts.0, parts.1, word, le-ltb 64 (length name) short) refl
    by_angles name (a ∷ angles) word short all long few =
        let bytes = join_with_byte 44 (a ∷ angles) in
        let parts = lacks_parenthesis name (bytes ++ 41 ∷ []) (lacks_word name word) in
        let closed = closing bytes in
        let commas = each_comma (a ∷ angles) all in
        let cut = split-join 44 a angles commas.0 commas.1 in
        rw (parts.0, parts.1, parts.2, closed.0, closed.1, cut, word, le-ltb 64 (length name) short, le-ltb 16 (length (a ∷ angles)) few, long, all) refl

plain-append : (xs ys : List ℕ) → is_plain xs ≡ true → is_plain ys ≡ true → is_plain (xs ++ ys) ≡ true
plain-append [] ys e f = f
plain-append (x ∷ xs) ys e f = let parts = and_parts (is_plain_byte x) (is_plain xs) e in both (is_plain_byte x) (is_plain (xs ++ ys)) parts.0 (plain-append xs ys parts.1 f)

plain_angles : (angles : List (List ℕ)) → list_all has_angle_form angles ≡ true → is_plain (join_with_byte 44 angles) ≡ true
plain_angles [] all = refl
plain_angles (a ∷ []) all =
    let parts = and_parts (has_angle_form a) true all in
    plain_all is_angle_byte refl refl a (and_parts (not (length a == 0)) (list_all is_angle_byte a) parts.0).1
plain_angles (a ∷ b ∷ angles) all =
    let parts = and_parts (has_angle_form a) (list_all has_angle_form (b ∷ angles)) all in
    plain-append a (44 ∷ join_with_byte 44 (b ∷ angles)) (plain_all is_angle_byte refl refl a (and_parts (not (length a == 0)) (list_all is_angle_byte a) parts.0).1) (plain_angles (b ∷ angles) parts.1)

gate_plain : (g : Gate) → FitsGate g → is_plain (gate_text g) ≡ true
unfolding gate_text
gate_plain g fits = plain-append g.name (angles_text g.angles) (plain_word g.name fits.is_name) (by_angles g.angles fits.are_angles)
  where
    by_angles : (angles : List (List ℕ)) → list_all has_angle_form angles ≡ true → is_plain (angles_text angles) ≡ true
    by_angles [] all = refl
    by_angles (a ∷ angles) all = plain-append (join_with_byte 44 (a ∷ angles)) (41 ∷ []) (plain_angles (a ∷ angles) all) refl

pub gate_law : IsSlot gate_slot FitsGate
unfolding gate_text
gate_law = record { takes = gate_takes; again = gate_again; plain = gate_plain }

-- ---- a qubit at a position

operand_parts : (parts : List (List ℕ)) (q : Qubit × ℕ) → operand_of_parts parts ≡ Ok q → (parts ≡ (113 ∷ decimal q.0.0) ∷ decimal q.1 ∷ []) × FitsOperand q
operand_parts [] q e = absurd cc
operand_parts (a ∷ []) q e = absurd cc
operand_parts (a ∷ b ∷ c ∷ more) q e = absurd cc
operand_parts ([] ∷ p ∷ []) q e = absurd cc
operand_parts ((c ∷ digits) ∷ p ∷ []) q e = by_test (operand_form (c ∷ digits) p) refl e
  where
    by_test : (t : Bool) → operand_form (c ∷ digits) p ≡ t → cond t (operand_numbers digits p) (Err Word) ≡ Ok q → ((c ∷ digits) ∷ p ∷ [] ≡ (113 ∷ decimal q.0.0) ∷ decimal q.1 ∷ []) × FitsOperand q
    by_test false is e = absurd cc
    by_test true is e =
        let a = bind_ok ((number_slot 65535).read digits) (λ n. (number_slot 255).read p >>= λ m. Ok (qubit n, m)) q e in
        let b = bind_ok ((number_slot 255).read p) (λ m. Ok (qubit a.0, m)) q a.2 in
        let letter = and_parts (c == 113) (are_digits digits) (and_parts ((c == 113) && are_digits digits) (are_digits p) is).0 in
        let first = number_takes 65535 digits a.0 (omega arith) a.1 in
        let second = number_takes 255 p b.0 (omega arith) b.1 in
        let made : (c ∷ digits) ∷ p ∷ [] ≡ (113 ∷ decimal a.0) ∷ decimal b.0 ∷ [] =
        ap (λ (k : ℕ). (k ∷ digits) ∷ p ∷ []) (eqb-true c 113 letter.0) ∙ ap (λ (w : List ℕ). (113 ∷ w) ∷ p ∷ []) first.0 ∙ ap (λ (w : List ℕ). (113 ∷ decimal a.0) ∷ w ∷ []) second.0 in
        subst (λ (v : Qubit × ℕ). ((c ∷ digits) ∷ p ∷ [] ≡ (113 ∷ decimal v.0.0) ∷ decimal v.1 ∷ []) × FitsOperand v) (ok_is (qubit a.0, b.0) q b.2) (made, (first.1, second.1))

lacks_digits : (n : ℕ) → n < 10 ^ 64 → lacks 64 (decimal n) ≡ true
lacks_digits n small = lacks_all is_ascii_digit 64 refl (decimal n) (digits_wide own n small)

operand_is : (q : Qubit × ℕ) → operand_text q ≡ join_with_byte 64 ((113 ∷ decimal q.0.0) ∷ decimal q.1 ∷ [])
operand_is q = append_assoc (113 ∷ decimal q.0.0) (64 ∷ []) (decimal q.1)

operand_cut : (q : Qubit × ℕ) → FitsOperand q → at_signs (operand_text q) ≡ (113 ∷ decimal q.0.0) ∷ decimal q.1 ∷ []
operand_cut q fits =
    ap at_signs (operand_is q)
    ∙ split-join 64 (113 ∷ decimal q.0.0) (decimal q.1 ∷ []) (lacks_digits q.0.0 (omega (arith, fits.0))) (lacks_digits q.1 (omega (arith, fits.1)), tt)

pub operand_law : IsSlot operand_slot FitsOperand
operand_law = record {
  takes = λ word q e.
      let t = operand_parts (at_signs word) q e in
      (sym (join_with_byte-slice_split 64 word) ∙ ap (λ (ps : List (List ℕ)). join_with_byte 64 ps) t.0 ∙ sym (operand_is q), t.1);
  again = λ q fits.
      let n : q.0.0 < 10 ^ 64 = omega (arith, fits.0) in
      let p : q.1 < 10 ^ 64 = omega (arith, fits.1) in
      ap operand_of_parts (operand_cut q fits)
      ∙ rw (are_digits-decimal q.0.0 n, are_digits-decimal q.1 p, is_outside-decimal 65535 q.0.0 n fits.0, is_outside-decimal 255 q.1 p fits.1, number_in-decimal q.0.0 n, number_in-decimal q.1 p) refl;
  plain = λ q fits.
      ap is_plain (operand_is q) ∙ plain-append (113 ∷ decimal q.0.0) (64 ∷ decimal q.1) (plain_digits (decimal q.0.0) (digits_wide own q.0.0 (omega (arith, fits.0)))) (plain_digits (decimal q.1) (digits_wide own q.1 (omega (arith, fits.1))));
}
