-- Program texts: what is read is the text of its value, and the text of a value is read as it.
use Rattle.std.proofs.Common.{◌≡◌, ℕ, zero, suc, ◌+◌, ◌-◌, ◌<◌, ◌≤◌, Bool, true, false, cond, not, ◌&&◌, ◌||◌, ◌==◌, ◌⊎◌, List, [], ◌∷◌, ◌++◌, map, length, decimal, codes, Option, Some, None, Result, Ok, Err, refl, sym, ap, ◌∙◌, subst, arith, inl, inr}
use Rattle.std.specs.Prelude.{bytes_eq, nat_lt}
use Rattle.std.specs.List.{AllByRecursion}
use Rattle.std.proofs.lemmas.Bool.{ltb-false, le-ltb, eqb-true, ne_eqb}
use Rattle.std.proofs.lemmas.Bool.Decides.{eqb_tells}
use Rattle.std.proofs.lemmas.Slice.Eq.{bytes_eq-Decides}
use Rattle.std.proofs.lemmas.Fmt.{digits_decimal, decimal_digit}
use Rattle.qccd_base.specs.declared.names.Ion.{Ion}
use Rattle.qccd_base.specs.declared.names.Mode.{Mode}
use Rattle.qccd_base.specs.declared.names.Mode.TheVariants.{IonSwap, GateSwap}
use Rattle.qccd_base.specs.Names.{ion}
use Rattle.op_table.specs.declared.kinds.OpKind.{OpKind}
use Rattle.transport_asm.proofs.Fitting.{FitsOp, FitsIon, FitsChain, FitsRaw}
use Rattle.op_text.specs.declared.kind.AsmKind.{AsmKind}
use Rattle.op_text.specs.declared.kind.AsmKind.TheVariants.{Header, Word, Number, Count, NotBuilt, TooMany}
use Rattle.op_text.specs.Steps.{◌>>=◌, judged}
use Rattle.op_text.specs.Slots.{are_digits, number_in, greatest, fixed_slot, up_to, size_slot, next_only, next_slot, lettered, next_trap_slot, number_slot}
use Rattle.op_text.specs.Shapes.{Shape, read_one, one, ◌▸◌, whole, read_line}
use Rattle.op_text.specs.Operations.{read_op, op_words}
use Rattle.transport_asm.specs.Lines.{Unread, line_at, numbered, line_text, lines_text, numbered_lines, line_block, ◌▹◌, read_all}
use Rattle.transport_asm.specs.Texts.{RawData, first_line, size_line, where_room, ion_at, ions_at, chain_line, op_line, end_line, read_text, size_words, size, counted, chain_words, op_line_words, head_block, head_lines, mode_behind, mode_in, mode_line, mode_slot, mode_text, mode_words, version_words, end_words, program_block, raw_of, value_of, raw_text}
use Rattle.transport_asm.proofs.Numbers.{own, number_takes, number_again, decimal-number_in}
use Rattle.transport_asm.proofs.SlotLaws.{bind_ok, ok_is, is_plain, EachPlain, IsSlot, IsShape, one_law, both_law, plain_digits, one_passes, letter_takes, letter_again}
use Rattle.transport_asm.proofs.OpLaws.{op_law}
use Rattle.transport_asm.proofs.LineLaws.{IsLine, IsBlock, line_again, line_law, then_law, numbered_takes, numbered_again, numbered_plain, some_behind, EachLine, all_takes, all_again, read_is}

-- ---- a line that is a shape and nothing more

whole_ok : {A : Type 0} (value : A) (words : List (List ℕ)) (made : A) → whole value words ≡ Ok made → (words ≡ []) × (value ≡ made)
whole_ok value [] made e = (refl, ok_is value made e)
whole_ok value (word ∷ more) made e = absurd cc

append-none : {X : Type 0} (xs : List X) → xs ++ [] ≡ xs
append-none [] = refl
append-none (x ∷ xs) = ap (λ (ys : List _). x ∷ ys) (append-none xs)

pub shape_line : {A : Type 0} (p : Shape A) (F : A → Type 0) → IsShape p F → ((value : A) → 0 < length (p.words value)) → IsLine (read_line p) p.words F
shape_line {A} p F law some = record {
  takes = λ ws value e.
      let a = bind_ok (p.read ws) (λ a. whole a.0 a.1) value e in
      let w = whole_ok a.0.0 a.0.1 value a.2 in
      let t = law.takes ws a.0.0 a.0.1 a.1 in
      subst (λ (v : A). (ws ≡ p.words v) × F v) w.1 (t.0 ∙ ap (λ (rest : List (List ℕ)). p.words a.0.0 ++ rest) w.0 ∙ append-none (p.words a.0.0), t.1);
  again = λ value fits.
      let e = law.again value [] fits in
      let f : p.read (p.words value) ≡ Ok (value, []) = ap p.read (sym (append-none (p.words value))) ∙ e in
      rw f refl;
  plain = law.plain;
  some = some;
}

-- ---- sizes

pub three_pass : {A : Type 0} (a b c : Bool) (k l m : AsmKind) (x y : A) → judged ((k, a) ∷ (l, b) ∷ (m, c) ∷ []) x ≡ Ok y → (a ≡ false) × (b ≡ false) × (c ≡ false) × (x ≡ y)
three_pass true b c k l m x y e = absurd cc
three_pass false true c k l m x y e = absurd cc
three_pass false false true k l m x y e = absurd cc
three_pass false false false k l m x y e = (refl, refl, refl, cc)

up_to_ok : (many n m : ℕ) → up_to many n ≡ Ok m → (n ≤ many) × (n ≡ m)
up_to_ok many n m e = by_test (nat_lt many n) refl e
  where
    by_test : (t : Bool) → nat_lt many n ≡ t → cond t (Err TooMany) (Ok n) ≡ Ok m → (n ≤ many) × (n ≡ m)
    by_test true is e = absurd cc
    by_test false is e = (ltb-false many n is, ok_is n m e)

pub size_law : (many : ℕ) → many ≤ greatest → IsSlot (size_slot many) (λ n. n ≤ many)
size_law many small = record {
  takes = λ word n e.
      let b = bind_ok ((number_slot greatest).read word) (up_to many) n e in
      let t = number_takes greatest word b.0 (omega arith) b.1 in
      let u = up_to_ok many b.0 n b.2 in
      subst (λ (k : ℕ). (word ≡ decimal k) × (k ≤ many)) u.1 (t.0, u.0);
  again = λ n le. rw (number_again greatest n (omega arith) (omega arith), le-ltb many n le) refl;
  plain = λ n le. plain_digits (decimal n) (digits_decimal own n (omega arith));
}

next_ok : (next n m : ℕ) → next_only next n ≡ Ok m → (n ≡ next) × (n ≡ m)
next_ok next n m e = by_test (n == next) refl e
  where
    by_test : (t : Bool) → (n == next) ≡ t → cond t (Ok n) (Err Count) ≡ Ok m → (n ≡ next) × (n ≡ m)
    by_test true is e = (eqb-true n next is, ok_is n m e)
    by_test false is e = absurd cc

same : (c : ℕ) → (c == c) ≡ true
same c = elim (eqb_tells c c) [ inl is ↦ is.0 | inr other ↦ absurd (other.1 refl) ]

abbrev stated_fits : Unit {0} → Type 0
stated_fits u = Unit {0}

fixed_law : (stated : List ℕ) → is_plain stated ≡ true → IsSlot (fixed_slot stated) stated_fits
fixed_law stated plain = record {
  takes = λ word value e.
      let passed = one_passes (not (bytes_eq word stated)) Word tt value e in
      ((bytes_eq-Decides word stated).0 (not_false (bytes_eq word stated) passed.0), tt);
  again = λ value fits. rw (same_text stated) refl;
  plain = λ value fits. plain;
}
  where
    not_false : (t : Bool) → not t ≡ false → t ≡ true
    not_false true e = refl
    not_false false e = absurd cc

    same_text : (stated : List ℕ) → bytes_eq stated stated ≡ true
    same_text stated = (bytes_eq-Decides stated stated).1 refl

-- a line of a word and a size
size_line_law : (name : List ℕ) (many : ℕ) → is_plain name ≡ true → many ≤ greatest → IsLine (size_line name many) (size_words name) (λ n. n ≤ many)
size_line_law name many plain small =
    let shape = both_law (one (fixed_slot name)) (one (size_slot many)) stated_fits (λ n. n ≤ many) (one_law (fixed_slot name) stated_fits (fixed_law name plain)) (one_law (size_slot many) (λ n. n ≤ many) (size_law many small)) in
    let line = shape_line (one (fixed_slot name) ▸ one (size_slot many)) (λ v. stated_fits v.0 × (v.1 ≤ many)) shape (λ v. omega arith) in
    record {
      takes = λ ws n e.
          let b = bind_ok (read_line (one (fixed_slot name) ▸ one (size_slot many)) ws) (λ v. Ok v.1) n e in
          let t = line.takes ws b.0 b.1 in
          subst (λ (k : ℕ). (ws ≡ size_words name k) × (k ≤ many)) (ok_is b.0.1 n b.2) (t.0, t.1.1);
      again = λ n fits. rw (line.again (tt, n) (tt, fits)) refl;
      plain = λ n fits. line.plain (tt, n) (tt, fits);
      some = λ n. omega arith;
    }

end_law : IsLine end_line (λ u. codes "end" ∷ []) stated_fits
end_law = shape_line (one (fixed_slot (codes "end"))) stated_fits (one_law (fixed_slot (codes "end")) stated_fits (fixed_law (codes "end") refl)) (λ u. omega arith)

not_false : (t : Bool) → not t ≡ false → t ≡ true
not_false true e = refl
not_false false e = absurd cc

-- ---- the first line

abbrev IsVersion : ℕ → Type 0
IsVersion v = (v ≡ 1) ⊎ (v ≡ 2)

first_takes : (ws : List (List ℕ)) (v : ℕ) → first_line ws ≡ Ok v → (ws ≡ version_words (decimal v)) × IsVersion v
first_takes [] v e = absurd cc
first_takes (name ∷ []) v e = absurd cc
first_takes (name ∷ version ∷ more ∷ words) v e = absurd cc
first_takes (name ∷ version ∷ []) v e =
    let passed = three_pass _ _ _ Header Number NotBuilt (number_in version) v e in
    let form = both_true (bytes_eq name (codes "QCCD")) (are_digits version) passed.0 in
    let known : IsVersion (number_in version) = either (number_in version) (not_false _ passed.2) in
    let both = decimal-number_in greatest version (omega arith) form.1 passed.1 in
    let first : name ≡ codes "QCCD" = (bytes_eq-Decides name (codes "QCCD")).0 form.0 in
    let second : version ≡ decimal v = both.0 ∙ ap decimal passed.3 in
    (ap (λ (n : List ℕ). n ∷ version ∷ []) first ∙ ap (λ (n : List ℕ). codes "QCCD" ∷ n ∷ []) second, subst IsVersion passed.3 known)
  where
    both_true : (a b : Bool) → not (a && b) ≡ false → (a ≡ true) × (b ≡ true)
    both_true true true e = (refl, refl)
    both_true true false e = absurd cc
    both_true false b e = absurd cc

    by : (n : ℕ) (a b : Bool) → (n == 1) ≡ a → (n == 2) ≡ b → (a || b) ≡ true → IsVersion n
    by n true b is_one is_two some = inl (eqb-true n 1 is_one)
    by n false true is_one is_two some = inr (eqb-true n 2 is_two)
    by n false false is_one is_two some = absurd cc

    either : (n : ℕ) → (n == 1 || n == 2) ≡ true → IsVersion n
    either n some = by n (n == 1) (n == 2) refl refl some

one_is : decimal 1 ≡ codes "1"
one_is = decimal_digit 1 (omega arith)

two_is : decimal 2 ≡ codes "2"
two_is = decimal_digit 2 (omega arith)

first_law : IsLine first_line (λ v. version_words (decimal v)) IsVersion
first_law = record {
  takes = first_takes;
  again = again;
  plain = plain;
  some = λ v. omega arith;
}
  where
    again : (v : ℕ) → IsVersion v → first_line (version_words (decimal v)) ≡ Ok v
    again v (inl is) = ap (λ (k : ℕ). first_line (version_words (decimal k))) is ∙ ap (λ (n : List ℕ). first_line (version_words n)) one_is ∙ ap (λ (k : ℕ). Ok k) (sym is)
    again v (inr is) = ap (λ (k : ℕ). first_line (version_words (decimal k))) is ∙ ap (λ (n : List ℕ). first_line (version_words n)) two_is ∙ ap (λ (k : ℕ). Ok k) (sym is)

    plain : (v : ℕ) → IsVersion v → EachPlain (version_words (decimal v))
    plain v (inl is) = subst (λ (n : List ℕ). EachPlain (version_words n)) (sym (ap decimal is ∙ one_is)) (refl, (refl, tt))
    plain v (inr is) = subst (λ (n : List ℕ). EachPlain (version_words n)) (sym (ap decimal is ∙ two_is)) (refl, (refl, tt))

-- ---- the line of the mode

abbrev any_mode : Mode → Type 0
any_mode mode = Unit {0}

mode_text_of : (word : List ℕ) (i g : Bool) → bytes_eq word (codes "ion") ≡ i → bytes_eq word (codes "gate") ≡ g → not (i || g) ≡ false → word ≡ mode_text (mode_in word)
mode_text_of word true g is_ion is_gate some = rw is_ion ((bytes_eq-Decides word (codes "ion")).0 is_ion)
mode_text_of word false true is_ion is_gate some = rw is_ion ((bytes_eq-Decides word (codes "gate")).0 is_gate)
mode_text_of word false false is_ion is_gate some = absurd cc

mode_slot_law : IsSlot mode_slot any_mode
mode_slot_law = record {
  takes = λ word value e.
      let passed = one_passes _ Word (mode_in word) value e in
      (mode_text_of word _ _ refl refl passed.0 ∙ ap mode_text passed.1, tt);
  again = λ value fits. again value;
  plain = λ value fits. plain value;
}
  where
    again : (mode : Mode) → mode_slot.read (mode_text mode) ≡ Ok mode
    again IonSwap = refl
    again GateSwap = refl

    plain : (mode : Mode) → is_plain (mode_text mode) ≡ true
    plain IonSwap = refl
    plain GateSwap = refl

mode_law : IsLine mode_line mode_words any_mode
mode_law =
    let shape = both_law (one (fixed_slot (codes "mode"))) (one mode_slot) stated_fits any_mode (one_law (fixed_slot (codes "mode")) stated_fits (fixed_law (codes "mode") refl)) (one_law mode_slot any_mode mode_slot_law) in
    let line = shape_line (one (fixed_slot (codes "mode")) ▸ one mode_slot) (λ v. stated_fits v.0 × any_mode v.1) shape (λ v. omega arith) in
    record {
      takes = λ ws mode e.
          let b = bind_ok (read_line (one (fixed_slot (codes "mode")) ▸ one mode_slot) ws) (λ v. Ok v.1) mode e in
          let t = line.takes ws b.0 b.1 in
          subst (λ (k : Mode). (ws ≡ mode_words k) × any_mode k) (ok_is b.0.1 mode b.2) (t.0, t.1.1);
      again = λ mode fits. rw (line.again (tt, mode) (tt, fits)) refl;
      plain = λ mode fits. line.plain (tt, mode) (tt, fits);
      some = λ mode. omega arith;
    }

-- ---- both

abbrev any_head : Option Mode → Type 0
any_head mode = Unit {0}

head_takes : (left : Unread) (mode : Option Mode) (next : Unread) → head_block.read left ≡ Ok (mode, next) → (left.parts ≡ map line_text (head_lines mode) ++ next.parts) × any_head mode
head_takes left mode next e =
    let a = bind_ok (line_at first_line left) mode_behind (mode, next) e in
    let t = (line_law first_line (λ v. version_words (decimal v)) IsVersion first_law).takes left a.0.0 a.0.1 a.1 in
    (by a.0.0 a.0.1 t.0 t.1 a.2, tt)
  where
    by : (v : ℕ) (behind : Unread) → left.parts ≡ line_text (version_words (decimal v)) ∷ behind.parts → IsVersion v → mode_behind (v, behind) ≡ Ok (mode, next) → left.parts ≡ map line_text (head_lines mode) ++ next.parts
    by v behind front (inl is) e =
        let pair = read_is (None, behind) (mode, next) (sym (ap (λ (k : ℕ). mode_behind (k, behind)) is) ∙ e) in
        front ∙ ap (λ (k : ℕ). line_text (version_words (decimal k)) ∷ behind.parts) is ∙ ap (λ (n : List ℕ). line_text (version_words n) ∷ behind.parts) one_is
        ∙ ap (λ (p : Option Mode × Unread). map line_text (head_lines p.0) ++ p.1.parts) pair
    by v behind front (inr is) e =
        let b = bind_ok (line_at mode_line behind) (λ m. Ok (Some m.0, m.1)) (mode, next) (sym (ap (λ (k : ℕ). mode_behind (k, behind)) is) ∙ e) in
        let u = (line_law mode_line mode_words any_mode mode_law).takes behind b.0.0 b.0.1 b.1 in
        let pair = read_is (Some b.0.0, b.0.1) (mode, next) b.2 in
        front ∙ ap (λ (k : ℕ). line_text (version_words (decimal k)) ∷ behind.parts) is ∙ ap (λ (n : List ℕ). line_text (version_words n) ∷ behind.parts) two_is
        ∙ ap (λ (ps : List (List ℕ)). line_text (version_words (codes "2")) ∷ ps) u.0 ∙ ap (λ (p : Option Mode × Unread). map line_text (head_lines p.0) ++ p.1.parts) pair

head_again : (k : ℕ) (parts : List (List ℕ)) (mode : Option Mode) → 0 < length parts → any_head mode
    → (j : ℕ) × (head_block.read (record { number = k; parts = map line_text (head_lines mode) ++ parts }) ≡ Ok (mode, record { number = j; parts = parts }))
head_again k parts None some fits =
    let first = subst (λ (n : List ℕ). line_at first_line (record { number = k; parts = line_text (version_words n) ∷ parts }) ≡ Ok (1, record { number = k + 1; parts = parts })) one_is
    (line_again first_line (λ v. version_words (decimal v)) IsVersion first_law k parts 1 some (inl refl)) in
    (k + 1, rw first refl)
head_again k parts (Some mode) some fits =
    let second = line_again mode_line mode_words any_mode mode_law (k + 1) parts mode some tt in
    (k + 1 + 1, rw second refl)

head_law : IsBlock head_block any_head
head_law = record {
  takes = head_takes;
  again = head_again;
  plain = plain;
}
  where
    plain : (mode : Option Mode) → any_head mode → EachLine (head_lines mode)
    plain None fits = (subst (λ (n : List ℕ). EachPlain (version_words n)) one_is (first_law.plain 1 (inl refl)), tt)
    plain (Some mode) fits = (subst (λ (n : List ℕ). EachPlain (version_words n)) two_is (first_law.plain 2 (inr refl)), (mode_law.plain mode tt, tt))

-- ---- chains

abbrev ion_word : Ion → List ℕ
ion_word i = decimal i.0

not_zero : (few : ℕ) → (few == 0) ≡ false → 0 < few
not_zero zero e = absurd cc
not_zero (suc few) e = omega arith

room_ok : (few n : ℕ) (i : Ion) → where_room few n ≡ Ok i → (0 < few) × (ion n ≡ i)
room_ok few n i e = by_test (few == 0) refl e
  where
    by_test : (t : Bool) → (few == 0) ≡ t → cond t (Err TooMany) (Ok (ion n)) ≡ Ok i → (0 < few) × (ion n ≡ i)
    by_test true is e = absurd cc
    by_test false is e = (not_zero few is, ok_is (ion n) i e)

ions_take : (ws : List (List ℕ)) (few : ℕ) (ions : List Ion) → ions_at few ws ≡ Ok ions → (ws ≡ map ion_word ions) × (length ions ≤ few) × AllByRecursion FitsIon ions
ions_take [] few ions e =
    subst (λ (is : List Ion). ([] ≡ map ion_word is) × (length is ≤ few) × AllByRecursion FitsIon is) (ok_is [] ions e) (refl, omega arith, tt)
ions_take (word ∷ more) few ions e =
    let a = bind_ok (ion_at few word) (λ i. ions_at (few - 1) more >>= λ is. Ok (i ∷ is)) ions e in
    let b = bind_ok (ions_at (few - 1) more) (λ is. Ok (a.0 ∷ is)) ions a.2 in
    let n = bind_ok ((number_slot 65535).read word) (where_room few) a.0 a.1 in
    let t = number_takes 65535 word n.0 (omega arith) n.1 in
    let room = room_ok few n.0 a.0 n.2 in
    let rest = ions_take more (few - 1) b.0 b.1 in
    let some : 0 < few = room.0 in
    let first : (word ≡ ion_word a.0) × FitsIon a.0 = subst (λ (i : Ion). (word ≡ ion_word i) × FitsIon i) room.1 t in
    let made : word ∷ more ≡ ion_word a.0 ∷ map ion_word b.0 = ap (λ (w : List ℕ). w ∷ more) first.0 ∙ ap (λ (ws : List (List ℕ)). ion_word a.0 ∷ ws) rest.0 in
    subst (λ (is : List Ion). (word ∷ more ≡ map ion_word is) × (length is ≤ few) × AllByRecursion FitsIon is) (ok_is (a.0 ∷ b.0) ions b.2) (made, omega (arith, rest.1), (first.1, rest.2))

ions_again : (ions : List Ion) (few : ℕ) → length ions ≤ few → AllByRecursion FitsIon ions → ions_at few (map ion_word ions) ≡ Ok ions
ions_again [] few le fits = refl
ions_again (i ∷ ions) few le fits =
    let room : (few == 0) ≡ false = ne_eqb few 0 (λ is. absurd (omega arith)) in
    rw (number_again 65535 i.0 (omega arith) fits.0, room, ions_again ions (few - 1) (omega arith) fits.1) refl

ions_plain : (ions : List Ion) → AllByRecursion FitsIon ions → EachPlain (map ion_word ions)
ions_plain [] fits = tt
ions_plain (i ∷ ions) fits = (plain_digits (decimal i.0) (digits_decimal own i.0 (omega (arith, fits.0))), ions_plain ions fits.1)

next_trap_law : (t : ℕ) → t ≤ 255 → IsSlot (next_trap_slot t) (λ n. n ≡ t)
next_trap_law t small = record {
  takes = λ word n e.
      let b = bind_ok (lettered 84 255 word) (next_only t) n e in
      let u = letter_takes 84 255 word b.0 (omega arith) b.1 in
      let v = next_ok t b.0 n b.2 in
      subst (λ (k : ℕ). (word ≡ 84 ∷ decimal k) × (k ≡ t)) v.1 (u.0, v.0);
  again = λ n is. rw is (rw (letter_again 84 255 t (omega arith) small, same t) refl);
  plain = λ n is. rw is (plain_digits (decimal t) (digits_decimal own t (omega arith)));
}

chain_takes : (t : ℕ) → t ≤ 255 → (ws : List (List ℕ)) (ions : List Ion) → chain_line t ws ≡ Ok ions → (ws ≡ chain_words t ions) × FitsChain ions
chain_takes t small ws ions e =
    let a = bind_ok (read_one (next_trap_slot t) ws) (λ first. ions_at 256 first.1) ions e in
    let first = (one_law (next_trap_slot t) (λ n. n ≡ t) (next_trap_law t small)).takes ws a.0.0 a.0.1 a.1 in
    let rest = ions_take a.0.1 256 ions a.2 in
    (first.0 ∙ ap (λ (n : ℕ). (84 ∷ decimal n) ∷ a.0.1) first.1 ∙ ap (λ (ws : List (List ℕ)). (84 ∷ decimal t) ∷ ws) rest.0, record { few = rest.1; ions = rest.2 })

pub chain_law : (t : ℕ) → t ≤ 255 → IsLine (chain_line t) (chain_words t) FitsChain
chain_law t small = record {
  takes = chain_takes t small;
  again = λ ions fits. rw ((one_law (next_trap_slot t) (λ n. n ≡ t) (next_trap_law t small)).again t (map ion_word ions) refl) (ions_again ions 256 fits.few fits.ions);
  plain = λ ions fits. (((one_law (next_trap_slot t) (λ n. n ≡ t) (next_trap_law t small)).plain t refl).0, ions_plain ions fits.ions);
  some = λ ions. omega arith;
}

-- ---- the lines of operations, from how operations are read

next_law : (k : ℕ) → k ≤ greatest → IsSlot (next_slot greatest k) (λ n. n ≡ k)
next_law k small = record {
  takes = λ word n e.
      let b = bind_ok ((number_slot greatest).read word) (next_only k) n e in
      let u = number_takes greatest word b.0 (omega arith) b.1 in
      let v = next_ok k b.0 n b.2 in
      subst (λ (m : ℕ). (word ≡ decimal m) × (m ≡ k)) v.1 (u.0, v.0);
  again = λ n is. rw is (rw (number_again greatest k (omega arith) small, same k) refl);
  plain = λ n is. rw is (plain_digits (decimal k) (digits_decimal own k (omega arith)));
}

pub op_line_law : (k : ℕ) → k ≤ greatest → IsLine (op_line k) (op_line_words k) FitsOp
op_line_law k small = record {
  takes = λ ws op e.
      let a = bind_ok (read_one (next_slot greatest k) ws) (λ first. read_op first.1) op e in
      let first = (one_law (next_slot greatest k) (λ n. n ≡ k) (next_law k small)).takes ws a.0.0 a.0.1 a.1 in
      let rest = op_law.takes a.0.1 op a.2 in
      (first.0 ∙ ap (λ (n : ℕ). decimal n ∷ a.0.1) first.1 ∙ ap (λ (ws : List (List ℕ)). decimal k ∷ ws) rest.0, rest.1);
  again = λ op fits. rw ((one_law (next_slot greatest k) (λ n. n ≡ k) (next_law k small)).again k (op_words op) refl) (op_law.again op fits);
  plain = λ op fits. (((one_law (next_slot greatest k) (λ n. n ≡ k) (next_law k small)).plain k refl).0, op_law.plain op fits);
  some = λ op. omega arith;
}

-- ---- counted lines

pub counted_law : {A : Type 0} (name : List ℕ) (many : ℕ) (read : ℕ → List (List ℕ) → Result A AsmKind) (words : ℕ → A → List (List ℕ)) (Fits : A → Type 0)
    → is_plain name ≡ true → many ≤ greatest → ((k : ℕ) → k < many → IsLine (read k) (words k) Fits) → IsBlock (counted name many read words) (λ values. (length values ≤ many) × AllByRecursion Fits values)
counted_law {A} name many read words Fits plain small law =
    let head = line_law (size_line name many) (size_words name) (λ n. n ≤ many) (size_line_law name many plain small) in
    record {
      takes = λ left values next e.
          let n = bind_ok (line_at (size_line name many) left) (λ n. numbered read n.0 0 n.1) (values, next) e in
          let t = head.takes left n.0.0 n.0.1 n.1 in
          let u = numbered_takes read words Fits many law n.0.0 0 n.0.1 values next (omega (arith, t.1)) n.2 in
          (t.0 ∙ ap (λ (k : ℕ). line_text (size_words name k) ∷ n.0.1.parts) (sym u.1) ∙ ap (λ (ps : List (List ℕ)). line_text (size_words name (length values)) ∷ ps) u.0, (omega (arith, t.1, u.1), u.2));
      again = λ k parts values some fits.
          let rest = map line_text (numbered_lines words 0 values) ++ parts in
          let a = head.again k rest (length values) (some_behind (map line_text (numbered_lines words 0 values)) parts some) fits.0 in
          let b = numbered_again read words Fits many law values 0 a.0 parts (omega (arith, fits.0)) some fits.1 in
          (b.0, rw (a.1, b.1) refl);
      plain = λ values fits. ((head.plain (length values) fits.0).0, numbered_plain read words Fits many law values 0 (omega (arith, fits.0)) fits.1);
    }

-- ---- the whole text

abbrev BlockFits : Option Mode × (ℕ × (ℕ × (List (List Ion) × (List OpKind × Unit {0})))) → Type 0
BlockFits v = any_head v.0 × ((v.1.0 ≤ 256) × ((v.1.1.0 ≤ 256) × (((length v.1.1.1.0 ≤ 32) × AllByRecursion FitsChain v.1.1.1.0) × (((length v.1.1.1.1.0 ≤ 4194304) × AllByRecursion FitsOp v.1.1.1.1.0) × stated_fits v.1.1.1.1.1))))

program_law : IsBlock program_block BlockFits
program_law =
    let qubits = line_law (size_line (codes "qubits") 256) (size_words (codes "qubits")) (λ n. n ≤ 256) (size_line_law (codes "qubits") 256 refl (omega arith)) in
    let bits = line_law (size_line (codes "bits") 256) (size_words (codes "bits")) (λ n. n ≤ 256) (size_line_law (codes "bits") 256 refl (omega arith)) in
    let chains = counted_law (codes "traps") 32 chain_line chain_words FitsChain refl (omega arith) (λ t below. chain_law t (omega arith)) in
    let ops = counted_law (codes "ops") 4194304 op_line op_line_words FitsOp refl (omega arith) (λ k below. op_line_law k (omega arith)) in
    let last = line_law end_line end_words stated_fits end_law in
    let from_ops = then_law (counted (codes "ops") 4194304 op_line op_line_words) (λ ops. line_block end_line end_words) (λ ops. (length ops ≤ 4194304) × AllByRecursion FitsOp ops) (λ ops u. stated_fits u) ops (λ v f. last) in
    let from_chains = then_law (counted (codes "traps") 32 chain_line chain_words) (λ chains. counted (codes "ops") 4194304 op_line op_line_words ▹ λ ops. line_block end_line end_words) (λ cs. (length cs ≤ 32) × AllByRecursion FitsChain cs) (λ cs v. ((length v.0 ≤ 4194304) × AllByRecursion FitsOp v.0) × stated_fits v.1) chains (λ v f. from_ops) in
    let from_bits = then_law (size (codes "bits") 256) (λ bits. counted (codes "traps") 32 chain_line chain_words ▹ λ chains. counted (codes "ops") 4194304 op_line op_line_words ▹ λ ops. line_block end_line end_words) (λ n. n ≤ 256) (λ n v. ((length v.0 ≤ 32) × AllByRecursion FitsChain v.0) × (((length v.1.0 ≤ 4194304) × AllByRecursion FitsOp v.1.0) × stated_fits v.1.1)) bits (λ v f. from_chains) in
    let from_qubits = then_law (size (codes "qubits") 256) (λ qubits. size (codes "bits") 256 ▹ λ bits. counted (codes "traps") 32 chain_line chain_words ▹ λ chains. counted (codes "ops") 4194304 op_line op_line_words ▹ λ ops. line_block end_line end_words) (λ n. n ≤ 256) (λ n v. (v.0 ≤ 256) × (((length v.1.0 ≤ 32) × AllByRecursion FitsChain v.1.0) × (((length v.1.1.0 ≤ 4194304) × AllByRecursion FitsOp v.1.1.0) × stated_fits v.1.1.1))) qubits (λ v f. from_bits) in
    then_law head_block (λ mode. size (codes "qubits") 256 ▹ λ qubits. size (codes "bits") 256 ▹ λ bits. counted (codes "traps") 32 chain_line chain_words ▹ λ chains. counted (codes "ops") 4194304 op_line op_line_words ▹ λ ops. line_block end_line end_words) any_head
    (λ n v. (v.0 ≤ 256) × ((v.1.0 ≤ 256) × (((length v.1.1.0 ≤ 32) × AllByRecursion FitsChain v.1.1.0) × (((length v.1.1.1.0 ≤ 4194304) × AllByRecursion FitsOp v.1.1.1.0) × stated_fits v.1.1.1.1)))) head_law (λ v f. from_qubits)

-- the text of a raw program is read as it
pub text_again : (raw : RawData) → FitsRaw raw → read_text (raw_text raw) ≡ Ok raw
unfolding read_text raw_text
text_again raw fits =
    let e = all_again program_block (BlockFits) (program_law) (value_of raw) (tt, (fits.qubits, (fits.bits, ((fits.traps, fits.chains), ((fits.few_ops, fits.ops), tt))))) in
    rw e refl

-- and what is read is the text of its value
pub text_takes : (text : List ℕ) (raw : RawData) → read_text text ≡ Ok raw → (text ≡ raw_text raw) × FitsRaw raw
unfolding read_text raw_text
text_takes text raw e =
    let b = bind_ok (read_all program_block text) (λ v. Ok (raw_of v)) raw e in
    let t = all_takes program_block (BlockFits) (program_law) text b.0 b.1 in
    let fits : FitsRaw (raw_of b.0) = record { qubits = t.1.1.0; bits = t.1.1.1.0; traps = t.1.1.1.1.0.0; chains = t.1.1.1.1.0.1; few_ops = t.1.1.1.1.1.0.0; ops = t.1.1.1.1.1.0.1 } in
    subst (λ (r : RawData). (text ≡ lines_text (program_block.lines (value_of r))) × FitsRaw r) (read_is (raw_of b.0) raw b.2) (t.0, fits)
