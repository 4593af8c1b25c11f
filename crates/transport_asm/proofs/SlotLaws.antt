-- Slots and shapes: what is read is the text of its value, and the text of a value is read as that value.
use Rattle.std.proofs.Common.{◌≡◌, ℕ, ◌^◌, ◌<◌, ◌≤◌, Bool, true, false, not, ◌&&◌, ◌||◌, ◌==◌, List, [], ◌∷◌, ◌++◌, decimal, codes, Result, Ok, Err, refl, sym, ap, ◌∙◌, subst, arith, inl, inr, append_assoc}
use Rattle.std.specs.Prelude.{bytes_eq}
use Rattle.std.specs.Char.{is_ascii_digit}
use Rattle.std.specs.List.{list_all, AllByRecursion}
use Rattle.std.proofs.lemmas.Bool.{and_parts, eqb-true, leb-true, ne_eqb}
use Rattle.std.proofs.lemmas.Bool.Decides.{eqb_tells}
use Rattle.std.proofs.lemmas.Slice.Eq.{bytes_eq-Decides}
use Rattle.transport_asm.proofs.WideDigits.{digits_wide}
use Rattle.qccd_base.specs.declared.names.End.{End}
use Rattle.qccd_base.specs.declared.names.End.TheVariants.{Left, Right}
use Rattle.qccd_base.specs.Names.{trap, segment, junction}
use Rattle.op_text.specs.OpText.{end_text}
use Rattle.op_text.specs.declared.kind.AsmKind.{AsmKind}
use Rattle.op_text.specs.declared.kind.AsmKind.TheVariants.{Word, Number}
use Rattle.op_text.specs.Steps.{◌>>=◌, judged}
use Rattle.op_text.specs.Slots.{Slot, number_in, number_slot, lettered, trap_slot, segment_slot, junction_slot, end_slot, end_in}
use Rattle.op_text.specs.Shapes.{Shape, one, ◌▸◌}
use Rattle.transport_asm.proofs.Numbers.{own, two_pass, inside, decimal-number_in, number_takes, number_again, are_digits-decimal, is_outside-decimal, number_in-decimal}

-- ---- steps

pub bind_ok : {A B E : Type 0} (r : Result A E) (f : A → Result B E) (y : B) → (r >>= f) ≡ Ok y → (x : A) × (r ≡ Ok x) × (f x ≡ Ok y)
bind_ok (Ok x) f y e = (x, refl, e)
bind_ok (Err d) f y e = absurd cc

abbrev done : {A E : Type 0} → A → Result A E
done x = Ok x

pub ok_is : {A : Type 0} (x y : A) → done {E = AsmKind} x ≡ done y → x ≡ y
ok_is x y e = cc

-- ---- the laws

-- neither a space nor a line feed
abbrev pub is_plain_byte : ℕ → Bool
is_plain_byte b = not (b == 32) && not (b == 10)

abbrev pub is_plain : List ℕ → Bool
is_plain word = list_all is_plain_byte word

abbrev pub EachPlain : List (List ℕ) → Type 0
EachPlain words = AllByRecursion (λ word. is_plain word ≡ true) words

pub record IsSlot {A : Type 0} (s : Slot A) (Fits : A → Type 0) : Type 0 where
  pub takes : (word : List ℕ) (value : A) → s.read word ≡ Ok value → (word ≡ s.text value) × Fits value
  pub again : (value : A) → Fits value → s.read (s.text value) ≡ Ok value
  pub plain : (value : A) → Fits value → is_plain (s.text value) ≡ true

pub record IsShape {A : Type 0} (p : Shape A) (Fits : A → Type 0) : Type 0 where
  pub takes : (words : List (List ℕ)) (value : A) (rest : List (List ℕ)) → p.read words ≡ Ok (value, rest) → (words ≡ p.words value ++ rest) × Fits value
  pub again : (value : A) (rest : List (List ℕ)) → Fits value → p.read (p.words value ++ rest) ≡ Ok (value, rest)
  pub plain : (value : A) → Fits value → EachPlain (p.words value)

-- ---- shapes

one_takes : {A : Type 0} (s : Slot A) (Fits : A → Type 0) → IsSlot s Fits → (words : List (List ℕ)) (value : A) (rest : List (List ℕ)) → (one s).read words ≡ Ok (value, rest) → (words ≡ s.text value ∷ rest) × Fits value
one_takes s Fits law [] value rest e = absurd cc
one_takes {A} s Fits law (word ∷ more) value rest e =
    let b = bind_ok (s.read word) (λ v. Ok (v, more)) (value, rest) e in
    let parts = ok_is (b.0, more) (value, rest) b.2 in
    let v-is : b.0 ≡ value = ap (λ (x : A × List (List ℕ)). x.0) parts in
    let rest-is : more ≡ rest = ap (λ (x : A × List (List ℕ)). x.1) parts in
    let t = law.takes word value (b.1 ∙ ap (λ (v : A). Ok v) v-is) in
    (ap (λ (w : List ℕ). w ∷ more) t.0 ∙ ap (λ (ws : List (List ℕ)). s.text value ∷ ws) rest-is, t.1)

pub one_law : {A : Type 0} (s : Slot A) (Fits : A → Type 0) → IsSlot s Fits → IsShape (one s) Fits
one_law s Fits law = record {
  takes = one_takes s Fits law;
  again = λ value rest fits. rw (law.again value fits) refl;
  plain = λ value fits. (law.plain value fits, tt);
}

both_takes : {A B : Type 0} (p : Shape A) (q : Shape B) (F : A → Type 0) (G : B → Type 0) → IsShape p F → IsShape q G
    → (words : List (List ℕ)) (value : A × B) (rest : List (List ℕ)) → (p ▸ q).read words ≡ Ok (value, rest) → (words ≡ (p ▸ q).words value ++ rest) × (F value.0 × G value.1)
both_takes {A} {B} p q F G first second words value rest e =
    let a = bind_ok (p.read words) (λ a. q.read a.1 >>= λ b. Ok ((a.0, b.0), b.1)) (value, rest) e in
    let b = bind_ok (q.read a.0.1) (λ b. Ok ((a.0.0, b.0), b.1)) (value, rest) a.2 in
    let t = first.takes words a.0.0 a.0.1 a.1 in
    let u = second.takes a.0.1 b.0.0 b.0.1 b.1 in
    let made : words ≡ (p.words a.0.0 ++ q.words b.0.0) ++ b.0.1 = t.0 ∙ ap (λ (ws : List (List ℕ)). p.words a.0.0 ++ ws) u.0 ∙ sym (append_assoc (p.words a.0.0) (q.words b.0.0) b.0.1) in
    subst (λ (v : (A × B) × List (List ℕ)). (words ≡ (p ▸ q).words v.0 ++ v.1) × (F v.0.0 × G v.0.1)) (ok_is ((a.0.0, b.0.0), b.0.1) (value, rest) b.2) (made, (t.1, u.1))

EachPlain-append : (ws vs : List (List ℕ)) → EachPlain ws → EachPlain vs → EachPlain (ws ++ vs)
EachPlain-append [] vs f g = g
EachPlain-append (w ∷ ws) vs f g = (f.0, EachPlain-append ws vs f.1 g)

pub both_law : {A B : Type 0} (p : Shape A) (q : Shape B) (F : A → Type 0) (G : B → Type 0) → IsShape p F → IsShape q G → IsShape (p ▸ q) (λ v. F v.0 × G v.1)
both_law p q F G first second = record {
  takes = both_takes p q F G first second;
  again = λ value rest fits.
      ap (p ▸ q).read (append_assoc (p.words value.0) (q.words value.1) rest)
      ∙ rw (first.again value.0 (q.words value.1 ++ rest) fits.0, second.again value.1 rest fits.1) refl;
  plain = λ value fits. EachPlain-append (p.words value.0) (q.words value.1) (first.plain value.0 fits.0) (second.plain value.1 fits.1);
}

-- ---- slots

pub plain_digits : (ds : List ℕ) → list_all is_ascii_digit ds ≡ true → is_plain ds ≡ true
plain_digits [] all = refl
plain_digits (d ∷ ds) all = let parts = and_parts _ _ all in rw (plain_digit d parts.0, plain_digits ds parts.1) refl
  where
    plain_digit : (d : ℕ) → is_ascii_digit d ≡ true → is_plain_byte d ≡ true
    plain_digit d digit =
        let range = and_parts _ _ digit in
        let low : 48 ≤ d = leb-true _ _ range.0 in
        rw (ne_eqb d 32 (λ is. absurd (omega arith)), ne_eqb d 10 (λ is. absurd (omega arith))) refl

pub number_law : (most : ℕ) → most < 10 ^ 64 → IsSlot (number_slot most) (λ n. n ≤ most)
number_law most small = record {
  takes = λ word n e. number_takes most word n small e;
  again = λ n le. number_again most n small le;
  plain = λ n le. plain_digits (decimal n) (digits_wide own n (omega arith));
}

pub letter_takes : (letter most : ℕ) (word : List ℕ) (n : ℕ) → most < 10 ^ 64 → lettered letter most word ≡ Ok n → (word ≡ letter ∷ decimal n) × (n ≤ most)
letter_takes letter most [] n small e = absurd cc
letter_takes letter most (c ∷ digits) n small e =
    let passed = two_pass _ _ Number Word (number_in digits) n e in
    let test = inside _ _ passed.0 passed.1 in
    let form = and_parts _ _ test.0 in
    let both = decimal-number_in most digits small form.1 test.1 in
    let first : c ≡ letter = eqb-true _ _ form.0 in
    subst (λ (k : ℕ). (c ∷ digits ≡ letter ∷ decimal k) × (k ≤ most)) passed.2 (ap (λ (l : ℕ). l ∷ digits) first ∙ ap (λ (ds : List ℕ). letter ∷ ds) both.0, both.1)

same : (c : ℕ) → (c == c) ≡ true
same c = elim (eqb_tells c c) [ inl is ↦ is.0 | inr other ↦ absurd (other.1 refl) ]

pub letter_again : (letter most n : ℕ) → most < 10 ^ 64 → n ≤ most → lettered letter most (letter ∷ decimal n) ≡ Ok n
letter_again letter most n small le =
    let below : n < 10 ^ 64 = omega arith in
    rw (same letter, are_digits-decimal n below, is_outside-decimal most n below le, number_in-decimal n below) refl

-- a letter and a number, as a value of one number
pub letter_law : {A : Type 0} (letter most : ℕ) (make : ℕ → A) (number : A → ℕ) → ((n : ℕ) → number (make n) ≡ n) → ((a : A) → make (number a) ≡ a) → most < 10 ^ 64 → is_plain_byte letter ≡ true
    → IsSlot (record { read = λ word. lettered letter most word >>= λ n. Ok (make n); text = λ a. letter ∷ decimal (number a) }) (λ a. number a ≤ most)
letter_law {A} letter most make number there back small plain = record {
  takes = λ word value e.
      let b = bind_ok (lettered letter most word) (λ n. Ok (make n)) value e in
      let is : make b.0 ≡ value = ok_is (make b.0) value b.2 in
      let t = letter_takes letter most word b.0 small b.1 in
      subst (λ (a : A). (word ≡ letter ∷ decimal (number a)) × (number a ≤ most)) is (t.0 ∙ ap (λ (n : ℕ). letter ∷ decimal n) (sym (there b.0)), rw there t.1);
  again = λ value fits. rw (letter_again letter most (number value) small fits) (ap (λ (a : A). Ok a) (back value));
  plain = λ value fits. rw (plain, plain_digits (decimal (number value)) (digits_wide own (number value) (omega arith))) refl;
}

pub trap_law : IsSlot trap_slot (λ t. t.0 ≤ 255)
trap_law = letter_law 84 255 trap (λ t. t.0) (λ n. refl) (λ t. refl) (omega arith) refl

pub segment_law : IsSlot segment_slot (λ g. g.0 ≤ 255)
segment_law = letter_law 83 255 segment (λ g. g.0) (λ n. refl) (λ g. refl) (omega arith) refl

pub junction_law : IsSlot junction_slot (λ j. j.0 ≤ 255)
junction_law = letter_law 74 255 junction (λ j. j.0) (λ n. refl) (λ j. refl) (omega arith) refl

-- ---- ends

pub one_passes : {A : Type 0} (a : Bool) (k : AsmKind) (x y : A) → judged ((k, a) ∷ []) x ≡ Ok y → (a ≡ false) × (x ≡ y)
one_passes true k x y e = absurd cc
one_passes false k x y e = (refl, cc)

end_text_of : (word : List ℕ) (l r : Bool) → bytes_eq word (codes "left") ≡ l → bytes_eq word (codes "right") ≡ r → not (l || r) ≡ false → word ≡ end_text (end_in word)
end_text_of word true r is_left is_right some = rw is_left ((bytes_eq-Decides word (codes "left")).0 is_left)
end_text_of word false true is_left is_right some = rw is_left ((bytes_eq-Decides word (codes "right")).0 is_right)
end_text_of word false false is_left is_right some = absurd cc

end_again : (e : End) → end_slot.read (end_text e) ≡ Ok e
end_again Left = refl
end_again Right = refl

end_plain : (e : End) → is_plain (end_text e) ≡ true
end_plain Left = refl
end_plain Right = refl

pub end_law : IsSlot end_slot (λ e. Unit {0})
end_law = record {
  takes = λ word value e.
      let passed = one_passes _ Word (end_in word) value e in
      (end_text_of word _ _ refl refl passed.0 ∙ ap end_text passed.1, tt);
  again = λ value fits. end_again value;
  plain = λ value fits. end_plain value;
}
