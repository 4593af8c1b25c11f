-- The longest tokens by how many bytes they take, as the code finds them.
use Rattle.std.proofs.Common.{◌≡◌, ℕ, suc, zero, ◌+◌, ◌-◌, ◌<◌, ◌≤◌, Bool, true, false, IsTrue, cond, inl, inr, ◌⊎◌, List, [], ◌∷◌, ◌++◌, length, get_or, take, drop, refl, sym, ap, ◌∙◌, subst, arith}
use Rattle.std.specs.Prelude.{◌==◌}
use Rattle.std.specs.Char.{is_ascii_alphabetic, is_ascii_digit}
use Rattle.std.specs.List.{list_all, prefix_len}
use Rattle.std.proofs.lemmas.Bool.{and_from, and_parts, cases_lt, or_from, cond-true, cond-false, eqb-true, false≢true}
use Rattle.std.proofs.lemmas.List.{append_assoc, append-nil, length-append, length-take-le, take_at, drop_at, take_rest, take-append-drop, drop-drop}
use Rattle.std.proofs.lemmas.List.Folds.{list_all-append}
use Rattle.std.proofs.lemmas.List.Sums.{prefix_len-le-length}
use Rattle.qasm_lex.specs.declared.tokens.TokenKind.{TokenKind}
use Rattle.qasm_lex.specs.declared.tokens.TokenKind.TheVariants.{Word, Int, Real, Text}
use Rattle.qasm_lex.specs.Runs.{begins, begins_pair}
use Rattle.qasm_lex.specs.Tokens.{BeginsNoToken, IsLongest, IsToken, are_digits, is_exponent, is_exponent_letter, is_sign_byte, is_text_byte, is_word, is_word_byte}
use Rattle.qasm_lex.specs.Fronts.{ExponentAtFront, IsPerhapsExponent, TokenAtFront, begins_no_long, begins_number, fraction_size, sign_size}
use Rattle.qasm_lex.proofs.RunLemmas.{IsRun, heads, run_at, run_longest-length, sizes, tails}
use Rattle.qasm_lex.proofs.NumberLemmas.{digits_from, lone_point, longest_int, longest_power, longest_real, no_exponent, no_plain_exponent, no_signed_exponent, plain_exponent, signed_exponent}
use Rattle.qasm_lex.proofs.TokenLemmas.{longest_short, longest_text, longest_word, no_sign, open_text}

-- the bytes of a front are as many as it is long
pub at_front :
    (text : List ℕ) (kind : TokenKind) (bytes follows : List ℕ) (n : ℕ) → text ≡ bytes ++ follows → length bytes ≡ n → IsLongest kind bytes follows
    → TokenAtFront text kind n
at_front text kind bytes follows n is len longest =
    let front : take n text ≡ bytes = ap (take n) is ∙ take_at bytes follows n len in
    let rest : drop n text ≡ follows = ap (drop n) is ∙ drop_at bytes follows n len in
    record {
      fits = omega (arith, ap length is, length-append bytes follows);
      is_longest = subst (λ (t : List ℕ). IsLongest kind t (drop n text)) (sym front) (subst (λ (t : List ℕ). IsLongest kind bytes t) (sym rest) longest);
    }

exponent_at :
    (text bytes follows : List ℕ) (n : ℕ) → text ≡ bytes ++ follows → length bytes ≡ n → IsPerhapsExponent bytes follows → ExponentAtFront text n
exponent_at text bytes follows n is len longest =
    let front : take n text ≡ bytes = ap (take n) is ∙ take_at bytes follows n len in
    let rest : drop n text ≡ follows = ap (drop n) is ∙ drop_at bytes follows n len in
    record {
      fits = omega (arith, ap length is, length-append bytes follows);
      is_longest = subst (λ (t : List ℕ). IsPerhapsExponent t (drop n text)) (sym front) (subst (λ (t : List ℕ). IsPerhapsExponent bytes t) (sym rest) longest);
    }

-- a run that is cut from a text is one of its rest
record IsCut (p : ℕ → Bool) (rest : List ℕ) (n : ℕ) : Type 0 where
  len : length (take n rest) ≡ n
  run : IsRun p (take n rest) (drop n rest)
  rest_is : take n rest ++ drop n rest ≡ rest

cut : (p : ℕ → Bool) (rest : List ℕ) (n : ℕ) → n ≡ prefix_len p rest → IsCut p rest n
cut p rest n is =
    subst (λ (k : ℕ). IsCut p rest k) (sym is)
    (record {
      len = length-take-le (prefix_len p rest) rest (prefix_len-le-length p rest);
      run = run_at p rest;
      rest_is = take-append-drop (prefix_len p rest) rest;
    })

-- ---- words and strings

pub word_at_front : (text : List ℕ) (n : ℕ) → begins is_ascii_alphabetic text ≡ true → n ≡ prefix_len is_word_byte text → TokenAtFront text Word n
word_at_front text n letter is =
    let found = cut is_word_byte text n is in
    at_front text Word (take n text) (drop n text) n (sym found.rest_is) found.len
    (longest_word (take n text) (drop n text) found.run (ap (begins is_ascii_alphabetic) found.rest_is ∙ letter))

-- a word begins with a letter
pub word_begins : (text : List ℕ) (len : ℕ) → begins is_ascii_alphabetic text ≡ false → TokenAtFront text Word len → ⊥
word_begins text len other token = by_letter text len other token.is_longest.token
  where
    by_letter : (text : List ℕ) (len : ℕ) → begins is_ascii_alphabetic text ≡ false → is_word (take len text) ≡ true → ⊥
    by_letter [] zero other all = false≢true all
    by_letter [] (suc len) other all = false≢true all
    by_letter (c ∷ rest) zero other all = false≢true all
    by_letter (c ∷ rest) (suc len) other all = false≢true (sym other ∙ (and_parts (is_ascii_alphabetic c) (list_all is_word_byte (take len rest)) all).0)

-- a text that begins with a byte is that byte and a rest
split_first : (c : ℕ) (text : List ℕ) → begins (λ b. b == c) text ≡ true → text ≡ c ∷ drop 1 text
split_first c [] is = absurd (false≢true is)
split_first c (d ∷ rest) is = ap (λ (b : ℕ). b ∷ rest) (eqb-true d c is)

-- the run behind the first byte, as the code cuts it
inner_run : (p : ℕ → Bool) (text : List ℕ) (n : ℕ) → n ≡ prefix_len p (take (length text - 1) (drop 1 text)) → IsCut p (drop 1 text) n
inner_run p text n is = cut p (drop 1 text) n (is ∙ ap (prefix_len p) (take_rest text 1))

behind : (p : ℕ → Bool) (text : List ℕ) (n : ℕ) (b : Bool) → begins p (take (length text - (1 + n)) (drop (1 + n) text)) ≡ b → begins p (drop n (drop 1 text)) ≡ b
behind p text n b is = ap (begins p) (drop-drop n 1 text ∙ sym (take_rest text (1 + n))) ∙ is

pub text_at_front :
    (text : List ℕ) (n : ℕ) → begins (λ c. c == 34) text ≡ true → n ≡ prefix_len is_text_byte (take (length text - 1) (drop 1 text))
    → begins (λ c. c == 34) (take (length text - (1 + n)) (drop (1 + n) text)) ≡ true → TokenAtFront text Text (n + 2)
text_at_front text n quote is close =
    let found = inner_run is_text_byte text n is in
    let inner = take n (drop 1 text) in
    let last = split_first 34 (drop n (drop 1 text)) (behind (λ c. c == 34) text n true close) in
    let follows = drop 1 (drop n (drop 1 text)) in
    let text_is : text ≡ 34 ∷ ((inner ++ 34 ∷ []) ++ follows) =
    split_first 34 text quote
    ∙ ap (λ (t : List ℕ). 34 ∷ t) (sym found.rest_is ∙ ap (λ (t : List ℕ). inner ++ t) last ∙ sym (append_assoc inner (34 ∷ []) follows)) in
    at_front text Text (34 ∷ (inner ++ 34 ∷ [])) follows (n + 2) text_is (omega (arith, found.len, length-append inner (34 ∷ [])))
    (longest_text inner follows found.run.passes)

pub open_at_front :
    (text : List ℕ) (n : ℕ) → begins (λ c. c == 34) text ≡ true → n ≡ prefix_len is_text_byte (take (length text - 1) (drop 1 text))
    → begins (λ c. c == 34) (take (length text - (1 + n)) (drop (1 + n) text)) ≡ false → BeginsNoToken text
open_at_front text n quote is close =
    let found = inner_run is_text_byte text n is in
    let inner = take n (drop 1 text) in
    let follows = drop n (drop 1 text) in
    subst BeginsNoToken (sym (split_first 34 text quote ∙ ap (λ (t : List ℕ). 34 ∷ t) (sym found.rest_is)))
    (open_text inner follows found.run (behind (λ c. c == 34) text n false close))

-- ---- exponents

-- the digits behind the letter and the sign, as the code cuts them
digits_behind :
    (text : List ℕ) (s n : ℕ) → n ≡ prefix_len is_ascii_digit (take (length text - (1 + s)) (drop (1 + s) text))
    → IsCut is_ascii_digit (drop (1 + s) text) n
digits_behind text s n is = cut is_ascii_digit (drop (1 + s) text) n (is ∙ ap (prefix_len is_ascii_digit) (take_rest text (1 + s)))

signed_front :
    (e c : ℕ) (rest : List ℕ) (n : ℕ) → is_exponent_letter e ≡ true → is_sign_byte c ≡ true → IsCut is_ascii_digit rest n → 0 < n
    → ExponentAtFront (e ∷ c ∷ rest) (2 + n)
signed_front e c rest n letter sign found some =
    exponent_at (e ∷ c ∷ rest) (e ∷ c ∷ take n rest) (drop n rest) (2 + n) (ap (λ (t : List ℕ). e ∷ c ∷ t) (sym found.rest_is)) (omega (arith, found.len))
    (signed_exponent e c (take n rest) (drop n rest) letter sign found.run (omega (arith, found.len)))

plain_front :
    (e : ℕ) (rest : List ℕ) (n : ℕ) → is_exponent_letter e ≡ true → IsCut is_ascii_digit rest n → 0 < n → ExponentAtFront (e ∷ rest) (1 + n)
plain_front e rest n letter found some =
    exponent_at (e ∷ rest) (e ∷ take n rest) (drop n rest) (1 + n) (ap (λ (t : List ℕ). e ∷ t) (sym found.rest_is)) (omega (arith, found.len))
    (plain_exponent e (take n rest) (drop n rest) letter found.run (omega (arith, found.len)))

none_front : (text : List ℕ) → IsPerhapsExponent [] text → ExponentAtFront text 0
none_front text none = record { fits = omega arith; is_longest = none }

-- the letter, and digits behind the sign
pub exponent_found :
    (text : List ℕ) (s n : ℕ) → begins is_exponent_letter text ≡ true → s ≡ sign_size (take (length text - 1) (drop 1 text))
    → n ≡ prefix_len is_ascii_digit (take (length text - (1 + s)) (drop (1 + s) text)) → 0 < n → ExponentAtFront text (1 + s + n)
exponent_found [] s n letter sign is some = absurd (false≢true letter)
exponent_found (e ∷ power) s n letter sign is some =
    by_sign (begins is_sign_byte power) power letter s n (sign ∙ ap sign_size (take_rest (e ∷ power) 1)) refl (digits_behind (e ∷ power) s n is) some
  where
    by_sign :
        (b : Bool) (power : List ℕ) → is_exponent_letter e ≡ true → (s n : ℕ) → s ≡ sign_size power → begins is_sign_byte power ≡ b
        → IsCut is_ascii_digit (drop (1 + s) (e ∷ power)) n → 0 < n → ExponentAtFront (e ∷ power) (1 + s + n)
    by_sign true [] letter s n size sign found some = absurd (false≢true sign)
    by_sign true (c ∷ rest) letter s n size sign found some =
        let one : s ≡ 1 = size ∙ cond-true (is_sign_byte c) 1 0 sign in
        subst (λ (k : ℕ). ExponentAtFront (e ∷ c ∷ rest) (1 + k + n)) (sym one)
        (signed_front e c rest n letter sign (subst (λ (k : ℕ). IsCut is_ascii_digit (drop (1 + k) (e ∷ c ∷ rest)) n) one found) some)
    by_sign false power letter s n size sign found some =
        let zero_is : s ≡ 0 = size ∙ cond-false (begins is_sign_byte power) 1 0 sign in
        subst (λ (k : ℕ). ExponentAtFront (e ∷ power) (1 + k + n)) (sym zero_is)
        (plain_front e power n letter (subst (λ (k : ℕ). IsCut is_ascii_digit (drop (1 + k) (e ∷ power)) n) zero_is found) some)

-- the letter, and no digits behind the sign
pub exponent_lacking :
    (text : List ℕ) (s n : ℕ) → begins is_exponent_letter text ≡ true → s ≡ sign_size (take (length text - 1) (drop 1 text))
    → n ≡ prefix_len is_ascii_digit (take (length text - (1 + s)) (drop (1 + s) text)) → n ≡ 0 → ExponentAtFront text 0
exponent_lacking [] s n letter sign is lacking = absurd (false≢true letter)
exponent_lacking (e ∷ power) s n letter sign is lacking =
    by_sign (begins is_sign_byte power) power s (sign ∙ ap sign_size (take_rest (e ∷ power) 1)) refl
    (subst (λ (k : ℕ). begins is_ascii_digit (drop k (drop (1 + s) (e ∷ power))) ≡ false) lacking (digits_behind (e ∷ power) s n is).run.ends)
  where
    by_sign :
        (b : Bool) (power : List ℕ) (s : ℕ) → s ≡ sign_size power → begins is_sign_byte power ≡ b
        → begins is_ascii_digit (drop (1 + s) (e ∷ power)) ≡ false → ExponentAtFront (e ∷ power) 0
    by_sign true [] s size sign ends = absurd (false≢true sign)
    by_sign true (c ∷ rest) s size sign ends =
        let one : s ≡ 1 = size ∙ cond-true (is_sign_byte c) 1 0 sign in
        none_front (e ∷ c ∷ rest)
        (no_signed_exponent e c rest sign (subst (λ (k : ℕ). begins is_ascii_digit (drop (1 + k) (e ∷ c ∷ rest)) ≡ false) one ends))
    by_sign false power s size sign ends =
        let zero_is : s ≡ 0 = size ∙ cond-false (begins is_sign_byte power) 1 0 sign in
        none_front (e ∷ power)
        (no_plain_exponent e power sign (subst (λ (k : ℕ). begins is_ascii_digit (drop (1 + k) (e ∷ power)) ≡ false) zero_is ends))

pub exponent_absent : (text : List ℕ) → begins is_exponent_letter text ≡ false → ExponentAtFront text 0
exponent_absent text other = none_front text (no_exponent text other)

-- ---- numbers

no_number_left : (left : List ℕ) → begins begins_number left ≡ true → begins is_ascii_digit left ≡ false → begins (λ c. c == 46) left ≡ false → ⊥
no_number_left [] number digit point = false≢true number
no_number_left (c ∷ left) number digit point = false≢true (sym (or_from (is_ascii_digit c) (c == 46) digit point) ∙ number)

-- the digits are there where a number begins and no point stands behind them
whole_some :
    (text whole left : List ℕ) → begins begins_number text ≡ true → whole ++ left ≡ text → begins is_ascii_digit left ≡ false
    → begins (λ c. c == 46) left ≡ false → 0 < length whole
whole_some text [] left number is digit point = absurd (no_number_left left (ap (begins begins_number) is ∙ number) digit point)
whole_some text (d ∷ whole) left number is digit point = omega arith

-- digits, and perhaps an exponent
whole_front :
    (text whole left : List ℕ) (e : ℕ) (kind : TokenKind) → whole ++ left ≡ text → IsRun is_ascii_digit whole left → 0 < length whole
    → begins (λ c. c == 46) left ≡ false → ExponentAtFront left e → (e ≡ 0 → kind ≡ Int) → (0 < e → kind ≡ Real)
    → TokenAtFront text kind (length whole + e)
whole_front text whole left zero kind is run some other last int real =
    subst (λ (k : TokenKind). TokenAtFront text k (length whole + 0)) (sym (int refl))
    (at_front text Int whole left (length whole + 0) (sym is) (omega arith) (longest_int whole left run some last.is_longest other))
whole_front text whole left (suc e) kind is run some other last int real =
    let exponent = take (suc e) left in
    let follows = drop (suc e) left in
    let left_is : left ≡ exponent ++ follows = sym (take-append-drop (suc e) left) in
    let len : length exponent ≡ suc e = length-take-le (suc e) left last.fits in
    subst (λ (k : TokenKind). TokenAtFront text k (length whole + suc e)) (sym (real (omega arith)))
    (at_front text Real (whole ++ exponent) follows (length whole + suc e)
    (sym is ∙ ap (λ (t : List ℕ). whole ++ t) left_is ∙ sym (append_assoc whole exponent follows)) (omega (arith, length-append whole exponent, len))
    (longest_power whole exponent follows (subst (λ (t : List ℕ). IsRun is_ascii_digit whole t) left_is run) some last.is_longest (omega (arith, len))
    (ap (begins (λ c. c == 46)) (sym left_is) ∙ other)))

-- digits, a point, digits, and perhaps an exponent
point_front :
    (text whole digits left : List ℕ) (e : ℕ) → whole ++ 46 ∷ (digits ++ left) ≡ text → IsRun is_ascii_digit whole (46 ∷ (digits ++ left))
    → IsRun is_ascii_digit digits left → 0 < length whole + length digits → ExponentAtFront left e
    → TokenAtFront text Real (length whole + (1 + length digits) + e)
point_front text whole digits left e is run inner some last =
    let exponent = take e left in
    let follows = drop e left in
    let left_is : left ≡ exponent ++ follows = sym (take-append-drop e left) in
    let len : length exponent ≡ e = length-take-le e left last.fits in
    let all : list_all is_ascii_digit (whole ++ digits) ≡ true =
    list_all-append is_ascii_digit whole digits ∙ and_from (list_all is_ascii_digit whole) (list_all is_ascii_digit digits) run.passes inner.passes in
    at_front text Real (whole ++ 46 ∷ (digits ++ exponent)) follows (length whole + (1 + length digits) + e)
    (sym is ∙ ap (λ (t : List ℕ). whole ++ 46 ∷ (digits ++ t)) left_is
    ∙ ap (λ (t : List ℕ). whole ++ 46 ∷ t) (sym (append_assoc digits exponent follows)) ∙ sym (append_assoc whole (46 ∷ (digits ++ exponent)) follows))
    (omega (arith, length-append whole (46 ∷ (digits ++ exponent)), length-append digits exponent, len))
    (longest_real whole digits exponent follows (subst (λ (t : List ℕ). IsRun is_ascii_digit whole (46 ∷ (digits ++ t))) left_is run)
    (subst (λ (t : List ℕ). IsRun is_ascii_digit digits t) left_is inner) last.is_longest
    (digits_from (whole ++ digits) all (omega (arith, some, length-append whole digits))))

fraction_none : (left : List ℕ) → begins (λ c. c == 46) left ≡ false → fraction_size left ≡ 0
fraction_none [] other = refl
fraction_none (c ∷ left) other = cond-false (c == 46) (1 + prefix_len is_ascii_digit left) 0 other

-- the point and its digits, as the code counts them
point_found :
    (text : List ℕ) (w f e : ℕ) (rest : List ℕ) → length (take w text) ≡ w → IsRun is_ascii_digit (take w text) (46 ∷ rest)
    → take w text ++ 46 ∷ rest ≡ text → f ≡ 1 + prefix_len is_ascii_digit rest → ExponentAtFront (drop f (46 ∷ rest)) e → (w ≡ 0 → f ≡ 1 → ⊥)
    → TokenAtFront text Real (w + f + e)
point_found text w f e rest len run is size last apart =
    let k = prefix_len is_ascii_digit rest in
    let inner = cut is_ascii_digit rest k refl in
    let whole = take w text in
    let digits = take k rest in
    let left = drop k rest in
    let rest_is : rest ≡ digits ++ left = sym inner.rest_is in
    let behind_is : drop f (46 ∷ rest) ≡ left = ap (λ (n : ℕ). drop n (46 ∷ rest)) size ∙ sym (drop-drop k 1 (46 ∷ rest)) in
    let some : 0 < length whole + length digits = some_digit (length whole + length digits) (cases_lt 0 (length whole + length digits)) (omega (arith, len, inner.len)) in
    let front = point_front text whole digits left e (ap (λ (t : List ℕ). whole ++ 46 ∷ t) (sym rest_is) ∙ is)
    (subst (λ (t : List ℕ). IsRun is_ascii_digit whole (46 ∷ t)) rest_is run) inner.run some
    (subst (λ (t : List ℕ). ExponentAtFront t e) behind_is last) in
    let len_is : length whole + (1 + length digits) + e ≡ w + f + e = omega (arith, len, inner.len) in
    subst (λ (n : ℕ). TokenAtFront text Real n) len_is front
  where
    some_digit : (n : ℕ) → (0 < n) ⊎ (n ≤ 0) → n ≡ w + prefix_len is_ascii_digit rest → 0 < n
    some_digit n (inl more) n_is = more
    some_digit n (inr none) n_is = absurd (apart (omega (arith, n_is)) (omega (arith, n_is, size)))

pub number_found :
    (text : List ℕ) (w f e : ℕ) (kind : TokenKind) → begins begins_number text ≡ true → w ≡ prefix_len is_ascii_digit text
    → f ≡ fraction_size (take (length text - w) (drop w text)) → ExponentAtFront (take (length text - (w + f)) (drop (w + f) text)) e
    → (w ≡ 0 → f ≡ 1 → ⊥) → (w + f + e ≡ w → kind ≡ Int) → ((w + f + e ≡ w → ⊥) → kind ≡ Real) → TokenAtFront text kind (w + f + e)
number_found text w f e kind number whole_is fraction_is last apart int real =
    let found = cut is_ascii_digit text w whole_is in
    by_point (begins (λ c. c == 46) (drop w text)) (drop w text) refl found.len found.run found.rest_is (fraction_is ∙ ap fraction_size (take_rest text w))
    (subst (λ (t : List ℕ). ExponentAtFront t e) (take_rest text (w + f) ∙ sym (drop-drop f w text)) last)
  where
    by_point :
        (b : Bool) (left : List ℕ) → begins (λ c. c == 46) left ≡ b → length (take w text) ≡ w → IsRun is_ascii_digit (take w text) left
        → take w text ++ left ≡ text → f ≡ fraction_size left → ExponentAtFront (drop f left) e → TokenAtFront text kind (w + f + e)
    by_point false left other len run is size last =
        let none : f ≡ 0 = size ∙ fraction_none left other in
        let some = whole_some text (take w text) left number is run.ends other in
        let len_is : length (take w text) + e ≡ w + f + e = omega (arith, len, none) in
        subst (λ (n : ℕ). TokenAtFront text kind n) len_is
        (whole_front text (take w text) left e kind is run some other (subst (λ (n : ℕ). ExponentAtFront (drop n left) e) none last)
        (λ zero_is. int (omega (arith, none, zero_is))) (λ more. real (λ h. omega (arith, h, more))))
    by_point true [] point len run is size last = absurd (false≢true point)
    by_point true (p ∷ rest) point len run is size last =
        let dot : p ≡ 46 = eqb-true p 46 point in
        let size_is : f ≡ 1 + prefix_len is_ascii_digit rest = size ∙ cond-true (p == 46) (1 + prefix_len is_ascii_digit rest) 0 point in
        subst (λ (k : TokenKind). TokenAtFront text k (w + f + e)) (sym (real (λ h. omega (arith, h, size_is))))
        (point_found text w f e rest len (subst (λ (c : ℕ). IsRun is_ascii_digit (take w text) (c ∷ rest)) dot run)
        (ap (λ (c : ℕ). take w text ++ c ∷ rest) (sym dot) ∙ is) size_is (subst (λ (c : ℕ). ExponentAtFront (drop f (c ∷ rest)) e) dot last) apart)

lone : (text : List ℕ) (b : Bool) → begins (λ c. c == 46) text ≡ b → fraction_size text ≡ 1 → BeginsNoToken text
lone text false other size = absurd (omega (arith, size, fraction_none text other))
lone [] true point size = absurd (false≢true point)
lone (p ∷ rest) true point size =
    let dot : p ≡ 46 = eqb-true p 46 point in
    let none : prefix_len is_ascii_digit rest ≡ 0 =
    omega (arith, size, cond-true (p == 46) (1 + prefix_len is_ascii_digit rest) 0 point) in
    let ends : begins is_ascii_digit rest ≡ false =
    subst (λ (n : ℕ). begins is_ascii_digit (drop n rest) ≡ false) none (run_at is_ascii_digit rest).ends in
    subst (λ (c : ℕ). BeginsNoToken (c ∷ rest)) (sym dot) (lone_point rest ends)

pub number_lacking :
    (text : List ℕ) (w f : ℕ) → f ≡ fraction_size (take (length text - w) (drop w text)) → w ≡ 0 → f ≡ 1 → BeginsNoToken text
number_lacking text w f fraction_is none one =
    let size : f ≡ fraction_size (drop w text) = fraction_is ∙ ap fraction_size (take_rest text w) in
    lone text (begins (λ c. c == 46) text) refl
    (subst (λ (n : ℕ). fraction_size (drop n text) ≡ 1) none (sym size ∙ one))

-- the point and its digits are no longer than the text
pub fraction_size-le : (text : List ℕ) → fraction_size text ≤ length text
fraction_size-le [] = omega arith
fraction_size-le (c ∷ rest) = by_test (c == 46)
  where
    by_test : (b : Bool) → cond b (1 + prefix_len is_ascii_digit rest) 0 ≤ length (c ∷ rest)
    by_test true = omega (arith, prefix_len-le-length is_ascii_digit rest)
    by_test false = omega arith

-- ---- integers

some_digits : (text : List ℕ) → begins is_ascii_digit text ≡ true → 0 < prefix_len is_ascii_digit text
some_digits [] is = absurd (false≢true is)
some_digits (c ∷ rest) is = omega (arith, cond-true (is_ascii_digit c) (1 + prefix_len is_ascii_digit rest) 0 is)

-- digits behind which neither a point nor an exponent stands
pub int_at_front :
    (text : List ℕ) (w e : ℕ) → begins is_ascii_digit text ≡ true → w ≡ prefix_len is_ascii_digit text
    → begins (λ c. c == 46) (take (length text - w) (drop w text)) ≡ false → ExponentAtFront (take (length text - w) (drop w text)) e → e ≡ 0
    → TokenAtFront text Int w
int_at_front text w e digit whole_is other last none =
    let found = cut is_ascii_digit text w whole_is in
    let left = drop w text in
    let absent : ExponentAtFront left 0 = subst (λ (n : ℕ). ExponentAtFront left n) none (subst (λ (t : List ℕ). ExponentAtFront t e) (take_rest text w) last) in
    at_front text Int (take w text) left w (sym found.rest_is) found.len
    (longest_int (take w text) left found.run (omega (arith, found.len, whole_is, some_digits text digit)) absent.is_longest
    (ap (begins (λ c. c == 46)) (sym (take_rest text w)) ∙ other))

-- an integer begins with a digit
pub int_begins : (text : List ℕ) (len : ℕ) → begins is_ascii_digit text ≡ false → TokenAtFront text Int len → ⊥
int_begins text len other token = by_digits text len other token.is_longest.token
  where
    by_digits : (text : List ℕ) (len : ℕ) → begins is_ascii_digit text ≡ false → are_digits (take len text) ≡ true → ⊥
    by_digits [] zero other all = false≢true all
    by_digits [] (suc len) other all = false≢true all
    by_digits (c ∷ rest) zero other all = false≢true all
    by_digits (c ∷ rest) (suc len) other all = false≢true (sym other ∙ (and_parts (is_ascii_digit c) (list_all is_ascii_digit (take len rest)) all).0)

-- and is the longest token only where no longer one is
longer_real :
    (text front rest : List ℕ) (w len : ℕ) → w ≡ prefix_len is_ascii_digit text → front ++ rest ≡ text → IsToken Real front → w < length front
    → TokenAtFront text Int len → ⊥
longer_real text front rest w len whole_is is real longer token =
    let found = cut is_ascii_digit text w whole_is in
    let whole_text : take len text ++ drop len text ≡ text = take-append-drop len text in
    let short =
    run_longest-length is_ascii_digit (take w text) (drop w text) (take len text) (drop len text) found.run (found.rest_is ∙ sym whole_text)
    (all_digits (take len text) token.is_longest.token) in
    let long = token.is_longest.longest Real front rest (whole_text ∙ sym is) real in omega (arith, short, long, longer, found.len)
  where
    all_digits : (bytes : List ℕ) → are_digits bytes ≡ true → list_all is_ascii_digit bytes ≡ true
    all_digits [] all = refl
    all_digits (c ∷ bytes) all = all

pub no_int_point :
    (text : List ℕ) (w len : ℕ) → begins is_ascii_digit text ≡ true → w ≡ prefix_len is_ascii_digit text
    → begins (λ c. c == 46) (take (length text - w) (drop w text)) ≡ true → TokenAtFront text Int len → ⊥
no_int_point text w len digit whole_is point token =
    let found = cut is_ascii_digit text w whole_is in
    let whole = take w text in
    let left = drop w text in
    let left_is : left ≡ 46 ∷ drop 1 left = split_first 46 left (ap (begins (λ c. c == 46)) (sym (take_rest text w)) ∙ point) in
    let digits : are_digits (whole ++ []) ≡ true =
    ap are_digits (append-nil whole) ∙ digits_from whole found.run.passes (omega (arith, found.len, whole_is, some_digits text digit)) in
    longer_real text (whole ++ 46 ∷ []) (drop 1 left) w len whole_is
    (append_assoc whole (46 ∷ []) (drop 1 left) ∙ ap (λ (t : List ℕ). whole ++ t) (sym left_is) ∙ found.rest_is)
    (inl (record { whole = whole; fraction = []; exponent = []; digits = digits; perhaps = inl refl; bytes_are = refl }))
    (omega (arith, length-append whole (46 ∷ []), found.len)) token

pub no_int_exponent :
    (text : List ℕ) (w e len : ℕ) → begins is_ascii_digit text ≡ true → w ≡ prefix_len is_ascii_digit text
    → ExponentAtFront (take (length text - w) (drop w text)) e → (e ≡ 0 → ⊥) → TokenAtFront text Int len → ⊥
no_int_exponent text w e len digit whole_is last some token =
    let found = cut is_ascii_digit text w whole_is in
    let whole = take w text in
    let left = drop w text in
    let here = subst (λ (t : List ℕ). ExponentAtFront t e) (take_rest text w) last in
    let size : length (take e left) ≡ e = length-take-le e left here.fits in
    longer_real text (whole ++ take e left) (drop e left) w len whole_is
    (append_assoc whole (take e left) (drop e left) ∙ ap (λ (t : List ℕ). whole ++ t) (take-append-drop e left) ∙ found.rest_is)
    (inr (record {
      whole = whole;
      exponent = take e left;
      digits = digits_from whole found.run.passes (omega (arith, found.len, whole_is, some_digits text digit));
      is_exponent = there (take e left) size here.is_longest.perhaps;
      bytes_are = refl;
    }))
    (omega (arith, length-append whole (take e left), found.len, size, some)) token
  where
    there : (bytes : List ℕ) → length bytes ≡ e → (bytes ≡ []) ⊎ IsTrue (is_exponent bytes) → IsTrue (is_exponent bytes)
    there bytes size (inl none) = absurd (some (sym size ∙ ap length none))
    there bytes size (inr is) = is

-- ---- signs

pub pair_at_front :
    (text : List ℕ) (kind : TokenKind) (a b : ℕ) → ((follows : List ℕ) → IsLongest kind (a ∷ b ∷ []) follows) → begins_pair a b text ≡ true
    → TokenAtFront text kind 2
pair_at_front [] kind a b longest pair = absurd (false≢true pair)
pair_at_front (c ∷ []) kind a b longest pair = absurd (false≢true pair)
pair_at_front (c ∷ d ∷ rest) kind a b longest pair =
    let parts = and_parts (c == a) (d == b) pair in
    at_front (c ∷ d ∷ rest) kind (a ∷ b ∷ []) rest 2
    (ap (λ (x : ℕ). x ∷ d ∷ rest) (eqb-true c a parts.0) ∙ ap (λ (x : ℕ). a ∷ x ∷ rest) (eqb-true d b parts.1)) refl (longest rest)

pub short_at_front :
    (text : List ℕ) (kind : TokenKind) (c : ℕ) → begins begins_no_long text ≡ true → c ≡ get_or text 0 0 → IsToken kind (c ∷ [])
    → begins_pair 45 62 text ≡ false → begins_pair 61 61 text ≡ false → TokenAtFront text kind 1
short_at_front [] kind c sign is token arrow equal = absurd (false≢true sign)
short_at_front (d ∷ rest) kind c sign is token arrow equal =
    at_front (d ∷ rest) kind (d ∷ []) rest 1 refl refl
    (longest_short kind d rest sign (subst (λ (b : ℕ). IsToken kind (b ∷ [])) is token) (record { no_arrow = arrow; no_equal = equal }))

pub no_short_at_front :
    (text : List ℕ) (c : ℕ) → begins begins_no_long text ≡ true → c ≡ get_or text 0 0 → ((kind : TokenKind) → IsToken kind (c ∷ []) → ⊥)
    → begins_pair 45 62 text ≡ false → begins_pair 61 61 text ≡ false → BeginsNoToken text
no_short_at_front [] c sign is none arrow equal = absurd (false≢true sign)
no_short_at_front (d ∷ rest) c sign is none arrow equal =
    no_sign d rest sign (λ kind token. none kind (subst (λ (b : ℕ). IsToken kind (b ∷ [])) (sym is) token)) (record { no_arrow = arrow; no_equal = equal })

-- what the parts of a number take is within the text
pub ruleset number_sizes = (sizes, fraction_size-le)
