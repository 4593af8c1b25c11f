-- The bytes of a token tell its kind, and its first byte tells most of it.
use Rattle.std.proofs.Common.{◌≡◌, ℕ, Bool, true, false, cond, eqb, inl, inr, ◌⊎◌, List, [], ◌∷◌, ◌++◌, length, refl, sym, ap, ◌∙◌, subst, arith, ◌&&◌}
use Rattle.std.specs.Char.{is_ascii_alphabetic, is_ascii_digit}
use Rattle.std.specs.List.{list_all}
use Rattle.std.proofs.lemmas.Bool.{and_parts, false≢true, cond-true, cond-false, and_right}
use Rattle.std.proofs.lemmas.Bool.Decides.{nat_tests}
use Rattle.std.proofs.lemmas.List.Folds.{list_all-append}
use Rattle.qasm_lex.specs.declared.tokens.TokenKind.{TokenKind}
use Rattle.qasm_lex.specs.declared.tokens.TokenKind.TheVariants.{Word, Int, Real, Text, Semi, Comma, LParen, RParen, LBracket, RBracket, LBrace, RBrace, Plus, Minus, Times, Over, Power, Arrow, Equal}
use Rattle.qasm_lex.specs.Tokens.{HasExponent, HasPoint, IsToken, are_digits, is_exponent, is_exponent_letter, is_word, IsQuoted}
use Rattle.qasm_lex.specs.Fronts.{begins_no_long, begins_number}
use Rattle.qasm_lex.specs.Runs.{begins}
use Rattle.qasm_lex.proofs.RunLemmas.{heads}

-- the kind of a sign
abbrev sign_kind : ℕ → List ℕ → TokenKind
sign_kind c rest =
    cond (eqb c 44) Comma (cond (eqb c 40) LParen (cond (eqb c 41) RParen (cond (eqb c 91) LBracket (cond (eqb c 93) RBracket
    (cond (eqb c 123) LBrace (cond (eqb c 125) RBrace (cond (eqb c 43) Plus (cond (eqb c 42) Times (cond (eqb c 47) Over
    (cond (eqb c 94) Power (cond (eqb c 61) Equal (cond (eqb c 45) (after_minus rest) Semi))))))))))))
  where
    after_minus : List ℕ → TokenKind
    after_minus [] = Minus
    after_minus (_ ∷ _) = Arrow

-- the kind of the token that has these bytes
pub kind_of : List ℕ → TokenKind
kind_of [] = Semi
kind_of (c ∷ rest) =
    cond (is_ascii_alphabetic c) Word
    (cond (begins_number c) (cond (list_all is_ascii_digit (c ∷ rest)) Int Real)
    (cond (eqb c 34) Text (sign_kind c rest)))

pub kind_of-letter : (c : ℕ) (rest : List ℕ) → is_ascii_alphabetic c ≡ true → kind_of (c ∷ rest) ≡ Word
unfolding kind_of
kind_of-letter c rest is = cond-true (is_ascii_alphabetic c) Word _ is

number_apart : (c : ℕ) → begins_number c ≡ true → is_ascii_alphabetic c ≡ false
number_apart c is = grind (arith, nat_tests)

pub kind_of-number : (c : ℕ) (rest : List ℕ) (b : Bool) → begins_number c ≡ true → list_all is_ascii_digit (c ∷ rest) ≡ b → kind_of (c ∷ rest) ≡ cond b Int Real
unfolding kind_of
kind_of-number c rest b is all =
    cond-false (is_ascii_alphabetic c) Word _ (number_apart c is)
    ∙ cond-true (begins_number c) _ (cond (eqb c 34) Text (sign_kind c rest)) is
    ∙ ap (λ (t : Bool). cond t Int Real) all

pub digit_begins : (c : ℕ) → is_ascii_digit c ≡ true → begins_number c ≡ true
digit_begins c is = grind (arith, nat_tests)

-- a byte that is no digit stands in the bytes
not_all_digits : (front rest : List ℕ) (c : ℕ) → is_ascii_digit c ≡ false → list_all is_ascii_digit (front ++ c ∷ rest) ≡ false
not_all_digits front rest c other =
    list_all-append is_ascii_digit front (c ∷ rest)
    ∙ and_right (list_all is_ascii_digit front) (is_ascii_digit c && list_all is_ascii_digit rest)
    (ap (λ (t : Bool). t && list_all is_ascii_digit rest) other)

point_kind : (whole rest bytes : List ℕ) → list_all is_ascii_digit whole ≡ true → bytes ≡ whole ++ 46 ∷ rest → kind_of bytes ≡ Real
point_kind [] rest bytes all is = ap kind_of is ∙ kind_of-number 46 rest false refl refl
point_kind (d ∷ whole) rest bytes all is =
    ap kind_of is
    ∙ kind_of-number d (whole ++ 46 ∷ rest) false (digit_begins d (and_parts (is_ascii_digit d) (list_all is_ascii_digit whole) all).0)
    (not_all_digits (d ∷ whole) rest 46 refl)

pub letter_no_digit : (c : ℕ) → is_exponent_letter c ≡ true → is_ascii_digit c ≡ false
letter_no_digit c is = grind (arith, nat_tests)

exponent_kind : (whole exponent bytes : List ℕ) → are_digits whole ≡ true → is_exponent exponent ≡ true → bytes ≡ whole ++ exponent → kind_of bytes ≡ Real
exponent_kind [] exponent bytes digits ex is = absurd (false≢true digits)
exponent_kind (d ∷ whole) [] bytes digits ex is = absurd (false≢true ex)
exponent_kind (d ∷ whole) (e ∷ exponent) bytes digits ex is =
    ap kind_of is
    ∙ kind_of-number d (whole ++ e ∷ exponent) false (digit_begins d (and_parts (is_ascii_digit d) (list_all is_ascii_digit whole) digits).0)
    (not_all_digits (d ∷ whole) exponent e (letter_no_digit e (and_parts (is_exponent_letter e) _ ex).0))

-- the digits of both parts are digits
pub whole_digits : (whole fraction : List ℕ) → are_digits (whole ++ fraction) ≡ true → list_all is_ascii_digit whole ≡ true
whole_digits [] fraction all = refl
whole_digits (d ∷ whole) fraction all =
    (and_parts (list_all is_ascii_digit (d ∷ whole)) (list_all is_ascii_digit fraction)
    (sym (list_all-append is_ascii_digit (d ∷ whole) fraction) ∙ all)).0

-- the bytes of a token tell its kind
pub kind_is : (kind : TokenKind) (bytes : List ℕ) → IsToken kind bytes → kind_of bytes ≡ kind
kind_is Word [] is = absurd (false≢true is)
kind_is Word (c ∷ rest) is = kind_of-letter c rest (and_parts (is_ascii_alphabetic c) _ is).0
kind_is Int [] is = absurd (false≢true is)
kind_is Int (c ∷ rest) is =
    kind_of-number c rest true (digit_begins c (and_parts (is_ascii_digit c) (list_all is_ascii_digit rest) is).0) is
kind_is Real bytes (inl point) =
    point_kind point.whole (point.fraction ++ point.exponent) bytes (whole_digits point.whole point.fraction point.digits) point.bytes_are
kind_is Real bytes (inr power) = exponent_kind power.whole power.exponent bytes power.digits power.is_exponent power.bytes_are
kind_is Text bytes quoted = ap kind_of quoted.bytes_are ∙ unfold kind_of in refl
kind_is Semi bytes is = ap kind_of is ∙ unfold kind_of in refl
kind_is Comma bytes is = ap kind_of is ∙ unfold kind_of in refl
kind_is LParen bytes is = ap kind_of is ∙ unfold kind_of in refl
kind_is RParen bytes is = ap kind_of is ∙ unfold kind_of in refl
kind_is LBracket bytes is = ap kind_of is ∙ unfold kind_of in refl
kind_is RBracket bytes is = ap kind_of is ∙ unfold kind_of in refl
kind_is LBrace bytes is = ap kind_of is ∙ unfold kind_of in refl
kind_is RBrace bytes is = ap kind_of is ∙ unfold kind_of in refl
kind_is Plus bytes is = ap kind_of is ∙ unfold kind_of in refl
kind_is Minus bytes is = ap kind_of is ∙ unfold kind_of in refl
kind_is Times bytes is = ap kind_of is ∙ unfold kind_of in refl
kind_is Over bytes is = ap kind_of is ∙ unfold kind_of in refl
kind_is Power bytes is = ap kind_of is ∙ unfold kind_of in refl
kind_is Arrow bytes is = ap kind_of is ∙ unfold kind_of in refl
kind_is Equal bytes is = ap kind_of is ∙ unfold kind_of in refl

-- no token is empty
pub not_empty : (kind : TokenKind) → IsToken kind [] → ⊥
not_empty Word is = false≢true is
not_empty Int is = false≢true is
not_empty Real (inl point) = no_point point.whole _ point.bytes_are
  where
    no_point : (whole rest : List ℕ) → [] ≡ whole ++ 46 ∷ rest → ⊥
    no_point [] rest h = cc
    no_point (c ∷ whole) rest h = cc
not_empty Real (inr power) = no_digit power.whole power.exponent power.digits power.bytes_are
  where
    no_digit : (whole rest : List ℕ) → are_digits whole ≡ true → [] ≡ whole ++ rest → ⊥
    no_digit [] rest digits h = false≢true digits
    no_digit (c ∷ whole) rest digits h = cc
not_empty Text quoted = let h = quoted.bytes_are in cc
not_empty Semi is = cc
not_empty Comma is = cc
not_empty LParen is = cc
not_empty RParen is = cc
not_empty LBracket is = cc
not_empty RBracket is = cc
not_empty LBrace is = cc
not_empty RBrace is = cc
not_empty Plus is = cc
not_empty Minus is = cc
not_empty Times is = cc
not_empty Over is = cc
not_empty Power is = cc
not_empty Arrow is = cc
not_empty Equal is = cc

-- a token's bytes have one kind
pub kind-unique : (kind other : TokenKind) (bytes : List ℕ) → IsToken kind bytes → IsToken other bytes → kind ≡ other
kind-unique kind other bytes is also = sym (kind_is kind bytes is) ∙ kind_is other bytes also

-- ---- the tokens with which a text of a known first byte begins

pub word_front :
    (kind : TokenKind) (text front rest : List ℕ) → begins is_ascii_alphabetic text ≡ true → text ≡ front ++ rest → IsToken kind front
    → is_word front ≡ true
word_front kind text [] rest letter is token = absurd (not_empty kind token)
word_front kind text (c ∷ cs) rest letter is token =
    let first : is_ascii_alphabetic c ≡ true = ap (begins is_ascii_alphabetic) (sym is) ∙ letter in
    subst (λ (k : TokenKind). IsToken k (c ∷ cs)) (sym (kind_is kind (c ∷ cs) token) ∙ kind_of-letter c cs first) token

pub number_front :
    (kind : TokenKind) (text front rest : List ℕ) → begins begins_number text ≡ true → text ≡ front ++ rest → IsToken kind front
    → (are_digits front ≡ true) ⊎ (HasPoint front ⊎ HasExponent front)
number_front kind text [] rest number is token = absurd (not_empty kind token)
number_front kind text (c ∷ cs) rest number is token =
    let first : begins_number c ≡ true = ap (begins begins_number) (sym is) ∙ number in
    by_digits (list_all is_ascii_digit (c ∷ cs)) kind c cs first token refl
  where
    by_digits :
        (b : Bool) (kind : TokenKind) (c : ℕ) (cs : List ℕ) → begins_number c ≡ true → IsToken kind (c ∷ cs) → list_all is_ascii_digit (c ∷ cs) ≡ b
        → (are_digits (c ∷ cs) ≡ true) ⊎ (HasPoint (c ∷ cs) ⊎ HasExponent (c ∷ cs))
    by_digits true kind c cs first token all = inl all
    by_digits false kind c cs first token all =
        inr (subst (λ (k : TokenKind). IsToken k (c ∷ cs)) (sym (kind_is kind (c ∷ cs) token) ∙ kind_of-number c cs false first all) token)

kind_of-quote : (rest : List ℕ) → kind_of (34 ∷ rest) ≡ Text
unfolding kind_of
kind_of-quote rest = refl

pub text_front : (kind : TokenKind) (inner front rest : List ℕ) → 34 ∷ inner ≡ front ++ rest → IsToken kind front → IsQuoted front
text_front kind inner [] rest is token = absurd (not_empty kind token)
text_front kind inner (c ∷ front) rest is token =
    let first : c ≡ 34 = sym (heads is) in
    subst (λ (k : TokenKind). IsToken k (c ∷ front))
    (sym (kind_is kind (c ∷ front) token) ∙ ap (λ (b : ℕ). kind_of (b ∷ front)) first ∙ kind_of-quote front) token

-- the shapes of the signs
abbrev pub IsSignShape : List ℕ → Type 0
IsSignShape front = (length front ≡ 1) ⊎ ((front ≡ 45 ∷ 62 ∷ []) ⊎ (front ≡ 61 ∷ 61 ∷ []))

pub no_letter : (c : ℕ) → begins_no_long c ≡ true → is_ascii_alphabetic c ≡ true → ⊥
no_letter c sign letter = grind (arith, nat_tests)

pub no_number : (c : ℕ) → begins_no_long c ≡ true → begins_number c ≡ true → ⊥
no_number c sign number = grind (arith, nat_tests)

pub no_digit_first : (c : ℕ) → begins_no_long c ≡ true → is_ascii_digit c ≡ true → ⊥
no_digit_first c sign digit = grind (arith, nat_tests)

-- a number begins with a digit or a point
pub real_begins : (c : ℕ) (cs : List ℕ) → HasPoint (c ∷ cs) ⊎ HasExponent (c ∷ cs) → begins_number c ≡ true
real_begins c cs (inl point) = first point.whole (point.fraction ++ point.exponent) point.bytes_are (whole_digits point.whole point.fraction point.digits)
  where
    first : (whole rest : List ℕ) → c ∷ cs ≡ whole ++ 46 ∷ rest → list_all is_ascii_digit whole ≡ true → begins_number c ≡ true
    first [] rest is all = ap begins_number (heads is)
    first (d ∷ whole) rest is all = ap begins_number (heads is) ∙ digit_begins d (and_parts (is_ascii_digit d) (list_all is_ascii_digit whole) all).0
real_begins c cs (inr power) = first power.whole power.exponent power.bytes_are power.digits
  where
    first : (whole rest : List ℕ) → c ∷ cs ≡ whole ++ rest → are_digits whole ≡ true → begins_number c ≡ true
    first [] rest is all = absurd (false≢true all)
    first (d ∷ whole) rest is all = ap begins_number (heads is) ∙ digit_begins d (and_parts (is_ascii_digit d) (list_all is_ascii_digit whole) all).0

sign_shape : (kind : TokenKind) (c : ℕ) (cs : List ℕ) → begins_no_long c ≡ true → IsToken kind (c ∷ cs) → IsSignShape (c ∷ cs)
sign_shape Word c cs sign is = absurd (no_letter c sign (and_parts (is_ascii_alphabetic c) _ is).0)
sign_shape Int c cs sign is = absurd (no_digit_first c sign (and_parts (is_ascii_digit c) (list_all is_ascii_digit cs) is).0)
sign_shape Real c cs sign is = absurd (no_number c sign (real_begins c cs is))
sign_shape Text c cs sign quoted = absurd (false≢true (ap begins_no_long (sym (heads quoted.bytes_are)) ∙ sign))
sign_shape Semi c cs sign is = inl (ap length is)
sign_shape Comma c cs sign is = inl (ap length is)
sign_shape LParen c cs sign is = inl (ap length is)
sign_shape RParen c cs sign is = inl (ap length is)
sign_shape LBracket c cs sign is = inl (ap length is)
sign_shape RBracket c cs sign is = inl (ap length is)
sign_shape LBrace c cs sign is = inl (ap length is)
sign_shape RBrace c cs sign is = inl (ap length is)
sign_shape Plus c cs sign is = inl (ap length is)
sign_shape Minus c cs sign is = inl (ap length is)
sign_shape Times c cs sign is = inl (ap length is)
sign_shape Over c cs sign is = inl (ap length is)
sign_shape Power c cs sign is = inl (ap length is)
sign_shape Arrow c cs sign is = inr (inl is)
sign_shape Equal c cs sign is = inr (inr is)

pub sign_front :
    (kind : TokenKind) (text front rest : List ℕ) → begins begins_no_long text ≡ true → text ≡ front ++ rest → IsToken kind front
    → IsSignShape front
sign_front kind text [] rest sign is token = absurd (not_empty kind token)
sign_front kind text (c ∷ cs) rest sign is token = sign_shape kind c cs (ap (begins begins_no_long) (sym is) ∙ sign) token
