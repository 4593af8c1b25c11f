-- A text begins with one gap.
use Rattle.std.proofs.Common.{◌≡◌, ℕ, suc, zero, ◌+◌, ◌-◌, ◌≤◌, Bool, true, false, not, cond, inl, inr, ◌⊎◌, List, [], ◌∷◌, ◌++◌, length, take, drop, take-add, refl, sym, ap, ◌∙◌, subst, arith}
use Rattle.std.specs.Prelude.{◌==◌}
use Rattle.std.specs.Char.{is_ascii_whitespace}
use Rattle.std.specs.List.{list_all, prefix_len}
use Rattle.std.proofs.lemmas.Bool.{and_parts, cond-true, cond-false, or_cases, or_from, or_parts, eqb-true, false≢true}
use Rattle.std.proofs.lemmas.Bool.Decides.{nat_tests}
use Rattle.std.proofs.lemmas.List.{append_assoc, length-append, take_at, drop_at, take-append-drop, length-drop, length-take-le, drop-drop, take_rest}
use Rattle.std.proofs.lemmas.List.Sums.{prefix_len-le-length}
use Rattle.qasm_lex.specs.Runs.{begins, begins_pair}
use Rattle.qasm_lex.specs.Gaps.{IsGap, begins_gap, is_line_byte, is_solid, one_white}
use Rattle.qasm_lex.specs.Fronts.{BeginsGap, GapAtFront}
use Rattle.qasm_lex.specs.Gaps.IsGap.{none, white, comment}
use Rattle.qasm_lex.proofs.RunLemmas.{IsRun, no_pair, not_then, run_at}

-- two texts that are cut at one place have the same parts
pub cut-unique : (a b c d : List ℕ) → length a ≡ length c → a ++ b ≡ c ++ d → (a ≡ c) × (b ≡ d)
cut-unique a b c d len same = (
  sym (take_at a b (length a) refl) ∙ ap (take (length a)) same ∙ take_at c d (length a) (sym len),
  sym (drop_at a b (length a) refl) ∙ ap (drop (length a)) same ∙ drop_at c d (length a) (sym len),
)

-- how many bytes are in the gap at the front, from inside a comment or from outside
gap_size : Bool → List ℕ → ℕ
gap_size inside [] = 0
gap_size true (c ∷ rest) = 1 + gap_size (is_line_byte c) rest
gap_size false (c ∷ rest) = cond (is_ascii_whitespace c) (1 + gap_size false rest) (cond (begins_pair 47 47 (c ∷ rest)) (1 + gap_size true rest) 0)

size-line : (line rest : List ℕ) → list_all is_line_byte line ≡ true → gap_size true (line ++ rest) ≡ length line + gap_size true rest
unfolding gap_size
size-line [] rest all = omega arith
size-line (c ∷ line) rest all =
    let parts = and_parts (is_line_byte c) (list_all is_line_byte line) all in
    ap (λ (b : Bool). 1 + gap_size b (line ++ rest)) parts.0 ∙ omega (arith, size-line line rest parts.1)

line_feed : (c : ℕ) → is_line_byte c ≡ false → c ≡ 10
line_feed c is = grind (arith, nat_tests)

size-end : (rest : List ℕ) → begins is_line_byte rest ≡ false → gap_size true rest ≡ gap_size false rest
unfolding gap_size
size-end [] ends = refl
size-end (c ∷ rest) ends =
    ap (λ (b : Bool). 1 + gap_size b rest) ends
    ∙ sym (cond-true (is_ascii_whitespace c) (1 + gap_size false rest) _ (ap is_ascii_whitespace (line_feed c ends)))

size-none : (rest : List ℕ) → begins_gap rest ≡ false → gap_size false rest ≡ 0
unfolding gap_size
size-none [] other = refl
size-none (c ∷ rest) other =
    let parts = or_parts (is_ascii_whitespace c) (begins_pair 47 47 (c ∷ rest)) other in
    cond-false (is_ascii_whitespace c) _ _ parts.0 ∙ cond-false (begins_pair 47 47 (c ∷ rest)) (1 + gap_size true rest) 0 parts.1

-- a gap has this size
gap_size-is : {gap follows : List ℕ} → IsGap gap follows → gap_size false (gap ++ follows) ≡ length gap
unfolding gap_size
gap_size-is {follows = follows} (none other) = size-none follows other
gap_size-is {follows = follows} (white {c = c} {gap = gap} is more) =
    cond-true (is_ascii_whitespace c) (1 + gap_size false (gap ++ follows)) _ is ∙ omega (arith, gap_size-is more)
gap_size-is {follows = follows} (comment line {gap = gap} all ends more) =
    let inner : gap_size true ((line ++ gap) ++ follows) ≡ length line + length gap =
    ap (gap_size true) (append_assoc line gap follows) ∙ size-line line (gap ++ follows) all
    ∙ ap (λ (n : ℕ). length line + n) (size-end (gap ++ follows) ends ∙ gap_size-is more) in
    omega (arith, inner, length-append line gap)

-- a text begins with one gap
pub gap-unique :
    {a b c d : List ℕ} → IsGap a b → IsGap c d → a ++ b ≡ c ++ d → (a ≡ c) × (b ≡ d)
gap-unique {a = a} {b = b} {c = c} {d = d} one other same =
    cut-unique a b c d (sym (gap_size-is one) ∙ ap (gap_size false) same ∙ gap_size-is other) same

-- ---- one piece of a gap after another

pub begins_white : (text : List ℕ) → begins is_ascii_whitespace text ≡ true → BeginsGap text 1
begins_white [] is = absurd (false≢true is)
begins_white (c ∷ rest) is = record { some = omega arith; fits = omega arith; goes_on = λ gap follows same more. white is more }

pub begins_comment : (line rest : List ℕ) → IsRun is_line_byte line rest → BeginsGap (47 ∷ 47 ∷ (line ++ rest)) (2 + length line)
begins_comment line rest run =
    let two : 2 + length line ≡ suc (suc (length line)) = omega arith in
    subst (λ (n : ℕ). BeginsGap (47 ∷ 47 ∷ (line ++ rest)) n) (sym two)
    (record {
      some = omega arith;
      fits = omega (arith, length-append line rest);
      goes_on = λ gap follows same more.
          let left : rest ≡ gap ++ follows = sym (drop_at line rest (length line) refl) ∙ same in
          subst (λ (t : List ℕ). IsGap (47 ∷ 47 ∷ (t ++ gap)) follows) (sym (take_at line rest (length line) refl))
          (comment line run.passes (ap (begins is_line_byte) (sym left) ∙ run.ends) more);
    })

-- the gap that begins with a piece and goes on with the gap behind it
pub gap_goes_on : (text : List ℕ) (piece len : ℕ) → BeginsGap text piece → GapAtFront (drop piece text) len → GapAtFront text (piece + len)
gap_goes_on text piece len begun more =
    record {
      fits = omega (arith, begun.fits, more.fits, length-drop piece text);
      is_gap =
          let rest = drop piece text in
          let whole = begun.goes_on (take len rest) (drop len rest) (sym (take-append-drop len rest)) more.is_gap in
          subst (λ (t : List ℕ). IsGap t (drop (piece + len) text)) (sym (take-add piece len text))
          (subst (λ (t : List ℕ). IsGap (take piece text ++ take len rest) t) (drop-drop len piece text) whole);
    }

pub no_gap : (text : List ℕ) → begins_gap text ≡ false → GapAtFront text 0
no_gap text other = record { fits = omega arith; is_gap = none other }

no_gap_solid : (text : List ℕ) → begins is_solid text ≡ true → begins_gap text ≡ false
no_gap_solid [] is = absurd (false≢true is)
no_gap_solid (c ∷ rest) is =
    let parts = and_parts (not (is_ascii_whitespace c)) (not (c == 47)) is in
    or_from (is_ascii_whitespace c) (begins_pair 47 47 (c ∷ rest)) (not_then (is_ascii_whitespace c) parts.0)
    (no_pair c 47 47 rest (not_then (c == 47) parts.1))

-- no gap, and one of one byte
pub solid_gap : (text : List ℕ) → begins is_solid text ≡ true → GapAtFront text 0
solid_gap text is = no_gap text (no_gap_solid text is)

pub white_gap : (text : List ℕ) → one_white text ≡ true → GapAtFront text 1
white_gap [] is = absurd (false≢true is)
white_gap (c ∷ []) is = absurd (false≢true is)
white_gap (c ∷ d ∷ rest) is =
    let parts = and_parts (is_ascii_whitespace c) (is_solid d) is in
    gap_goes_on (c ∷ d ∷ rest) 1 0 (begins_white (c ∷ d ∷ rest) parts.0) (solid_gap (d ∷ rest) parts.1)

-- two slashes and the run behind them, as a slice is cut
pub comment_piece :
    (text : List ℕ) (n : ℕ) → begins_pair 47 47 text ≡ true → n ≡ prefix_len is_line_byte (take (length text - 2) (drop 2 text))
    → BeginsGap text (2 + n)
comment_piece [] n pair is = absurd (false≢true pair)
comment_piece (c ∷ []) n pair is = absurd (false≢true pair)
comment_piece (c ∷ d ∷ rest) n pair is =
    let parts = and_parts (c == 47) (d == 47) pair in
    let size : n ≡ prefix_len is_line_byte rest = is ∙ ap (prefix_len is_line_byte) (take_rest (c ∷ d ∷ rest) 2) in
    let k = prefix_len is_line_byte rest in
    let len : length (take k rest) ≡ k = length-take-le k rest (prefix_len-le-length is_line_byte rest) in
    let whole : 47 ∷ 47 ∷ (take k rest ++ drop k rest) ≡ c ∷ d ∷ rest =
    ap (λ (t : List ℕ). 47 ∷ 47 ∷ t) (take-append-drop k rest)
    ∙ ap (λ (a : ℕ). a ∷ 47 ∷ rest) (sym (eqb-true c 47 parts.0)) ∙ ap (λ (a : ℕ). c ∷ a ∷ rest) (sym (eqb-true d 47 parts.1)) in
    let begun = begins_comment (take k rest) (drop k rest) (run_at is_line_byte rest) in
    subst (λ (m : ℕ). BeginsGap (c ∷ d ∷ rest) (2 + m)) (len ∙ sym size) (subst (λ (t : List ℕ). BeginsGap t (2 + length (take k rest))) whole begun)

-- ---- each text begins with a gap

piece_or_none : (text : List ℕ) (b : Bool) → begins_gap text ≡ b → ((len : ℕ) × BeginsGap text len) ⊎ GapAtFront text 0
piece_or_none text false is = inr (no_gap text is)
piece_or_none text true is = by_case (or_cases (begins is_ascii_whitespace text) (begins_pair 47 47 text) is)
  where
    by_case : (begins is_ascii_whitespace text ≡ true) ⊎ (begins_pair 47 47 text ≡ true) → ((len : ℕ) × BeginsGap text len) ⊎ GapAtFront text 0
    by_case (inl blank) = inl (1, begins_white text blank)
    by_case (inr pair) =
        let n = prefix_len is_line_byte (take (length text - 2) (drop 2 text)) in inl (2 + n, comment_piece text n pair refl)

gap_within : (fuel : ℕ) (text : List ℕ) → length text ≤ fuel → (len : ℕ) × GapAtFront text len
gap_within zero text few = by_piece (piece_or_none text (begins_gap text) refl)
  where
    by_piece : ((len : ℕ) × BeginsGap text len) ⊎ GapAtFront text 0 → (len : ℕ) × GapAtFront text len
    by_piece (inl begun) = absurd (omega (arith, begun.1.some, begun.1.fits))
    by_piece (inr found) = (0, found)
gap_within (suc fuel) text few = by_piece (piece_or_none text (begins_gap text) refl) (λ rest short. gap_within fuel rest short)
  where
    by_piece :
        ((len : ℕ) × BeginsGap text len) ⊎ GapAtFront text 0 → ((rest : List ℕ) → length rest ≤ fuel → (len : ℕ) × GapAtFront rest len)
        → (len : ℕ) × GapAtFront text len
    by_piece (inl begun) within =
        let piece = begun.0 in
        let more = within (drop piece text) (omega (arith, begun.1.some, length-drop piece text)) in
        (piece + more.0, gap_goes_on text piece more.0 begun.1 more.1)
    by_piece (inr found) within = (0, found)

pub gap-exists : (text : List ℕ) → (len : ℕ) × GapAtFront text len
gap-exists text = gap_within (length text) text (omega arith)
