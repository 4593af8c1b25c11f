-- A text is read in one way.
use Rattle.std.proofs.Common.{◌≡◌, ℕ, suc, zero, ◌+◌, ◌-◌, ◌<◌, ◌≤◌, Bool, true, false, inl, inr, ◌⊎◌, List, [], ◌∷◌, ◌++◌, length, take, drop, Option, Some, None, refl, sym, ap, ◌∙◌, subst, arith}
use Rattle.std.specs.Prelude.{◌==◌}
use Rattle.std.specs.List.{slice_get}
use Rattle.std.proofs.lemmas.Bool.{cases_eq, cases_lt, eq-eqb, eqb-true, false≢true}
use Rattle.std.proofs.lemmas.Bool.Decides.{nat_tests}
use Rattle.std.proofs.lemmas.List.{append-nil, length-append, take-append-drop, length-drop, length-take-le, drop-drop, nil_from_length, take_rest}
use Rattle.qasm_lex.specs.declared.tokens.Token.{Token}
use Rattle.qasm_lex.specs.declared.tokens.TokenKind.{TokenKind}
use Rattle.qasm_lex.specs.Runs.{begins}
use Rattle.qasm_lex.specs.Tokens.{BeginsNoToken, IsLongest, IsToken}
use Rattle.qasm_lex.specs.Gaps.{IsGap}
use Rattle.qasm_lex.specs.Gaps.IsGap.{none as no_gap}
use Rattle.qasm_lex.specs.Reading.{IsNext, IsStuck, Reads}
use Rattle.qasm_lex.specs.Fronts.{GapAtFront, IsNextIn, TokenAtFront}
use Rattle.qasm_lex.proofs.KindLemmas.{kind-unique, not_empty}
use Rattle.qasm_lex.proofs.GapLemmas.{cut-unique, gap-exists, gap-unique}
use Rattle.qasm_lex.proofs.TokenExists.{HasLongest, token_or_none}

-- a token of no bytes there is none
pub some_bytes : (kind : TokenKind) (bytes : List ℕ) → IsToken kind bytes → 0 < length bytes
some_bytes kind [] token = absurd (not_empty kind token)
some_bytes kind (c ∷ bytes) token = omega arith

-- the longest token at a place is one
pub longest-unique :
    (kind other : TokenKind) (a b c d : List ℕ) → IsLongest kind a b → IsLongest other c d → a ++ b ≡ c ++ d → (kind ≡ other) × (a ≡ c) × (b ≡ d)
longest-unique kind other a b c d one two same =
    let long = one.longest other c d same two.token in
    let short = two.longest kind a b (sym same) one.token in
    let parts = cut-unique a b c d (omega (arith, long, short)) same in
    (kind-unique kind other c (subst (λ (t : List ℕ). IsToken kind t) parts.0 one.token) two.token, parts.0, parts.1)

-- the next token is one
next-unique : (left : List ℕ) (place : ℕ) (t u : Token) (a b : List ℕ) → IsNext left place t a → IsNext left place u b → (t ≡ u) × (a ≡ b)
next-unique left place t u a b one two =
    let gaps = gap-unique one.is_gap two.is_gap (sym one.left_is ∙ two.left_is) in
    let parts = longest-unique t.kind u.kind one.bytes a two.bytes b one.is_longest two.is_longest gaps.1 in
    let start : t.start ≡ u.start = one.start ∙ ap (λ (g : List ℕ). place + length g) gaps.0 ∙ sym two.start in
    let end : t.end ≡ u.end =
    one.end ∙ ap (λ (n : ℕ). n + length one.bytes) start ∙ ap (λ (g : List ℕ). u.start + length g) parts.1 ∙ sym two.end in
    ((λ i. record { kind = parts.0 i; start = start i; end = end i }), parts.2)

-- the text does not end where a token comes
next_no_end : (left : List ℕ) (place : ℕ) (t : Token) (follows : List ℕ) → IsNext left place t follows → IsGap left [] → ⊥
next_no_end left place t follows next whole =
    let gaps = gap-unique next.is_gap whole (sym next.left_is ∙ sym (append-nil left)) in
    let some = some_bytes t.kind next.bytes next.is_longest.token in
    omega (arith, ap length gaps.1, length-append next.bytes follows)

-- nor is it stuck there
next_no_stuck : (left : List ℕ) (place at : ℕ) (t : Token) (follows : List ℕ) → IsNext left place t follows → IsStuck left place at → ⊥
next_no_stuck left place at t follows next stuck =
    let gaps = gap-unique next.is_gap stuck.is_gap (sym next.left_is ∙ stuck.left_is) in
    stuck.no_token t.kind next.bytes follows (sym gaps.1) next.is_longest.token

end_no_stuck : (left : List ℕ) (place at : ℕ) → IsGap left [] → IsStuck left place at → ⊥
end_no_stuck left place at whole stuck =
    let gaps = gap-unique whole stuck.is_gap (append-nil left ∙ stuck.left_is) in omega (arith, stuck.some, ap length gaps.1)

stuck-unique : (left : List ℕ) (place at other : ℕ) → IsStuck left place at → IsStuck left place other → at ≡ other
stuck-unique left place at other one two =
    let gaps = gap-unique one.is_gap two.is_gap (sym one.left_is ∙ two.left_is) in
    one.at_is ∙ ap (λ (g : List ℕ). place + length g) gaps.0 ∙ sym two.at_is

-- a text is read in one way
pub reads-unique :
    (left : List ℕ) (place : ℕ) (ts us : List Token) (a b : Option ℕ) → Reads left place ts a → Reads left place us b → (ts ≡ us) × (a ≡ b)
reads-unique left place [] [] None None one two = (refl, refl)
reads-unique left place [] [] None (Some b) one two = absurd (end_no_stuck left place b one two)
reads-unique left place [] [] (Some a) None one two = absurd (end_no_stuck left place a two one)
reads-unique left place [] [] (Some a) (Some b) one two = (refl, ap (λ (n : ℕ). Some n) (stuck-unique left place a b one two))
reads-unique left place [] (u ∷ us) None b one two = absurd (next_no_end left place u two.0 two.1 one)
reads-unique left place [] (u ∷ us) (Some a) b one two = absurd (next_no_stuck left place a u two.0 two.1 one)
reads-unique left place (t ∷ ts) [] a None one two = absurd (next_no_end left place t one.0 one.1 two)
reads-unique left place (t ∷ ts) [] a (Some b) one two = absurd (next_no_stuck left place b t one.0 one.1 two)
reads-unique left place (t ∷ ts) (u ∷ us) a b one two =
    let heads = next-unique left place t u one.0 two.0 one.1 two.1 in
    let moved : Reads one.0 t.end us b =
    subst (λ (n : ℕ). Reads one.0 n us b) (ap (λ (v : Token). v.end) (sym heads.0))
    (subst (λ (l : List ℕ). Reads l u.end us b) (sym heads.1) two.2) in
    let rest = reads-unique one.0 t.end ts us a b one.2 moved in ((λ i. heads.0 i ∷ rest.0 i), rest.1)

-- ---- as the code cuts a text

-- the gap is put back before what stands behind it
gap_before : (left : List ℕ) (len : ℕ) (next : List ℕ) → GapAtFront left len → drop len left ≡ next → (left ≡ take len left ++ next) × IsGap (take len left) next
gap_before left len next gap is =
    (sym (take-append-drop len left) ∙ ap (λ (t : List ℕ). take len left ++ t) is, subst (λ (t : List ℕ). IsGap (take len left) t) is gap.is_gap)

-- the next token, where the gap and the token take so many bytes
pub next_in :
    (text : List ℕ) (from g len : ℕ) (kind : TokenKind) → from ≤ length text → GapAtFront (take (length text - from) (drop from text)) g
    → TokenAtFront (take (length text - (from + g)) (drop (from + g) text)) kind len
    → IsNextIn text from (record { kind = kind; start = from + g; end = from + g + len })
next_in text from g len kind within gap_cut token_cut =
    let left = drop from text in
    let gap = subst (λ (t : List ℕ). GapAtFront t g) (take_rest text from) gap_cut in
    let token = subst (λ (t : List ℕ). TokenAtFront t kind len) (take_rest text (from + g) ∙ sym (drop-drop g from text)) token_cut in
    let rest = drop g left in
    let bytes = take len rest in
    let follows : drop len rest ≡ drop (from + g + len) text = ap (drop len) (drop-drop g from text) ∙ drop-drop len (from + g) text in
    let gap_len : length (take g left) ≡ g = length-take-le g left gap.fits in
    let len_is : length bytes ≡ len = length-take-le len rest token.fits in
    let rest_is : rest ≡ bytes ++ drop (from + g + len) text = sym (take-append-drop len rest) ∙ ap (λ (t : List ℕ). bytes ++ t) follows in
    let longest = subst (λ (t : List ℕ). IsLongest kind bytes t) follows token.is_longest in
    let some = some_bytes kind bytes longest.token in
    let parts = gap_before left g (bytes ++ drop (from + g + len) text) gap rest_is in
    record {
      fits = omega (arith, gap.fits, token.fits, length-drop from text, length-drop g left, len_is, some);
      is_later = omega (arith, len_is, some);
      is_next = record {
        gap = take g left;
        bytes = bytes;
        left_is = parts.0;
        is_gap = parts.1;
        is_longest = longest;
        start = omega (arith, gap_len);
        end = omega (arith, len_is);
      };
    }

-- no token behind the gap
pub stuck_in :
    (text : List ℕ) (from g : ℕ) → GapAtFront (take (length text - from) (drop from text)) g
    → 0 < length (take (length text - (from + g)) (drop (from + g) text)) → BeginsNoToken (take (length text - (from + g)) (drop (from + g) text))
    → IsStuck (drop from text) from (from + g)
stuck_in text from g gap_cut some none =
    let left = drop from text in
    let gap = subst (λ (t : List ℕ). GapAtFront t g) (take_rest text from) gap_cut in
    let rest_is : take (length text - (from + g)) (drop (from + g) text) ≡ drop g left = take_rest text (from + g) ∙ sym (drop-drop g from text) in
    let gap_len : length (take g left) ≡ g = length-take-le g left gap.fits in
    let parts = gap_before left g (drop g left) gap refl in
    record {
      gap = take g left;
      follows = drop g left;
      left_is = parts.0;
      is_gap = parts.1;
      some = omega (arith, some, ap length rest_is);
      no_token = subst BeginsNoToken rest_is none;
      at_is = omega (arith, gap_len);
    }

-- the text ends behind the gap
pub ends_in :
    (text : List ℕ) (from g : ℕ) → GapAtFront (take (length text - from) (drop from text)) g
    → length (take (length text - (from + g)) (drop (from + g) text)) ≡ 0 → IsGap (drop from text) []
ends_in text from g gap_cut none =
    let left = drop from text in
    let gap = subst (λ (t : List ℕ). GapAtFront t g) (take_rest text from) gap_cut in
    let rest_is : drop g left ≡ [] =
    drop-drop g from text ∙ sym (take_rest text (from + g)) ∙ nil_from_length (take (length text - (from + g)) (drop (from + g) text)) none in
    let parts = gap_before left g [] gap rest_is in
    subst (λ (t : List ℕ). IsGap t []) (sym (parts.0 ∙ append-nil (take g left))) parts.1

-- the byte at a place is the first of what is left there
quote_get : (text : List ℕ) (at : ℕ) → begins (λ c. c == 34) (drop at text) ≡ true → slice_get text at ≡ Some 34
quote_get [] zero is = absurd (false≢true is)
quote_get [] (suc at) is = absurd (false≢true is)
quote_get (c ∷ text) zero is = ap (λ (b : ℕ). Some b) (eqb-true c 34 is)
quote_get (c ∷ text) (suc at) is = quote_get text at is

quote_from : (text : List ℕ) (at : ℕ) → slice_get text at ≡ Some 34 → begins (λ c. c == 34) (drop at text) ≡ true
quote_from [] zero is = cc
quote_from [] (suc at) is = cc
quote_from (c ∷ text) zero is = let same : c ≡ 34 = cc in eq-eqb c 34 same
quote_from (c ∷ text) (suc at) is = quote_from text at is

pub quote_there : (text : List ℕ) (at : ℕ) → begins (λ c. c == 34) (take (length text - at) (drop at text)) ≡ true → slice_get text at ≡ Some 34
quote_there text at is = quote_get text at (ap (begins (λ c. c == 34)) (sym (take_rest text at)) ∙ is)

pub quote_absent :
    (text : List ℕ) (at : ℕ) → begins (λ c. c == 34) (take (length text - at) (drop at text)) ≡ false → slice_get text at ≡ Some 34 → ⊥
quote_absent text at is there = false≢true (sym is ∙ ap (begins (λ c. c == 34)) (take_rest text at) ∙ quote_from text at there)

-- what is not empty has a byte
pub some_left : (n : ℕ) (b : Bool) → b ≡ (n == 0) → b ≡ false → 0 < n
some_left n b is other = grind (arith, nat_tests)

-- ---- each text is read

-- how a text is read from a place on
pub record IsRead (left : List ℕ) (place : ℕ) : Type 0 where
  pub ts : List Token
  pub stuck : Option ℕ
  pub reads : Reads left place ts stuck

read_behind :
    (text : List ℕ) (from g : ℕ) → from ≤ length text → GapAtFront (take (length text - from) (drop from text)) g
    → ((at : ℕ) → at ≤ length text → from < at → IsRead (drop at text) at) → IsRead (drop from text) from
read_behind text from g within gap read = by_length (cases_eq (length rest) 0)
  where
    rest : List ℕ
    rest = take (length text - (from + g)) (drop (from + g) text)

    by_token : 0 < length rest → HasLongest rest ⊎ BeginsNoToken rest → IsRead (drop from text) from
    by_token some (inl found) =
        let next = next_in text from g found.len found.kind within gap found.front in
        let end = from + g + found.len in
        let more = read end next.fits next.is_later in
        record {
          ts = record { kind = found.kind; start = from + g; end = end } ∷ more.ts;
          stuck = more.stuck;
          reads = (drop end text, next.is_next, more.reads);
        }
    by_token some (inr none) = record { ts = []; stuck = Some (from + g); reads = stuck_in text from g gap some none }

    by_length : (length rest ≡ 0) ⊎ (length rest ≡ 0 → ⊥) → IsRead (drop from text) from
    by_length (inl none) = record { ts = []; stuck = None; reads = ends_in text from g gap none }
    by_length (inr other) = let some : 0 < length rest = omega (arith, other) in by_token some (token_or_none rest some)

read_from : (fuel : ℕ) (text : List ℕ) (from : ℕ) → from ≤ length text → length text < from + fuel → IsRead (drop from text) from
read_from zero text from within few = absurd (omega arith)
read_from (suc fuel) text from within few =
    let gap = gap-exists (take (length text - from) (drop from text)) in
    read_behind text from gap.0 within gap.1 (λ at fits later. read_from fuel text at fits (omega arith))

-- each text is read
pub reads-exists : (text : List ℕ) → IsRead text 0
reads-exists text = read_from (suc (length text)) text 0 (omega arith) (omega arith)

-- also from any place on
pub read_at : (text : List ℕ) (place : ℕ) → IsRead (drop place text) place
read_at text place = by_place (cases_lt (length text) place)
  where
    behind : length text < place → drop place text ≡ []
    behind later = nil_from_length (drop place text) (omega (arith, length-drop place text))

    by_place : (length text < place) ⊎ (place ≤ length text) → IsRead (drop place text) place
    by_place (inl later) =
        record { ts = []; stuck = None; reads = subst (λ (t : List ℕ). IsGap t []) (sym (behind later)) (no_gap refl) }
    by_place (inr within) = read_from (suc (length text)) text place within (omega arith)
