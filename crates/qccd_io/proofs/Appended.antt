-- What follows from `appended`: nothing more, twice more, and where one text is a part of another.
use Rattle.std.proofs.Common.{◌≡◌, ℕ, ◌+◌, ◌-◌, ◌≤◌, List, [], ◌++◌, length, take, drop, Option, None, Some, refl, ap, sym, subst, ◌∙◌, append_assoc, arith, length-append, append-nil}
use Rattle.std.proofs.Math.Seq.{take-add, take-length, take-append-add, take-append_seam}
use Rattle.std.proofs.lemmas.List.{take-append-drop, take-append-le}
use Rattle.std.proofs.lemmas.Grind.{common_steps}
use Rattle.qccd_io.specs.Sink.{appended, known_length, TookPrefix}

pub appended-nothing : (t : Option (List ℕ)) → appended t [] ≡ t
appended-nothing None = refl
appended-nothing (Some xs) = ap Some (append-nil xs)

pub appended-twice : (t : Option (List ℕ)) (xs ys : List ℕ) → appended (appended t xs) ys ≡ appended t (xs ++ ys)
appended-twice None xs ys = refl
appended-twice (Some ts) xs ys = simp append_assoc

-- what is left of a text after its first n bytes, as a slice is seen
pub rest-of : (n : ℕ) (text : List ℕ) → take (length text - n) (drop n text) ≡ drop n text
rest-of n text = grind (arith, common_steps)

-- the first n of a text, and then the first k of what is left of it
pub appended-next : (old mid new : Option (List ℕ)) (text : List ℕ) (n k : ℕ)
    → mid ≡ appended old (take n text) → new ≡ appended mid (take k (drop n text)) → new ≡ appended old (take (n + k) text)
appended-next old mid new text n k e f = f ∙ (ap (λ t. appended t (take k (drop n text))) e ∙ (appended-twice old (take n text) (take k (drop n text)) ∙ ap (appended old) (sym (take-add n k text))))

-- where the same bytes are cut at two places, the longer front is the shorter one and some first bytes of its rest
front-cut : (xs ys ws ts : List ℕ) → ys ++ ws ≡ xs ++ ts → length xs ≤ length ys → ys ≡ xs ++ take (length ys - length xs) ts
front-cut xs ys ws ts e h =
    let n : length xs + (length ys - length xs) ≡ length ys = omega arith in
    sym (take-append_seam ys ws) ∙ (ap (take (length ys)) e ∙ (ap (λ k. take k (xs ++ ts)) (sym n) ∙ take-append-add xs ts (length ys - length xs)))

-- a sink that was followed by bytes that still wait took some first bytes of the text
pub prefix-handed : (old new : Option (List ℕ)) (waiting text : List ℕ)
    → appended new waiting ≡ appended old text → known_length old ≤ known_length new → TookPrefix old new text
prefix-handed None None waiting text e h = record { count = 0; within = omega arith; bytes = refl }
prefix-handed None (Some ys) waiting text e h = absurd (cc)
prefix-handed (Some xs) None waiting text e h = absurd (cc)
prefix-handed (Some xs) (Some ys) waiting text e h =
    let e' : ys ++ waiting ≡ xs ++ text = cc in
    record {
      count = length ys - length xs;
      within = omega (arith, ap length e', length-append ys waiting, length-append xs text);
      bytes = ap Some (front-cut xs ys waiting text e' h);
    }

-- some first bytes of what waits are handed on, and the rest still waits
pub appended-handed : (old new : Option (List ℕ)) (waiting : List ℕ) (n : ℕ)
    → new ≡ appended old (take n waiting) → appended new (drop n waiting) ≡ appended old waiting
appended-handed old new waiting n e =
    ap (λ t. appended t (drop n waiting)) e ∙ (appended-twice old (take n waiting) (drop n waiting) ∙ ap (appended old) (take-append-drop n waiting))

pub known_length-appended : (old : Option (List ℕ)) (more : List ℕ) → known_length old ≤ known_length (appended old more)
known_length-appended None more = omega arith
known_length-appended (Some bytes) more = omega (arith, length-append bytes more)

-- all of a text, and then some first bytes of the next
pub prefix-next : (old mid new : Option (List ℕ)) (text more : List ℕ)
    → mid ≡ appended old text → TookPrefix mid new more → TookPrefix old new (text ++ more)
prefix-next old mid new text more e p = record {
  count = length text + p.count;
  within = omega (arith, length-append text more, p.within);
  bytes = p.bytes ∙ (ap (λ t. appended t (take p.count more)) e ∙ (appended-twice old text (take p.count more) ∙ ap (appended old) (sym (take-append-add text more p.count))));
}

-- some first bytes of a text are some of the text with more after it
pub prefix-longer : (old new : Option (List ℕ)) (text more : List ℕ) → TookPrefix old new text → TookPrefix old new (text ++ more)
prefix-longer old new text more p = record {
  count = p.count;
  within = omega (arith, length-append text more, p.within);
  bytes = p.bytes ∙ ap (appended old) (sym (take-append-le p.count text more p.within));
}

-- all of a text is some first bytes of it
pub prefix-whole : (old new : Option (List ℕ)) (text : List ℕ) → new ≡ appended old text → TookPrefix old new text
prefix-whole old new text e = record {
  count = length text;
  within = omega arith;
  bytes = e ∙ ap (appended old) (sym (take-length text));
}

-- some first bytes of a text that still waits after it
pub prefix-of_prefix : (old new : Option (List ℕ)) (text : List ℕ) (n : ℕ) → TookPrefix old new (take n text) → TookPrefix old new text
prefix-of_prefix old new text n p =
    subst (λ t. TookPrefix old new t) (take-append-drop n text) (prefix-longer old new (take n text) (drop n text) p)

-- a failing use of a buffer that was empty: some first bytes of the text reached the sink below, and others may wait
pub prefix-left : (old new : Option (List ℕ)) (waiting text : List ℕ)
    → TookPrefix (appended old []) (appended new waiting) text → known_length old ≤ known_length new → TookPrefix old new text
prefix-left old new waiting text p h =
    prefix-of_prefix old new text p.count (prefix-handed old new waiting (take p.count text) (rw appended-nothing at p.bytes) h)

-- a failing end of a use of a buffer that was empty
pub prefix-finished : (old mid new : Option (List ℕ)) (waiting text : List ℕ)
    → appended mid waiting ≡ appended (appended old []) text → known_length old ≤ known_length mid → TookPrefix mid new waiting
    → TookPrefix old new text
prefix-finished old mid new waiting text e h p =
    prefix-handed old new (drop p.count waiting) text
    (appended-handed mid new waiting p.count p.bytes ∙ rw appended-nothing at e)
    (let grown = known_length-appended mid (take p.count waiting) in
    omega (arith, h, grown, ap known_length p.bytes))

pub ruleset sends = (appended-twice, prefix-next, prefix-longer)

pub ruleset buffers = (appended-nothing, prefix-left, prefix-finished)
