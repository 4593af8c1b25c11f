-- Lines: what is read is the line of its value, and the line of a value is read as it.
use Rattle.std.proofs.Common.{◌≡◌, ℕ, zero, suc, ◌+◌, ◌<◌, ◌≤◌, Bool, true, false, not, ◌&&◌, ◌==◌, List, [], ◌∷◌, ◌++◌, map, length, Result, Ok, Err, refl, sym, ap, ◌∙◌, subst, arith, append_assoc}
use Rattle.std.specs.List.{AllByRecursion, slice_split, join_with_byte}
use Rattle.std.proofs.lemmas.Bool.{and_parts}
use Rattle.std.proofs.lemmas.List.Splits.{join_with_byte-slice_split, slice_split_at}
use Rattle.std.proofs.lemmas.List.{append-nil}
use Rattle.std.proofs.lemmas.List.Elements.{All-from_recursion}
use Rattle.op_text.specs.declared.kind.AsmKind.{AsmKind}
use Rattle.op_text.specs.Steps.{◌>>=◌}
use Rattle.transport_asm.specs.Lines.{words_of, Unread, Refusal, told, line_in, line_at, numbered, ends_in, ended, line_text, lines_text, numbered_lines, all_of, Block, line_block, ◌▹◌, read_all}
use Rattle.transport_asm.proofs.Cut.{lacks, EachLacks, All-lacks, split-join}
use Rattle.transport_asm.proofs.SlotLaws.{bind_ok, is_plain, EachPlain}

-- ---- plain words

parted : (a b r : Bool) → ((a && b) && r) ≡ true → (a ≡ true) × (b ≡ true) × (r ≡ true)
parted true true true e = (refl, refl, refl)
parted true true false e = absurd cc
parted true false r e = absurd cc
parted false b r e = absurd cc

joined : (a r : Bool) → a ≡ true → r ≡ true → (a && r) ≡ true
joined true true e f = refl
joined true false e f = absurd cc
joined false r e f = absurd cc

plain_space : (word : List ℕ) → is_plain word ≡ true → lacks 32 word ≡ true
plain_space [] plain = refl
plain_space (b ∷ word) plain = let parts = parted (not (b == 32)) (not (b == 10)) (is_plain word) plain in joined (not (b == 32)) (lacks 32 word) parts.0 (plain_space word parts.2)

plain_feed : (word : List ℕ) → is_plain word ≡ true → lacks 10 word ≡ true
plain_feed [] plain = refl
plain_feed (b ∷ word) plain = let parts = parted (not (b == 32)) (not (b == 10)) (is_plain word) plain in joined (not (b == 10)) (lacks 10 word) parts.1 (plain_feed word parts.2)

each_space : (words : List (List ℕ)) → EachPlain words → EachLacks 32 words
each_space [] plain = tt
each_space (w ∷ words) plain = (plain_space w plain.0, each_space words plain.1)

-- words that are joined are cut again
pub words_of-line_text : (word : List ℕ) (words : List (List ℕ)) → EachPlain (word ∷ words) → words_of (line_text (word ∷ words)) ≡ word ∷ words
words_of-line_text word words plain = split-join 32 word words (plain_space word plain.0) (each_space words plain.1)

pub line_text-words_of : (line : List ℕ) → line_text (words_of line) ≡ line
line_text-words_of line = join_with_byte-slice_split 32 line

abbrev pub EachLine : List (List (List ℕ)) → Type 0
EachLine lines = AllByRecursion EachPlain lines

-- ---- one line

-- a line of values: its first word and those behind it
pub record IsLine {A : Type 0} (read : List (List ℕ) → Result A AsmKind) (words : A → List (List ℕ)) (Fits : A → Type 0) : Type 0 where
  pub takes : (ws : List (List ℕ)) (value : A) → read ws ≡ Ok value → (ws ≡ words value) × Fits value
  pub again : (value : A) → Fits value → read (words value) ≡ Ok value
  pub plain : (value : A) → Fits value → EachPlain (words value)
  pub some : (value : A) → 0 < length (words value)

-- lines of a value
pub record IsBlock {A : Type 0} (b : Block A) (Fits : A → Type 0) : Type 0 where
  pub takes : (left : Unread) (value : A) (next : Unread) → b.read left ≡ Ok (value, next) → (left.parts ≡ map line_text (b.lines value) ++ next.parts) × Fits value
  pub again : (k : ℕ) (parts : List (List ℕ)) (value : A) → 0 < length parts → Fits value
      → (j : ℕ) × (b.read (record { number = k; parts = map line_text (b.lines value) ++ parts }) ≡ Ok (value, record { number = j; parts = parts }))
  pub plain : (value : A) → Fits value → EachLine (b.lines value)

pub cut_again : (words : List (List ℕ)) → 0 < length words → EachPlain words → words_of (line_text words) ≡ words
cut_again [] some plain = absurd (omega arith)
cut_again (word ∷ words) some plain = words_of-line_text word words plain

abbrev read_so : {A : Type 0} → A → Result A Refusal
read_so x = Ok x

pub read_is : {A : Type 0} (x y : A) → read_so x ≡ read_so y → x ≡ y
read_is x y e = cc

told_ok : {A : Type 0} (number : ℕ) (r : Result A AsmKind) (parts : List (List ℕ)) (value : A) (next : Unread) → told number r parts ≡ Ok (value, next) → (r ≡ Ok value) × (parts ≡ next.parts)
told_ok number (Err kind) parts value next e = absurd cc
told_ok {A} number (Ok x) parts value next e =
    let pair = read_is (x, record { number = number + 1; parts = parts }) (value, next) e in
    (ap (λ (p : A × Unread). Ok p.0) pair, ap (λ (p : A × Unread). p.1.parts) pair)

line_takes : {A : Type 0} (read : List (List ℕ) → Result A AsmKind) (words : A → List (List ℕ)) (Fits : A → Type 0) → IsLine read words Fits
    → (number : ℕ) (parts : List (List ℕ)) (value : A) (next : Unread) → line_in read number parts ≡ Ok (value, next) → (parts ≡ line_text (words value) ∷ next.parts) × Fits value
line_takes read words Fits law number [] value next e = absurd cc
line_takes read words Fits law number (last ∷ []) value next e = absurd cc
line_takes read words Fits law number (line ∷ part ∷ parts) value next e =
    let both = told_ok number (read (words_of line)) (part ∷ parts) value next e in
    let t = law.takes (words_of line) value both.0 in
    let is : line ≡ line_text (words value) = sym (line_text-words_of line) ∙ ap line_text t.0 in
    (ap (λ (l : List ℕ). l ∷ part ∷ parts) is ∙ ap (λ (ps : List (List ℕ)). line_text (words value) ∷ ps) both.1, t.1)

pub line_again : {A : Type 0} (read : List (List ℕ) → Result A AsmKind) (words : A → List (List ℕ)) (Fits : A → Type 0) → IsLine read words Fits
    → (k : ℕ) (parts : List (List ℕ)) (value : A) → 0 < length parts → Fits value
    → line_at read (record { number = k; parts = line_text (words value) ∷ parts }) ≡ Ok (value, record { number = k + 1; parts = parts })
line_again read words Fits law k [] value some fits = absurd (omega arith)
line_again read words Fits law k (part ∷ parts) value some fits = rw (cut_again (words value) (law.some value) (law.plain value fits), law.again value fits) refl

pub line_law : {A : Type 0} (read : List (List ℕ) → Result A AsmKind) (words : A → List (List ℕ)) (Fits : A → Type 0) → IsLine read words Fits → IsBlock (line_block read words) Fits
line_law read words Fits law = record {
  takes = λ left value next e. line_takes read words Fits law left.number left.parts value next e;
  again = λ k parts value some fits. (k + 1, line_again read words Fits law k parts value some fits);
  plain = λ value fits. (law.plain value fits, tt);
}

-- one block and then another
map-append : {X Y : Type 0} (f : X → Y) (xs ys : List X) → map f (xs ++ ys) ≡ map f xs ++ map f ys
map-append f [] ys = refl
map-append f (x ∷ xs) ys = ap (λ (zs : List _). f x ∷ zs) (map-append f xs ys)

EachLine-append : (ws vs : List (List (List ℕ))) → EachLine ws → EachLine vs → EachLine (ws ++ vs)
EachLine-append [] vs f g = g
EachLine-append (w ∷ ws) vs f g = (f.0, EachLine-append ws vs f.1 g)

pub some_behind : {X : Type 0} (xs ys : List X) → 0 < length ys → 0 < length (xs ++ ys)
some_behind [] ys some = some
some_behind (x ∷ xs) ys some = omega arith

then_takes : {A B : Type 0} (p : Block A) (q : A → Block B) (F : A → Type 0) (G : A → B → Type 0) → IsBlock p F → ((a : A) → F a → IsBlock (q a) (G a))
    → (left : Unread) (value : A × B) (next : Unread) → (p ▹ q).read left ≡ Ok (value, next) → (left.parts ≡ map line_text ((p ▹ q).lines value) ++ next.parts) × (F value.0 × G value.0 value.1)
then_takes {A} {B} p q F G first second left value next e =
    let a = bind_ok (p.read left) (λ a. (q a.0).read a.1 >>= λ b. Ok ((a.0, b.0), b.1)) (value, next) e in
    let b = bind_ok ((q a.0.0).read a.0.1) (λ b. Ok ((a.0.0, b.0), b.1)) (value, next) a.2 in
    let t = first.takes left a.0.0 a.0.1 a.1 in
    let u = (second a.0.0 t.1).takes a.0.1 b.0.0 b.0.1 b.1 in
    let front = map line_text (p.lines a.0.0) in
    let back = map line_text ((q a.0.0).lines b.0.0) in
    let both : left.parts ≡ front ++ (back ++ b.0.1.parts) = t.0 ∙ ap (λ (ps : List (List ℕ)). front ++ ps) u.0 in
    let made : left.parts ≡ map line_text (p.lines a.0.0 ++ (q a.0.0).lines b.0.0) ++ b.0.1.parts =
    both ∙ sym (append_assoc front back b.0.1.parts) ∙ ap (λ (ps : List (List ℕ)). ps ++ b.0.1.parts) (sym (map-append line_text (p.lines a.0.0) ((q a.0.0).lines b.0.0))) in
    subst (λ (v : (A × B) × Unread). (left.parts ≡ map line_text ((p ▹ q).lines v.0) ++ v.1.parts) × (F v.0.0 × G v.0.0 v.0.1)) (read_is ((a.0.0, b.0.0), b.0.1) (value, next) b.2) (made, (t.1, u.1))

then_again : {A B : Type 0} (p : Block A) (q : A → Block B) (F : A → Type 0) (G : A → B → Type 0) → IsBlock p F → ((a : A) → F a → IsBlock (q a) (G a))
    → (k : ℕ) (parts : List (List ℕ)) (value : A × B) → 0 < length parts → F value.0 × G value.0 value.1
    → (j : ℕ) × ((p ▹ q).read (record { number = k; parts = map line_text ((p ▹ q).lines value) ++ parts }) ≡ Ok (value, record { number = j; parts = parts }))
then_again p q F G first second k parts value some fits =
    let front = p.lines value.0 in
    let back = (q value.0).lines value.1 in
    let a = first.again k (map line_text back ++ parts) value.0 (some_behind (map line_text back) parts some) fits.0 in
    let b = (second value.0 fits.0).again a.0 parts value.1 some fits.1 in
    let is : map line_text (front ++ back) ++ parts ≡ map line_text front ++ (map line_text back ++ parts) = ap (λ (ps : List (List ℕ)). ps ++ parts) (map-append line_text front back) ∙ append_assoc (map line_text front) (map line_text back) parts in
    (b.0, ap (λ (ps : List (List ℕ)). (p ▹ q).read (record { number = k; parts = ps })) is ∙ rw (a.1, b.1) refl)

pub then_law : {A B : Type 0} (p : Block A) (q : A → Block B) (F : A → Type 0) (G : A → B → Type 0) → IsBlock p F → ((a : A) → F a → IsBlock (q a) (G a)) → IsBlock (p ▹ q) (λ v. F v.0 × G v.0 v.1)
then_law p q F G first second = record {
  takes = then_takes p q F G first second;
  again = then_again p q F G first second;
  plain = λ value fits. EachLine-append (p.lines value.0) ((q value.0).lines value.1) (first.plain value.0 fits.0) ((second value.0 fits.0).plain value.1 fits.1);
}

-- ---- numbered lines

pub numbered_takes : {A : Type 0} (read : ℕ → List (List ℕ) → Result A AsmKind) (words : ℕ → A → List (List ℕ)) (Fits : A → Type 0) → (limit : ℕ) → ((k : ℕ) → k < limit → IsLine (read k) (words k) Fits)
    → (n k : ℕ) (left : Unread) (values : List A) (next : Unread) → k + n ≤ limit → numbered read n k left ≡ Ok (values, next)
    → (left.parts ≡ map line_text (numbered_lines words k values) ++ next.parts) × (length values ≡ n) × AllByRecursion Fits values
numbered_takes {A} read words Fits limit law zero k left values next below e =
    let pair = read_is ([], left) (values, next) e in
    subst (λ (p : List A × Unread). (left.parts ≡ map line_text (numbered_lines words k p.0) ++ p.1.parts) × (length p.0 ≡ 0) × AllByRecursion Fits p.0) pair (refl, refl, tt)
numbered_takes {A} read words Fits limit law (suc n) k left values next below e =
    let a = bind_ok (line_at (read k) left) (λ first. numbered read n (k + 1) first.1 >>= λ more. Ok (first.0 ∷ more.0, more.1)) (values, next) e in
    let b = bind_ok (numbered read n (k + 1) a.0.1) (λ more. Ok (a.0.0 ∷ more.0, more.1)) (values, next) a.2 in
    let first = (line_law (read k) (words k) Fits (law k (omega arith))).takes left a.0.0 a.0.1 a.1 in
    let more = numbered_takes read words Fits limit law n (k + 1) a.0.1 b.0.0 b.0.1 (omega arith) b.1 in
    let pair = read_is (a.0.0 ∷ b.0.0, b.0.1) (values, next) b.2 in
    let made : left.parts ≡ line_text (words k a.0.0) ∷ (map line_text (numbered_lines words (k + 1) b.0.0) ++ b.0.1.parts) = first.0 ∙ ap (λ (ps : List (List ℕ)). line_text (words k a.0.0) ∷ ps) more.0 in
    subst (λ (p : List A × Unread). (left.parts ≡ map line_text (numbered_lines words k p.0) ++ p.1.parts) × (length p.0 ≡ suc n) × AllByRecursion Fits p.0) pair (made, ap suc more.1, (first.1, more.2))

pub numbered_again : {A : Type 0} (read : ℕ → List (List ℕ) → Result A AsmKind) (words : ℕ → A → List (List ℕ)) (Fits : A → Type 0) → (limit : ℕ) → ((k : ℕ) → k < limit → IsLine (read k) (words k) Fits)
    → (values : List A) (k number : ℕ) (parts : List (List ℕ)) → k + length values ≤ limit → 0 < length parts → AllByRecursion Fits values
    → (j : ℕ) × (numbered read (length values) k (record { number = number; parts = map line_text (numbered_lines words k values) ++ parts }) ≡ Ok (values, record { number = j; parts = parts }))
numbered_again read words Fits limit law [] k number parts below some fits = (number, refl)
numbered_again read words Fits limit law (value ∷ more) k number parts below some fits =
    let rest = map line_text (numbered_lines words (k + 1) more) ++ parts in
    let first = line_again (read k) (words k) Fits (law k (omega arith)) number rest value (some_behind (map line_text (numbered_lines words (k + 1) more)) parts some) fits.0 in
    let others = numbered_again read words Fits limit law more (k + 1) (number + 1) parts (omega arith) some fits.1 in
    (others.0, rw (first, others.1) refl)

pub numbered_plain : {A : Type 0} (read : ℕ → List (List ℕ) → Result A AsmKind) (words : ℕ → A → List (List ℕ)) (Fits : A → Type 0) → (limit : ℕ) → ((k : ℕ) → k < limit → IsLine (read k) (words k) Fits)
    → (values : List A) (k : ℕ) → k + length values ≤ limit → AllByRecursion Fits values → EachLine (numbered_lines words k values)
numbered_plain read words Fits limit law [] k below fits = tt
numbered_plain read words Fits limit law (value ∷ more) k below fits = ((law k (omega arith)).plain value fits.0, numbered_plain read words Fits limit law more (k + 1) (omega arith) fits.1)

-- ---- the whole

pub ended_takes : {A : Type 0} (value : A) (number : ℕ) (parts : List (List ℕ)) (made : A) → ends_in value number parts ≡ Ok made → (parts ≡ [] ∷ []) × (value ≡ made)
ended_takes value number [] made e = absurd cc
ended_takes value number ([] ∷ []) made e = (refl, read_is value made e)
ended_takes value number ((c ∷ cs) ∷ []) made e = absurd cc
ended_takes value number ([] ∷ part ∷ parts) made e = absurd cc
ended_takes value number ((c ∷ cs) ∷ part ∷ parts) made e = absurd cc

-- a text whose parts are lines and then nothing is the text of these lines
join_lines : (lines : List (List (List ℕ))) → join_with_byte 10 (map line_text lines ++ [] ∷ []) ≡ lines_text lines
join_lines [] = refl
join_lines (l ∷ []) = sym (append-nil (line_text l ++ 10 ∷ []))
join_lines (l ∷ m ∷ lines) = ap (λ (r : List ℕ). line_text l ++ 10 ∷ r) (join_lines (m ∷ lines)) ∙ sym (append_assoc (line_text l) (10 ∷ []) (lines_text (m ∷ lines)))

pub text_is : (text : List ℕ) (lines : List (List (List ℕ))) → (all_of text).parts ≡ map line_text lines ++ [] ∷ [] → text ≡ lines_text lines
text_is text lines e = sym (join_with_byte-slice_split 10 text) ∙ ap (λ (ps : List (List ℕ)). join_with_byte 10 ps) e ∙ join_lines lines

lacks-append : (xs ys : List ℕ) → lacks 10 xs ≡ true → lacks 10 ys ≡ true → lacks 10 (xs ++ ys) ≡ true
lacks-append [] ys e f = f
lacks-append (x ∷ xs) ys e f = let parts = and_parts (not (x == 10)) (lacks 10 xs) e in joined (not (x == 10)) (lacks 10 (xs ++ ys)) parts.0 (lacks-append xs ys parts.1 f)

feed_line : (words : List (List ℕ)) → EachPlain words → lacks 10 (line_text words) ≡ true
feed_line [] plain = refl
feed_line (w ∷ []) plain = plain_feed w plain.0
feed_line (w ∷ v ∷ words) plain = lacks-append w (32 ∷ line_text (v ∷ words)) (plain_feed w plain.0) (feed_line (v ∷ words) plain.1)

pub parts_of : (lines : List (List (List ℕ))) → EachLine lines → (all_of (lines_text lines)).parts ≡ map line_text lines ++ [] ∷ []
parts_of [] plain = refl
parts_of (l ∷ lines) plain =
    let lacking = All-from_recursion (λ b. (b == 10) ≡ false) (line_text l) (All-lacks 10 (line_text l) (feed_line l plain.0)) in
    ap (λ (t : List ℕ). slice_split (λ b. b == 10) t) (append_assoc (line_text l) (10 ∷ []) (lines_text lines))
    ∙ slice_split_at (λ b. b == 10) (line_text l) 10 (lines_text lines) lacking refl
    ∙ ap (λ (ps : List (List ℕ)). line_text l ∷ ps) (parts_of lines plain.1)

-- a block that is a whole text
pub all_takes : {A : Type 0} (b : Block A) (Fits : A → Type 0) → IsBlock b Fits → (text : List ℕ) (value : A) → read_all b text ≡ Ok value → (text ≡ lines_text (b.lines value)) × Fits value
all_takes {A} b Fits law text value e =
    let a = bind_ok (b.read (all_of text)) (λ a. ended a.0 a.1) value e in
    let t = law.takes (all_of text) a.0.0 a.0.1 a.1 in
    let f = ended_takes a.0.0 a.0.1.number a.0.1.parts value a.2 in
    let parts : (all_of text).parts ≡ map line_text (b.lines a.0.0) ++ [] ∷ [] = t.0 ∙ ap (λ (ps : List (List ℕ)). map line_text (b.lines a.0.0) ++ ps) f.0 in
    subst (λ (v : A). (text ≡ lines_text (b.lines v)) × Fits v) f.1 (text_is text (b.lines a.0.0) parts, t.1)

pub all_again : {A : Type 0} (b : Block A) (Fits : A → Type 0) → IsBlock b Fits → (value : A) → Fits value → read_all b (lines_text (b.lines value)) ≡ Ok value
all_again b Fits law value fits =
    let read = law.again 1 ([] ∷ []) value (omega arith) fits in
    let parts = parts_of (b.lines value) (law.plain value fits) in
    ap (λ (ps : List (List ℕ)). b.read (record { number = 1; parts = ps }) >>= λ a. ended a.0 a.1) parts ∙ rw read.1 refl
