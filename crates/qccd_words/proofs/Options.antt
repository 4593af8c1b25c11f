-- What stands behind an option and its value.
use Rattle.std.proofs.Common.{◌≡◌, ℕ, ◌≤◌, ◌-◌, false, List, [], ◌∷◌, length, get_or, take, drop, map, Option, Some, None, codes, refl, sym, ap, ◌∙◌, Global, string_bytes, String, arith}
use Rattle.std.specs.Option.{is_some}
use Rattle.std.proofs.Math.Seq.{take-length}
use Rattle.qccd_base.specs.declared.names.Mode.{Mode}
use Rattle.qccd_words.specs.Words.{mode_named, number_named, options_of}

-- two words and the rest of them
split : {A : Type 0} (xs : List A) (a b : A) → 2 ≤ length xs → a ≡ get_or xs 0 a → b ≡ get_or xs 1 b
    → xs ≡ a ∷ b ∷ take (length xs - 2) (drop 2 xs)
split [] a b two first second = absurd (omega arith)
split (x ∷ []) a b two first second = absurd (omega arith)
split {A = A} (x ∷ y ∷ zs) a b two first second = rw (first, second) (ap (λ (rest : List A). x ∷ y ∷ rest) (sym (ap (λ (n : ℕ). take n zs) all ∙ take-length zs)))
  where
    all : length (x ∷ y ∷ zs) - 2 ≡ length zs
    all = omega arith

-- the bytes of the words behind the first two
abbrev behind : List (String Global) → List (List ℕ)
behind words = map (string_bytes {Z = Global}) (take (length words - 2) (drop 2 words))

split_bytes : (words : List (String Global)) (name value : String Global) → 2 ≤ length words → name ≡ get_or words 0 name → value ≡ get_or words 1 value
    → map (string_bytes {Z = Global}) words ≡ string_bytes name ∷ string_bytes value ∷ behind words
split_bytes words name value two first second = ap (map (string_bytes {Z = Global})) (split words name value two first second)

-- a number of workers, and then the further options
after_workers : (name value : List ℕ) (words : List (List ℕ)) (workers : Option ℕ) (mode : Option Mode) (n : ℕ)
    → name ≡ codes "--workers" → is_some workers ≡ false → Some n ≡ number_named 1 16 value
    → options_of (name ∷ value ∷ words) workers mode ≡ options_of words (Some n) mode
after_workers name value words None mode n is new there = rw (is, ← there) refl
after_workers name value words (Some old) mode n is new there = absurd (cc)

pub workers_given : (words : List (String Global)) (name value : String Global) (workers : Option ℕ) (mode : Option Mode) (n : ℕ)
    → 2 ≤ length words → name ≡ get_or words 0 name → value ≡ get_or words 1 value
    → string_bytes name ≡ codes "--workers" → is_some workers ≡ false → Some n ≡ number_named 1 16 (string_bytes value)
    → options_of (map (string_bytes {Z = Global}) words) workers mode ≡ options_of (behind words) (Some n) mode
workers_given words name value workers mode n two first second is new there =
    ap (λ (shown : List (List ℕ)). options_of shown workers mode) (split_bytes words name value two first second)
    ∙ after_workers (string_bytes name) (string_bytes value) (behind words) workers mode n is new there

-- a mode, and then the further options
after_mode : (name value : List ℕ) (words : List (List ℕ)) (workers : Option ℕ) (mode : Option Mode) (m : Mode)
    → name ≡ codes "--swap" → is_some mode ≡ false → Some m ≡ mode_named value
    → options_of (name ∷ value ∷ words) workers mode ≡ options_of words workers (Some m)
after_mode name value words workers None m is new there = rw (is, ← there) refl
after_mode name value words workers (Some old) m is new there = absurd (cc)

pub mode_given : (words : List (String Global)) (name value : String Global) (workers : Option ℕ) (mode : Option Mode) (m : Mode)
    → 2 ≤ length words → name ≡ get_or words 0 name → value ≡ get_or words 1 value
    → string_bytes name ≡ codes "--swap" → is_some mode ≡ false → Some m ≡ mode_named (string_bytes value)
    → options_of (map (string_bytes {Z = Global}) words) workers mode ≡ options_of (behind words) workers (Some m)
mode_given words name value workers mode m two first second is new there =
    ap (λ (shown : List (List ℕ)). options_of shown workers mode) (split_bytes words name value two first second)
    ∙ after_mode (string_bytes name) (string_bytes value) (behind words) workers mode m is new there
