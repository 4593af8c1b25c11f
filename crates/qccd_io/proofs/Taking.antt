use Rattle.std.proofs.Common.{◌≡◌, ◌≢◌, ◌≤◌, ◌<◌, ◌+◌, ℕ, suc, cond, List, [], ◌∷◌, ◌++◌, Bool, true, false, None, Some, String, Global, Vec, length, take, drop, get_or, map, refl, sym, ◌∙◌, ap, arith}
use Rattle.std.specs.Prelude.{bytes_eq, nat_lt, position, remove, string_bytes}
use Rattle.std.specs.List.{position_or_len}
use Rattle.std.proofs.lemmas.List.{take-append-drop, map-append}
use Rattle.std.proofs.lemmas.List.Quantifiers.{position-Some}
use Rattle.std.proofs.lemmas.Bool.Decides.{nat_tests}
use Rattle.std.proofs.lemmas.Slice.Eq.{bytes_eq-Decides}
use Rattle.std.proofs.Math.Seq.{drop-cons}
use Rattle.qccd_io.specs.Stock.{entry_of, file_named, HaveDistinctNames, TakesNamed}
use Rattle.qccd_io.proofs.Files.{file_named-among, file_named-gone, file_named-without, file_named-append_same, file_named-append_other, HaveDistinctNames-without, HaveDistinctNames-append}

-- a file as the program stores it
abbrev pub Stored : Type 0
Stored = String Global × Vec ℕ Global

-- a stored file has this name
abbrev pub is_named : List ℕ → Stored → Bool
is_named name file = bytes_eq (string_bytes file.0) name

-- no place was found before the end
pub file_named-past_end :
    (files : List Stored) (name : List ℕ)
    → length files ≤ position_or_len (is_named name) files → file_named (map entry_of files) name ≡ None
file_named-past_end [] name past = refl
file_named-past_end (file ∷ files) name past =
    at_each (is_named name file) refl (λ later. file_named-past_end files name later)
  where
    at_each :
        (t : Bool) → is_named name file ≡ t
        → (length files ≤ position_or_len (is_named name) files → file_named (map entry_of files) name ≡ None)
        → file_named (map entry_of (file ∷ files)) name ≡ None
    at_each true e later = let h : suc (length files) ≤ 0 = rw e at past in absurd (omega (arith, h))
    at_each false e later =
        let h : suc (length files) ≤ 1 + position_or_len (is_named name) files = rw e at past in
        rw e (later (omega (arith, h)))

-- no place was found
pub file_named-nowhere :
    (files : List Stored) (name : List ℕ) → position (is_named name) files ≡ None → file_named (map entry_of files) name ≡ None
file_named-nowhere files name nowhere =
    file_named-past_end files name (past (position_or_len (is_named name) files) (length files) nowhere)
  where
    past : (n m : ℕ) → cond (nat_lt n m) (Some n) None ≡ None → m ≤ n
    past n m h = grind (arith, nat_tests)

-- the file at the place that was found was taken out
pub TakesNamed-from_position :
    (files : List Stored) (name : List ℕ) (i : ℕ) (file : Stored)
    → position (is_named name) files ≡ Some i → file ≡ get_or files i file → TakesNamed files (remove files i) name file
TakesNamed-from_position files name i file found is =
    (take i files, drop (suc i) files, split, refl, (bytes_eq-Decides (string_bytes file.0) name).0 named)
  where
    facts : (i < length files) × (is_named name (get_or files i file) ≡ true)
    facts = let f = position-Some (is_named name) files i file found in (f.0, f.1)

    split : files ≡ take i files ++ file ∷ drop (suc i) files
    split =
        sym (take-append-drop i files) ∙ ap (λ l. take i files ++ l) (drop-cons files i file facts.0)
        ∙ ap (λ f. take i files ++ f ∷ drop (suc i) files) (sym is)

    named : is_named name file ≡ true
    named = ap (is_named name) is ∙ facts.1

-- what is held after a file was taken out
pub TakesNamed-holds :
    (old new : List Stored) (name : List ℕ) (file : Stored)
    → HaveDistinctNames (map entry_of old) → TakesNamed old new name file
    → (file_named (map entry_of old) name ≡ Some file.1.items)
    × (file_named (map entry_of new) name ≡ None)
    × ((q : List ℕ) → q ≢ name → file_named (map entry_of new) q ≡ file_named (map entry_of old) q)
    × HaveDistinctNames (map entry_of new)
TakesNamed-holds old new name file distinct (front, back, was, is, named) = (
  rw (was_map, ← named) (file_named-among f b e distinct'),
  rw (is_map, ← named) (file_named-gone f b e distinct'),
  (λ q other. rw (is_map, was_map) (file_named-without f b e q (λ same. other (same ∙ named)))),
  rw is_map (HaveDistinctNames-without f b e distinct'),
)
  where
    f : List (List ℕ × List ℕ)
    f = map entry_of front

    b : List (List ℕ × List ℕ)
    b = map entry_of back

    e : List ℕ × List ℕ
    e = entry_of file

    was_map : map entry_of old ≡ f ++ e ∷ b
    was_map = ap (map entry_of) was ∙ map-append entry_of front (file ∷ back)

    is_map : map entry_of new ≡ f ++ b
    is_map = ap (map entry_of) is ∙ map-append entry_of front back

    distinct' : HaveDistinctNames (f ++ e ∷ b)
    distinct' = rw was_map at distinct

-- what is held after a file was put at the end, under a name that was not held
pub file_named-put_back :
    (old new : List Stored) (name : List ℕ) (file : Stored)
    → HaveDistinctNames (map entry_of old) → file_named (map entry_of old) name ≡ None
    → string_bytes file.0 ≡ name → new ≡ old ++ file ∷ []
    → (file_named (map entry_of new) name ≡ Some file.1.items)
    × ((q : List ℕ) → q ≢ name → file_named (map entry_of new) q ≡ file_named (map entry_of old) q)
    × HaveDistinctNames (map entry_of new)
file_named-put_back old new name file distinct free named is = (
  rw (is_map, ← named) (file_named-append_same f e free'),
  (λ q other. rw is_map (file_named-append_other f e q (λ same. other (same ∙ named)))),
  rw is_map (HaveDistinctNames-append f e distinct free'),
)
  where
    f : List (List ℕ × List ℕ)
    f = map entry_of old

    e : List ℕ × List ℕ
    e = entry_of file

    is_map : map entry_of new ≡ f ++ e ∷ []
    is_map = ap (map entry_of) is ∙ map-append entry_of old (file ∷ [])

    free' : file_named f e.0 ≡ None
    free' = ap (file_named f) named ∙ free
