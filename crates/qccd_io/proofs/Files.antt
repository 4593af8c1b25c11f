use Rattle.std.proofs.Common.{◌≡◌, ◌≢◌, ℕ, List, [], ◌∷◌, ◌++◌, Bool, true, false, None, Some, refl, sym, ◌∙◌}
use Rattle.std.specs.Prelude.{bytes_eq}
use Rattle.std.proofs.lemmas.Slice.Eq.{bytes_eq-Decides}
use Rattle.qccd_io.specs.Stock.{file_named, HaveDistinctNames}

-- a name equals itself
pub bytes_eq-same : (name : List ℕ) → bytes_eq name name ≡ true
bytes_eq-same name = (bytes_eq-Decides name name).1 refl

-- the test of two names that differ
pub bytes_eq-other : (a b : List ℕ) → a ≢ b → bytes_eq a b ≡ false
bytes_eq-other a b other = at_each (bytes_eq a b) (bytes_eq-Decides a b).0
  where
    at_each : (t : Bool) → (t ≡ true → a ≡ b) → t ≡ false
    at_each true is = absurd (other (is refl))
    at_each false is = refl

-- the first file has its own name
pub file_named-same :
    (file : List ℕ × List ℕ) (files : List (List ℕ × List ℕ)) → file_named (file ∷ files) file.0 ≡ Some file.1
file_named-same file files = rw (bytes_eq-same file.0)

-- what another name has does not lie in the first file
pub file_named-other :
    (file : List ℕ × List ℕ) (files : List (List ℕ × List ℕ)) (q : List ℕ)
    → file.0 ≢ q → file_named (file ∷ files) q ≡ file_named files q
file_named-other file files q other = rw (bytes_eq-other file.0 q other)

-- a file that has a bytes under a name has another name than a file whose name is not held
pub apart : (a b : List ℕ) (x : List ℕ) (files : List (List ℕ × List ℕ))
    → file_named files a ≡ None → file_named files b ≡ Some x → a ≢ b
apart a b x files none some e = let h : file_named files b ≡ None = rw (sym e) none in cc

-- a file that is held among others, under distinct names
pub file_named-among :
    (front back : List (List ℕ × List ℕ)) (file : List ℕ × List ℕ)
    → HaveDistinctNames (front ++ file ∷ back) → file_named (front ++ file ∷ back) file.0 ≡ Some file.1
file_named-among [] back file distinct = file_named-same file back
file_named-among (first ∷ front) back file distinct =
    let held = file_named-among front back file distinct.1 in
    file_named-other first _ file.0 (apart _ _ _ _ distinct.0 held) ∙ held

-- every other name has the same bytes without that file
pub file_named-without :
    (front back : List (List ℕ × List ℕ)) (file : List ℕ × List ℕ) (q : List ℕ)
    → q ≢ file.0 → file_named (front ++ back) q ≡ file_named (front ++ file ∷ back) q
file_named-without [] back file q other = sym (file_named-other file back q (λ e. other (sym e)))
file_named-without (first ∷ front) back file q other = rw (file_named-without front back file q other)

-- without that file its name is not held
pub file_named-gone :
    (front back : List (List ℕ × List ℕ)) (file : List ℕ × List ℕ)
    → HaveDistinctNames (front ++ file ∷ back) → file_named (front ++ back) file.0 ≡ None
file_named-gone [] back file distinct = distinct.0
file_named-gone (first ∷ front) back file distinct =
    file_named-other first _ file.0 (apart _ _ _ _ distinct.0 (file_named-among front back file distinct.1))
    ∙ file_named-gone front back file distinct.1

-- the names stay distinct without that file
pub HaveDistinctNames-without :
    (front back : List (List ℕ × List ℕ)) (file : List ℕ × List ℕ)
    → HaveDistinctNames (front ++ file ∷ back) → HaveDistinctNames (front ++ back)
HaveDistinctNames-without [] back file distinct = distinct.1
HaveDistinctNames-without (first ∷ front) back file distinct = (
  file_named-without front back file first.0 (apart _ _ _ _ distinct.0 (file_named-among front back file distinct.1)) ∙ distinct.0,
  HaveDistinctNames-without front back file distinct.1,
)

-- a file was added at the end: another name has the same bytes
pub file_named-append_other :
    (files : List (List ℕ × List ℕ)) (file : List ℕ × List ℕ) (q : List ℕ)
    → q ≢ file.0 → file_named (files ++ file ∷ []) q ≡ file_named files q
file_named-append_other [] file q other = file_named-other file [] q (λ e. other (sym e))
file_named-append_other (first ∷ files) file q other = rw (file_named-append_other files file q other)

-- a file was added at the end, under a name that was not held
pub file_named-append_same :
    (files : List (List ℕ × List ℕ)) (file : List ℕ × List ℕ)
    → file_named files file.0 ≡ None → file_named (files ++ file ∷ []) file.0 ≡ Some file.1
file_named-append_same [] file none = file_named-same file []
file_named-append_same (first ∷ files) file none =
    at_each (bytes_eq first.0 file.0) refl (λ later. file_named-append_same files file later)
  where
    at_each :
        (t : Bool) → bytes_eq first.0 file.0 ≡ t
        → (file_named files file.0 ≡ None → file_named (files ++ file ∷ []) file.0 ≡ Some file.1)
        → file_named (first ∷ (files ++ file ∷ [])) file.0 ≡ Some file.1
    at_each true e later = let h : Some first.1 ≡ None = rw e at none in cc
    at_each false e later = rw e (later (rw e at none))

-- the names stay distinct with a file under a name that was not held
pub HaveDistinctNames-append :
    (files : List (List ℕ × List ℕ)) (file : List ℕ × List ℕ)
    → HaveDistinctNames files → file_named files file.0 ≡ None → HaveDistinctNames (files ++ file ∷ [])
HaveDistinctNames-append [] file distinct none = (refl, tt)
HaveDistinctNames-append (first ∷ files) file distinct none =
    at_each (bytes_eq first.0 file.0) refl (λ later. HaveDistinctNames-append files file distinct.1 later)
  where
    at_each :
        (t : Bool) → bytes_eq first.0 file.0 ≡ t
        → (file_named files file.0 ≡ None → HaveDistinctNames (files ++ file ∷ []))
        → HaveDistinctNames (first ∷ (files ++ file ∷ []))
    at_each true e later = let h : Some first.1 ≡ None = rw e at none in cc
    at_each false e later =
        let other : first.0 ≢ file.0 = λ same. let h : bytes_eq first.0 file.0 ≡ true = rw same (bytes_eq-same file.0) in cc in
        (file_named-append_other files file first.0 other ∙ distinct.0, later (rw e at none))
