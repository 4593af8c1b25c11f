-- The lines of a text.
use Rattle.std.proofs.Common.{◌≡◌, ℕ, Bool, true, false, cond, List, [], ◌∷◌, Some, refl}
use Rattle.std.specs.List.{slice_split, onto_first}
use Rattle.transport_asm.specs.Lines.{next_line}

-- behind a line feed a part stands, be it none
pub next_behind : (p : ℕ → Bool) (line bytes : List ℕ) → next_line (line ∷ slice_split p bytes) ≡ Some (line, slice_split p bytes)
next_behind p line [] = refl
next_behind p line (b ∷ bytes) = by_test (p b) (slice_split p bytes)
  where
    by_test : (t : Bool) (parts : List (List ℕ)) → next_line (line ∷ cond t ([] ∷ parts) (onto_first b parts)) ≡ Some (line, cond t ([] ∷ parts) (onto_first b parts))
    by_test true parts = refl
    by_test false [] = refl
    by_test false (part ∷ parts) = refl
