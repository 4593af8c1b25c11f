-- Numbers that are taken as they come, each once.
use Rattle.std.specs.Prelude.{ℕ, Bool, ◌==◌, if◌then◌else◌, List, [], ◌∷◌, ◌++◌}
use Rattle.std.specs.List.{list_any}

-- whether a number stands in a list
abbrev pub has : List ℕ → ℕ → Bool
has taken k = list_any (λ n. n == k) taken

-- what is taken after one more number, and after more of them
abbrev pub with_number : List ℕ → ℕ → List ℕ
with_number taken k = if has taken k then taken else taken ++ k ∷ []

abbrev pub with_numbers : List ℕ → List ℕ → List ℕ
with_numbers taken [] = taken
with_numbers taken (k ∷ ks) = with_numbers (with_number taken k) ks
