-- What a comparison finds, in words.
use Rattle.std.specs.Prelude.{ℕ, List, [], ◌∷◌, codes, decimal}
use Rattle.std.specs.List.{concat}
use Rattle.meaning_check.specs.declared.verdict.Verdict.{Verdict}
use Rattle.meaning_check.specs.declared.verdict.Verdict.TheVariants.{Sizes, Differs, Missing, Order, Same}

abbrev pub verdict_text : Verdict → List ℕ
verdict_text Sizes = codes "numbers of qubits or bits differ"
verdict_text (Differs op item) = concat (codes "operation " ∷ decimal op ∷ codes " differs from item " ∷ decimal item ∷ [])
verdict_text (Missing item) = concat (codes "item " ∷ decimal item ∷ codes " is missing" ∷ [])
verdict_text (Order first second) = concat (codes "item " ∷ decimal second ∷ codes " stands before item " ∷ decimal first ∷ [])
verdict_text Same = codes "same"
