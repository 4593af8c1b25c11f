use Rattle.std.proofs.Common.{◌∙◌, ℕ, [], ◌∷◌, codes, decimal, ap₂}
use Rattle.std.specs.List.{concat}
use Rattle.meaning_check.proofs.verdict.Verdict.text.Goals as goal

pub returns-in-Order : goal.returns-in-Order
returns-in-Order c =
    rw c.in-Order.is
    (c.two_numbers-in-Order.ensures
    ∙ ap₂ (λ (n k : ℕ). concat (codes "item " ∷ decimal n ∷ codes " stands before item " ∷ decimal k ∷ [])) c.into-in-Order.ensures c.into-in-Order-2.ensures)
