use Rattle.std.proofs.Common.{◌∙◌, ℕ, [], ◌∷◌, codes, decimal, ap}
use Rattle.std.specs.List.{concat}
use Rattle.loader.proofs.faults.LoadFault.text.Goals as goal

pub returns-in-TrapCount : goal.returns-in-TrapCount
returns-in-TrapCount c =
    let given = c.as_str.ensures.value ∙ c.number_text.ensures ∙ ap decimal c.into.ensures in
    let traps = c.as_str-in-TrapCount.ensures.value ∙ c.number_text-in-TrapCount.ensures ∙ ap decimal c.into-in-TrapCount.ensures in
    rw (c.in-TrapCount.is, ← given, ← traps) c.four.ensures

pub returns-in-BadStart : goal.returns-in-BadStart
returns-in-BadStart c =
    rw c.in-BadStart.is
    (c.numbered.ensures ∙ ap (λ (n : ℕ). concat (codes "ion " ∷ decimal n ∷ codes " stands wrongly at the start" ∷ [])) c.into-in-BadStart.ensures)

pub returns-in-StartOverfull : goal.returns-in-StartOverfull
returns-in-StartOverfull c =
    rw c.in-StartOverfull.is
    (c.numbered-in-StartOverfull.ensures ∙ ap (λ (n : ℕ). concat (codes "trap T" ∷ decimal n ∷ codes " starts above its capacity" ∷ [])) c.into-in-StartOverfull.ensures)
