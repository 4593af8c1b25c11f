use Rattle.std.proofs.Common.{ℕ, List, ◌∷◌, ◌+◌, ◌==◌, take, sym, ap, ◌∙◌}
use Rattle.std.specs.List.{slice_split}
use Rattle.transport_asm.proofs.Cut.{split_found, split_missed, rest_of}
use Rattle.transport_asm.proofs.words.cut_at.Goals as goal

pub returns-in-None-clause-parts : goal.returns-in-None-clause-parts
returns-in-None-clause-parts c = split_missed (λ b. b == c.args.byte) c.args.text.now (sym c.place_of.ensures ∙ c.in-None.is)

pub returns-in-Some-clause-parts : goal.returns-in-Some-clause-parts
returns-in-Some-clause-parts c =
    split_found (λ b. b == c.args.byte) c.args.text.now c.in-Some.at (sym c.place_of.ensures ∙ c.in-Some.is)
    ∙ ap (λ (rest : List ℕ). take c.in-Some.at c.args.text.now ∷ slice_split (λ b. b == c.args.byte) rest) (sym (rest_of (c.in-Some.at + 1) c.args.text.now))
