use Rattle.std.proofs.Common.{◌+◌, ◌==◌, take, drop, sym, ap, ◌∙◌}
use Rattle.transport_asm.specs.Lines.{next_line}
use Rattle.transport_asm.proofs.Cut.{split_found, split_missed, rest_of}
use Rattle.transport_asm.proofs.Parts.{next_behind}
use Rattle.transport_asm.proofs.lines.next_line.Goals as goal

pub returns-in-None-clause-parts : goal.returns-in-None-clause-parts
returns-in-None-clause-parts c = sym (ap next_line (split_missed (λ b. b == 10) c.args.text.now (sym c.place_of.ensures ∙ c.in-None.is)))

pub returns-in-Some-clause-parts : goal.returns-in-Some-clause-parts
returns-in-Some-clause-parts c = rw (rest_of (c.in-Some.at + 1) c.args.text.now) (sym (ap next_line (split_found (λ b. b == 10) c.args.text.now c.in-Some.at (sym c.place_of.ensures ∙ c.in-Some.is)) ∙ next_behind (λ b. b == 10) (take c.in-Some.at c.args.text.now) (drop (c.in-Some.at + 1) c.args.text.now)))
