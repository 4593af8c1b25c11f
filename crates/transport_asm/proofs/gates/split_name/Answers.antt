use Rattle.std.proofs.Common.{◌+◌, sym, ◌∙◌}
use Rattle.transport_asm.proofs.Cut.{rest_of}
use Rattle.transport_asm.proofs.GateReading.{found, missed}
use Rattle.transport_asm.proofs.gates.split_name.Goals as goal

pub returns-in-None-clause-name : goal.returns-in-None-clause-name
returns-in-None-clause-name c = (missed c.args.word.now (sym c.place_of.ensures ∙ c.in-None.is)).0

pub returns-in-None-clause-has : goal.returns-in-None-clause-has
returns-in-None-clause-has c = (missed c.args.word.now (sym c.place_of.ensures ∙ c.in-None.is)).1

pub returns-in-None-clause-behind : goal.returns-in-None-clause-behind
returns-in-None-clause-behind c = (missed c.args.word.now (sym c.place_of.ensures ∙ c.in-None.is)).2

pub returns-in-Some-clause-name : goal.returns-in-Some-clause-name
returns-in-Some-clause-name c = (found c.args.word.now c.in-Some.at (sym c.place_of.ensures ∙ c.in-Some.is)).0

pub returns-in-Some-clause-has : goal.returns-in-Some-clause-has
returns-in-Some-clause-has c = (found c.args.word.now c.in-Some.at (sym c.place_of.ensures ∙ c.in-Some.is)).1

pub returns-in-Some-clause-behind : goal.returns-in-Some-clause-behind
returns-in-Some-clause-behind c = rest_of (c.in-Some.at + 1) c.args.word.now ∙ (found c.args.word.now c.in-Some.at (sym c.place_of.ensures ∙ c.in-Some.is)).2
