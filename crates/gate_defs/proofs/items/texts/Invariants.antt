use Rattle.std.proofs.Common.{◌≡◌, take}
use Rattle.gate_defs.specs.Meaning.{texts}
use Rattle.gate_defs.proofs.items.texts.Given as goal

abbrev pub invariant-loop-arg : goal.invariant-loop-arg
invariant-loop-arg l = l.list.items ≡ texts (take l.arg-index l.args)
