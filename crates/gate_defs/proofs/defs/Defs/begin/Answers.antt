use Rattle.gate_defs.proofs.Keeping.{kept_none}
use Rattle.gate_defs.proofs.defs.Defs.begin.Goals as goal

pub invariant_of-result : goal.invariant_of-result
invariant_of-result c = kept_none c.new.result.items c.new-2.result.items c.new-3.result c.new.ensures.items c.new-2.ensures.items c.new-3.ensures
