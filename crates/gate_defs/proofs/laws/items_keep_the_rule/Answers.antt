use Rattle.std.proofs.lemmas.List.Elements.{All-from_recursion}
use Rattle.qccd_circuit.specs.Circuit.{IsWithin}
use Rattle.qccd_circuit.specs.Item.{Fits}
use Rattle.gate_defs.specs.Meaning.{items_of, meanings, with_inside}
use Rattle.gate_defs.proofs.Good.{own_fits, own_within}
use Rattle.gate_defs.proofs.Inheriting.{application_all}
use Rattle.gate_defs.proofs.laws.items_keep_the_rule.Goals as goal

pub returns-clause-fit : goal.returns-clause-fit
returns-clause-fit c = λ defs cond n a are is_cond is short.
    All-from_recursion Fits (items_of defs cond (with_inside (meanings defs) a)) (application_all are cond n Fits a (own_fits are cond is_cond n) is short)

pub returns-clause-within : goal.returns-clause-within
returns-clause-within c = λ defs cond n bits a are below is short.
    All-from_recursion (IsWithin n bits) (items_of defs cond (with_inside (meanings defs) a))
    (application_all are cond n (IsWithin n bits) a (own_within defs cond n bits below) is short)
