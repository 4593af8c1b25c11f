use Rattle.std.proofs.Common.{◌∙◌, List, ap, ap₂, map}
use Rattle.qccd_base.specs.declared.names.End.{End}
use Rattle.qccd_base.specs.declared.names.Qubit.{Qubit}
use Rattle.op_plan.specs.Plan.{state_of}
use Rattle.op_table.specs.declared.contents.Entry.{Entry}
use Rattle.rebalancer.specs.Room.{first_free, pair_of}
use Rattle.rebalancer.proofs.Planned.{chain_qubits}
use Rattle.rebalancer.proofs.making.handed.Goals as goal

pub returns : goal.returns
returns c =
    c.first_free.ensures
    ∙ ap₂ (λ (qs : List Qubit) (e : End). first_free qs e (pair_of c.args.keep)) (ap (map (λ (e : Entry). e.qubit)) c.chain.ensures ∙ chain_qubits (state_of c.args.plan.now) c.args.from.0) c.end_towards-end.ensures
