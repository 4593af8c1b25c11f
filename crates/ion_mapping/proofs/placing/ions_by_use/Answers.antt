use Rattle.std.proofs.Common.{arith}
use Rattle.ion_mapping.specs.Placement.{uses}
use Rattle.ion_mapping.specs.Taking.{with_numbers}
use Rattle.std.specs.List.{range_with_len}
use Rattle.std.proofs.Common.{[], ◌++◌}
use Rattle.ion_mapping.proofs.Steps.{used_taken, number_taken, all_taken}
use Rattle.ion_mapping.proofs.placing.ions_by_use.Goals as goal

pub loop-number-init : goal.loop-number-init
loop-number-init c = used_taken c.args.circuit.now c.take_used.new.taking c.in_ok-take_used.ensures

pub loop-number-preserved : goal.loop-number-preserved
loop-number-preserved c =
    number_taken c.args.circuit.now.qubits c.loop-number.number c.loop-number.taking c.take.new.self (with_numbers [] (uses c.args.circuit.now.items ++ range_with_len 0 c.args.circuit.now.qubits))
    (omega (arith, c.loop-number-test.true, c.qubits-number-end.ensures)) c.in_ok-take.ensures c.loop-number.invariant

pub returns : goal.returns
returns c =
    all_taken c.args.circuit.now c.loop-number.number c.loop-number.taking c.into_ions.result.items (omega (arith, c.loop-number-test.false, c.qubits-number-end.ensures)) c.loop-number.invariant c.into_ions.ensures
