use Rattle.std.proofs.Common.{◌≡◌, ap, ◌∙◌, map}
use Rattle.qccd_base.specs.Names.{ion}
use Rattle.ion_mapping.specs.Placement.{by_use, filled, fills, chains_at_start, spared}
use Rattle.ion_mapping.proofs.placing.place.Goals as goal

pub returns-clause-placed : goal.returns-clause-placed
unfolding chains_at_start
returns-clause-placed c =
    let ions : c.as_slice.result.now ≡ map ion (by_use c.args.circuit.now) = c.as_slice.ensures.value ∙ c.in_ok-ions.ensures in
    let spare : c.spare_places.result ≡ spared c.args.machine.now c.args.circuit.now.qubits = c.spare_places.ensures ∙ ap (spared c.args.machine.now) (c.from-qubits.ensures ∙ c.qubits.ensures) in
    c.in_ok-chains.ensures ∙ ap (λ n. filled (fills c.args.machine.now n) c.as_slice.result.now) spare
    ∙ ap (filled (fills c.args.machine.now (spared c.args.machine.now c.args.circuit.now.qubits))) ions
