-- The item fits and is within the counts, so the circuit with it is one.
use Rattle.std.proofs.Common.{◌<◌, length, subst, sym}
use Rattle.qccd_circuit.specs.Circuit.{CircuitData, IsWithin}
use Rattle.qccd_circuit.proofs.CircuitLemmas.{IsCircuit-push}
use Rattle.qccd_circuit.proofs.circuits.Circuit.add.Goals as goal

pub invariant_of-self-2 : goal.invariant_of-self-2
invariant_of-self-2 c =
    rw c.in_ok-push.ensures.items
    (IsCircuit-push _ c.args.item c.self.invariant
    (subst (λ (v : CircuitData). length v.items < 65536) (sym c.self.view_is) c.requires.room) c.kind-kind.ensures.fits
    (subst (λ (v : CircuitData). IsWithin v.qubits v.bits c.args.item) (sym c.self.view_is) c.requires.within))
