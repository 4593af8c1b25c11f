-- A circuit stays one when an item is added that fits and is within its counts.
use Rattle.std.proofs.Common.{ℕ, ◌≡◌, ◌<◌, ◌++◌, ◌∷◌, [], length, get_or, subst, Some, arith, length-append}
use Rattle.std.specs.Prelude.{slice_get}
use Rattle.std.proofs.lemmas.Option.{slice_get_within, get_or_from_slice_get}
use Rattle.std.proofs.lemmas.List.Elements.{All-push}
use Rattle.qccd_circuit.specs.Item.{ItemData, Fits, bits_of}
use Rattle.qccd_circuit.specs.Circuit.{CircuitData, IsCircuit, IsWithin}

pub IsCircuit-push :
    (c : CircuitData) (d : ItemData) → IsCircuit c → length c.items < 65536 → Fits d
    → IsWithin c.qubits c.bits d → IsCircuit (record c { items = c.items ++ d ∷ [] })
IsCircuit-push c d h room fits within = record {
  few_qubits = h.few_qubits;
  few_bits = h.few_bits;
  few_items = omega (arith, length-append c.items (d ∷ []));
  fit = All-push Fits c.items d h.fit fits;
  within = All-push (IsWithin c.qubits c.bits) c.items d h.within within;
}

-- each qubit and each bit of a circuit's item is below the greatest count
pub IsCircuit-within : (c : CircuitData) (i : ℕ) (d : ItemData) → IsCircuit c → slice_get c.items i ≡ Some d → IsWithin 256 256 d
IsCircuit-within c i d h there =
    let own : IsWithin c.qubits c.bits d =
    subst (λ (x : ItemData). IsWithin c.qubits c.bits x) (get_or_from_slice_get c.items i d d there) (h.within i d (slice_get_within c.items i d there)) in
    record {
      qubits_below = λ k e lt. let below : (get_or d.qubits k e).0 < c.qubits = own.qubits_below k e lt in omega (arith, h.few_qubits);
      bits_below = λ k e lt. let below : (get_or (bits_of d) k e).0 < c.bits = own.bits_below k e lt in omega (arith, h.few_bits);
    }
