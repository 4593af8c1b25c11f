-- The items so far and those that are drawn from here on are all.
use Rattle.std.proofs.Common.{◌≡◌, ◌-◌, ◌++◌, length}
use Rattle.rehearsal.specs.Generated.{drawn_items}
use Rattle.rehearsal.proofs.generator.rehearsal.Given as goal

abbrev pub invariant-loop : goal.invariant-loop
invariant-loop l = record {
  qubits : l.circuit.qubits ≡ l.qubits;
  no_bits : l.circuit.bits ≡ 0;
  so_many : length l.circuit.items ≡ l.counter;
  so_far : l.circuit.items ++ drawn_items l.qubits l.draws.at (l.items - l.counter) ≡ drawn_items l.qubits l.number l.items;
}
