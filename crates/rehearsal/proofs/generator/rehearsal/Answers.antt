-- The item that was drawn is one of the circuit's, and the next of all.
use Rattle.std.proofs.Common.{◌≡◌, ◌+◌, ◌-◌, ◌++◌, ◌∷◌, [], ℕ, List, length, arith, ap, ◌∙◌, length-append}
use Rattle.qccd_circuit.specs.Item.{ItemData}
use Rattle.qccd_circuit.specs.Circuit.{CircuitData}
use Rattle.rehearsal.specs.Generated.{drawn_item}
use Rattle.rehearsal.proofs.Circuits.{item_on, next_item}
use Rattle.rehearsal.proofs.generator.rehearsal.Goals as goal

pub add-requires-clause-within : goal.add-requires-clause-within
add-requires-clause-within c =
    rw (c.loop.invariant.qubits, c.loop.invariant.no_bits, c.in_ok-draw_item.ensures.item)
    (item_on c.args.qubits c.loop.draws.at c.requires.some_qubits).1

pub loop-preserved : goal.loop-preserved
loop-preserved c =
    let before : List ItemData = c.loop.circuit.items in
    let item : ItemData = (drawn_item c.args.qubits c.loop.draws.at).item in
    let new : c.add.new.self.items ≡ before ++ item ∷ [] =
    ap (λ (circuit : CircuitData). circuit.items) c.in_ok-add.ensures.ok ∙ ap (λ (d : ItemData). before ++ d ∷ []) c.in_ok-draw_item.ensures.item in
    record {
      qubits = ap (λ (circuit : CircuitData). circuit.qubits) c.in_ok-add.ensures.ok ∙ c.loop.invariant.qubits;
      no_bits = ap (λ (circuit : CircuitData). circuit.bits) c.in_ok-add.ensures.ok ∙ c.loop.invariant.no_bits;
      so_many = ap (λ (items : List ItemData). length items) new ∙ length-append before (item ∷ []) ∙ ap (λ (n : ℕ). n + 1) c.loop.invariant.so_many;
      so_far = rw (new, c.draw_item.ensures.after)
          (next_item c.args.qubits c.loop.draws.at (c.args.items - c.loop.counter) (c.args.items - (c.loop.counter + 1)) before _ (omega arith) c.loop.invariant.so_far);
    }
