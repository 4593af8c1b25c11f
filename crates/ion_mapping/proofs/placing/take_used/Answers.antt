use Rattle.std.proofs.Common.{◌≡◌, ◌<◌, Some, arith, ◌∙◌, sym, ap, List, map, subst, length}
use Rattle.std.specs.Prelude.{slice_get, All}
use Rattle.std.proofs.lemmas.Option.{slice_get-get_or}
use Rattle.qccd_base.specs.declared.names.Qubit.{Qubit}
use Rattle.qccd_circuit.specs.Item.{ItemData}
use Rattle.ion_mapping.specs.Taking.{with_numbers}
use Rattle.ion_mapping.proofs.Full.{full_taken, one_more_taken}
use Rattle.ion_mapping.proofs.Steps.{small_qubits}
use Rattle.ion_mapping.proofs.placing.take_used.Goals as goal

pub take_all-requires : goal.take_all-requires
take_all-requires c =
    let is : slice_get c.args.circuit.now.items c.loop-done.done ≡ Some c.index-items-done.result =
    ap (λ (xs : List ItemData). slice_get xs c.loop-done.done) (sym c.items-items.ensures.value) ∙ slice_get-get_or c.items-items.result.now c.loop-done.done c.index-items-done.result c.loop-done-test.true ∙ ap (λ (item : ItemData). Some item) (sym c.index-items-done.is) in
    subst (λ (qs : List Qubit). All (λ q. q.0 < 256) qs) (sym (c.as_slice.ensures ∙ c.qubits-in-loop-done.ensures))
    (small_qubits c.args.circuit.now c.loop-done.done c.index-items-done.result c.items-items.ensures.is_circuit is)

pub loop-done-preserved : goal.loop-done-preserved
loop-done-preserved c =
    let is : slice_get c.args.circuit.now.items c.loop-done.done ≡ Some c.index-items-done.result =
    ap (λ (xs : List ItemData). slice_get xs c.loop-done.done) (sym c.items-items.ensures.value) ∙ slice_get-get_or c.items-items.result.now c.loop-done.done c.index-items-done.result c.loop-done-test.true ∙ ap (λ (item : ItemData). Some item) (sym c.index-items-done.is) in
    record {
      few = omega (arith, c.loop-done-test.true, ap (λ (xs : List ItemData). length xs) c.items-items.ensures.value);
      taken = one_more_taken c.args.circuit.now.items c.loop-done.done c.index-items-done.result c.loop-done.taking c.take_all.new.self is
          (c.in_ok-take_all.ensures ∙ ap (λ (qs : List Qubit). with_numbers c.loop-done.taking (map (λ q. q.0) qs)) (c.as_slice.ensures ∙ c.qubits-in-loop-done.ensures)) c.loop-done.invariant.taken;
    }

pub returns-else-len-qubits : goal.returns-else-len-qubits
returns-else-len-qubits c =
    full_taken c.args.circuit.now c.loop-done.done c.loop-done.taking c.items-items.ensures.is_circuit
    (omega (arith, c.if-len-qubits.false, c.len.ensures, c.from-qubits.ensures, c.qubits.ensures)) c.loop-done.invariant.taken
