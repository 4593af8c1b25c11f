use Rattle.std.proofs.Common.{◌≡◌, List, ◌≤◌, length, Some, arith, ap, map}
use Rattle.std.specs.Prelude.{slice_get}
use Rattle.std.proofs.lemmas.Option.{slice_get_read}
use Rattle.std.proofs.Common.{refl}
use Rattle.qccd_circuit.specs.Item.{ItemData}
use Rattle.qccd_circuit.specs.Marks.{mark_before}
use Rattle.qccd_circuit.proofs.CircuitLemmas.{IsCircuit-within}
use Rattle.dep_graph.proofs.LevelLemmas.{Found-level, Found-next, marked_by_level}
use Rattle.dep_graph.proofs.level.levels.Goals as goal

pub before-level-requires : goal.before-level-requires
before-level-requires c =
    let there : slice_get c.items-items.result.now c.loop-item.item-index ≡ Some c.item-item.result =
    slice_get_read c.items-items.result.now (length c.items-items.result.now) c.loop-item.item-index c.item-item.result refl (omega arith) c.item-item.is in
    record { within = IsCircuit-within c.args.circuit.now c.loop-item.item-index c.item-item.result c.items-items.ensures.is_circuit (rw c.items-items.ensures.value at there) }

pub overflow_add-level : goal.overflow_add-level
overflow_add-level c =
    let few : length c.items-items.result.now ≤ 65536 = omega (arith, c.items-items.ensures.is_circuit.few_items, ap (λ (xs : List ItemData). length xs) c.items-items.ensures.value) in
    let level : c.before-level.result ≡ mark_before (map marked_by_level c.loop-item.invariant.earlier) c.item-item.result =
    c.before-level.ensures (map marked_by_level c.loop-item.invariant.earlier) c.loop-item.invariant.marks in
    omega (arith, Found-level c.items-items.result.now c.loop-item.found.items c.loop-item.marks c.loop-item.item-index c.item-item.result c.loop-item.invariant)

pub put-requires : goal.put-requires
put-requires c =
    let there : slice_get c.items-items.result.now c.loop-item.item-index ≡ Some c.item-item.result =
    slice_get_read c.items-items.result.now (length c.items-items.result.now) c.loop-item.item-index c.item-item.result refl (omega arith) c.item-item.is in
    record { within = IsCircuit-within c.args.circuit.now c.loop-item.item-index c.item-item.result c.items-items.ensures.is_circuit (rw c.items-items.ensures.value at there) }

pub loop-item-preserved : goal.loop-item-preserved
loop-item-preserved c =
    let level : c.before-level.result ≡ mark_before (map marked_by_level c.loop-item.invariant.earlier) c.item-item.result =
    c.before-level.ensures (map marked_by_level c.loop-item.invariant.earlier) c.loop-item.invariant.marks in
    rw c.in_ok-push.ensures.items (Found-next c.items-items.result.now c.loop-item.found.items c.loop-item.marks c.put.new.self c.loop-item.item-index c.before-level.result c.item-item.result c.loop-item.invariant (omega arith) c.item-item.is level
    (c.put.ensures (map marked_by_level c.loop-item.invariant.earlier) c.loop-item.invariant.marks (omega arith)))
