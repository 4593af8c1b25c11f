use Rattle.std.proofs.Common.{◌≡◌, ◌+◌, ◌-◌, ◌≤◌, ℕ, List, length, Some, arith, ap, subst, refl}
use Rattle.std.specs.Prelude.{slice_get}
use Rattle.std.proofs.lemmas.Option.{slice_get_read}
use Rattle.qccd_circuit.specs.Item.{ItemData}
use Rattle.qccd_circuit.proofs.CircuitLemmas.{IsCircuit-within}
use Rattle.dep_graph.specs.Linking.{LinksFrom, data_of}
use Rattle.dep_graph.proofs.graph.Graph.of.Goals as goal

pub link-requires-clause-within : goal.link-requires-clause-within
link-requires-clause-within c =
    let index : ℕ = c.loop-index.index - 1 in
    let there : slice_get c.items-items.result.now index ≡ Some c.index-items-index.result =
    slice_get_read c.items-items.result.now (length c.items-items.result.now) index c.index-items-index.result refl (omega arith) c.index-items-index.is in
    IsCircuit-within c.args.circuit.now index c.index-items-index.result c.items-items.ensures.is_circuit (rw c.items-items.ensures.value at there)

pub link-requires-clause-behind : goal.link-requires-clause-behind
link-requires-clause-behind c =
    let index : ℕ = c.loop-index.index - 1 in
    let there : slice_get c.items-items.result.now index ≡ Some c.index-items-index.result =
    slice_get_read c.items-items.result.now (length c.items-items.result.now) index c.index-items-index.result refl (omega arith) c.index-items-index.is in
    let few : length c.items-items.result.now ≤ 65536 = omega (arith, c.items-items.ensures.is_circuit.few_items, ap (λ (xs : List ItemData). length xs) c.items-items.ensures.value) in
    let here : c.loop-index.index ≡ index + 1 = omega arith in
    (c.items-items.result.now, few, there, subst (λ (n : ℕ). LinksFrom c.items-items.result.now n (data_of c.loop-index.linking)) here c.loop-index.invariant)

pub loop-index-preserved : goal.loop-index-preserved
loop-index-preserved c =
    let index : ℕ = c.loop-index.index - 1 in
    let there : slice_get c.items-items.result.now index ≡ Some c.index-items-index.result =
    slice_get_read c.items-items.result.now (length c.items-items.result.now) index c.index-items-index.result refl (omega arith) c.index-items-index.is in
    let here : c.loop-index.index ≡ index + 1 = omega arith in
    c.in_ok-link.ensures c.items-items.result.now there (subst (λ (n : ℕ). LinksFrom c.items-items.result.now n (data_of c.loop-index.linking)) here c.loop-index.invariant)
