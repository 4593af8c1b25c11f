use Rattle.std.proofs.Common.{◌≡◌, ◌+◌, ◌<◌, ℕ, List, length, arith, sym, refl, subst, get_or, ap, ◌∙◌}
use Rattle.std.proofs.Math.ListN.{set}
use Rattle.std.proofs.lemmas.Option.{slice_get_within}
use Rattle.qccd_circuit.specs.Operands.{operands_of}
use Rattle.qccd_circuit.proofs.MarkLemmas.{operand_below}
use Rattle.dep_graph.specs.Linking.{LinkingData, LinksFrom, data_of}
use Rattle.dep_graph.proofs.Linked.{Partly, Partly-start, Partly-next, Partly-entries, LinksFrom-next}
use Rattle.dep_graph.proofs.linking.Linking.link.Goals as goal

pub loop-k-init : goal.loop-k-init
loop-k-init c = λ items there made.
    Partly-start (length items) (operands_of c.args.item.now) c.args.number items (data_of c.args.self.now) refl (slice_get_within items c.args.number c.args.item.now there) made

pub meet-requires-clause-row : goal.meet-requires-clause-row
meet-requires-clause-row c = let below = operand_below c.args.item.now c.loop-k.k c.requires.within (omega arith) in omega arith

pub meet-requires-clause-entries : goal.meet-requires-clause-entries
meet-requires-clause-entries c =
    let behind = c.requires.behind in
    let below : get_or (operands_of c.args.item.now) c.loop-k.k 0 < 512 = operand_below c.args.item.now c.loop-k.k c.requires.within (omega arith) in
    Partly-entries behind.0 (length behind.0) (operands_of c.args.item.now) c.args.number (data_of c.args.self.now) (data_of c.loop-k.self) c.loop-k.k c.operand.result refl
    (slice_get_within behind.0 c.args.number c.args.item.now behind.2) behind.1 behind.3 (c.loop-k.invariant behind.0 behind.2 behind.3) (omega arith)

pub loop-k-preserved : goal.loop-k-preserved
loop-k-preserved c = λ items there made.
    let below : get_or (operands_of c.args.item.now) c.loop-k.k 0 < 512 = operand_below c.args.item.now c.loop-k.k c.requires.within (omega arith) in
    subst (λ (x : LinkingData). Partly (length items) (operands_of c.args.item.now) c.args.number (data_of c.args.self.now) x (c.loop-k.k + 1)) (sym c.in_ok-meet.ensures)
    (Partly-next items (length items) (operands_of c.args.item.now) c.args.number (data_of c.args.self.now) (data_of c.loop-k.self) c.loop-k.k c.operand.result refl
    (slice_get_within items c.args.number c.args.item.now there) made (c.loop-k.invariant items there made) (omega arith) c.operand.ensures (omega arith))

pub index_mut-requires-2 : goal.index_mut-requires-2
index_mut-requires-2 c =
    let behind = c.requires.behind in
    let part = c.loop-k.invariant behind.0 behind.2 behind.3 in
    let within : c.args.number < length behind.0 = slice_get_within behind.0 c.args.number c.args.item.now behind.2 in
    let all : length c.loop-k.self.ends.items ≡ length behind.0 + 1 = ap (λ (xs : List ℕ). length xs) part.ends ∙ behind.3.linked.all_ends in
    omega (arith, all, within, c.loop-k.self.ends.ok.0)

pub returns : goal.returns
returns c = λ items there made.
    let size : length c.loop-k.self.links.items ≡ c.len.result = omega (arith, c.loop-k.self.links.ok.0) in
    subst (λ (n : ℕ). LinksFrom items c.args.number (record (data_of c.loop-k.self) { ends = set c.loop-k.self.ends.items c.args.number n })) size
    (LinksFrom-next items c.args.number c.args.item.now (data_of c.args.self.now) (data_of c.loop-k.self) c.loop-k.k there c.requires.within made (c.loop-k.invariant items there made) (omega arith))
