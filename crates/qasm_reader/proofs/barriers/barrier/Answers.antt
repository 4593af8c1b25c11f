-- The operands lead to the `;`, and the item is that of their qubits.
use Rattle.std.proofs.Common.{◌≡◌, ℕ, List, ◌∷◌, ◌++◌, [], flat_map, refl, sym, ap, subst, ◌∙◌}
use Rattle.qccd_base.specs.declared.names.Qubit.{Qubit}
use Rattle.qccd_circuit.specs.Item.{Fits, ItemData}
use Rattle.qasm_reader.specs.Expected.{between, of_barrier}
use Rattle.qasm_reader.specs.Known.{Known}
use Rattle.qasm_reader.specs.Operand.{barrier_items, barrier_of, cells, with_mentions}
use Rattle.qasm_reader.specs.Sound.{IsSound}
use Rattle.qasm_reader.specs.Code.{Tells, answer_from, known, seen}
use Rattle.qasm_reader.proofs.Ends.{list_done, list_many}
use Rattle.qasm_reader.proofs.Fitting.{barrier_fits, cells_some, good_barrier}
use Rattle.qasm_reader.proofs.Leading.{leads_exit_later}
use Rattle.qasm_reader.proofs.Mentions.{qubits_of}
use Rattle.qasm_reader.proofs.Rule.{with_items_sound}
use Rattle.qasm_reader.proofs.barriers.barrier.Goals as goal

pub returns-in_err-end-clause-leads : goal.returns-in_err-end-clause-leads
returns-in_err-end-clause-leads c =
    let m = c.in_ok-qubits.ensures.qubits in
    leads_exit_later _ _ _ _ _ c.from_residual-in_err-end.ensures.1 m.leads (c.in_err-end.ensures.behind_list (known c.args.state.now) (of_barrier m.operands) c.in_ok-qubits.ensures.end)

pub returns-then-too_many-clause-leads : goal.returns-then-too_many-clause-leads
returns-then-too_many-clause-leads c =
    let m = c.in_ok-qubits.ensures.qubits in
    let e = c.in_ok-end in
    subst (Tells _) (sym c.too_many_items.ensures)
    (m.leads
    ∙ list_many (known c.args.state.now) (of_barrier m.operands) c.in_ok-qubits.rest e.rest (seen e.end)
    (record { found = e.ensures.found; same = e.ensures.same; is_semicolon = e.ensures.is_semicolon }) refl (sym c.too_many.ensures ∙ c.if-too_many.true))

pub item_on-requires : goal.item_on-requires
item_on-requires c =
    let m = c.in_ok-qubits.ensures.qubits in
    let ns = flat_map cells m.operands in
    let fits = barrier_fits ns (cells_some c.args.state.now.qubits m.operands m.some m.below) in
    subst (λ (qubits : List Qubit). Fits (record (barrier_of (with_mentions [] ns)) { angles = c.of-angles.result; qubits = qubits }))
    (sym (c.deref.ensures.value ∙ qubits_of c.in_ok-qubits.qubits.items (with_mentions [] ns) m.numbers_are))
    (subst (λ (angles : List (List ℕ)). Fits (record (barrier_of (with_mentions [] ns)) { angles = angles })) (sym (c.of-angles.ensures ∙ c.new.ensures.items)) fits)

pub returns-clause-sound : goal.returns-clause-sound
returns-clause-sound c =
    let k = known c.args.state.now in
    let m = c.in_ok-qubits.ensures.qubits in
    let ns = flat_map cells m.operands in
    let qubits_are = c.deref.ensures.value ∙ qubits_of c.in_ok-qubits.qubits.items (with_mentions [] ns) m.numbers_are in
    let item_is : c.in_ok-item.item ≡ barrier_of (with_mentions [] ns) =
    c.in_ok-item.ensures ∙ (λ i. record (barrier_of (with_mentions [] ns)) { angles = (c.of-angles.ensures ∙ c.new.ensures.items) i; qubits = qubits_are i }) in
    subst IsSound (sym (ap (λ (items : List ItemData). record k { items = items }) (c.in_ok-push.ensures.items ∙ ap (λ (d : ItemData). k.items ++ d ∷ []) item_is)))
    (with_items_sound k (barrier_items m.operands) c.requires (good_barrier k.qubits k.bits m.operands m.some m.below) (sym c.too_many.ensures ∙ c.if-too_many.false))

pub returns-clause-leads : goal.returns-clause-leads
returns-clause-leads c =
    let k = known c.args.state.now in
    let m = c.in_ok-qubits.ensures.qubits in
    let e = c.in_ok-end in
    let ns = flat_map cells m.operands in
    let qubits_are = c.deref.ensures.value ∙ qubits_of c.in_ok-qubits.qubits.items (with_mentions [] ns) m.numbers_are in
    let item_is : c.in_ok-item.item ≡ barrier_of (with_mentions [] ns) =
    c.in_ok-item.ensures ∙ (λ i. record (barrier_of (with_mentions [] ns)) { angles = (c.of-angles.ensures ∙ c.new.ensures.items) i; qubits = qubits_are i }) in
    m.leads
    ∙ list_done k (of_barrier m.operands) c.in_ok-qubits.rest e.rest (seen e.end)
    (record { found = e.ensures.found; same = e.ensures.same; is_semicolon = e.ensures.is_semicolon }) refl (sym c.too_many.ensures ∙ c.if-too_many.false)
    ∙ ap (λ (j : Known). answer_from j between e.rest)
    (sym (ap (λ (items : List ItemData). record k { items = items }) (c.in_ok-push.ensures.items ∙ ap (λ (d : ItemData). k.items ++ d ∷ []) item_is)))
