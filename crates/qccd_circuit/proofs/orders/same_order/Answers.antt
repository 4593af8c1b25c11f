-- A list with another length is in no same order; each next number may follow, or the list fails there.
use Rattle.std.proofs.Common.{arith, ◌≡◌, ◌≤◌, ℕ, false, List, Some, get_or, length, sym, ◌∙◌, subst, refl}
use Rattle.std.specs.Prelude.{slice_get, replicate}
use Rattle.std.proofs.lemmas.Bool.{false≢true}
use Rattle.std.proofs.lemmas.List.{get_or_read}
use Rattle.std.proofs.lemmas.Option.{slice_get_read, same_Some}
use Rattle.qccd_circuit.specs.Item.{ItemData}
use Rattle.qccd_circuit.specs.Marks.{Marked, mark_before}
use Rattle.qccd_circuit.specs.Order.{SameOrder}
use Rattle.qccd_circuit.proofs.CircuitLemmas.{IsCircuit-within}
use Rattle.qccd_circuit.proofs.Rising.{Placed-none, Placed-next, Placed-fails, Placed-all, past_fails, set_fails, mark_fails, marked_of, may_follow, length-same_order}
use Rattle.qccd_circuit.proofs.orders.same_order.Goals as goal
use Rattle.qccd_circuit.proofs.orders.same_order.Goals.{then-index-items-via-then-index-items, then-index-items-via-else-index-items+then-index, then-index-items-via-else-index-items+else-index+then-before-number}

pub returns-then-list-items : goal.returns-then-list-items
returns-then-list-items c = (
  λ never. absurd (false≢true never),
  λ order. absurd (let size = length-same_order c.args.circuit.now.items c.args.list.now order in grind (arith, c.items-items.ensures.value)),
)

pub loop-number-init : goal.loop-number-init
loop-number-init c =
    let all : c.in_ok-listed.listed.items ≡ replicate (length c.items-items.result.now) false = c.in_ok-listed.ensures.items_if_clones_equal (λ y e. e) in
    rw all (Placed-none c.items-items.result.now c.none-marks.result c.args.list.now c.none-marks.ensures)

pub before-requires : goal.before-requires
before-requires c =
    let number : ℕ = get_or c.args.list.now c.loop-number.number-index 0 in
    let there : slice_get c.items-items.result.now number ≡ Some c.index-items-index.result =
    slice_get_read c.items-items.result.now (length c.items-items.result.now) number c.index-items-index.result refl (omega arith) c.index-items-index.is in
    record { within = IsCircuit-within c.args.circuit.now number c.index-items-index.result c.items-items.ensures.is_circuit (rw c.items-items.ensures.value at there) }

pub returns-then-index-items : goal.returns-then-index-items
returns-then-index-items c =
    let number : ℕ = get_or c.args.list.now c.loop-number.number-index 0 in
    let fails : may_follow (slice_get c.items-items.result.now number) (marked_of c.items-items.result.now c.loop-number.invariant.done) c.loop-number.invariant.done number ≡ false =
    elim c.then-index-items.branch [
      | then-index-items-via-then-index-items w ↦
          past_fails c.items-items.result.now (marked_of c.items-items.result.now c.loop-number.invariant.done) c.loop-number.invariant.done number w.if-index-items.true
      | then-index-items-via-else-index-items+then-index w ↦
          set_fails c.items-items.result.now c.loop-number.listed.items c.loop-number.marks c.args.list.now c.loop-number.number-index number c.loop-number.invariant (omega arith)
          (sym (get_or_read c.loop-number.listed.items number w.index.result.now (omega arith) w.index.ensures false) ∙ w.if-index.true)
      | then-index-items-via-else-index-items+else-index+then-before-number w ↦
          let there : slice_get c.items-items.result.now number ≡ Some w.index-items-index.result =
          slice_get_read c.items-items.result.now (length c.items-items.result.now) number w.index-items-index.result refl (omega arith) w.index-items-index.is in
          mark_fails c.items-items.result.now (marked_of c.items-items.result.now c.loop-number.invariant.done) c.loop-number.invariant.done number w.index-items-index.result there
          (omega (arith, w.before-else-index.ensures (marked_of c.items-items.result.now c.loop-number.invariant.done) c.loop-number.invariant.marks))
    ] in (
      λ never. absurd (false≢true never),
      λ order. absurd (Placed-fails c.items-items.result.now c.loop-number.listed.items c.loop-number.marks c.args.list.now c.loop-number.number-index number (omega arith) refl c.loop-number.invariant fails (rw c.items-items.ensures.value order)),
    )

pub put-requires : goal.put-requires
put-requires c =
    let number : ℕ = get_or c.args.list.now c.loop-number.number-index 0 in
    let there : slice_get c.items-items.result.now number ≡ Some c.index-items-index-in-loop-number.result =
    slice_get_read c.items-items.result.now (length c.items-items.result.now) number c.index-items-index-in-loop-number.result refl (omega arith) c.index-items-index-in-loop-number.is in
    record { within = IsCircuit-within c.args.circuit.now number c.index-items-index-in-loop-number.result c.items-items.ensures.is_circuit (rw c.items-items.ensures.value at there) }

pub loop-number-preserved : goal.loop-number-preserved
loop-number-preserved c =
    let number : ℕ = get_or c.args.list.now c.loop-number.number-index 0 in
    let d : ItemData = c.index-items-index-in-loop-number.result in
    let marked : List Marked = marked_of c.items-items.result.now c.loop-number.invariant.done in
    let there : slice_get c.items-items.result.now number ≡ Some d =
    slice_get_read c.items-items.result.now (length c.items-items.result.now) number d refl (omega arith) c.index-items-index-in-loop-number.is in
    let other : slice_get c.items-items.result.now number ≡ Some c.index-items-index.result =
    slice_get_read c.items-items.result.now (length c.items-items.result.now) number c.index-items-index.result refl (omega arith) c.index-items-index.is in
    let same : c.index-items-index.result ≡ d = same_Some c.index-items-index.result d (sym other ∙ there) in
    let low' : mark_before marked c.index-items-index.result ≤ number = omega (arith, c.before-else-index.ensures marked c.loop-number.invariant.marks) in
    let low : mark_before marked d ≤ number = subst (λ (x : ItemData). mark_before marked x ≤ number) same low' in
    Placed-next c.items-items.result.now c.loop-number.listed.items c.loop-number.marks c.put.new.self c.args.list.now c.loop-number.number-index number d (omega arith) refl c.loop-number.invariant there
    (sym (get_or_read c.loop-number.listed.items number c.index.result.now (omega arith) c.index.ensures false) ∙ c.if-index.false) low
    (c.put.ensures marked c.loop-number.invariant.marks (omega arith))

pub returns : goal.returns
returns c = (
  λ always. subst (λ (xs : List ItemData). SameOrder xs c.args.list.now) c.items-items.ensures.value (Placed-all c.items-items.result.now c.loop-number.listed.items c.loop-number.marks c.args.list.now c.loop-number.number-index c.loop-number.invariant (omega arith) (omega arith)),
  λ order. refl,
)
