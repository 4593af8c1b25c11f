use Rattle.std.proofs.Common.{◌≡◌, Bool, true, false, not, refl}
use Rattle.transport_asm.proofs.Marked.{dropped, kept_so, twice, once}
use Rattle.transport_asm.proofs.fences.noted.Goals as goal

was_in : (b is_new : Bool) → is_new ≡ not b → is_new ≡ false → b ≡ true
was_in true is_new e is = refl
was_in false is_new e is = absurd (cc)

was_out : (b is_new : Bool) → is_new ≡ not b → is_new ≡ true → b ≡ false
was_out true is_new e is = absurd (cc)
was_out false is_new e is = refl

pub returns-then-broken : goal.returns-then-broken
returns-then-broken c = λ front kept. dropped front c.args.broken c.args.seen.now c.args.qubits.now.items c.args.qubit c.if-broken.true kept

pub returns-then-not-is_new : goal.returns-then-not-is_new
returns-then-not-is_new c = λ front kept.
    let marked = kept_so front c.args.broken c.args.seen.now c.args.qubits.now.items c.if-broken.false kept in
    twice front c.args.qubit c.args.seen.now c.args.qubits.now.items marked (was_in _ c.in_ok-is_new.is_new c.in_ok-is_new.ensures.added c.if-not-is_new.true)

pub returns : goal.returns
returns c = λ front kept.
    let marked = kept_so front c.args.broken c.args.seen.now c.args.qubits.now.items c.if-broken.false kept in
    rw c.in_ok-push.ensures.items (
    once front c.args.qubit c.args.seen.now c.insert.new.self c.args.qubits.now.items marked
    (was_out _ c.in_ok-is_new.is_new c.in_ok-is_new.ensures.added c.if-not-is_new.false) c.in_ok-is_new.ensures.updates
    )
