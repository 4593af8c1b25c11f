use Rattle.std.proofs.Common.{Bool, Some, None, Ok, option_copied, sym, ap, ◌∙◌}
use Rattle.std.specs.Prelude.{if◌then◌else◌}
use Rattle.std.proofs.lemmas.Result.{err_from_is_err_and}
use Rattle.op_text.specs.Operations.{qubits_at}
use Rattle.transport_asm.specs.Cursor.{words_left}
use Rattle.transport_asm.proofs.Marked.{SoFar-begins, SoFar-next, SoFar-refused, left_some, finish}
use Rattle.transport_asm.proofs.fences.qubits_of.Goals as goal

pub loop-left-init : goal.loop-left-init
loop-left-init c = rw c.new-qubits.ensures.items (SoFar-begins c.new-seen.result (qubits_at (words_left (option_copied c.args.words))) c.new-seen.ensures.empty)

pub loop-left-preserved : goal.loop-left-preserved
loop-left-preserved c =
    SoFar-next c.loop-left.broken c.in_ok-broken.broken c.loop-left.seen c.noted.new.seen c.loop-left.qubits.items c.noted.new.qubits.items c.in_ok-qubit.qubit
    (words_left (option_copied c.loop-left.left)) (words_left (option_copied c.in_ok-qubit.rest)) (qubits_at (words_left (option_copied c.args.words))) c.in_ok-qubit.ensures.exact c.in_ok-broken.ensures c.loop-left.invariant

pub returns-in_err-qubit : goal.returns-in_err-qubit
returns-in_err-qubit c =
    let p = err_from_is_err_and c.from_residual.result c.from_residual.ensures.1 in
    rw (p.1, p.2) (SoFar-refused c.loop-left.broken c.loop-left.seen c.loop-left.qubits.items c.in_err-qubit.field-0.0 (words_left (option_copied c.loop-left.left)) (qubits_at (words_left (option_copied c.args.words)))
    (left_some c.loop-left.left (sym c.is_some.ensures ∙ c.loop-left-test.true)) c.in_err-qubit.ensures.exact c.loop-left.invariant)

pub returns-then-broken : goal.returns-then-broken
returns-then-broken c =
    finish c.loop-left.broken c.loop-left.seen c.loop-left.qubits.items c.loop-left.left (qubits_at (words_left (option_copied c.args.words))) (sym c.is_some.ensures ∙ c.loop-left-test.false) c.loop-left.invariant
    ∙ ap (λ (b : Bool). Ok (if b then None else Some c.loop-left.qubits.items)) c.if-broken.true

pub returns : goal.returns
returns c =
    finish c.loop-left.broken c.loop-left.seen c.loop-left.qubits.items c.loop-left.left (qubits_at (words_left (option_copied c.args.words))) (sym c.is_some.ensures ∙ c.loop-left-test.false) c.loop-left.invariant
    ∙ ap (λ (b : Bool). Ok (if b then None else Some c.loop-left.qubits.items)) c.if-broken.false
