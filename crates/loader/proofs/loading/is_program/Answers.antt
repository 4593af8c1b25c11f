use Rattle.std.proofs.Common.{◌≡◌, List, [], None, subst}
use Rattle.std.proofs.lemmas.Result.{err_from_is_err_and}
use Rattle.qccd_base.specs.declared.names.Ion.{Ion}
use Rattle.op_table.specs.State.{opening}
use Rattle.transport_asm.specs.LineCursor.{raw_data}
use Rattle.loader.specs.Refusal.{start_refusal, first_fault}
use Rattle.loader.proofs.Going.{told_or}
use Rattle.loader.proofs.LegalLoads.{start_is, answers_behind, legal_when}
use Rattle.loader.proofs.loading.is_program.Goals as goal

pub operations-requires-clause-start : goal.operations-requires-clause-start
operations-requires-clause-start c = start_is c.args.machine.now c.args.raw.now.qubits c.as_slice-chains.result.now c.in_ok-start.ensures

pub returns-in_err-start-clause-told : goal.returns-in_err-start-clause-told
returns-in_err-start-clause-told c =
    let m = c.args.machine.now in
    let raw = raw_data c.args.raw.now in
    let p = err_from_is_err_and c.from_residual.result c.from_residual.ensures.1 in
    rw (p.1, p.2) (told_or c.in_err-start.field-0.0 (start_refusal m raw.qubits raw.chains) (first_fault m raw.mode (opening raw.qubits raw.bits raw.chains) [] 0 raw.ops) (rw c.as_slice-chains.ensures.value at c.in_err-start.ensures))

pub returns-clause-told : goal.returns-clause-told
returns-clause-told c =
    let m = c.args.machine.now in
    let raw = raw_data c.args.raw.now in
    answers_behind c.operations.result (start_refusal m raw.qubits raw.chains) (first_fault m raw.mode (opening raw.qubits raw.bits raw.chains) [] 0 raw.ops)
    (subst (λ (chains : List (List Ion)). start_refusal m raw.qubits chains ≡ None) c.as_slice-chains.ensures.value c.in_ok-start.ensures) (rw (c.as_slice-chains.ensures.value, c.as_slice.ensures.value) at c.operations.ensures.told)

pub returns-clause-legal : goal.returns-clause-legal
returns-clause-legal c =
    let m = c.args.machine.now in
    let raw = raw_data c.args.raw.now in
    legal_when c.operations.result m raw c.requires.qubits c.requires.bits c.requires.ops
    (start_is m raw.qubits raw.chains (subst (λ (chains : List (List Ion)). start_refusal m raw.qubits chains ≡ None) c.as_slice-chains.ensures.value c.in_ok-start.ensures)) (rw (c.as_slice-chains.ensures.value, c.as_slice.ensures.value) at c.operations.ensures.told)
    (rw c.as_slice.ensures.value at c.operations.ensures.kinds) (rw c.as_slice.ensures.value at c.operations.ensures.items)
