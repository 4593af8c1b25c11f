use Rattle.std.proofs.Common.{ℕ, List, ◌++◌, length, Ok, Err, sym}
use Rattle.qccd_base.specs.declared.names.Ion.{Ion}
use Rattle.qccd_io.proofs.Sent.{sent_next, sent_last}
use Rattle.qccd_program.specs.Program.{ProgramData}
use Rattle.transport_asm.specs.ProgramText.{head_text, counts_text, traps_head, chain_text, numbered_texts}
use Rattle.op_text.proofs.Sending.{sent_grown}
use Rattle.transport_asm.proofs.program_texts.send_front.Goals as goal

abbrev chains : List (List Ion) → List ℕ
chains start = numbered_texts chain_text 0 start

-- the head and the numbers, and these with the number of traps
abbrev counts : ProgramData → List ℕ
counts p = head_text p.mode ++ counts_text p.qubits p.bits

abbrev sizes : ProgramData → List ℕ
sizes p = counts p ++ traps_head (length p.start)

pub returns-in_err-send_head : goal.returns-in_err-send_head
returns-in_err-send_head g c =
    let p = c.args.program.now in
    sent_last c.from_residual.result _
    (sent_grown (sizes p) (chains p.start)
    (sent_grown (counts p) (traps_head (length p.start)) (sent_grown (head_text p.mode) (counts_text p.qubits p.bits) (rw c.mode.ensures at c.in_err-send_head.ensures))))
    c.from_residual.ensures.1

pub returns-in_err-send_counts : goal.returns-in_err-send_counts
returns-in_err-send_counts g c =
    let p = c.args.program.now in
    sent_last c.from_residual-in_err-send_counts.result _
    (sent_grown (sizes p) (chains p.start)
    (sent_grown (counts p) (traps_head (length p.start))
    (sent_next (Err c.in_err-send_counts.field-0.0) (head_text p.mode) (counts_text p.qubits p.bits) (rw c.mode.ensures at c.in_ok-send_head.ensures) (rw (c.qubits.ensures, c.bits.ensures) at c.in_err-send_counts.ensures))))
    c.from_residual-in_err-send_counts.ensures.1

pub returns-in_err-send_traps_head : goal.returns-in_err-send_traps_head
returns-in_err-send_traps_head g c =
    let p = c.args.program.now in
    sent_last c.from_residual-in_err-send_traps_head.result _
    (sent_grown (sizes p) (chains p.start)
    (sent_next (Err c.in_err-send_traps_head.field-0.0) (counts p) (traps_head (length p.start))
    (sent_next (Ok tt) (head_text p.mode) (counts_text p.qubits p.bits) (rw c.mode.ensures at c.in_ok-send_head.ensures) (rw (c.qubits.ensures, c.bits.ensures) at c.in_ok-send_counts.ensures))
    (rw (c.traps.ensures.count, c.machine.ensures.value, sym c.ops-ops.ensures.legal.start.chains) at c.in_err-send_traps_head.ensures)))
    c.from_residual-in_err-send_traps_head.ensures.1

pub returns : goal.returns
returns g c =
    let p = c.args.program.now in
    sent_next c.send_chains.result (sizes p) (chains p.start)
    (sent_next (Ok tt) (counts p) (traps_head (length p.start))
    (sent_next (Ok tt) (head_text p.mode) (counts_text p.qubits p.bits) (rw c.mode.ensures at c.in_ok-send_head.ensures) (rw (c.qubits.ensures, c.bits.ensures) at c.in_ok-send_counts.ensures))
    (rw (c.traps.ensures.count, c.machine.ensures.value, sym c.ops-ops.ensures.legal.start.chains) at c.in_ok-send_traps_head.ensures))
    c.send_chains.ensures
