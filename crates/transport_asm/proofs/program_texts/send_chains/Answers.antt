use Rattle.std.proofs.Common.{◌≡◌, ◌≤◌, List, get_or, length, sym, ap, subst, arith, [], Ok, Err}
use Rattle.std.proofs.lemmas.List.{take_all}
use Rattle.std.proofs.lemmas.Option.{get_or_from_slice_get, slice_get_within}
use Rattle.qccd_base.specs.declared.names.Ion.{Ion}
use Rattle.qccd_io.specs.declared.failed.Failed.{Failed}
use Rattle.qccd_io.specs.Sends.{Sends}
use Rattle.qccd_machine.specs.Machine.{MachineData}
use Rattle.transport_asm.specs.ProgramText.{chain_text, numbered_texts}
use Rattle.transport_asm.proofs.ProgramWriting.{numbered_sent, numbered_short}
use Rattle.transport_asm.proofs.program_texts.send_chains.Goals as goal

pub loop-trap-preserved : goal.loop-trap-preserved
loop-trap-preserved g c =
    let start = c.args.program.now.start in
    let at : get_or start c.loop-trap.trap [] ≡ c.start.result.now = get_or_from_slice_get start c.loop-trap.trap c.start.result.now [] c.start.ensures in
    numbered_sent chain_text start c.loop-trap.trap [] (slice_get_within start c.loop-trap.trap c.start.result.now c.start.ensures) c.loop-trap.invariant
    (subst (λ (ions : List Ion). Sends {T = Unit {0}} {E = Failed} g.S.Sink.taken g.S.Sink.faults g.S.Sink.behind c.loop-trap.sink c.send_chain.new.sink (Ok tt) (chain_text c.loop-trap.trap ions)) (sym at) c.in_ok-send_chain.ensures)

pub returns-in_err-send_chain : goal.returns-in_err-send_chain
returns-in_err-send_chain g c =
    let start = c.args.program.now.start in
    let at : get_or start c.loop-trap.trap [] ≡ c.start.result.now = get_or_from_slice_get start c.loop-trap.trap c.start.result.now [] c.start.ensures in
    numbered_short chain_text start c.loop-trap.trap [] _ (slice_get_within start c.loop-trap.trap c.start.result.now c.start.ensures) c.loop-trap.invariant
    (subst (λ (ions : List Ion). Sends {T = Unit {0}} {E = Failed} g.S.Sink.taken g.S.Sink.faults g.S.Sink.behind c.loop-trap.sink c.send_chain.new.sink (Err c.in_err-send_chain.field-0.0) (chain_text c.loop-trap.trap ions)) (sym at) c.in_err-send_chain.ensures)
    c.from_residual.ensures.1

pub returns : goal.returns
returns g c =
    let start = c.args.program.now.start in
    let most : length start ≤ c.loop-trap.trap = omega (arith, c.loop-trap-test.false, c.traps-traps.ensures.count, ap (λ (m : MachineData). length m.capacities) c.machine.ensures.value, c.ops-ops.ensures.legal.start.chains) in
    subst (λ (chains : List (List Ion)). Sends {T = Unit {0}} {E = Failed} g.S.Sink.taken g.S.Sink.faults g.S.Sink.behind c.args.sink.now c.loop-trap.sink (Ok tt) (numbered_texts chain_text 0 chains)) (take_all c.loop-trap.trap start most) c.loop-trap.invariant
