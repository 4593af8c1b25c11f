use Rattle.std.proofs.Common.{ℕ, List, Ok, sym, ◌∙◌, ap, subst}
use Rattle.qccd_io.specs.declared.failed.Failed.{Failed}
use Rattle.qccd_io.specs.Sends.{Sends}
use Rattle.qccd_io.proofs.Sent.{sent_nothing}
use Rattle.op_table.specs.Act.{rider_in}
use Rattle.qccd_program.specs.Program.{end_of}
use Rattle.tracer.proofs.Ending.{end-safe, rider_text, segment_text}
use Rattle.tracer.proofs.ends.send_segment_end.Goals as goal

pub returns-in-None : goal.returns-in-None
returns-in-None g c =
    let held = sym c.in-None.is ∙ c.rider_in.ensures ∙ ap rider_in c.held_at_end-held.ensures in
    let safe = end-safe c.args.program.now c.ops-ops.ensures.legal in
    subst (λ (text : List ℕ). Sends {T = Unit {0}} {E = Failed} g.S.Sink.taken g.S.Sink.faults g.S.Sink.behind c.args.sink.now c.args.sink.now (Ok tt) text)
    (ap (rider_text c.args.g.0) held ∙ segment_text c.args.program.now.machine (end_of c.args.program.now) c.args.g.0 safe) (sent_nothing tt)

pub returns-in-Some : goal.returns-in-Some
returns-in-Some g c =
    let held = sym c.in-Some.is ∙ c.rider_in.ensures ∙ ap rider_in c.held_at_end-held.ensures in
    let safe = end-safe c.args.program.now c.ops-ops.ensures.legal in
    subst (λ (text : List ℕ). Sends g.S.Sink.taken g.S.Sink.faults g.S.Sink.behind c.args.sink.now c.send_rider.new.sink c.send_rider.result text)
    (ap (rider_text c.args.g.0) held ∙ segment_text c.args.program.now.machine (end_of c.args.program.now) c.args.g.0 safe) c.send_rider.ensures
