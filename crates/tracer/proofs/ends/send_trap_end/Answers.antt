use Rattle.std.proofs.Common.{ℕ, List, ◌++◌, codes, Ok, Err, ap, ◌∙◌, subst}
use Rattle.std.specs.Prelude.{flat_map}
use Rattle.qccd_io.specs.Sends.{Sends}
use Rattle.qccd_io.proofs.Sent.{sent_next, sent_last}
use Rattle.op_text.proofs.Sending.{sent_grown}
use Rattle.qccd_io.specs.declared.failed.Failed.{Failed}
use Rattle.op_table.specs.declared.contents.Entry.{Entry}
use Rattle.op_table.specs.Act.{chain_in, heat_in}
use Rattle.op_table.specs.State.{heat_of}
use Rattle.qccd_program.specs.Program.{ProgramData, end_of}
use Rattle.op_text.specs.OpText.{next_word}
use Rattle.tracer.specs.Report.{labelled, entry_text, pair_text, chain_of}
use Rattle.tracer.proofs.Ending.{chain_text}
use Rattle.tracer.proofs.ends.send_trap_end.Goals as goal

abbrev head : ProgramData → ℕ → List ℕ
head program number = labelled (codes "end T") number ++ labelled (codes " heat ") (heat_of (end_of program) number)

abbrev ions : ProgramData → ℕ → List ℕ
ions program number = flat_map (λ e. next_word (entry_text e)) (chain_of (end_of program) number)

abbrev feed : List ℕ
feed = codes "\n"

abbrev words : List Entry → List ℕ
words entries = flat_map (λ (e : Entry). next_word (pair_text e.ion.0 e.qubit)) entries

pub returns-in_err-send_heat : goal.returns-in_err-send_heat
returns-in_err-send_heat g c =
    sent_last c.from_residual.result _ (sent_grown ((head c.args.program.now c.args.t.0) ++ (ions c.args.program.now c.args.t.0)) feed (sent_grown (head c.args.program.now c.args.t.0) (ions c.args.program.now c.args.t.0) (subst (λ (heat : ℕ). Sends {T = Unit {0}} {E = Failed} g.S.Sink.taken g.S.Sink.faults g.S.Sink.behind c.args.sink.now c.send_heat.new.sink (Err c.in_err-send_heat.field-0.0) (labelled (codes "end T") c.args.t.0 ++ labelled (codes " heat ") heat)) (c.heat_in.ensures ∙ ap heat_in c.held_at_end-held.ensures) c.in_err-send_heat.ensures))) c.from_residual.ensures.1

pub returns-in_err-send_entries : goal.returns-in_err-send_entries
returns-in_err-send_entries g c =
    sent_last c.from_residual-in_err-send_entries.result _ (sent_grown ((head c.args.program.now c.args.t.0) ++ (ions c.args.program.now c.args.t.0)) feed (sent_next (Err c.in_err-send_entries.field-0.0) (head c.args.program.now c.args.t.0) (ions c.args.program.now c.args.t.0) (subst (λ (heat : ℕ). Sends {T = Unit {0}} {E = Failed} g.S.Sink.taken g.S.Sink.faults g.S.Sink.behind c.args.sink.now c.send_heat.new.sink (Ok tt) (labelled (codes "end T") c.args.t.0 ++ labelled (codes " heat ") heat)) (c.heat_in.ensures ∙ ap heat_in c.held_at_end-held.ensures) c.in_ok-send_heat.ensures) (subst (λ (text : List ℕ). Sends {T = Unit {0}} {E = Failed} g.S.Sink.taken g.S.Sink.faults g.S.Sink.behind c.send_heat.new.sink c.send_entries.new.sink (Err c.in_err-send_entries.field-0.0) text) (ap words (c.chain_in.ensures ∙ ap chain_in c.held_at_end-held.ensures) ∙ chain_text (end_of c.args.program.now) c.args.t.0) c.in_err-send_entries.ensures))) c.from_residual-in_err-send_entries.ensures.1

pub returns : goal.returns
returns g c =
    sent_next c.send.result ((head c.args.program.now c.args.t.0) ++ (ions c.args.program.now c.args.t.0)) feed (sent_next (Ok tt) (head c.args.program.now c.args.t.0) (ions c.args.program.now c.args.t.0) (subst (λ (heat : ℕ). Sends {T = Unit {0}} {E = Failed} g.S.Sink.taken g.S.Sink.faults g.S.Sink.behind c.args.sink.now c.send_heat.new.sink (Ok tt) (labelled (codes "end T") c.args.t.0 ++ labelled (codes " heat ") heat)) (c.heat_in.ensures ∙ ap heat_in c.held_at_end-held.ensures) c.in_ok-send_heat.ensures) (subst (λ (text : List ℕ). Sends {T = Unit {0}} {E = Failed} g.S.Sink.taken g.S.Sink.faults g.S.Sink.behind c.send_heat.new.sink c.send_entries.new.sink (Ok tt) text) (ap words (c.chain_in.ensures ∙ ap chain_in c.held_at_end-held.ensures) ∙ chain_text (end_of c.args.program.now) c.args.t.0) c.in_ok-send_entries.ensures)) c.send.ensures
