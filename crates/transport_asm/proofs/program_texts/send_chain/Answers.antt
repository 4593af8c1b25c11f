use Rattle.std.proofs.Common.{ℕ, List, ◌++◌, codes, decimal, Ok, Err}
use Rattle.qccd_io.proofs.Sent.{sent_next, sent_last}
use Rattle.transport_asm.specs.ProgramText.{ions_text}
use Rattle.op_text.proofs.Sending.{sent_grown}
use Rattle.transport_asm.proofs.program_texts.send_chain.Goals as goal

abbrev head : ℕ → List ℕ
head t = codes "T" ++ decimal t

pub returns-in_err-send_trap : goal.returns-in_err-send_trap
returns-in_err-send_trap g c =
    sent_last c.from_residual.result _ (sent_grown (head c.args.trap ++ ions_text c.args.ions.now) (codes "\n") (sent_grown (head c.args.trap) (ions_text c.args.ions.now) c.in_err-send_trap.ensures)) c.from_residual.ensures.1

pub returns-in_err-send_ions : goal.returns-in_err-send_ions
returns-in_err-send_ions g c =
    sent_last c.from_residual-in_err-send_ions.result _
    (sent_grown (head c.args.trap ++ ions_text c.args.ions.now) (codes "\n") (sent_next (Err c.in_err-send_ions.field-0.0) (head c.args.trap) (ions_text c.args.ions.now) c.in_ok-send_trap.ensures c.in_err-send_ions.ensures))
    c.from_residual-in_err-send_ions.ensures.1

pub returns : goal.returns
returns g c =
    sent_next c.send.result (head c.args.trap ++ ions_text c.args.ions.now) (codes "\n")
    (sent_next (Ok tt) (head c.args.trap) (ions_text c.args.ions.now) c.in_ok-send_trap.ensures c.in_ok-send_ions.ensures) c.send.ensures
