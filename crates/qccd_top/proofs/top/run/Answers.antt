use Rattle.std.proofs.Common.{refl, sym, subst, arith}
use Rattle.qccd_messages.specs.Cause.{cause_of}
use Rattle.qccd_messages.specs.Message.{message_of}
use Rattle.qccd_top.specs.Call.{call_of, output}
use Rattle.qccd_top.specs.Promises.{Promises}
use Rattle.qccd_top.proofs.Promising.{promised_done, promised_refused, told}
use Rattle.qccd_top.proofs.top.run.Goals as goal

pub returns-in-Ok-clause-promises : goal.returns-in-Ok-clause-promises
returns-in-Ok-clause-promises g c =
    let does = c.in-Ok.ensures.does in
    promised_done
    (call_of g.F.Shelf.told g.F.Shelf.faults c.args.words.now c.args.shelf.now c.answer.new.shelf (output g.O.Sink.taken g.O.Sink.faults c.args.out.now c.answer.new.out))
    (output g.E.Sink.taken g.E.Sink.faults c.args.err.now c.args.err.now) does.did refl c.in-Ok.ensures.words
    (record { of_shelf = does.count; of_out = does.out_count; of_err = omega arith })

pub returns-in-Err-clause-promises : goal.returns-in-Err-clause-promises
returns-in-Err-clause-promises g c =
    let call = call_of g.F.Shelf.told g.F.Shelf.faults c.args.words.now c.args.shelf.now c.answer.new.shelf (output g.O.Sink.taken g.O.Sink.faults c.args.out.now c.answer.new.out) in
    let err = output g.E.Sink.taken g.E.Sink.faults c.args.err.now c.tell-told.new.err in
    let does = c.in-Err.ensures.does in
    let cause = cause_of c.in-Err.refusal in
    subst (Promises call err) (sym c.status-status.ensures)
    (promised_refused call err cause does.did c.in-Err.ensures.words
    (told g.E.Sink.taken g.E.Sink.faults g.E.Sink.behind c.args.err.now c.tell-told.new.err c.tell-told.result (message_of cause) c.tell-told.ensures)
    (record { of_shelf = does.count; of_out = does.out_count; of_err = c.tell-told.ensures.count }))
