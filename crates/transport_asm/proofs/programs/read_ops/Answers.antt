use Rattle.std.proofs.lemmas.Result.{err_from_is_err_and}
use Rattle.transport_asm.specs.LineCursor.{unread, raw_data}
use Rattle.transport_asm.proofs.LineReading.{read_fails, read_goes_on, read_done}
use Rattle.transport_asm.proofs.programs.read_ops.Goals as goal

pub returns-in_err-raw : goal.returns-in_err-raw
returns-in_err-raw c =
    let p = err_from_is_err_and c.from_residual.result c.from_residual.ensures.1 in
    rw (p.1, p.2) (read_fails c.args.text.now c.in_err-raw.field-0.0 c.in_err-raw.ensures)

pub returns-in_err-ended : goal.returns-in_err-ended
returns-in_err-ended c =
    let p = err_from_is_err_and c.from_residual-in_err-ended.result c.from_residual-in_err-ended.ensures.1 in
    rw (p.1, p.2) (read_goes_on c.args.text.now (raw_data c.in_ok-raw.raw) (unread c.in_ok-raw.rest) c.in_err-ended.field-0.0 c.in_ok-raw.ensures c.in_err-ended.ensures)

pub returns : goal.returns
returns c = read_done c.args.text.now (raw_data c.in_ok-raw.raw) (unread c.in_ok-raw.rest) c.in_ok-raw.ensures c.in_ok-ended.ensures
