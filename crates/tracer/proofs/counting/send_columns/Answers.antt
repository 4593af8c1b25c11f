use Rattle.std.proofs.Common.{ℕ, List, ◌++◌, decimal, ap, arith}
use Rattle.std.specs.List.{enumerate_from}
use Rattle.op_text.specs.OpText.{next_word}
use Rattle.tracer.specs.Report.{columns, count_text}
use Rattle.tracer.proofs.Loops.{more_sent, part_sent, all_sent, numbered_at, sent_as}
use Rattle.tracer.proofs.counting.send_columns.Goals as goal

abbrev counted : List ℕ → ℕ → List ℕ
counted name count = next_word name ++ next_word (decimal count)

pub loop-column-preserved : goal.loop-column-preserved
loop-column-preserved g c ops tally =
    more_sent (count_text ops) (enumerate_from 0 columns) c.loop-column.column _ (numbered_at columns c.loop-column.column c.column_name.result.now c.column_name.ensures) (c.loop-column.invariant ops tally)
    (sent_as (ap (counted c.column_name.result.now) (tally c.loop-column.column c.loop-column-test.true)) c.in_ok-send_count.ensures)

pub returns-in_err-send_count : goal.returns-in_err-send_count
returns-in_err-send_count g c ops tally =
    part_sent (count_text ops) (enumerate_from 0 columns) c.loop-column.column _ _ (numbered_at columns c.loop-column.column c.column_name.result.now c.column_name.ensures) (c.loop-column.invariant ops tally)
    (sent_as (ap (counted c.column_name.result.now) (tally c.loop-column.column c.loop-column-test.true)) c.in_err-send_count.ensures) c.from_residual.ensures.1

pub returns : goal.returns
returns g c ops tally = all_sent (count_text ops) (enumerate_from 0 columns) c.loop-column.column (omega arith) (c.loop-column.invariant ops tally)
