use Rattle.std.proofs.Common.{◌∙◌}
use Rattle.qccd_machine.specs.TimeName.{time_names}
use Rattle.toml.specs.View.{table_view}
use Rattle.machine_text.specs.declared.fault.Part.TheVariants.{Time}
use Rattle.qccd_base.specs.FirstFailing.{IsFirstFailing}
use Rattle.machine_text.specs.Checks.{known_checks, spot, time_table_checks}
use Rattle.qccd_base.proofs.FirstFailing.{first_failing-after}
use Rattle.machine_text.proofs.Order.{exit, known_at, times_from, past, here}
use Rattle.machine_text.proofs.parts.given_times.Goals as goal

pub returns-in_err-time-4-clause-refused : goal.returns-in_err-time-4-clause-refused
returns-in_err-time-4-clause-refused c =
    let times = table_view c.args.table.now in
    exit c.from_residual-in_err-time-4.result c.in_err-time-4.field-0.0 (IsFirstFailing (time_table_checks times)) c.from_residual-in_err-time-4.ensures.1
    (first_failing-after (known_checks (spot Time 0) time_names times) (times_from times 0 12)
    (known_at c.at.result (spot Time 0) time_names times c.at.ensures c.in_ok-known_fields.ensures.ok)
    ∙ past times 0 11 c.in_ok-time.ensures.passed ∙ past times 1 10 c.in_ok-time-2.ensures.passed ∙ past times 2 9 c.in_ok-time-3.ensures.passed
    ∙ here times 3 8 c.in_err-time-4.field-0.0 c.in_err-time-4.ensures.refused)

pub returns-in_err-time-5-clause-refused : goal.returns-in_err-time-5-clause-refused
returns-in_err-time-5-clause-refused c =
    let times = table_view c.args.table.now in
    exit c.from_residual-in_err-time-5.result c.in_err-time-5.field-0.0 (IsFirstFailing (time_table_checks times)) c.from_residual-in_err-time-5.ensures.1
    (first_failing-after (known_checks (spot Time 0) time_names times) (times_from times 0 12)
    (known_at c.at.result (spot Time 0) time_names times c.at.ensures c.in_ok-known_fields.ensures.ok)
    ∙ past times 0 11 c.in_ok-time.ensures.passed ∙ past times 1 10 c.in_ok-time-2.ensures.passed ∙ past times 2 9 c.in_ok-time-3.ensures.passed
    ∙ past times 3 8 c.in_ok-time-4.ensures.passed
    ∙ here times 4 7 c.in_err-time-5.field-0.0 c.in_err-time-5.ensures.refused)

pub returns-in_err-time-6-clause-refused : goal.returns-in_err-time-6-clause-refused
returns-in_err-time-6-clause-refused c =
    let times = table_view c.args.table.now in
    exit c.from_residual-in_err-time-6.result c.in_err-time-6.field-0.0 (IsFirstFailing (time_table_checks times)) c.from_residual-in_err-time-6.ensures.1
    (first_failing-after (known_checks (spot Time 0) time_names times) (times_from times 0 12)
    (known_at c.at.result (spot Time 0) time_names times c.at.ensures c.in_ok-known_fields.ensures.ok)
    ∙ past times 0 11 c.in_ok-time.ensures.passed ∙ past times 1 10 c.in_ok-time-2.ensures.passed ∙ past times 2 9 c.in_ok-time-3.ensures.passed
    ∙ past times 3 8 c.in_ok-time-4.ensures.passed ∙ past times 4 7 c.in_ok-time-5.ensures.passed
    ∙ here times 5 6 c.in_err-time-6.field-0.0 c.in_err-time-6.ensures.refused)

pub returns-in_err-time-7-clause-refused : goal.returns-in_err-time-7-clause-refused
returns-in_err-time-7-clause-refused c =
    let times = table_view c.args.table.now in
    exit c.from_residual-in_err-time-7.result c.in_err-time-7.field-0.0 (IsFirstFailing (time_table_checks times)) c.from_residual-in_err-time-7.ensures.1
    (first_failing-after (known_checks (spot Time 0) time_names times) (times_from times 0 12)
    (known_at c.at.result (spot Time 0) time_names times c.at.ensures c.in_ok-known_fields.ensures.ok)
    ∙ past times 0 11 c.in_ok-time.ensures.passed ∙ past times 1 10 c.in_ok-time-2.ensures.passed ∙ past times 2 9 c.in_ok-time-3.ensures.passed
    ∙ past times 3 8 c.in_ok-time-4.ensures.passed ∙ past times 4 7 c.in_ok-time-5.ensures.passed ∙ past times 5 6 c.in_ok-time-6.ensures.passed
    ∙ here times 6 5 c.in_err-time-7.field-0.0 c.in_err-time-7.ensures.refused)

pub returns-in_err-time-8-clause-refused : goal.returns-in_err-time-8-clause-refused
returns-in_err-time-8-clause-refused c =
    let times = table_view c.args.table.now in
    exit c.from_residual-in_err-time-8.result c.in_err-time-8.field-0.0 (IsFirstFailing (time_table_checks times)) c.from_residual-in_err-time-8.ensures.1
    (first_failing-after (known_checks (spot Time 0) time_names times) (times_from times 0 12)
    (known_at c.at.result (spot Time 0) time_names times c.at.ensures c.in_ok-known_fields.ensures.ok)
    ∙ past times 0 11 c.in_ok-time.ensures.passed ∙ past times 1 10 c.in_ok-time-2.ensures.passed ∙ past times 2 9 c.in_ok-time-3.ensures.passed
    ∙ past times 3 8 c.in_ok-time-4.ensures.passed ∙ past times 4 7 c.in_ok-time-5.ensures.passed ∙ past times 5 6 c.in_ok-time-6.ensures.passed
    ∙ past times 6 5 c.in_ok-time-7.ensures.passed
    ∙ here times 7 4 c.in_err-time-8.field-0.0 c.in_err-time-8.ensures.refused)

pub returns-in_err-time-9-clause-refused : goal.returns-in_err-time-9-clause-refused
returns-in_err-time-9-clause-refused c =
    let times = table_view c.args.table.now in
    exit c.from_residual-in_err-time-9.result c.in_err-time-9.field-0.0 (IsFirstFailing (time_table_checks times)) c.from_residual-in_err-time-9.ensures.1
    (first_failing-after (known_checks (spot Time 0) time_names times) (times_from times 0 12)
    (known_at c.at.result (spot Time 0) time_names times c.at.ensures c.in_ok-known_fields.ensures.ok)
    ∙ past times 0 11 c.in_ok-time.ensures.passed ∙ past times 1 10 c.in_ok-time-2.ensures.passed ∙ past times 2 9 c.in_ok-time-3.ensures.passed
    ∙ past times 3 8 c.in_ok-time-4.ensures.passed ∙ past times 4 7 c.in_ok-time-5.ensures.passed ∙ past times 5 6 c.in_ok-time-6.ensures.passed
    ∙ past times 6 5 c.in_ok-time-7.ensures.passed ∙ past times 7 4 c.in_ok-time-8.ensures.passed
    ∙ here times 8 3 c.in_err-time-9.field-0.0 c.in_err-time-9.ensures.refused)

pub returns-in_err-time-10-clause-refused : goal.returns-in_err-time-10-clause-refused
returns-in_err-time-10-clause-refused c =
    let times = table_view c.args.table.now in
    exit c.from_residual-in_err-time-10.result c.in_err-time-10.field-0.0 (IsFirstFailing (time_table_checks times)) c.from_residual-in_err-time-10.ensures.1
    (first_failing-after (known_checks (spot Time 0) time_names times) (times_from times 0 12)
    (known_at c.at.result (spot Time 0) time_names times c.at.ensures c.in_ok-known_fields.ensures.ok)
    ∙ past times 0 11 c.in_ok-time.ensures.passed ∙ past times 1 10 c.in_ok-time-2.ensures.passed ∙ past times 2 9 c.in_ok-time-3.ensures.passed
    ∙ past times 3 8 c.in_ok-time-4.ensures.passed ∙ past times 4 7 c.in_ok-time-5.ensures.passed ∙ past times 5 6 c.in_ok-time-6.ensures.passed
    ∙ past times 6 5 c.in_ok-time-7.ensures.passed ∙ past times 7 4 c.in_ok-time-8.ensures.passed ∙ past times 8 3 c.in_ok-time-9.ensures.passed
    ∙ here times 9 2 c.in_err-time-10.field-0.0 c.in_err-time-10.ensures.refused)

pub returns-in_err-time-11-clause-refused : goal.returns-in_err-time-11-clause-refused
returns-in_err-time-11-clause-refused c =
    let times = table_view c.args.table.now in
    exit c.from_residual-in_err-time-11.result c.in_err-time-11.field-0.0 (IsFirstFailing (time_table_checks times)) c.from_residual-in_err-time-11.ensures.1
    (first_failing-after (known_checks (spot Time 0) time_names times) (times_from times 0 12)
    (known_at c.at.result (spot Time 0) time_names times c.at.ensures c.in_ok-known_fields.ensures.ok)
    ∙ past times 0 11 c.in_ok-time.ensures.passed ∙ past times 1 10 c.in_ok-time-2.ensures.passed ∙ past times 2 9 c.in_ok-time-3.ensures.passed
    ∙ past times 3 8 c.in_ok-time-4.ensures.passed ∙ past times 4 7 c.in_ok-time-5.ensures.passed ∙ past times 5 6 c.in_ok-time-6.ensures.passed
    ∙ past times 6 5 c.in_ok-time-7.ensures.passed ∙ past times 7 4 c.in_ok-time-8.ensures.passed ∙ past times 8 3 c.in_ok-time-9.ensures.passed
    ∙ past times 9 2 c.in_ok-time-10.ensures.passed
    ∙ here times 10 1 c.in_err-time-11.field-0.0 c.in_err-time-11.ensures.refused)

pub returns-in_err-time-12-clause-refused : goal.returns-in_err-time-12-clause-refused
returns-in_err-time-12-clause-refused c =
    let times = table_view c.args.table.now in
    exit c.from_residual-in_err-time-12.result c.in_err-time-12.field-0.0 (IsFirstFailing (time_table_checks times)) c.from_residual-in_err-time-12.ensures.1
    (first_failing-after (known_checks (spot Time 0) time_names times) (times_from times 0 12)
    (known_at c.at.result (spot Time 0) time_names times c.at.ensures c.in_ok-known_fields.ensures.ok)
    ∙ past times 0 11 c.in_ok-time.ensures.passed ∙ past times 1 10 c.in_ok-time-2.ensures.passed ∙ past times 2 9 c.in_ok-time-3.ensures.passed
    ∙ past times 3 8 c.in_ok-time-4.ensures.passed ∙ past times 4 7 c.in_ok-time-5.ensures.passed ∙ past times 5 6 c.in_ok-time-6.ensures.passed
    ∙ past times 6 5 c.in_ok-time-7.ensures.passed ∙ past times 7 4 c.in_ok-time-8.ensures.passed ∙ past times 8 3 c.in_ok-time-9.ensures.passed
    ∙ past times 9 2 c.in_ok-time-10.ensures.passed ∙ past times 10 1 c.in_ok-time-11.ensures.passed
    ∙ here times 11 0 c.in_err-time-12.field-0.0 c.in_err-time-12.ensures.refused)
