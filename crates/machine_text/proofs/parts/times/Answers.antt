use Rattle.std.proofs.Common.{codes}
use Rattle.toml.specs.Data.{as_table, get_member}
use Rattle.toml.specs.View.{view, table_view}
use Rattle.machine_text.specs.Checks.{times_in}
use Rattle.machine_text.proofs.Order.{found_given, times_given}
use Rattle.machine_text.proofs.parts.times.Goals as goal

pub returns-in-Some-as_table-clause-refused : goal.returns-in-Some-as_table-clause-refused
returns-in-Some-as_table-clause-refused c =
    let fields = table_view c.args.table.now in
    let times = table_view c.in-Some-as_table.given.now in
    let is = found_given as_table (get_member (codes "time") fields) (view c.in-Some.value.now) times c.in-Some.ensures c.in-Some-as_table.ensures in
    times_given (times_in fields) times c.given_times.result is c.given_times.ensures.refused
