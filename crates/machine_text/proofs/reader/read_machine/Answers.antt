use Rattle.std.proofs.Common.{◌≢◌}
use Rattle.toml.specs.View.{table_view}
use Rattle.machine_text.specs.declared.fault.TextFault.{TextFault}
use Rattle.machine_text.specs.declared.fault.TextFault.TheVariants.{NoMemory}
use Rattle.machine_text.specs.Machine.{IsRefusalOf}
use Rattle.qccd_machine.specs.Fault.{data_of}
use Rattle.machine_text.proofs.Order.{exit}
use Rattle.machine_text.proofs.Refusals.{refused-field, refused-parts}
use Rattle.machine_text.proofs.reader.read_machine.Goals as goal

pub returns-in_err-parts-clause-refused : goal.returns-in_err-parts-clause-refused
returns-in_err-parts-clause-refused c =
    let text = c.args.text.now in
    let fault = c.in_err-parts.field-0.0 in
    exit c.from_residual-in_err-parts.result fault (λ (e : TextFault). e ≢ NoMemory → IsRefusalOf text e) c.from_residual-in_err-parts.ensures.1
    (λ other. refused-field text fault (record {
      fields = table_view c.in_ok-table.table;
      is_table = c.in_ok-table.ensures.table;
      first = c.in_err-parts.ensures.refused other;
    }))

pub returns-clause-refused : goal.returns-clause-refused
returns-clause-refused c =
    refused-parts c.args.text.now (data_of c.in_ok-parts.parts) c.build.result c.map_err.result _ (λ fault e is. is) (record {
      fields = table_view c.in_ok-table.table;
      is_table = c.in_ok-table.ensures.table;
      none_wrong = c.in_ok-parts.ensures.passed;
      describes = c.in_ok-parts.ensures.described;
    }) c.build.ensures.refused c.map_err.ensures.cases
