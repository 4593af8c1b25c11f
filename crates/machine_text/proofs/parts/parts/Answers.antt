use Rattle.std.proofs.Common.{◌≢◌, ◌∙◌, ◌++◌}
use Rattle.toml.specs.View.{table_view}
use Rattle.machine_text.specs.declared.fault.Part.TheVariants.{Top, Junctions}
use Rattle.machine_text.specs.declared.fault.TextFault.{TextFault}
use Rattle.machine_text.specs.declared.fault.TextFault.TheVariants.{NoMemory}
use Rattle.qccd_base.specs.FirstFailing.{IsFirstFailing}
use Rattle.machine_text.specs.Checks.{known_checks, optional_checks, spot, document_names, junctions_in, all_trap_checks, all_segment_checks, all_time_checks, document_checks}
use Rattle.qccd_base.proofs.FirstFailing.{first_failing-after, first_failing-at}
use Rattle.machine_text.proofs.Order.{exit, known_at}
use Rattle.machine_text.proofs.parts.parts.Goals as goal

pub returns-in_err-capacities-clause-refused : goal.returns-in_err-capacities-clause-refused
returns-in_err-capacities-clause-refused c =
    let fields = table_view c.args.table.now in
    let known = known_checks (spot Top 0) document_names fields in
    let junction = optional_checks (spot Junctions 0) (junctions_in fields) in
    let traps = all_trap_checks fields in
    let segments = all_segment_checks fields in
    let times = all_time_checks fields in
    exit c.from_residual-in_err-capacities.result c.in_err-capacities.field-0.0 (λ (e : TextFault). e ≢ NoMemory → IsFirstFailing (document_checks fields) e) c.from_residual-in_err-capacities.ensures.1
    (λ other.
    first_failing-after known (junction ++ (traps ++ (segments ++ times)))
    (known_at c.at.result (spot Top 0) document_names fields c.at.ensures c.in_ok-known_fields.ensures.ok)
    ∙ first_failing-after junction (traps ++ (segments ++ times)) c.in_ok-junctions.ensures.passed
    ∙ first_failing-at traps (segments ++ times) c.in_err-capacities.field-0.0 (c.in_err-capacities.ensures.refused other))

pub returns-in_err-segments-clause-refused : goal.returns-in_err-segments-clause-refused
returns-in_err-segments-clause-refused c =
    let fields = table_view c.args.table.now in
    let known = known_checks (spot Top 0) document_names fields in
    let junction = optional_checks (spot Junctions 0) (junctions_in fields) in
    let traps = all_trap_checks fields in
    let segments = all_segment_checks fields in
    let times = all_time_checks fields in
    exit c.from_residual-in_err-segments.result c.in_err-segments.field-0.0 (λ (e : TextFault). e ≢ NoMemory → IsFirstFailing (document_checks fields) e) c.from_residual-in_err-segments.ensures.1
    (λ other.
    first_failing-after known (junction ++ (traps ++ (segments ++ times)))
    (known_at c.at.result (spot Top 0) document_names fields c.at.ensures c.in_ok-known_fields.ensures.ok)
    ∙ first_failing-after junction (traps ++ (segments ++ times)) c.in_ok-junctions.ensures.passed
    ∙ first_failing-after traps (segments ++ times) c.in_ok-capacities.ensures.passed
    ∙ first_failing-at segments times c.in_err-segments.field-0.0 (c.in_err-segments.ensures.refused other))

pub returns-in_err-times-clause-refused : goal.returns-in_err-times-clause-refused
returns-in_err-times-clause-refused c =
    let fields = table_view c.args.table.now in
    let known = known_checks (spot Top 0) document_names fields in
    let junction = optional_checks (spot Junctions 0) (junctions_in fields) in
    let traps = all_trap_checks fields in
    let segments = all_segment_checks fields in
    let times = all_time_checks fields in
    exit c.from_residual-in_err-times.result c.in_err-times.field-0.0 (λ (e : TextFault). e ≢ NoMemory → IsFirstFailing (document_checks fields) e) c.from_residual-in_err-times.ensures.1
    (λ other.
    first_failing-after known (junction ++ (traps ++ (segments ++ times)))
    (known_at c.at.result (spot Top 0) document_names fields c.at.ensures c.in_ok-known_fields.ensures.ok)
    ∙ first_failing-after junction (traps ++ (segments ++ times)) c.in_ok-junctions.ensures.passed
    ∙ first_failing-after traps (segments ++ times) c.in_ok-capacities.ensures.passed
    ∙ first_failing-after segments times c.in_ok-segments.ensures.passed
    ∙ c.in_err-times.ensures.refused)

pub returns-clause-passed : goal.returns-clause-passed
returns-clause-passed c =
    let fields = table_view c.args.table.now in
    let known = known_checks (spot Top 0) document_names fields in
    let junction = optional_checks (spot Junctions 0) (junctions_in fields) in
    let traps = all_trap_checks fields in
    let segments = all_segment_checks fields in
    let times = all_time_checks fields in
    first_failing-after known (junction ++ (traps ++ (segments ++ times)))
    (known_at c.at.result (spot Top 0) document_names fields c.at.ensures c.in_ok-known_fields.ensures.ok)
    ∙ first_failing-after junction (traps ++ (segments ++ times)) c.in_ok-junctions.ensures.passed
    ∙ first_failing-after traps (segments ++ times) c.in_ok-capacities.ensures.passed
    ∙ first_failing-after segments times c.in_ok-segments.ensures.passed
    ∙ c.in_ok-times.ensures.passed
