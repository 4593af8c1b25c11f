use Rattle.std.proofs.Common.{◌≡◌, ◌++◌, map, drop}
use Rattle.qccd_base.specs.FirstFailing.{first_failing}
use Rattle.machine_text.specs.Checks.{row_checks, segment_checks, ends_in}
use Rattle.machine_text.specs.Machine.{given_ends}
use Rattle.machine_text.specs.Texts.{tables_of}
use Rattle.machine_text.proofs.parts.ends.Given as goal

abbrev pub invariant-loop-row : goal.invariant-loop-row
invariant-loop-row l = record {
  passed : first_failing (row_checks segment_checks 0 (tables_of l.rows)) ≡ first_failing (row_checks segment_checks l.row (tables_of (drop l.row l.rows)));
  read : map ends_in (tables_of l.rows) ≡ map given_ends l.ends.items ++ map ends_in (tables_of (drop l.row l.rows));
}
