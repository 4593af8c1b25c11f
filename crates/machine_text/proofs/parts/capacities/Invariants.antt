use Rattle.std.proofs.Common.{◌≡◌, ◌++◌, map, drop}
use Rattle.qccd_base.specs.FirstFailing.{first_failing}
use Rattle.machine_text.specs.Checks.{row_checks, trap_checks, capacity_in}
use Rattle.machine_text.specs.Field.{given}
use Rattle.machine_text.specs.Texts.{tables_of}
use Rattle.machine_text.proofs.parts.capacities.Given as goal

abbrev pub invariant-loop-row : goal.invariant-loop-row
invariant-loop-row l = record {
  passed : first_failing (row_checks trap_checks 0 (tables_of l.rows)) ≡ first_failing (row_checks trap_checks l.row (tables_of (drop l.row l.rows)));
  read : map capacity_in (tables_of l.rows) ≡ map given l.capacities.items ++ map capacity_in (tables_of (drop l.row l.rows));
}
