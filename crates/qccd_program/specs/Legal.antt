-- Legal programs.
use Rattle.std.specs.Prelude.{ℕ, ◌≤◌, ◌==◌, IsTrue, length, count_by}
use Rattle.std.specs.List.{AllByRecursion}
use Rattle.op_table.specs.Op.{IsOp, KeepsItemRule}
use Rattle.op_table.specs.Run.{IsRun, items_in}
use Rattle.op_table.specs.Start.{IsStart}
use Rattle.qccd_program.specs.Mode.{is_of_mode}
use Rattle.qccd_program.specs.Program.{ProgramData, opening_of}

-- what a program keeps to: its operations are a run from its start chains, each item keeps the item rule, no
-- item number stands twice, and where it names a mode each operation is of that mode
pub record IsLegalProgram (p : ProgramData) : Type 0 where
  pub qubits : p.qubits ≤ 256
  pub bits : p.bits ≤ 256
  pub few : length p.ops ≤ 4194304
  pub start : IsStart p.machine p.qubits p.start
  pub ops : AllByRecursion IsOp p.ops
  pub items_fit : AllByRecursion KeepsItemRule p.ops
  pub run : IsRun p.machine (opening_of p) p.ops
  pub once : (number : ℕ) → count_by (λ e. e.0 == number) (items_in p.ops) ≤ 1
  pub of_mode : AllByRecursion (λ op. IsTrue (is_of_mode p.mode op)) p.ops
