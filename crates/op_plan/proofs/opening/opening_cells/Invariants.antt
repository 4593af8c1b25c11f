use Rattle.std.proofs.Common.{ℕ, ◌≤◌}
use Rattle.op_table.specs.Start.{IsStart}
use Rattle.op_plan.proofs.Begun.{FirstShown}
use Rattle.op_plan.proofs.opening.opening_cells.Given as goal

abbrev pub invariant-loop-number : goal.invariant-loop-number
invariant-loop-number l = record {
  shown : (qubits : ℕ) → IsStart l.machine qubits l.chains → FirstShown l.machine qubits l.bits l.chains l.number l.cells.items;
  most : l.number ≤ l.count;
}
