use Rattle.std.proofs.Common.{◌≡◌, [], take}
use Rattle.std.specs.Prelude.{IsTrue}
use Rattle.std.specs.List.{AllByRecursion}
use Rattle.op_table.specs.Op.{IsOp, KeepsItemRule}
use Rattle.op_table.specs.Run.{after}
use Rattle.op_table.specs.State.{IsSafe, opening}
use Rattle.op_cells.specs.Shows.{Shows}
use Rattle.qccd_program.specs.Mode.{is_of_mode}
use Rattle.op_plan.specs.Cold.{cold}
use Rattle.loader.specs.Refusal.{first_fault}
use Rattle.loader.specs.Marked.{AreDone}
use Rattle.loader.proofs.Going.{fault_from}
use Rattle.loader.proofs.operations.operations.Given as goal

abbrev pub invariant-loop-k : goal.invariant-loop-k
invariant-loop-k l = record {
  safe : IsSafe l.machine (after l.machine (opening l.qubits l.bits l.chains) (take l.k l.ops));
  shows : Shows l.machine (cold (after l.machine (opening l.qubits l.bits l.chains) (take l.k l.ops))) l.cells;
  done : AreDone (take l.k l.ops) l.done;
  rest : fault_from l.machine l.mode (opening l.qubits l.bits l.chains) l.ops l.k ≡ first_fault l.machine l.mode (opening l.qubits l.bits l.chains) [] 0 l.ops;
  kinds : AllByRecursion IsOp (take l.k l.ops);
  items : AllByRecursion KeepsItemRule (take l.k l.ops);
  of_mode : AllByRecursion (λ op. IsTrue (is_of_mode l.mode op)) (take l.k l.ops);
}
