use Rattle.qccd_program.specs.AllCells.{AtStep}
use Rattle.qccd_program.proofs.running.run_in_order.Given as goal

abbrev pub invariant-loop-k : goal.invariant-loop-k
invariant-loop-k l = AtStep l.fn.program l.k l.cells
