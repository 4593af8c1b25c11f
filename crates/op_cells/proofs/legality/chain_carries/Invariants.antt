use Rattle.std.proofs.Common.{◌≡◌, drop}
use Rattle.op_table.specs.Act.{chain_carries}
use Rattle.op_cells.proofs.legality.chain_carries.Given as goal

abbrev pub invariant-loop-i : goal.invariant-loop-i
invariant-loop-i l = chain_carries l.chain (drop l.i l.at) (drop l.i l.qubits) ≡ chain_carries l.chain l.at l.qubits
