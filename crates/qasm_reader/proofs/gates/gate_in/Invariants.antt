use Rattle.std.proofs.Common.{◌≡◌, map, length}
use Rattle.gate_defs.specs.Gates.{gate_in}
use Rattle.qasm_reader.specs.Named.{row_gate}
use Rattle.qasm_reader.proofs.gates.gate_in.Given as goal

-- the gate is that of the rows that are left
abbrev pub invariant-loop-left : goal.invariant-loop-left
invariant-loop-left l = gate_in (map row_gate l.fn.gates) l.name ≡ gate_in (map row_gate l.left) l.name

abbrev pub decreases-loop-left : goal.decreases-loop-left
decreases-loop-left l = length l.left
