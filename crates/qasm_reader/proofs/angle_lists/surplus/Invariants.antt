use Rattle.std.proofs.Common.{◌≡◌, ◌≤◌, [], length}
use Rattle.qasm_reader.specs.declared.angle.Phase.TheVariants.{Part}
use Rattle.qasm_reader.specs.Angle.{angle_state}
use Rattle.qasm_reader.specs.Known.{Known}
use Rattle.qasm_reader.specs.Expected.{Call, within_angle}
use Rattle.qasm_reader.specs.Code.{ahead, answer_from}
use Rattle.qasm_reader.proofs.angle_lists.surplus.Given as goal

-- the answer is that of some further angle, of which there are too many too
abbrev pub invariant-loop-behind : goal.invariant-loop-behind
invariant-loop-behind l =
    (k : Known) (c : Call) → c.gate.angles ≤ length c.angles
    → (d : Call) × (d.gate.angles ≤ length d.angles) × (answer_from k (within_angle c (angle_state Part 0) []) l.fn.cursor ≡ answer_from k (within_angle d (angle_state Part 0) []) l.rest)

abbrev pub decreases-loop-behind : goal.decreases-loop-behind
decreases-loop-behind l = length (ahead l.rest)
