use Rattle.std.proofs.Common.{◌≡◌, ◌<◌, ◌≤◌, ◌⊎◌, [], false, length, IsTrue}
use Rattle.std.specs.List.{list_all}
use Rattle.qccd_circuit.specs.Item.{is_angle_byte}
use Rattle.qasm_reader.specs.declared.angle.Phase.TheVariants.{Part}
use Rattle.qasm_reader.specs.Angle.{angle_state}
use Rattle.qasm_reader.specs.Known.{Known}
use Rattle.qasm_reader.specs.Expected.{Call, is_whole_angle, within_angle}
use Rattle.qasm_reader.specs.Code.{ahead, answer_from}
use Rattle.qasm_reader.proofs.angles.angle.Given as goal

-- the answer is that from the state on, with the text so far
abbrev pub invariant-loop-angle_state : goal.invariant-loop-angle_state
invariant-loop-angle_state l =
    record {
      depth : l.angle_state.depth ≤ length l.text.items;
      few : length l.text.items ≤ 1024;
      bytes : IsTrue (list_all is_angle_byte l.text.items);
      begun : (is_whole_angle l.angle_state ≡ false) ⊎ ((1 ≤ length l.text.items) × (length (ahead l.rest) < length (ahead l.fn.cursor)));
      left : length (ahead l.rest) ≤ length (ahead l.fn.cursor);
      leads : (k : Known) (c : Call) → answer_from k (within_angle c (angle_state Part 0) []) l.fn.cursor ≡ answer_from k (within_angle c l.angle_state l.text.items) l.rest;
    }

abbrev pub decreases-loop-angle_state : goal.decreases-loop-angle_state
decreases-loop-angle_state l = length (ahead l.rest)
