use Rattle.std.proofs.Common.{◌≡◌, ◌<◌, ◌⊎◌, [], true, length, IsTrue}
use Rattle.std.specs.List.{list_all}
use Rattle.qccd_circuit.specs.Item.{is_angle}
use Rattle.qasm_reader.specs.declared.angle.Phase.TheVariants.{Part, Whole}
use Rattle.qasm_reader.specs.Angle.{angle_state}
use Rattle.qasm_reader.specs.Known.{Known}
use Rattle.qasm_reader.specs.Expected.{call, within_angle}
use Rattle.qasm_reader.specs.Named.{shape}
use Rattle.qasm_reader.specs.Code.{ahead, answer_from, begins_end}
use Rattle.qasm_reader.proofs.angle_lists.angle_list.Given as goal

-- the answer is that behind the angle that was read last, with those before it
abbrev pub invariant-loop-next : goal.invariant-loop-next
invariant-loop-next l =
    record {
      each : IsTrue (list_all is_angle l.angles.items);
      last : IsTrue (is_angle l.text.items);
      few : (length l.angles.items ≡ 0) ⊎ (length l.angles.items < l.wanted);
      end : begins_end (ahead l.rest) ≡ true;
      shorter : length (ahead l.rest) < length (ahead l.fn.cursor);
      leads : (k : Known) → answer_from k (within_angle (call (shape l.gate)) (angle_state Part 0) []) l.fn.cursor
          ≡ answer_from k (within_angle (record (call (shape l.gate)) { angles = l.angles.items }) (angle_state Whole 0) l.text.items) l.rest;
    }

abbrev pub decreases-loop-next : goal.decreases-loop-next
decreases-loop-next l = length (ahead l.rest)
