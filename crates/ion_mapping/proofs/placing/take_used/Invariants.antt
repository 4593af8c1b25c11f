use Rattle.std.proofs.Common.{◌≡◌, ◌-◌, ◌≤◌, [], length, take}
use Rattle.ion_mapping.specs.Placement.{uses}
use Rattle.ion_mapping.specs.Taking.{with_numbers}
use Rattle.ion_mapping.proofs.placing.take_used.Given as goal

-- those of the items so far are taken
abbrev pub invariant-loop-done : goal.invariant-loop-done
invariant-loop-done l = record {
  few : l.done ≤ length l.circuit.items;
  taken : l.taking ≡ with_numbers [] (uses (take l.done l.circuit.items));
}

abbrev pub decreases-loop-done : goal.decreases-loop-done
decreases-loop-done l = length l.items - l.done
