use Rattle.std.proofs.Common.{◌≡◌, true}
use Rattle.qccd_machine.specs.Machine.{MachineData, first_trap}
use Rattle.qccd_machine.specs.Reach.{AllReached, is_marked, unmarked}
use Rattle.qccd_machine.proofs.reach.Reached.from_first_trap.Given as goal

-- the first trap is marked, and a path leads to all that is
abbrev pub invariant-loop : goal.invariant-loop
invariant-loop l = record {
  first : is_marked l.marks first_trap ≡ true;
  reached : (m : MachineData) → m.segments ≡ l.segments → AllReached m l.marks;
}

abbrev pub decreases-loop : goal.decreases-loop
decreases-loop l = unmarked l.marks
