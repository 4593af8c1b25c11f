use Rattle.std.proofs.Common.{◌≡◌, ◌<◌, ◌≤◌, true, false}
use Rattle.qccd_machine.specs.Machine.{MachineData}
use Rattle.qccd_machine.specs.Reach.{AllReached, IsClosedBelow, KeepsMarks, unmarked}
use Rattle.qccd_machine.proofs.reach.Reached.spread.Given as goal

-- what the round promises, as far as it has come
abbrev pub invariant-loop-ends : goal.invariant-loop-ends
invariant-loop-ends l = record {
  keeps : KeepsMarks l.initial.self l.self;
  reached : (m : MachineData) → m.segments ≡ l.segments → AllReached m l.initial.self → AllReached m l.self;
  most : unmarked l.self ≤ unmarked l.initial.self;
  fewer : l.found ≡ true → unmarked l.self < unmarked l.initial.self;
  closed : l.found ≡ false → IsClosedBelow l.segments l.ends-index l.self;
}
