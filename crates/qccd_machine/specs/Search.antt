-- What is found by a search that asks only the questions of some turns: from one turn on, before another.
use Rattle.std.specs.Prelude.{ℕ}
use Rattle.qccd_machine.specs.declared.fault.MachineFault.{MachineFault}
use Rattle.qccd_machine.specs.Machine.{MachineData}
use Rattle.qccd_machine.specs.Fault.{Applies, Turn, turn, turn_of, IsEarlier}

-- the first turn of a check
abbrev pub check : ℕ → Turn
check number = turn number 0 0

-- the first turns of the checks, one check after another, and where they end
abbrev pub at_counts : Turn
at_counts = check 0

abbrev pub at_capacities : Turn
at_capacities = check 4

abbrev pub at_segments : Turn
at_segments = check 5

abbrev pub at_degrees : Turn
at_degrees = check 6

abbrev pub at_far_traps : Turn
at_far_traps = check 7

abbrev pub at_far_junctions : Turn
at_far_junctions = check 8

abbrev pub at_times : Turn
at_times = check 9

abbrev pub at_end : Turn
at_end = check 10

-- the first question about segment s
abbrev pub at_segment : ℕ → Turn
at_segment s = turn 5 s 0

-- the turn is one of these
abbrev pub IsWithin : Turn → Turn → Turn → Type 0
IsWithin from to this = (IsEarlier this from → ⊥) × IsEarlier this to

-- no fault of these turns applies
abbrev pub NoneWithin : MachineData → Turn → Turn → Type 0
NoneWithin m from to = (fault : MachineFault) → IsWithin from to (turn_of fault) → Applies m fault → ⊥

-- the fault is the first of these turns that applies
pub record IsFirstWithin (m : MachineData) (from : Turn) (to : Turn) (fault : MachineFault) : Type 0 where
  pub within : IsWithin from to (turn_of fault)
  pub applies : Applies m fault
  pub none_earlier : NoneWithin m from (turn_of fault)
