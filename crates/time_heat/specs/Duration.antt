use Rattle.std.specs.Prelude.{ℕ, ◌+◌, ◌*◌, ◌==◌, if◌then◌else◌}
use Rattle.qccd_base.specs.declared.times.Times.{Times}
use Rattle.time_heat.specs.declared.work.Work.{Work}
use Rattle.time_heat.specs.declared.work.Work.TheVariants.{Split, Merge, Move, Cross, Rot, Gate1, Measure, Reset, Gate2, GSwap, Fence}

-- a two-qubit gate takes longer for each ion between its two
abbrev pub gate2_time : Times → ℕ → ℕ
gate2_time t ions = t.gate2 + t.between * ions

-- how long a step takes, in microseconds
abbrev pub duration_of : Times → Work → ℕ
duration_of t Split = t.split
duration_of t Merge = t.merge
duration_of t Move = t.shift
duration_of t (Cross degree) = if degree == 2 then t.cross2 else (if degree == 3 then t.cross3 else t.cross4)
duration_of t Rot = t.rot
duration_of t Gate1 = t.gate1
duration_of t Measure = t.measure
duration_of t Reset = t.reset
duration_of t (Gate2 ions) = gate2_time t ions
duration_of t (GSwap ions) = 3 * gate2_time t ions
duration_of t Fence = 0

-- how many ions stand between the two of a gate
abbrev pub ions_inside : Work → ℕ
ions_inside (Gate2 ions) = ions
ions_inside (GSwap ions) = ions
ions_inside _ = 0
