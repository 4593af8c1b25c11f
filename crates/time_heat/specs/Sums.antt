-- How far times and heats add up.
use Rattle.std.specs.Prelude.{ℕ, List}
use Rattle.std.specs.List.{sum_by}
use Rattle.qccd_base.specs.declared.times.Times.{Times}
use Rattle.time_heat.specs.declared.work.Work.{Work}
use Rattle.time_heat.specs.declared.work.Work.TheVariants.{Split, Merge, Move, Cross, Rot, Gate1, Measure, Reset, Gate2, GSwap, Fence}
use Rattle.time_heat.specs.Duration.{duration_of}

-- how long the steps take one after another
abbrev pub time_of_all : Times → List Work → ℕ
time_of_all t works = sum_by (duration_of t) works

-- by how much a step raises the sum of the heats of all traps and of all ions outside them, at most
abbrev pub heating : Work → ℕ
heating Split = 200
heating Merge = 100
heating Move = 10
heating (Cross degree) = 50
heating Rot = 200
heating Gate1 = 0
heating Measure = 0
heating Reset = 0
heating (Gate2 ions) = 0
heating (GSwap ions) = 0
heating Fence = 0

-- and all steps together
abbrev pub heating_of_all : List Work → ℕ
heating_of_all works = sum_by heating works
