-- How long a step takes at most.
use Rattle.std.proofs.Common.{ℕ, ◌≤◌, Bool, true, false, cond, arith, lit<}
use Rattle.std.specs.List.{All}
use Rattle.std.proofs.lemmas.Nat.{mul-le}
use Rattle.qccd_base.specs.declared.times.Times.{Times}
use Rattle.qccd_base.specs.Times.{times_of}
use Rattle.time_heat.specs.declared.work.Work.{Work}
use Rattle.time_heat.specs.declared.work.Work.TheVariants.{Split, Merge, Move, Cross, Rot, Gate1, Measure, Reset, Gate2, GSwap, Fence}
use Rattle.time_heat.specs.Duration.{gate2_time, duration_of, ions_inside}

-- each time is a second at most
abbrev AreShort : Times → Type 0
AreShort t = All (λ n. n ≤ 1000000) (times_of t)

-- a two-qubit gate takes 31 seconds at most
gate2_time-le : (t : Times) (ions : ℕ) → AreShort t → ions ≤ 30 → gate2_time t ions ≤ 31000000
gate2_time-le t ions short few =
    let gate : t.gate2 ≤ 1000000 = short 10 0 (lit< tt) in
    let between : t.between ≤ 1000000 = short 11 0 (lit< tt) in
    omega (arith, mul-le t.between ions 1000000 30 between few)

-- a choice of two is at most what both are
cond-le : (b : Bool) (m n limit : ℕ) → m ≤ limit → n ≤ limit → cond b m n ≤ limit
cond-le true m n limit first second = first
cond-le false m n limit first second = second

-- a second is less than 93
longer : (n : ℕ) → n ≤ 1000000 → n ≤ 93000000
longer n short = omega arith

-- no step takes more than three gates with 30 ions between their two
pub duration_of-le : (t : Times) (work : Work) → All (λ n. n ≤ 1000000) (times_of t) → ions_inside work ≤ 30
    → duration_of t work ≤ 93000000
duration_of-le t Split short few = longer _ (short 0 0 (lit< tt))
duration_of-le t Merge short few = longer _ (short 1 0 (lit< tt))
duration_of-le t Move short few = longer _ (short 2 0 (lit< tt))
duration_of-le t (Cross degree) short few =
    longer _ (cond-le _ _ _ 1000000 (short 3 0 (lit< tt)) (cond-le _ _ _ 1000000 (short 4 0 (lit< tt)) (short 5 0 (lit< tt))))
duration_of-le t Rot short few = longer _ (short 6 0 (lit< tt))
duration_of-le t Gate1 short few = longer _ (short 7 0 (lit< tt))
duration_of-le t Measure short few = longer _ (short 8 0 (lit< tt))
duration_of-le t Reset short few = longer _ (short 9 0 (lit< tt))
duration_of-le t (Gate2 ions) short few = omega (arith, gate2_time-le t ions short few)
duration_of-le t (GSwap ions) short few = omega (arith, gate2_time-le t ions short few)
duration_of-le t Fence short few = omega arith
