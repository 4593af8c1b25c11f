-- What many steps add up to.
use Rattle.std.proofs.Common.{ℕ, ◌*◌, ◌<◌, ◌≤◌, List, length, arith}
use Rattle.std.specs.Prelude.{get_or}
use Rattle.std.specs.List.{All, sum_by}
use Rattle.std.proofs.lemmas.List.Sums.{sum_by-le}
use Rattle.std.proofs.lemmas.Nat.{mul-le}
use Rattle.qccd_base.specs.declared.times.Times.{Times}
use Rattle.qccd_base.specs.Times.{times_of}
use Rattle.time_heat.specs.declared.work.Work.{Work}
use Rattle.time_heat.specs.declared.work.Work.TheVariants.{Split, Merge, Move, Cross, Rot, Gate1, Measure, Reset, Gate2, GSwap, Fence}
use Rattle.time_heat.specs.Duration.{duration_of, ions_inside}
use Rattle.time_heat.specs.Sums.{time_of_all, heating, heating_of_all}
use Rattle.time_heat.proofs.Bounds.{duration_of-le}

-- of at most 4,194,304 steps, each of at most `most`
sum-le : (f : Work → ℕ) (most : ℕ) (works : List Work) → All (λ work. f work ≤ most) works → length works ≤ 4194304
    → sum_by f works ≤ 4194304 * most
sum-le f most works each few =
    let all : sum_by f works ≤ length works * most = sum_by-le f most works each in
    let more : length works * most ≤ 4194304 * most = mul-le (length works) most 4194304 most few (omega arith) in
    omega arith

heating-le : (work : Work) → heating work ≤ 200
heating-le Split = omega arith
heating-le Merge = omega arith
heating-le Move = omega arith
heating-le (Cross degree) = omega arith
heating-le Rot = omega arith
heating-le Gate1 = omega arith
heating-le Measure = omega arith
heating-le Reset = omega arith
heating-le (Gate2 ions) = omega arith
heating-le (GSwap ions) = omega arith
heating-le Fence = omega arith

pub time_of_all-lt : (t : Times) (works : List Work) → All (λ n. n ≤ 1000000) (times_of t)
    → All (λ work. ions_inside work ≤ 30) works → length works ≤ 4194304 → time_of_all t works < 400000000000000
time_of_all-lt t works short few some =
    let total : sum_by (duration_of t) works ≤ 4194304 * 93000000 =
    sum-le (duration_of t) 93000000 works (λ i d h. duration_of-le t (get_or works i d) short (few i d h)) some in
    omega arith

pub heating_of_all-lt : (works : List Work) → length works ≤ 4194304 → heating_of_all works < 10000000000
heating_of_all-lt works some =
    let total : sum_by heating works ≤ 4194304 * 200 = sum-le heating 200 works (λ i d h. heating-le (get_or works i d)) some in
    omega arith
