-- Times that add up within 64 bits.
use Rattle.std.proofs.Common.{◌≡◌, ℕ, ◌<◌, ◌≤◌, All, arith, lit<, subst, sym}
use Rattle.std.proofs.lemmas.Nat.{mul-le}
use Rattle.qccd_base.specs.declared.times.Times.{Times}
use Rattle.qccd_base.specs.Times.{times_of}
use Rattle.time_heat.specs.declared.work.Work.{Work}
use Rattle.time_heat.specs.declared.work.Work.TheVariants.{Split, Merge, Move, Cross, Rot, Gate1, Measure, Reset, Gate2, GSwap, Fence}
use Rattle.time_heat.specs.Duration.{gate2_time, duration_of, ions_inside}
use Rattle.time_heat.proofs.Bounds.{duration_of-le}

gate_short : (t : Times) (ions : ℕ) → All (λ n. n ≤ 1000000) (times_of t) → ions < 256 → gate2_time t ions ≤ 257000000
gate_short t ions short few =
    let gate : t.gate2 ≤ 1000000 = short 10 0 (lit< tt) in
    let between : t.between ≤ 1000000 = short 11 0 (lit< tt) in
    omega (arith, mul-le t.between ions 1000000 256 between (omega (arith, few)))

plain : (t : Times) (work : Work) → All (λ n. n ≤ 1000000) (times_of t) → ions_inside work ≤ 30 → duration_of t work < 281474976710656
plain t work short few = omega (arith, duration_of-le t work short few)

-- a step on ions with fewer than 256 between them
short_step : (t : Times) (work : Work) → All (λ n. n ≤ 1000000) (times_of t) → ions_inside work < 256 → duration_of t work < 281474976710656
short_step t Split short few = plain t Split short (omega arith)
short_step t Merge short few = plain t Merge short (omega arith)
short_step t Move short few = plain t Move short (omega arith)
short_step t (Cross degree) short few = plain t (Cross degree) short (omega arith)
short_step t Rot short few = plain t Rot short (omega arith)
short_step t Gate1 short few = plain t Gate1 short (omega arith)
short_step t Measure short few = plain t Measure short (omega arith)
short_step t Reset short few = plain t Reset short (omega arith)
short_step t (Gate2 ions) short few = omega (arith, gate_short t ions short few)
short_step t (GSwap ions) short few = omega (arith, gate_short t ions short few)
short_step t Fence short few = omega arith

pub short-time : (t u : Times) (work : Work) (n : ℕ) → All (λ n. n ≤ 1000000) (times_of t) → u ≡ t → ions_inside work < 256 → n ≡ duration_of u work → n < 281474976710656
short-time t u work n short same few is = subst (λ (k : ℕ). k < 281474976710656) (sym is) (short_step u work (subst (λ (v : Times). All (λ n. n ≤ 1000000) (times_of v)) (sym same) short) few)
