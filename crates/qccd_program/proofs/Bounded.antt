-- Times and heats of a program's run are bounded by its length.
use Rattle.std.proofs.Common.{◌≡◌, ℕ, zero, suc, ◌+◌, ◌*◌, ◌<◌, ◌≤◌, List, [], ◌∷◌, All, take, length, refl, subst, arith}
use Rattle.std.specs.List.{AllByRecursion}
use Rattle.std.proofs.lemmas.List.Elements.{All-from_recursion}
use Rattle.qccd_base.specs.declared.names.Res.{Res}
use Rattle.qccd_machine.specs.Machine.{MachineData, IsValid}
use Rattle.op_table.specs.declared.kinds.OpKind.{OpKind}
use Rattle.op_table.specs.Clock.{Timed, duration, start_after, timed, timed_from}
use Rattle.op_table.specs.Contents.{content, heat_held}
use Rattle.op_table.specs.Op.{IsOp}
use Rattle.op_table.specs.Run.{IsRun, after}
use Rattle.op_table.specs.State.{State, IsSafe}
use Rattle.op_table.specs.Step.{effect}
use Rattle.op_table.proofs.Every.{safe-effect}
use Rattle.op_table.proofs.Heats.{all_heat, heat-step, held-le}
use Rattle.op_table.proofs.LongestStep.{duration-le}
use Rattle.op_table.proofs.Openings.{opening-safe, opening-cold}
use Rattle.qccd_program.specs.Legal.{IsLegalProgram}
use Rattle.qccd_program.specs.Program.{ProgramData, opening_of, before}
use Rattle.qccd_program.specs.World.{World, opening_world, world_after}
use Rattle.qccd_program.proofs.MeetsCells.{Below, below_more, below_start}

-- each operation finishes within 93 seconds for itself and each before it
finishes_from : (m : MachineData) (w : World) (ops : List OpKind) (n : ℕ) → IsValid m → IsSafe m w.state → AllByRecursion IsOp ops → IsRun m w.state ops → Below n w.earlier
    → Below (n + 93000000 * length ops) (timed_from m w.earlier ops)
finishes_from m w [] n valid safe all run low = tt
finishes_from m w (o ∷ ops) n valid safe all run low =
    let long : duration m o ≤ 93000000 = duration-le m w.state o (effect m w.state o) valid safe (record { kept = all.0; legal = run.0; leaves = refl }) in
    let start : start_after w.earlier o ≤ n = below_start n w.earlier o low in
    let next : Below (n + 93000000) (world_after m w o).earlier = (omega (arith, long, start), below_more n (n + 93000000) w.earlier (omega arith) low) in
    let rest = finishes_from m (world_after m w o) ops (n + 93000000) valid (safe-effect m w.state o safe all.0 run.0) all.1 run.1 next in
    (omega (arith, long, start), subst (λ (j : ℕ). Below j (timed_from m (world_after m w o).earlier ops)) (further n (length ops)) rest)
  where
    further : (n k : ℕ) → n + 93000000 + 93000000 * k ≡ n + 93000000 * suc k
    further n k = omega arith

-- each operation raises all heats together by 200 at most
heats_from : (m : MachineData) (s : State) (ops : List OpKind) (k : ℕ) → IsSafe m s → AllByRecursion IsOp ops → IsRun m s ops
    → all_heat (after m s (take k ops)) ≤ all_heat s + 200 * length ops
heats_from m s [] zero safe all run = omega arith
heats_from m s [] (suc k) safe all run = omega arith
heats_from m s (o ∷ ops) zero safe all run = omega arith
heats_from m s (o ∷ ops) (suc k) safe all run =
    omega (arith, heat-step m s o safe run.0, heats_from m (effect m s o) ops k (safe-effect m s o safe all.0 run.0) all.1 run.1)

below_limit : (n : ℕ) (xs : List Timed) → n < 400000000000000 → Below n xs → AllByRecursion (λ x. x.finish < 400000000000000) xs
below_limit n [] few low = tt
below_limit n (x ∷ xs) few low = (omega (arith, few, low.0), below_limit n xs few low.1)

pub times-bounded : (p : ProgramData) → IsValid p.machine → IsLegalProgram p → All (λ x. x.finish < 400000000000000) (timed p.machine p.ops)
times-bounded p valid legal =
    let safe : IsSafe p.machine (opening_of p) = opening-safe p.machine p.qubits p.bits p.start legal.start in
    All-from_recursion (λ (x : Timed). x.finish < 400000000000000) (timed p.machine p.ops)
    (below_limit (0 + 93000000 * length p.ops) (timed p.machine p.ops) (omega (arith, legal.few)) (finishes_from p.machine (opening_world p) p.ops 0 valid safe legal.ops legal.run tt))

pub heats-bounded : (p : ProgramData) (k : ℕ) (r : Res) → IsLegalProgram p → heat_held (content (before p k) r) < 10000000000
heats-bounded p k r legal =
    let safe : IsSafe p.machine (opening_of p) = opening-safe p.machine p.qubits p.bits p.start legal.start in
    omega (arith, held-le (before p k) r, heats_from p.machine (opening_of p) p.ops k safe legal.ops legal.run, opening-cold p.qubits p.bits p.start, legal.few)
