-- Two neighbours of a run that touch nothing in common may be exchanged.
use Rattle.std.proofs.Common.{◌≡◌, false, List, [], ◌∷◌, ◌++◌, sym, ap, subst}
use Rattle.std.specs.List.{AllByRecursion}
use Rattle.qccd_machine.specs.Machine.{MachineData}
use Rattle.op_table.specs.declared.kinds.OpKind.{OpKind}
use Rattle.op_table.specs.Op.{IsOp}
use Rattle.op_table.specs.State.{State, IsSafe}
use Rattle.op_table.specs.Step.{effect}
use Rattle.op_table.specs.Run.{IsRun, after}
use Rattle.op_table.specs.Touch.{meets}
use Rattle.op_table.proofs.Every.{safe-effect}
use Rattle.op_table.proofs.Neighbours.{exchange}

pub run-swapped : (m : MachineData) (s : State) (xs ys : List OpKind) (a b : OpKind) → IsSafe m s → AllByRecursion IsOp (xs ++ a ∷ b ∷ ys) → meets a b ≡ false → IsRun m s (xs ++ a ∷ b ∷ ys)
    → IsRun m s (xs ++ b ∷ a ∷ ys) × (after m s (xs ++ b ∷ a ∷ ys) ≡ after m s (xs ++ a ∷ b ∷ ys))
run-swapped m s [] ys a b safe all apart run =
    let both = exchange m s a b safe all.0 all.1.0 apart run.0 run.1.0 in
    ((both.first, (both.second, subst (λ (z : State). IsRun m z ys) both.same run.1.1)), sym (ap (λ (z : State). after m z ys) both.same))
run-swapped m s (x ∷ xs) ys a b safe all apart run =
    let rest = run-swapped m (effect m s x) xs ys a b (safe-effect m s x safe all.0 run.0) all.1 apart run.1 in
    ((run.0, rest.0), rest.1)
