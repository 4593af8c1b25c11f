-- In a run each operation is legal, and every state is safe.
use Rattle.std.proofs.Common.{◌≡◌, ◌∙◌, ℕ, zero, suc, List, [], ◌∷◌, take, refl, sym, ap, subst, Some, None}
use Rattle.std.specs.Prelude.{slice_get}
use Rattle.std.specs.List.{AllByRecursion}
use Rattle.std.proofs.lemmas.Option.{same_Some, none-some}
use Rattle.qccd_machine.specs.Machine.{MachineData}
use Rattle.op_table.specs.declared.kinds.OpKind.{OpKind}
use Rattle.op_table.specs.Op.{IsOp}
use Rattle.op_table.specs.State.{State, IsSafe}
use Rattle.op_table.specs.Step.{why, effect}
use Rattle.op_table.specs.Run.{IsRun, after}
use Rattle.op_table.proofs.Every.{safe-effect}
use Rattle.op_table.proofs.Neighbours.{bits_kept}
use Rattle.op_table.proofs.Openings.{opening-safe}
use Rattle.qccd_program.specs.Program.{ProgramData, opening_of}
use Rattle.qccd_program.specs.Implements.{KeepsBounds}
use Rattle.qccd_program.specs.Legal.{IsLegalProgram}

-- just before an operation of a run
pub legal_at : (m : MachineData) (s : State) (ops : List OpKind) (k : ℕ) (op : OpKind) → IsSafe m s → AllByRecursion IsOp ops → IsRun m s ops → slice_get ops k ≡ Some op
    → (why m (after m s (take k ops)) op ≡ None) × IsSafe m (after m s (take k ops)) × IsOp op × ((after m s (take k ops)).bits ≡ s.bits)
legal_at m s [] k op safe all run is = absurd (none-some op is)
legal_at m s (o ∷ ops) zero op safe all run is = let same : o ≡ op = same_Some o op is in (ap (why m s) (sym same) ∙ run.0, safe, subst IsOp same all.0, refl)
legal_at m s (o ∷ ops) (suc k) op safe all run is =
    let rest = legal_at m (effect m s o) ops k op (safe-effect m s o safe all.0 run.0) all.1 run.1 is in
    (rest.0, rest.1, rest.2, rest.3 ∙ bits_kept m s o)

-- after all operations
pub run_safe : (m : MachineData) (s : State) (ops : List OpKind) → IsSafe m s → AllByRecursion IsOp ops → IsRun m s ops → IsSafe m (after m s ops) × ((after m s ops).bits ≡ s.bits)
run_safe m s [] safe all run = (safe, refl)
run_safe m s (o ∷ ops) safe all run = let rest = run_safe m (effect m s o) ops (safe-effect m s o safe all.0 run.0) all.1 run.1 in (rest.0, rest.1 ∙ bits_kept m s o)

all_taken : {X : Type 0} (P : X → Type 0) (xs : List X) (k : ℕ) → AllByRecursion P xs → AllByRecursion P (take k xs)
all_taken P xs zero all = tt
all_taken P [] (suc k) all = tt
all_taken P (x ∷ xs) (suc k) all = (all.0, all_taken P xs k all.1)

run_taken : (m : MachineData) (s : State) (ops : List OpKind) (k : ℕ) → IsRun m s ops → IsRun m s (take k ops)
run_taken m s ops zero run = tt
run_taken m s [] (suc k) run = tt
run_taken m s (o ∷ ops) (suc k) run = (run.0, run_taken m (effect m s o) ops k run.1)

-- every state of a program's run is safe
pub bounds-kept : (p : ProgramData) → IsLegalProgram p → KeepsBounds p
bounds-kept p legal k =
    (run_safe p.machine (opening_of p) (take k p.ops) (opening-safe p.machine p.qubits p.bits p.start legal.start) (all_taken IsOp p.ops k legal.ops) (run_taken p.machine (opening_of p) p.ops k legal.run)).0
