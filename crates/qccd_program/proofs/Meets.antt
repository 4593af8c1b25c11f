-- In a run each item meets its operands.
use Rattle.std.proofs.Common.{◌≡◌, ℕ, zero, suc, Bool, true, false, List, [], ◌∷◌, take, refl, Some, None}
use Rattle.std.specs.Prelude.{slice_get, IsTrue}
use Rattle.qccd_base.specs.declared.names.TrapId.{TrapId}
use Rattle.qccd_circuit.specs.Item.{ItemData}
use Rattle.qccd_machine.specs.Machine.{MachineData}
use Rattle.op_table.specs.declared.kinds.OpKind.{OpKind}
use Rattle.op_table.specs.declared.kinds.OpKind.TheVariants.{Item}
use Rattle.op_table.specs.declared.kinds.Why.TheVariants.{NoPlace, Position, WrongQubit}
use Rattle.op_table.specs.State.{State}
use Rattle.qccd_base.specs.FirstFailing.{first_failing}
use Rattle.op_table.specs.Step.{why, effect, carries}
use Rattle.op_table.specs.Run.{IsRun, after}
use Rattle.qccd_program.specs.Program.{ProgramData, opening_of}
use Rattle.qccd_program.specs.Implements.{MeetsOperands}

-- where none of three needs fails, the third is met
third_need : (a b c : Bool) → first_failing ((NoPlace, a) ∷ (Position, b) ∷ (WrongQubit, c) ∷ []) ≡ None → c ≡ true
third_need true true true h = refl
third_need true true false h = cc
third_need true false c h = cc
third_need false b c h = cc

legal_carries : (m : MachineData) (s : State) (number : ℕ) (t : TrapId) (item : ItemData) (at : List ℕ) → why m s (Item number t item at) ≡ None → IsTrue (carries s t.0 at item.qubits)
legal_carries m s number t item at h = third_need _ _ _ h

meets_from : (m : MachineData) (s : State) (ops : List OpKind) (k number : ℕ) (t : TrapId) (item : ItemData) (at : List ℕ) → IsRun m s ops → slice_get ops k ≡ Some (Item number t item at) → IsTrue (carries (after m s (take k ops)) t.0 at item.qubits)
meets_from m s [] k number t item at run found = cc
meets_from m s (op ∷ ops) zero number t item at run found =
    let same : op ≡ Item number t item at = cc in
    legal_carries m s number t item at (rw same at run.0)
meets_from m s (op ∷ ops) (suc k) number t item at run found = meets_from m (effect m s op) ops k number t item at run.1 found

-- a program that runs from its start meets the operands of each item
pub run-meets : (p : ProgramData) → IsRun p.machine (opening_of p) p.ops → MeetsOperands p
run-meets p run k number t item at found = meets_from p.machine (opening_of p) p.ops k number t item at run found
