-- Where operations bring a qubit.
use Rattle.std.specs.Prelude.{◌≡◌, ℕ, ◌==◌, List, count_by}
use Rattle.qccd_base.specs.declared.names.Qubit.{Qubit}
use Rattle.qccd_base.specs.declared.names.End.{End}
use Rattle.qccd_machine.specs.Machine.{MachineData}
use Rattle.op_table.specs.declared.kinds.OpKind.{OpKind}
use Rattle.op_table.specs.Run.{IsRun, after}
use Rattle.op_table.specs.State.{State}
use Rattle.chain_reorder.specs.Layout.{Lies, joined, settled, with_at}

-- they run, and the qubit is at that end of the chain of trap t, beside the others, which stand in some
-- order; nothing is outside the traps, and all other chains are as they were
pub record BringsToEnd (m : MachineData) (s : State) (chains : ℕ → List Qubit) (t : ℕ) (end : End) (q : Qubit) (others : List Qubit) (ops : List OpKind) : Type 0 where
  pub run : IsRun m s ops
  pub rest : List Qubit
  pub lies : Lies (after m s ops) (settled (with_at t (joined end q rest) chains))
  pub same : (n : ℕ) → count_by (λ x. x.0 == n) rest ≡ count_by (λ x. x.0 == n) others
