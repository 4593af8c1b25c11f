-- What two programs have in common if their reports are equal.
use Rattle.std.specs.Prelude.{◌≡◌, ◌≢◌, List, length}
use Rattle.std.specs.List.{AllByRecursion}
use Rattle.op_table.specs.declared.kinds.OpKind.{OpKind}
use Rattle.op_text.specs.OpText.{op_text}
use Rattle.qccd_program.specs.Program.{ProgramData}

-- as many qubits and bits, and machines of as many traps, segments and junctions
pub record SameSizes (p q : ProgramData) : Type 0 where
  pub qubits : p.qubits ≡ q.qubits
  pub bits : p.bits ≡ q.bits
  pub traps : length p.machine.capacities ≡ length q.machine.capacities
  pub segments : length p.machine.segments ≡ length q.machine.segments
  pub junctions : p.machine.junctions ≡ q.machine.junctions

-- the text of each operation stands in one line
abbrev pub AreLines : List OpKind → Type 0
AreLines ops = AllByRecursion (λ op. AllByRecursion (λ byte. byte ≢ 10) (op_text op)) ops
