-- What a plan begins with.
use Rattle.std.specs.Prelude.{◌≡◌, ℕ, List}
use Rattle.qccd_base.specs.declared.names.Ion.{Ion}
use Rattle.qccd_base.specs.declared.names.Res.{Res}
use Rattle.qccd_machine.specs.Machine.{MachineData}
use Rattle.op_table.specs.declared.contents.Content.{Content}
use Rattle.op_table.specs.Contents.{content}
use Rattle.op_table.specs.Start.{IsStart}
use Rattle.op_table.specs.State.{opening}
use Rattle.op_cells.specs.Numbering.{index_of, IsThere}

-- they are start chains of so many qubits as they hold
abbrev pub AreStart : MachineData → List (List Ion) → Type 0
AreStart m chains = (qubits : ℕ) × IsStart m qubits chains

-- what the resource with that number holds at the opening
abbrev pub IsOpeningAt : MachineData → ℕ → ℕ → List (List Ion) → ℕ → Content → Type 0
IsOpeningAt m qubits bits chains i c = (r : Res) → IsThere m bits r → index_of m r ≡ i → c ≡ content (opening qubits bits chains) r
