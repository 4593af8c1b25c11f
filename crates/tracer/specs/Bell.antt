-- The Bell pair on one trap, as a worked example.
use Rattle.std.specs.Prelude.{ℕ, List, [], ◌∷◌, None, codes, flat_map}
use Rattle.qccd_base.specs.Line.{line}
use Rattle.qccd_base.specs.Names.{ion, trap}
use Rattle.qccd_circuit.specs.Example.{h_on, cx_on}
use Rattle.qccd_machine.specs.Preset.{single}
use Rattle.op_table.specs.declared.kinds.OpKind.TheVariants.{Item}
use Rattle.qccd_program.specs.Program.{ProgramData}

-- a Hadamard gate on qubit 0 and a controlled not from it to qubit 1, in one trap
abbrev pub bell : ProgramData
bell = record {
  machine = single 16;
  qubits = 2;
  bits = 0;
  mode = None;
  start = (ion 0 ∷ ion 1 ∷ []) ∷ [];
  ops = Item 0 (trap 0) (h_on 0) (0 ∷ []) ∷ Item 1 (trap 0) (cx_on 0 1) (0 ∷ 1 ∷ []) ∷ [];
}

abbrev pub bell_lines : List (List ℕ)
bell_lines =
    codes "QCCD report 1"
    ∷ codes "qubits 2 bits 0 traps 1 segments 0 junctions 0"
    ∷ codes "start T0 0 1"
    ∷ codes "ops 2"
    ∷ codes "0 0 5 item 0 h T0 q0@0"
    ∷ codes "1 5 105 item 1 cx T0 q0@0 q1@1"
    ∷ codes "end T0 heat 0 0:q0 1:q1"
    ∷ codes "counts split 0 merge 0 move 0 enter 0 leave 0 rot 0 gswap 0 gate1 1 gate2 1 measure 0 reset 0 fence 0"
    ∷ codes "finish 105"
    ∷ []

-- the report of the Bell pair, as it is written
abbrev pub bell_report : List ℕ
bell_report = flat_map line bell_lines
