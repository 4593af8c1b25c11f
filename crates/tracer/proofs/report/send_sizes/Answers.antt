use Rattle.std.proofs.Common.{◌≡◌, ℕ, List, ◌++◌, codes, ap, ◌∙◌, append_assoc}
use Rattle.std.specs.Prelude.{length}
use Rattle.qccd_base.specs.Line.{line}
use Rattle.qccd_machine.specs.Machine.{MachineData}
use Rattle.qccd_io.proofs.Sent.{sent_next, sent_last}
use Rattle.op_text.proofs.Sending.{sent_grown}
use Rattle.qccd_program.specs.Program.{ProgramData}
use Rattle.tracer.specs.Report.{labelled}
use Rattle.tracer.proofs.Loops.{sent_as}
use Rattle.tracer.proofs.report.send_sizes.Goals as goal

abbrev registers : ℕ → ℕ → List ℕ
registers qubits bits = labelled (codes "qubits ") qubits ++ labelled (codes " bits ") bits

abbrev parts : ℕ → ℕ → ℕ → List ℕ
parts traps segments junctions = line (labelled (codes " traps ") traps ++ labelled (codes " segments ") segments ++ labelled (codes " junctions ") junctions)

abbrev registers_of : ProgramData → List ℕ
registers_of p = registers p.qubits p.bits

abbrev parts_of : MachineData → List ℕ
parts_of m = parts (length m.capacities) (length m.segments) m.junctions

same_registers : {a b c d : ℕ} → a ≡ b → c ≡ d → registers a c ≡ registers b d
same_registers qubits bits = λ i. registers (qubits i) (bits i)

same_parts : {a b c d e f : ℕ} → a ≡ b → c ≡ d → e ≡ f → parts a c e ≡ parts b d f
same_parts traps segments junctions = λ i. parts (traps i) (segments i) (junctions i)

flat : (q t g j e : List ℕ) → q ++ (((t ++ g) ++ j) ++ e) ≡ (((q ++ t) ++ g) ++ j) ++ e
flat q t g j e = simp (append_assoc)

shape : (p : ProgramData) → registers_of p ++ parts_of p.machine ≡ Rattle.tracer.specs.Report.size_line p
shape p = flat (registers_of p) (labelled (codes " traps ") (length p.machine.capacities)) (labelled (codes " segments ") (length p.machine.segments)) (labelled (codes " junctions ") p.machine.junctions) (codes "\n")

pub returns-in_err-send_registers : goal.returns-in_err-send_registers
returns-in_err-send_registers g c =
    sent_as (shape c.args.program.now)
    (sent_last c.from_residual.result _ (sent_grown (registers_of c.args.program.now) (parts_of c.args.program.now.machine) (sent_as (same_registers c.qubits.ensures c.bits.ensures) c.in_err-send_registers.ensures)) c.from_residual.ensures.1)

pub returns : goal.returns
returns g c =
    let parts = same_parts c.traps.ensures.count c.segments.ensures c.junctions.ensures ∙ ap parts_of c.machine-machine.ensures.value in
    sent_as (shape c.args.program.now)
    (sent_next c.send_parts.result (registers_of c.args.program.now) (parts_of c.args.program.now.machine) (sent_as (same_registers c.qubits.ensures c.bits.ensures) c.in_ok-send_registers.ensures) (sent_as parts c.send_parts.ensures))
