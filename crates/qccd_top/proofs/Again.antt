-- What `exec` writes for the text that `compile` writes is what `run` writes.
use Rattle.std.proofs.Common.{◌≡◌, ℕ, ◌≤◌, List, length, Some, sym, ◌∙◌, ap, subst}
use Rattle.qccd_base.specs.declared.names.Mode.{Mode}
use Rattle.qccd_io.specs.Shelf.{Holding}
use Rattle.qccd_machine.specs.Machine.{MachineData}
use Rattle.qccd_program.specs.Legal.{IsLegalProgram}
use Rattle.qccd_program.specs.Program.{ProgramData}
use Rattle.transport_asm.specs.ProgramText.{program_text, spelled}
use Rattle.transport_asm.specs.Texts.{Spells}
use Rattle.transport_asm.proofs.Rule.{raw_fitting}
use Rattle.transport_asm.proofs.TextLaws.{text_again}
use Rattle.qasm_reader.proofs.Unconditional.{no_conditions}
use Rattle.loader.specs.Refusal.{on_machine}
use Rattle.loader.proofs.LegalLoads.{none_if_legal}
use Rattle.tracer.specs.Report.{report_text}
use Rattle.qccd_words.specs.Words.{AskedMachine, AskedRun, AskedCompile, AskedExec, HasCapacity}
use Rattle.qccd_top.specs.declared.limits.TheConstants.{PROGRAM_LIMIT}
use Rattle.qccd_top.specs.Stage.{Gives, ◌>>=◌}
use Rattle.qccd_top.specs.Stages.{ProgramIn}
use Rattle.qccd_top.specs.Means.{TextOf}
use Rattle.qccd_top.specs.Headline.{RunsWell}
use Rattle.qccd_top.proofs.Headline.{compiled}
use Rattle.qccd_top.proofs.Single.{single-compiled}
use Rattle.qccd_top.proofs.Texts.{has_text}

-- a program is given where its text is held
held_program : (held : Holding) (name : List ℕ) (m : MachineData) (p : ProgramData) → RunsWell m p → Spells (program_text p) (spelled p)
    → held.file name ≡ Some (program_text p) → length (program_text p) ≤ PROGRAM_LIMIT → ProgramIn (Some held) m name (Gives p)
unfolding ◌>>=◌
held_program held name m p well spells there few =
    let back : on_machine m (spelled p) ≡ p = ap (λ (n : MachineData). on_machine n (spelled p)) (sym well.on) in
    (spelled p, (program_text p, (there, few), spells), (none_if_legal m (spelled p) (subst IsLegalProgram (sym back) well.legal), sym back))

pub same_report : (held : Holding) (machine : AskedMachine) (circuit program text report : List ℕ) (mode : Mode) (workers others : ℕ)
    → HasCapacity machine
    → TextOf (Some held) (AskedCompile machine circuit mode) (Gives text) → TextOf (Some held) (AskedRun machine circuit workers mode) (Gives report)
    → held.file program ≡ Some text → length text ≤ PROGRAM_LIMIT → TextOf (Some held) (AskedExec machine program others) (Gives report)
unfolding ◌>>=◌ program_text
same_report held machine circuit program text report mode workers others within (p, given, is) (q, also, reports) there few =
    let done = compiled (Some held) machine circuit mode p within given in
    let one : p ≡ q = (single-compiled held machine circuit mode).given p q given also in
    let (source, _, drawn) = done.meant.circuit_in in
    let none = no_conditions source done.circuit drawn in
    let well = done.does_circuit.runs_well in
    let writable = has_text done.circuit done.machine p done.does_circuit.whole none well.valid well.legal well.on done.does_circuit.implements in
    let spells : Spells (program_text p) (spelled p) = text_again (spelled p) (raw_fitting (spelled p) writable) in
    let loaded = held_program held program done.machine p well spells (there ∙ ap Some is) (subst (λ (t : List ℕ). length t ≤ PROGRAM_LIMIT) is few) in
    (p, (done.machine, done.meant.machine_in, loaded), reports ∙ ap report_text (sym one))
