use Rattle.std.proofs.Common.{ℕ, ◌*◌, ◌≤◌, Some, refl, sym, subst, inl}
use Rattle.qccd_base.specs.declared.names.Mode.TheVariants.{IonSwap}
use Rattle.qccd_machine.specs.Machine.{worst_of}
use Rattle.qccd_program.specs.Program.{ProgramData}
use Rattle.compiler.specs.Chosen.{chosen}
use Rattle.rehearsal.specs.Generated.{generated}
use Rattle.rehearsal.proofs.Circuits.{generated_circuit, length-drawn}
use Rattle.tracer.specs.Summary.{summary_text}
use Rattle.qccd_words.specs.Words.{AskedRehearse}
use Rattle.qccd_words.proofs.Capacities.{request-limits}
use Rattle.qccd_top.specs.Stage.{◌>>=◌}
use Rattle.qccd_top.proofs.Headline.{accepted, valid_in}
use Rattle.qccd_top.proofs.laws.accepted_rehearsal.Goals as goal

pub returns : goal.returns
unfolding ◌>>=◌
returns c = λ words held number qubits items machine workers m reading given fits short.
    let d = generated number qubits items in
    let p : ProgramData = chosen d m IonSwap in
    let limits = request-limits words (AskedRehearse number qubits items machine workers) reading in
    let few = limits.2 in
    let valid = valid_in (Some held) machine m limits.0 given in
    let whole = generated_circuit number qubits items few.1 few.2 few.3 in
    let least = subst (λ (n : ℕ). n * worst_of m ≤ 4194304) (sym (length-drawn qubits number items)) short in
    inl (
      summary_text p number items,
      (AskedRehearse number qubits items machine workers, reading, (p, (m, given, accepted d m IonSwap whole valid fits least), refl)),
      refl,
    )
