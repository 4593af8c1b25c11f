-- What a run writes is the report of a program that does the circuit.
use Rattle.std.proofs.Common.{◌≡◌, ℕ, zero, suc, ◌+◌, ◌-◌, ◌*◌, ◌<◌, ◌≤◌, List, length, Option, Some, refl, sym, ◌∙◌, ap, subst, arith}
use Rattle.std.proofs.Math.Nat.{mul-le-mul_right}
use Rattle.std.proofs.lemmas.Option.{same_Some}
use Rattle.qccd_base.specs.declared.names.Mode.{Mode}
use Rattle.qccd_base.specs.declared.names.Mode.TheVariants.{IonSwap}
use Rattle.qccd_io.specs.Shelf.{Holding}
use Rattle.qccd_io.specs.Sink.{appended, TookPrefix}
use Rattle.qccd_circuit.specs.Circuit.{CircuitData, IsCircuit}
use Rattle.qccd_machine.specs.Machine.{MachineData, IsValid, slots_of, worst_of}
use Rattle.qccd_machine.proofs.Presets.{valid_preset}
use Rattle.qasm_reader.specs.Reading.{IsCircuitOf}
use Rattle.qasm_reader.proofs.Answered.{keeps_the_rule}
use Rattle.qccd_program.specs.Legal.{IsLegalProgram}
use Rattle.qccd_program.specs.Program.{ProgramData}
use Rattle.compiler.specs.Chosen.{chosen, chosen_first, chosen_long}
use Rattle.compiler.specs.Compiled.{IsProgramFor}
use Rattle.compiler.proofs.Answering.{worst-small}
use Rattle.compiler.proofs.Choosing.{chosen_implements, chosen_legal, chosen_short, one_more_short}
use Rattle.meaning_check.specs.Verdict.{IsVerdict}
use Rattle.meaning_check.specs.declared.verdict.Verdict.TheVariants.{Same}
use Rattle.meaning_check.proofs.Implementing.{implements_from}
use Rattle.rehearsal.specs.Generated.{generated}
use Rattle.rehearsal.proofs.Circuits.{generated_circuit}
use Rattle.tracer.specs.Report.{report_text}
use Rattle.tracer.specs.Summary.{summary_text}
use Rattle.qccd_words.specs.Words.{AskedMachine, OfPreset, OfFile, Asked, AskedRun, AskedCompile, AskedExec, AskedCheck, AskedRehearse, AskedTidy, request_of, HasCapacity}
use Rattle.qccd_words.proofs.Capacities.{request-limits}
use Rattle.qccd_messages.specs.Cause.{Cause, Write, status_of}
use Rattle.qccd_top.specs.Stage.{Gives, ◌>>=◌}
use Rattle.qccd_top.specs.Stages.{MachineIn, CircuitIn}
use Rattle.qccd_top.specs.Means.{CompiledIn, LoadedIn, CheckedIn, TextOf, TextFor}
use Rattle.qccd_top.specs.Call.{Call}
use Rattle.qccd_top.specs.Done.{IsDone, IsCauseOf}
use Rattle.qccd_top.specs.Headline.{AsksRun, AsksCompile, AsksExec, AsksCheck, AsksRehearsal, AsksTidy, RunsWell, IsMeant, DoesCircuit, IsMeantProgram, IsLoaded, IsChecked, IsReported, IsCutReport, IsProgramWritten, IsExecuted, IsSameTold, IsRehearsalOf, IsSummarized, IsTidyWritten}
use Rattle.qccd_top.proofs.Loaded.{loaded_means, runs_well}

-- the operations for all items are few where those before each item are
few_operations : (c : CircuitData) (m : MachineData) (mode : Mode) (p : ProgramData) → IsCircuit c → IsValid m → IsProgramFor c m mode p → length (chosen c m mode).ops ≤ 4194304
few_operations c m mode p whole valid is = by_count (length c.items) refl
  where
    by_count : (n : ℕ) → length c.items ≡ n → chosen_long c m mode n ≤ 4194304
    by_count zero none = omega (arith, chosen_short c m mode 0 whole valid is.fits)
    by_count (suc n) some =
        let before : chosen_long c m mode n ≤ 4194304 - worst_of m = is.room n (omega (arith, some)) in
        let last : chosen_long c m mode (n + 1) ≤ chosen_long c m mode n + worst_of m = one_more_short c m mode n whole valid is.fits in
        let same : chosen_long c m mode (n + 1) ≡ chosen_long c m mode (suc n) = ap (chosen_long c m mode) (omega arith) in
        omega (arith, before, last, same, worst-small m valid)

-- the chosen program does the circuit
does_circuit : (c : CircuitData) (m : MachineData) (mode : Mode) (p : ProgramData) → IsCircuit c → IsValid m → IsProgramFor c m mode p → DoesCircuit m c (chosen c m mode)
unfolding chosen_first
does_circuit c m mode p whole valid is =
    let legal : IsLegalProgram (chosen c m mode) = chosen_legal c m mode whole valid is.fits (few_operations c m mode p whole valid is) in
    record {
      whole = whole;
      implements = chosen_implements c m mode whole valid is.fits;
      runs_well = runs_well m (chosen c m mode) valid refl legal;
    }

-- a machine that a word names is valid
pub valid_in : (told : Option Holding) (word : AskedMachine) (m : MachineData) → HasCapacity word → MachineIn told word (Gives m) → IsValid m
unfolding ◌>>=◌
valid_in told (OfPreset which capacity) m within is = subst IsValid (sym is) (valid_preset which capacity within.0 within.1)
valid_in told (OfFile name) m within (text, (held, few), is) = is.valid

-- the text of a circuit's file
pub read_in : (told : Option Holding) (name : List ℕ) (c : CircuitData) → CircuitIn told name (Gives c) → (text : List ℕ) × IsCircuitOf text c
unfolding ◌>>=◌
read_in told name c (text, held, reads) = (text, reads)

-- within the slots and the limit there is a program
pub accepted : (c : CircuitData) (m : MachineData) (mode : Mode) → IsCircuit c → IsValid m → c.qubits ≤ slots_of m
    → length c.items * worst_of m ≤ 4194304 → IsProgramFor c m mode (chosen c m mode)
accepted c m mode whole valid fits short = record { fits = fits; room = room; is_chosen = refl }
  where
    suc_times : (n w : ℕ) → (n + 1) * w ≡ n * w + w
    suc_times n w = omega arith

    room : (count : ℕ) → count < length c.items → chosen_long c m mode count ≤ 4194304 - worst_of m
    room count before =
        let long : chosen_long c m mode count ≤ count * worst_of m = chosen_short c m mode count whole valid fits in
        let next : (count + 1) * worst_of m ≤ length c.items * worst_of m = mul-le-mul_right (worst_of m) (omega (arith, before)) in
        let more : (count + 1) * worst_of m ≡ count * worst_of m + worst_of m = suc_times count (worst_of m) in
        omega (arith, long, next, more, short)

-- what is compiled is the program that is meant
pub compiled : (told : Option Holding) (word : AskedMachine) (name : List ℕ) (mode : Mode) (p : ProgramData) → HasCapacity word
    → CompiledIn told word name mode (Gives p) → IsMeantProgram told word name mode p
unfolding ◌>>=◌
compiled told word name mode p within (m, machine, (c, circuit, is)) =
    let (drawn, reads) = read_in told name c circuit in
    let done = does_circuit c m mode p (keeps_the_rule drawn c reads) (valid_in told word m within machine) is in
    let meant : IsMeant told word name mode m c p = record { machine_in = machine; circuit_in = circuit; slots = is.fits; chosen = is.is_chosen } in
    record { machine = m; circuit = c; meant = meant; does_circuit = subst (DoesCircuit m c) (sym is.is_chosen) done }

-- what is loaded is the program that the file holds
loaded : (told : Option Holding) (word : AskedMachine) (name : List ℕ) (p : ProgramData) → HasCapacity word → LoadedIn told word name (Gives p) → IsLoaded told word name p
unfolding ◌>>=◌
loaded told word name p within (m, machine, given) =
    let (held, legal) = loaded_means told name m p given in
    record { machine = m; machine_in = machine; held = held; runs_well = runs_well m p (valid_in told word m within machine) held.on legal }

-- a program with the verdict that it is the same does the circuit
same_does_circuit : (c : CircuitData) (m : MachineData) (p : ProgramData) → IsCircuit c → RunsWell m p → IsVerdict c p Same → DoesCircuit m c p
same_does_circuit c m p whole well same = record { whole = whole; implements = implements_from c p m well.legal well.on same.0 same.1; runs_well = well }

-- what is checked is the program that the file holds, and does the circuit
checked : (told : Option Holding) (word : AskedMachine) (name program_name : List ℕ) (p : ProgramData) → HasCapacity word
    → CheckedIn told word name program_name (Gives p) → IsChecked told word name program_name p
unfolding ◌>>=◌
checked told word name program_name p within (m, machine, (c, circuit, (q, given, (passed, same, is)))) =
    let (drawn, reads) = read_in told name c circuit in
    let (held, legal) = loaded_means told program_name m q given in
    let well = runs_well m q (valid_in told word m within machine) held.on legal in
    let done : IsChecked told word name program_name q = record {
      machine = m;
      circuit = c;
      machine_in = machine;
      circuit_in = circuit;
      held = held;
      does_circuit = same_does_circuit c m q (keeps_the_rule drawn c reads) well same;
    } in
    subst (IsChecked told word name program_name) (sym is) done

-- what words mean that ask for this
meaning : (call : Call) (asked : Asked) (text : List ℕ) → request_of call.words ≡ Some asked → TextFor call.told call.words (Gives text) → TextOf call.told asked (Gives text)
unfolding ◌>>=◌
meaning call asked text reading (other, also, means) =
    subst (λ (a : Asked). TextOf call.told a (Gives text)) (same_Some other asked (sym also ∙ reading)) means

-- a text that a run means is the report of the program that is meant
report_of : (call : Call) (asks : AsksRun call.words) (text : List ℕ) → TextFor call.told call.words (Gives text)
    → (program : ProgramData) × IsMeantProgram call.told asks.word asks.name asks.mode program × (text ≡ report_text program)
unfolding ◌>>=◌
report_of call asks text means =
    let run = AskedRun asks.word asks.name asks.workers asks.mode in
    let (p, given, report) = meaning call run text asks.asked means in
    (p, compiled call.told asks.word asks.name asks.mode p (request-limits call.words run asks.asked).0 given, report)

pub headline : (call : Call) (asks : AsksRun call.words) → IsDone call → IsReported call asks
headline call asks done =
    let (program, is, text) = report_of call asks done.text done.means in
    record { program = program; is_meant_program = is; written = done.written ∙ ap (appended call.out.old) text }

-- with status 4 a prefix of it was taken
pub cut : (call : Call) (asks : AsksRun call.words) (cause : Cause) → IsCauseOf call cause → status_of cause ≡ 4 → IsCutReport call asks
cut call asks Write rests four =
    let (program, is, text) = report_of call asks rests.text rests.means in
    record { program = program; is_meant_program = is; prefix = subst (λ (t : List ℕ). TookPrefix call.out.old call.out.new t) text rests.prefix; rose = rests.rose }
cut call asks cause rests four = absurd (omega (arith, four))

-- ---- other commands

pub program_written : (call : Call) (asks : AsksCompile call.words) → IsDone call → IsProgramWritten call asks
unfolding ◌>>=◌
program_written call asks done =
    let compile = AskedCompile asks.word asks.name asks.mode in
    let (p, given, text) = meaning call compile done.text asks.asked done.means in
    record {
      program = p;
      is_meant_program = compiled call.told asks.word asks.name asks.mode p (request-limits call.words compile asks.asked) given;
      written = done.written ∙ ap (appended call.out.old) text;
    }

pub executed : (call : Call) (asks : AsksExec call.words) → IsDone call → IsExecuted call asks
unfolding ◌>>=◌
executed call asks done =
    let exec = AskedExec asks.word asks.name asks.workers in
    let (p, given, text) = meaning call exec done.text asks.asked done.means in
    record {
      program = p;
      is_loaded = loaded call.told asks.word asks.name p (request-limits call.words exec asks.asked).0 given;
      written = done.written ∙ ap (appended call.out.old) text;
    }

pub same_told : (call : Call) (asks : AsksCheck call.words) → IsDone call → IsSameTold call asks
unfolding ◌>>=◌
same_told call asks done =
    let check = AskedCheck asks.word asks.name asks.program_name in
    let (p, given, text) = meaning call check done.text asks.asked done.means in
    record {
      program = p;
      is_checked = checked call.told asks.word asks.name asks.program_name p (request-limits call.words check asks.asked) given;
      written = done.written ∙ ap (appended call.out.old) text;
    }

pub tidy_written : (call : Call) (asks : AsksTidy call.words) → IsDone call → IsTidyWritten call asks
unfolding ◌>>=◌
tidy_written call asks done =
    let tidy = AskedTidy asks.word asks.name in
    let (p, given, text) = meaning call tidy done.text asks.asked done.means in
    record {
      program = p;
      is_loaded = loaded call.told asks.word asks.name p (request-limits call.words tidy asks.asked) given;
      written = done.written ∙ ap (appended call.out.old) text;
    }

-- ---- a rehearsal

-- a text that a rehearsal means is the summary of a program that does the circuit
summary_of : (call : Call) (asks : AsksRehearsal call.words) (text : List ℕ)
    → TextOf call.told (AskedRehearse asks.number asks.qubits asks.items asks.word asks.workers) (Gives text)
    → (m : MachineData) × (p : ProgramData) × IsRehearsalOf call m p asks × (text ≡ summary_text p asks.number asks.items)
unfolding ◌>>=◌
summary_of call asks text (p, (m, machine, is), summary) =
    let limits = request-limits call.words (AskedRehearse asks.number asks.qubits asks.items asks.word asks.workers) asks.asked in
    let few = limits.2 in
    let valid = valid_in call.told asks.word m limits.0 machine in
    let c = generated asks.number asks.qubits asks.items in
    let whole = generated_circuit asks.number asks.qubits asks.items few.1 few.2 few.3 in
    let done = does_circuit c m IonSwap p whole valid is in
    (m, p, record { machine_in = machine; slots = is.fits; chosen = is.is_chosen; does_circuit = subst (DoesCircuit m c) (sym is.is_chosen) done }, summary)

pub rehearsed : (call : Call) (asks : AsksRehearsal call.words) → IsDone call → IsSummarized call asks
rehearsed call asks done =
    let means = meaning call (AskedRehearse asks.number asks.qubits asks.items asks.word asks.workers) done.text asks.asked done.means in
    let (m, p, is, text) = summary_of call asks done.text means in
    record { machine = m; program = p; is_rehearsal = is; written = done.written ∙ ap (appended call.out.old) text }
