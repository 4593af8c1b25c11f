-- Each stage that refuses decides the status, whatever the command.
use Rattle.std.proofs.Common.{◌≡◌, ℕ, inl, inr, List, Some, refl, sym, subst}
use Rattle.std.proofs.lemmas.Option.{same_Some}
use Rattle.qccd_base.specs.declared.names.Mode.{Mode}
use Rattle.qccd_base.specs.declared.names.Mode.TheVariants.{IonSwap}
use Rattle.qccd_io.specs.Shelf.{Holding}
use Rattle.qccd_circuit.specs.Circuit.{CircuitData}
use Rattle.qccd_machine.specs.Machine.{MachineData}
use Rattle.rehearsal.specs.Generated.{generated}
use Rattle.qccd_words.specs.Words.{AskedMachine, OfFile, Asked, AskedRun, AskedCompile, AskedExec, AskedCheck, AskedRehearse, AskedTidy, request_of}
use Rattle.qccd_messages.specs.Cause.{Cause, status_of}
use Rattle.qccd_top.specs.declared.limits.TheConstants.{CIRCUIT_LIMIT, MACHINE_LIMIT, PROGRAM_LIMIT}
use Rattle.qccd_top.specs.Stage.{Gives, Refuses, ◌>>=◌}
use Rattle.qccd_top.specs.Stages.{FileIn, MachineIn, CircuitIn, Compiled, ProgramIn}
use Rattle.qccd_top.specs.Means.{TextOf, HoldsCircuit, word_of, circuit_file, program_file, compiling_mode}
use Rattle.qccd_top.specs.Done.{IsDue}

-- what is asked for is refused
due : (words : List (List ℕ)) (held : Holding) (asked : Asked) (cause : Cause) → request_of words ≡ Some asked → TextOf (Some held) asked (Refuses cause)
    → IsDue words held (status_of cause)
unfolding ◌>>=◌
due words held asked cause reading why = inr (cause, inr (asked, reading, why), refl)

no_machine : (held : Holding) (asked : Asked) (cause : Cause) → MachineIn (Some held) (word_of asked) (Refuses cause) → TextOf (Some held) asked (Refuses cause)
unfolding ◌>>=◌
no_machine held (AskedRun machine circuit workers mode) cause why = inl (inl why)
no_machine held (AskedCompile machine circuit mode) cause why = inl (inl why)
no_machine held (AskedExec machine program workers) cause why = inl (inl why)
no_machine held (AskedCheck machine circuit program) cause why = inl (inl why)
no_machine held (AskedRehearse number qubits items machine workers) cause why = inl (inl why)
no_machine held (AskedTidy machine program) cause why = inl (inl why)

pub machine_refuses : (words : List (List ℕ)) (held : Holding) (asked : Asked) (cause : Cause) → request_of words ≡ Some asked
    → MachineIn (Some held) (word_of asked) (Refuses cause) → IsDue words held (status_of cause)
machine_refuses words held asked cause reading why = due words held asked cause reading (no_machine held asked cause why)

no_circuit : (held : Holding) (asked : Asked) (m : MachineData) (circuit : List ℕ) (cause : Cause) → MachineIn (Some held) (word_of asked) (Gives m)
    → circuit_file asked ≡ Some circuit → CircuitIn (Some held) circuit (Refuses cause) → TextOf (Some held) asked (Refuses cause)
unfolding ◌>>=◌
no_circuit held (AskedRun machine file workers mode) m circuit cause given is why =
    inl (inr (m, given, inl (subst (λ n. CircuitIn (Some held) n (Refuses cause)) (sym (same_Some file circuit is)) why)))
no_circuit held (AskedCompile machine file mode) m circuit cause given is why =
    inl (inr (m, given, inl (subst (λ n. CircuitIn (Some held) n (Refuses cause)) (sym (same_Some file circuit is)) why)))
no_circuit held (AskedExec machine program workers) m circuit cause given is why = absurd (cc)
no_circuit held (AskedCheck machine file program) m circuit cause given is why =
    inl (inr (m, given, inl (subst (λ n. CircuitIn (Some held) n (Refuses cause)) (sym (same_Some file circuit is)) why)))
no_circuit held (AskedRehearse number qubits items machine workers) m circuit cause given is why = absurd (cc)
no_circuit held (AskedTidy machine program) m circuit cause given is why = absurd (cc)

pub circuit_refuses : (words : List (List ℕ)) (held : Holding) (asked : Asked) (m : MachineData) (circuit : List ℕ) (cause : Cause) → request_of words ≡ Some asked
    → MachineIn (Some held) (word_of asked) (Gives m) → circuit_file asked ≡ Some circuit → CircuitIn (Some held) circuit (Refuses cause) → IsDue words held (status_of cause)
circuit_refuses words held asked m circuit cause reading given is why = due words held asked cause reading (no_circuit held asked m circuit cause given is why)

no_program : (held : Holding) (asked : Asked) (m : MachineData) (program : List ℕ) (cause : Cause) → MachineIn (Some held) (word_of asked) (Gives m) → HoldsCircuit held asked
    → program_file asked ≡ Some program → ProgramIn (Some held) m program (Refuses cause) → TextOf (Some held) asked (Refuses cause)
unfolding ◌>>=◌
no_program held (AskedRun machine file workers mode) m program cause given drawn is why = absurd (cc)
no_program held (AskedCompile machine file mode) m program cause given drawn is why = absurd (cc)
no_program held (AskedExec machine file workers) m program cause given drawn is why =
    inl (inr (m, given, subst (λ n. ProgramIn (Some held) m n (Refuses cause)) (sym (same_Some file program is)) why))
no_program held (AskedCheck machine circuit file) m program cause given (c, drawn) is why =
    inl (inr (m, given, inr (c, drawn, inl (subst (λ n. ProgramIn (Some held) m n (Refuses cause)) (sym (same_Some file program is)) why))))
no_program held (AskedRehearse number qubits items machine workers) m program cause given drawn is why = absurd (cc)
no_program held (AskedTidy machine file) m program cause given drawn is why =
    inl (inr (m, given, subst (λ n. ProgramIn (Some held) m n (Refuses cause)) (sym (same_Some file program is)) why))

pub program_refuses : (words : List (List ℕ)) (held : Holding) (asked : Asked) (m : MachineData) (program : List ℕ) (cause : Cause) → request_of words ≡ Some asked
    → MachineIn (Some held) (word_of asked) (Gives m) → HoldsCircuit held asked → program_file asked ≡ Some program → ProgramIn (Some held) m program (Refuses cause)
    → IsDue words held (status_of cause)
program_refuses words held asked m program cause reading given drawn is why = due words held asked cause reading (no_program held asked m program cause given drawn is why)

-- the circuit is that of the file, and is compiled in this mode
not_compiled : (held : Holding) (asked : Asked) (m : MachineData) (circuit : List ℕ) (c : CircuitData) (mode : Mode) (cause : Cause) → MachineIn (Some held) (word_of asked) (Gives m)
    → circuit_file asked ≡ Some circuit → compiling_mode asked ≡ Some mode → CircuitIn (Some held) circuit (Gives c) → Compiled c m mode (Refuses cause)
    → TextOf (Some held) asked (Refuses cause)
unfolding ◌>>=◌
not_compiled held (AskedRun machine file workers way) m circuit c mode cause given is by drawn why =
    inl (inr (
      m,
      given,
      inr (
        c,
        subst (λ n. CircuitIn (Some held) n (Gives c)) (sym (same_Some file circuit is)) drawn,
        subst (λ (w : Mode). Compiled c m w (Refuses cause)) (sym (same_Some way mode by)) why,
      ),
    ))
not_compiled held (AskedCompile machine file way) m circuit c mode cause given is by drawn why =
    inl (inr (
      m,
      given,
      inr (
        c,
        subst (λ n. CircuitIn (Some held) n (Gives c)) (sym (same_Some file circuit is)) drawn,
        subst (λ (w : Mode). Compiled c m w (Refuses cause)) (sym (same_Some way mode by)) why,
      ),
    ))
not_compiled held (AskedExec machine program workers) m circuit c mode cause given is by drawn why = absurd (cc)
not_compiled held (AskedCheck machine file program) m circuit c mode cause given is by drawn why = absurd (cc)
not_compiled held (AskedRehearse number qubits items machine workers) m circuit c mode cause given is by drawn why = absurd (cc)
not_compiled held (AskedTidy machine program) m circuit c mode cause given is by drawn why = absurd (cc)

pub compiler_refuses : (words : List (List ℕ)) (held : Holding) (asked : Asked) (m : MachineData) (circuit : List ℕ) (c : CircuitData) (mode : Mode) (cause : Cause)
    → request_of words ≡ Some asked → MachineIn (Some held) (word_of asked) (Gives m) → circuit_file asked ≡ Some circuit → compiling_mode asked ≡ Some mode
    → CircuitIn (Some held) circuit (Gives c) → Compiled c m mode (Refuses cause) → IsDue words held (status_of cause)
compiler_refuses words held asked m circuit c mode cause reading given is by drawn why =
    due words held asked cause reading (not_compiled held asked m circuit c mode cause given is by drawn why)

pub rehearsal_refuses : (words : List (List ℕ)) (held : Holding) (number qubits items : ℕ) (machine : AskedMachine) (workers : ℕ) (m : MachineData) (cause : Cause)
    → request_of words ≡ Some (AskedRehearse number qubits items machine workers) → MachineIn (Some held) machine (Gives m)
    → Compiled (generated number qubits items) m IonSwap (Refuses cause) → IsDue words held (status_of cause)
unfolding ◌>>=◌
rehearsal_refuses words held number qubits items machine workers m cause reading given why =
    due words held (AskedRehearse number qubits items machine workers) cause reading (inl (inr (m, given, why)))

-- ---- files

pub machine_file_refuses : (held : Holding) (name : List ℕ) (cause : Cause) → FileIn (Some held) name MACHINE_LIMIT (Refuses cause) → MachineIn (Some held) (OfFile name) (Refuses cause)
unfolding ◌>>=◌
machine_file_refuses held name cause why = inl why

pub circuit_file_refuses : (held : Holding) (name : List ℕ) (cause : Cause) → FileIn (Some held) name CIRCUIT_LIMIT (Refuses cause) → CircuitIn (Some held) name (Refuses cause)
unfolding ◌>>=◌
circuit_file_refuses held name cause why = inl why

pub program_file_refuses : (held : Holding) (m : MachineData) (name : List ℕ) (cause : Cause) → FileIn (Some held) name PROGRAM_LIMIT (Refuses cause) → ProgramIn (Some held) m name (Refuses cause)
unfolding ◌>>=◌
program_file_refuses held m name cause why = inl (inl why)
