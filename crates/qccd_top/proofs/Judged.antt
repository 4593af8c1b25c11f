-- Words are judged before all else.
use Rattle.std.proofs.Common.{◌≡◌, ℕ, List, inl, inr, Option, None, arith}
use Rattle.qccd_io.specs.Shelf.{Holding}
use Rattle.qccd_base.specs.declared.names.Mode.{Mode}
use Rattle.qccd_words.specs.Words.{AskedMachine, OfPreset, OfFile, Asked, AskedRun, AskedCompile, AskedExec, AskedCheck, AskedRehearse, AskedTidy, request_of}
use Rattle.qccd_machine.specs.Machine.{MachineData}
use Rattle.qccd_messages.specs.Cause.{Cause, Words, status_of}
use Rattle.qccd_top.specs.declared.limits.TheConstants.{CIRCUIT_LIMIT, MACHINE_LIMIT, PROGRAM_LIMIT}
use Rattle.qccd_top.specs.Stage.{Stage, Refuses, ◌>>=◌}
use Rattle.qccd_top.specs.Stages.{FileIn, MachineOf, MachineIn, CircuitOf, CircuitIn, RawOf, RawIn, LoadedOn, ProgramIn}
use Rattle.qccd_top.specs.Means.{CompiledIn, LoadedIn, CheckedIn, RehearsedIn, TextOf, TextFor}
use Rattle.qccd_top.specs.Call.{Call}
use Rattle.qccd_top.specs.Done.{IsCauseOf}

-- a stage that does not refuse words
abbrev Takes : {A : Type 0} → Stage A → Type 0
Takes stage = stage (Refuses Words) → ⊥

takes-then : {A B : Type 0} (first : Stage A) (next : A → Stage B) → Takes first → ((a : A) → Takes (next a)) → Takes (first >>= next)
unfolding ◌>>=◌
takes-then first next one ones (inl why) = one why
takes-then first next one ones (inr (a, given, why)) = ones a why

takes-machine : (told : Option Holding) (word : AskedMachine) → Takes (MachineIn told word)
takes-machine told (OfPreset which capacity) = λ why. why
takes-machine told (OfFile name) = takes-then (FileIn told name MACHINE_LIMIT) MachineOf (λ why. why) (λ text why. why)

takes-circuit : (told : Option Holding) (name : List ℕ) → Takes (CircuitIn told name)
takes-circuit told name = takes-then (FileIn told name CIRCUIT_LIMIT) CircuitOf (λ why. why) (λ text why. why)

takes-compiled : (told : Option Holding) (machine : AskedMachine) (circuit : List ℕ) (mode : Mode) → Takes (CompiledIn told machine circuit mode)
takes-compiled told machine circuit mode =
    takes-then _ _ (takes-machine told machine) (λ m.
    takes-then _ _ (takes-circuit told circuit) (λ c why. why))

takes-program : (told : Option Holding) (m : MachineData) (name : List ℕ) → Takes (ProgramIn told m name)
takes-program told m name =
    takes-then (RawIn told name) (LoadedOn m) (takes-then (FileIn told name PROGRAM_LIMIT) RawOf (λ why. why) (λ text why. why)) (λ raw why. why)

takes-loaded : (told : Option Holding) (machine : AskedMachine) (program : List ℕ) → Takes (LoadedIn told machine program)
takes-loaded told machine program = takes-then _ _ (takes-machine told machine) (λ m. takes-program told m program)

takes-checked : (told : Option Holding) (machine : AskedMachine) (circuit program : List ℕ) → Takes (CheckedIn told machine circuit program)
takes-checked told machine circuit program =
    takes-then _ _ (takes-machine told machine) (λ m.
    takes-then _ _ (takes-circuit told circuit) (λ c.
    takes-then _ _ (takes-program told m program) (λ p.
    takes-then _ _ (λ why. why) (λ passed why. why))))

takes-rehearsed : (told : Option Holding) (machine : AskedMachine) (number qubits items : ℕ) → Takes (RehearsedIn told machine number qubits items)
takes-rehearsed told machine number qubits items = takes-then _ _ (takes-machine told machine) (λ m why. why)

-- what words ask for is not refused for the words
takes-text : (told : Option Holding) (asked : Asked) → Takes (TextOf told asked)
takes-text told (AskedRun machine circuit workers mode) = takes-then _ _ (takes-compiled told machine circuit mode) (λ p why. why)
takes-text told (AskedCompile machine circuit mode) = takes-then _ _ (takes-compiled told machine circuit mode) (λ p why. why)
takes-text told (AskedExec machine program workers) = takes-then _ _ (takes-loaded told machine program) (λ p why. why)
takes-text told (AskedCheck machine circuit program) = takes-then _ _ (takes-checked told machine circuit program) (λ p why. why)
takes-text told (AskedRehearse number qubits items machine workers) = takes-then _ _ (takes-rehearsed told machine number qubits items) (λ p why. why)
takes-text told (AskedTidy machine program) = takes-then _ _ (takes-loaded told machine program) (λ p why. why)

no_reading : (told : Option Holding) (words : List (List ℕ)) → TextFor told words (Refuses Words) → request_of words ≡ None
unfolding ◌>>=◌
no_reading told words (inl none) = none
no_reading told words (inr (asked, reading, why)) = absurd (takes-text told asked why)

-- status 2 comes for the words alone
pub words_cause : (call : Call) (cause : Cause) → IsCauseOf call cause → status_of cause ≡ 2 → request_of call.words ≡ None
words_cause call Words rests two = no_reading call.told call.words rests.0
words_cause call cause rests two = absurd (omega (arith, two))
