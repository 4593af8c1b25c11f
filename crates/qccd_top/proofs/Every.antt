-- Each stage has an answer, where the shelf tells what it holds.
use Rattle.std.proofs.Common.{◌≡◌, ℕ, zero, suc, ◌-◌, ◌<◌, ◌≤◌, ◌⊎◌, inl, inr, List, length, Option, Some, None, refl, subst, arith}
use Rattle.std.proofs.lemmas.Bool.{cases_lt}
use Rattle.qccd_base.specs.declared.names.Mode.{Mode}
use Rattle.qccd_base.specs.declared.names.Mode.TheVariants.{IonSwap}
use Rattle.qccd_io.specs.Shelf.{Holding}
use Rattle.qccd_circuit.specs.Circuit.{CircuitData, IsCircuit}
use Rattle.qccd_machine.specs.Machine.{MachineData, slots_of, worst_of}
use Rattle.qccd_machine.specs.Preset.{preset_of}
use Rattle.machine_text.proofs.Answered as machine_texts
use Rattle.qasm_reader.proofs.Answered as circuit_texts
use Rattle.transport_asm.specs.Texts.{RawData}
use Rattle.transport_asm.proofs.Answered as program_texts
use Rattle.qccd_program.specs.Program.{ProgramData}
use Rattle.compiler.specs.Chosen.{chosen, chosen_long, IsTooLong}
use Rattle.loader.specs.Refusal.{load_refusal, on_machine}
use Rattle.loader.specs.declared.faults.LoadFault.{LoadFault}
use Rattle.meaning_check.specs.Verdict.{IsVerdict}
use Rattle.meaning_check.specs.declared.verdict.Verdict.{Verdict}
use Rattle.meaning_check.specs.declared.verdict.Verdict.TheVariants.{Sizes, Differs, Missing, Order, Same}
use Rattle.meaning_check.proofs.Verdicts.{one_at_least}
use Rattle.rehearsal.specs.Generated.{generated}
use Rattle.qccd_words.specs.Words.{AskedMachine, OfPreset, OfFile, Asked, AskedRun, AskedCompile, AskedExec, AskedCheck, AskedRehearse, AskedTidy, request_of}
use Rattle.qccd_messages.specs.Cause.{Cause, Words, Read, TooLarge, Machine, Circuit, Shortage, TooLong, Asm, Load, NotSame, status_of}
use Rattle.qccd_top.specs.declared.limits.TheConstants.{CIRCUIT_LIMIT, MACHINE_LIMIT, PROGRAM_LIMIT}
use Rattle.qccd_top.specs.Stage.{Gives, Refuses, Stage, ◌>>=◌, Just}
use Rattle.qccd_top.specs.Stages.{WordsOf, FileIn, MachineOf, MachineIn, CircuitOf, CircuitIn, Compiled, RawOf, RawIn, LoadedOn, ProgramIn, SameAs}
use Rattle.qccd_top.specs.Means.{CompiledIn, CheckedIn, TextOf, TextFor}
use Rattle.qccd_top.specs.Done.{IsDueFor, IsDue}
use Rattle.qccd_top.proofs.Headline.{read_in}

-- a stage gives something, or refuses for a cause
abbrev pub HasAnswer : {A : Type 0} → Stage A → Type 0
HasAnswer {A} stage = ((a : A) × stage (Gives a)) ⊎ ((cause : Cause) × stage (Refuses cause))

-- so does one stage after another
answer-then : {A B : Type 0} (first : Stage A) (next : A → Stage B) → HasAnswer first → ((a : A) → first (Gives a) → HasAnswer (next a)) → HasAnswer (first >>= next)
unfolding ◌>>=◌
answer-then {A} {B} first next (inr (cause, why)) ones = inr (cause, inl why)
answer-then {A} {B} first next (inl (a, given)) ones = further (ones a given)
  where
    further : HasAnswer (next a) → HasAnswer (first >>= next)
    further (inl (b, more)) = inl (b, (a, given, more))
    further (inr (cause, why)) = inr (cause, inr (a, given, why))

answer-just : {A : Type 0} (a : A) → HasAnswer (Just a)
answer-just a = inl (a, refl)

answer-words : (words : List (List ℕ)) → HasAnswer (WordsOf words)
answer-words words = by_request (request_of words) refl
  where
    by_request : (request : Option Asked) → request_of words ≡ request → HasAnswer (WordsOf words)
    by_request None is = inr (Words, is)
    by_request (Some asked) is = inl (asked, is)

answer-file : (held : Holding) (name : List ℕ) (limit : ℕ) → HasAnswer (FileIn (Some held) name limit)
answer-file held name limit = by_file (held.file name) refl
  where
    by_file : (file : Option (List ℕ)) → held.file name ≡ file → HasAnswer (FileIn (Some held) name limit)
    by_file None is = inr (Read name, (refl, is))
    by_file (Some text) is = elim (cases_lt limit (length text)) [
      | inl large ↦ inr (TooLarge name limit, (refl, refl, (text, is, large)))
      | inr few ↦ inl (text, (is, omega (arith, few)))
    ]

answer-machine_of : (text : List ℕ) → HasAnswer (MachineOf text)
answer-machine_of text = elim (machine_texts.every_text text) [ inl given ↦ inl given | inr why ↦ inr (Machine why.0, why.1) ]

answer-machine : (held : Holding) (word : AskedMachine) → HasAnswer (MachineIn (Some held) word)
answer-machine held (OfPreset which capacity) = answer-just (preset_of which capacity)
answer-machine held (OfFile name) =
    answer-then (FileIn (Some held) name MACHINE_LIMIT) MachineOf (answer-file held name MACHINE_LIMIT) (λ text there. answer-machine_of text)

answer-circuit_of : (text : List ℕ) → HasAnswer (CircuitOf text)
answer-circuit_of text = elim (circuit_texts.every_text text) [ inl given ↦ inl given | inr why ↦ inr (Circuit why.0 why.1, why.2) ]

answer-circuit : (held : Holding) (name : List ℕ) → HasAnswer (CircuitIn (Some held) name)
answer-circuit held name =
    answer-then (FileIn (Some held) name CIRCUIT_LIMIT) CircuitOf (answer-file held name CIRCUIT_LIMIT) (λ text there. answer-circuit_of text)

-- there is room before each item, or before some item there is too little for the first time
room_or_not : (c : CircuitData) (m : MachineData) (mode : Mode) (n : ℕ) → n ≤ length c.items
    → ((count : ℕ) → count < n → chosen_long c m mode count ≤ 4194304 - worst_of m) ⊎ ((done : ℕ) × IsTooLong c m mode done (chosen_long c m mode done))
room_or_not c m mode zero few = inl (λ count below. absurd (omega (arith, below)))
room_or_not c m mode (suc n) few = next (room_or_not c m mode n (omega (arith, few)))
  where
    HasRoom : ℕ → Type 0
    HasRoom count = chosen_long c m mode count ≤ 4194304 - worst_of m

    next : ((count : ℕ) → count < n → HasRoom count) ⊎ ((done : ℕ) × IsTooLong c m mode done (chosen_long c m mode done))
        → ((count : ℕ) → count < suc n → HasRoom count) ⊎ ((done : ℕ) × IsTooLong c m mode done (chosen_long c m mode done))
    next (inr found) = inr found
    next (inl before) = elim (cases_lt (4194304 - worst_of m) (chosen_long c m mode n)) [
      | inl past ↦ inr (n, record { before_an_item = omega (arith, few); operations = refl; too_many = past; first = before })
      | inr fits ↦ inl (λ count below. elim (cases_lt count n) [
        | inl earlier ↦ before count earlier
        | inr last ↦ let same : n ≡ count = omega (arith, below, last) in subst HasRoom same (omega (arith, fits))
      ])
    ]

answer-compiled : (c : CircuitData) (m : MachineData) (mode : Mode) → HasAnswer (Compiled c m mode)
answer-compiled c m mode = elim (cases_lt (slots_of m) c.qubits) [
  | inl fewer ↦ inr (Shortage c.qubits (slots_of m), record { fewer = fewer; of_circuit = refl; of_machine = refl })
  | inr fits ↦ within (omega (arith, fits)) (room_or_not c m mode (length c.items) (omega arith))
]
  where
    within : c.qubits ≤ slots_of m
        → ((count : ℕ) → count < length c.items → chosen_long c m mode count ≤ 4194304 - worst_of m) ⊎ ((done : ℕ) × IsTooLong c m mode done (chosen_long c m mode done))
        → HasAnswer (Compiled c m mode)
    within fits (inl room) = inl (chosen c m mode, record { fits = fits; room = room; is_chosen = refl })
    within fits (inr (done, long)) = inr (TooLong done (length c.items) (chosen_long c m mode done), (refl, fits, long))

answer-raw_of : (text : List ℕ) → HasAnswer (RawOf text)
answer-raw_of text = elim (program_texts.every_text text) [ inl given ↦ inl given | inr why ↦ inr (Asm why.0.line why.0.kind, why.1) ]

answer-loaded_on : (m : MachineData) (raw : RawData) → HasAnswer (LoadedOn m raw)
answer-loaded_on m raw = by_refusal (load_refusal m raw) refl
  where
    by_refusal : (refusal : Option LoadFault) → load_refusal m raw ≡ refusal → HasAnswer (LoadedOn m raw)
    by_refusal None is = inl (on_machine m raw, (is, refl))
    by_refusal (Some fault) is = inr (Load fault, is)

answer-program : (held : Holding) (m : MachineData) (name : List ℕ) → HasAnswer (ProgramIn (Some held) m name)
answer-program held m name =
    answer-then (RawIn (Some held) name) (LoadedOn m)
    (answer-then (FileIn (Some held) name PROGRAM_LIMIT) RawOf (answer-file held name PROGRAM_LIMIT) (λ text there. answer-raw_of text))
    (λ raw there. answer-loaded_on m raw)

answer-same : (c : CircuitData) (p : ProgramData) → IsCircuit c → HasAnswer (SameAs c p)
answer-same c p whole = by_verdict (one_at_least c p whole)
  where
    by_verdict : (v : Verdict) × IsVerdict c p v → HasAnswer (SameAs c p)
    by_verdict (Same, is) = inl (tt, is)
    by_verdict (Sizes, is) = inr (NotSame Sizes, (is, λ same. absurd (cc)))
    by_verdict (Differs op item, is) = inr (NotSame (Differs op item), (is, λ same. absurd (cc)))
    by_verdict (Missing item, is) = inr (NotSame (Missing item), (is, λ same. absurd (cc)))
    by_verdict (Order first second, is) = inr (NotSame (Order first second), (is, λ same. absurd (cc)))

-- ---- what commands write

answer-compiled_in : (held : Holding) (machine : AskedMachine) (circuit : List ℕ) (mode : Mode) → HasAnswer (CompiledIn (Some held) machine circuit mode)
answer-compiled_in held machine circuit mode =
    answer-then _ _ (answer-machine held machine) (λ m there. answer-then _ _ (answer-circuit held circuit) (λ c drawn. answer-compiled c m mode))

answer-checked_in : (held : Holding) (machine : AskedMachine) (circuit program : List ℕ) → HasAnswer (CheckedIn (Some held) machine circuit program)
answer-checked_in held machine circuit program =
    answer-then _ _ (answer-machine held machine) (λ m there.
    answer-then _ _ (answer-circuit held circuit) (λ c drawn.
    answer-then _ _ (answer-program held m program) (λ p loaded.
    answer-then _ _ (answer-same c p (whole c drawn)) (λ passed same. answer-just p))))
  where
    whole : (c : CircuitData) → CircuitIn (Some held) circuit (Gives c) → IsCircuit c
    whole c drawn = let (text, reads) = read_in (Some held) circuit c drawn in circuit_texts.keeps_the_rule text c reads

answer-text : (held : Holding) (asked : Asked) → HasAnswer (TextOf (Some held) asked)
answer-text held (AskedRun machine circuit workers mode) = answer-then _ _ (answer-compiled_in held machine circuit mode) (λ p there. answer-just _)
answer-text held (AskedCompile machine circuit mode) = answer-then _ _ (answer-compiled_in held machine circuit mode) (λ p there. answer-just _)
answer-text held (AskedExec machine program workers) =
    answer-then _ _ (answer-then _ _ (answer-machine held machine) (λ m there. answer-program held m program)) (λ p there. answer-just _)
answer-text held (AskedCheck machine circuit program) = answer-then _ _ (answer-checked_in held machine circuit program) (λ p there. answer-just _)
answer-text held (AskedRehearse number qubits items machine workers) =
    answer-then _ _ (answer-then _ _ (answer-machine held machine) (λ m there. answer-compiled (generated number qubits items) m IonSwap)) (λ p there. answer-just _)
answer-text held (AskedTidy machine program) =
    answer-then _ _ (answer-then _ _ (answer-machine held machine) (λ m there. answer-program held m program)) (λ p there. answer-just _)

-- some status is due
pub some_due : (words : List (List ℕ)) (held : Holding) → (status : ℕ) × IsDue words held status
some_due words held = due_for (TextFor (Some held) words) (answer-then (WordsOf words) (TextOf (Some held)) (answer-words words) (λ asked there. answer-text held asked))
  where
    due_for : (text_of : Stage (List ℕ)) → HasAnswer text_of → (status : ℕ) × IsDueFor text_of status
    due_for text_of (inl (text, means)) = (0, inl (text, means, refl))
    due_for text_of (inr (cause, why)) = (status_of cause, inr (cause, why, refl))
