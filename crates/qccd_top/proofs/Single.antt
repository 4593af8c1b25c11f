-- A stage has one answer, where the shelf tells what it holds.
use Rattle.std.proofs.Common.{◌≡◌, ℕ, ◌-◌, ◌<◌, ◌≤◌, inl, inr, List, length, Some, refl, sym, ◌∙◌, ap, subst, arith}
use Rattle.qccd_base.specs.declared.names.Mode.{Mode}
use Rattle.qccd_base.specs.declared.names.Mode.TheVariants.{IonSwap}
use Rattle.qccd_io.specs.Shelf.{Holding}
use Rattle.qccd_circuit.specs.Circuit.{CircuitData}
use Rattle.qccd_machine.specs.Machine.{MachineData, worst_of}
use Rattle.qccd_machine.specs.Preset.{preset_of}
use Rattle.machine_text.proofs.Answered as machine_texts
use Rattle.qasm_reader.proofs.Answered.{one_circuit, one_refusal, not_both}
use Rattle.qccd_program.specs.Program.{ProgramData}
use Rattle.rehearsal.specs.Generated.{generated}
use Rattle.compiler.specs.Chosen.{chosen_long}
use Rattle.compiler.proofs.Answering.{one_too_long}
use Rattle.std.proofs.lemmas.Option.{same_Some}
use Rattle.transport_asm.specs.Texts.{RawData}
use Rattle.transport_asm.specs.Lines as lines
use Rattle.transport_asm.proofs.Answered as program_texts
use Rattle.loader.specs.Refusal.{load_refusal}
use Rattle.meaning_check.specs.declared.verdict.Verdict.TheVariants.{Same}
use Rattle.meaning_check.proofs.Verdicts.{one_at_most}
use Rattle.qccd_words.specs.Words.{AskedMachine, OfPreset, OfFile, Asked, AskedRun, AskedCompile, AskedExec, AskedCheck, AskedRehearse, AskedTidy}
use Rattle.qccd_messages.specs.Cause.{Cause, Words, Read, TooLarge, Machine, Circuit, Shortage, TooLong, Asm, Load, NotSame}
use Rattle.qccd_top.specs.declared.limits.TheConstants.{CIRCUIT_LIMIT, MACHINE_LIMIT, PROGRAM_LIMIT}
use Rattle.qccd_top.specs.Stages.{WordsOf, FileIn, MachineOf, MachineIn, CircuitOf, CircuitIn, Compiled, RawOf, RawIn, LoadedOn, ProgramIn, SameAs}
use Rattle.qccd_top.specs.Means.{CompiledIn, LoadedIn, CheckedIn, RehearsedIn, TextOf, TextFor}
use Rattle.qccd_top.specs.Stage.{Gives, Refuses, Stage, ◌>>=◌, Just}

pub record IsSingle {A : Type 0} (stage : Stage A) : Type 0 where
  pub given : (a b : A) → stage (Gives a) → stage (Gives b) → a ≡ b
  pub refused : (c d : Cause) → stage (Refuses c) → stage (Refuses d) → c ≡ d
  pub not_both : (a : A) (c : Cause) → stage (Gives a) → stage (Refuses c) → ⊥

-- so has one stage after another
pub single-then : {A B : Type 0} (first : Stage A) (next : A → Stage B) → IsSingle first → ((a : A) → IsSingle (next a)) → IsSingle (first >>= next)
unfolding ◌>>=◌
single-then {A} {B} first next one ones = record {
  given = λ x y (a, held, more) (b, also, other).
      (ones b).given x y (subst (λ (v : A). next v (Gives x)) (one.given a b held also) more) other;
  refused = refused;
  not_both = not_both;
}
  where
    refused : (c d : Cause) → (first >>= next) (Refuses c) → (first >>= next) (Refuses d) → c ≡ d
    refused c d (inl why) (inl other) = one.refused c d why other
    refused c d (inl why) (inr (b, also, other)) = absurd (one.not_both b c also why)
    refused c d (inr (a, held, why)) (inl other) = absurd (one.not_both a d held other)
    refused c d (inr (a, held, why)) (inr (b, also, other)) =
        (ones b).refused c d (subst (λ (v : A). next v (Refuses c)) (one.given a b held also) why) other

    not_both : (x : B) (c : Cause) → (first >>= next) (Gives x) → (first >>= next) (Refuses c) → ⊥
    not_both x c (a, held, more) (inl why) = one.not_both a c held why
    not_both x c (a, held, more) (inr (b, also, why)) =
        (ones b).not_both x c (subst (λ (v : A). next v (Gives x)) (one.given a b held also) more) why

single-just : {A : Type 0} (a : A) → IsSingle (Just a)
single-just a = record {
  given = λ x y held also. held ∙ sym also;
  refused = λ c d why other. absurd why;
  not_both = λ x c held why. why;
}

single-file : (held : Holding) (name : List ℕ) (limit : ℕ) → IsSingle (FileIn (Some held) name limit)
single-file held name limit = record { given = given; refused = refused; not_both = not_both }
  where
    given : (a b : List ℕ) → FileIn (Some held) name limit (Gives a) → FileIn (Some held) name limit (Gives b) → a ≡ b
    given a b first second = let one = first.0 in let two = second.0 in cc

    refused : (c d : Cause) → FileIn (Some held) name limit (Refuses c) → FileIn (Some held) name limit (Refuses d) → c ≡ d
    refused (Read n) (Read m) (same, lacks) (also, too) = ap Read (same ∙ sym also)
    refused (Read n) (TooLarge m l) (same, lacks) (also, most, large) = let there = large.1 in absurd (cc)
    refused (TooLarge n l) (Read m) (same, most, large) (also, lacks) = let there = large.1 in absurd (cc)
    refused (TooLarge n l) (TooLarge m k) (same, most, large) (also, too, larger) = cc
    refused (Read n) d first second = absurd second
    refused (TooLarge n l) d first second = absurd second
    refused c d first second = absurd first

    not_both : (a : List ℕ) (c : Cause) → FileIn (Some held) name limit (Gives a) → FileIn (Some held) name limit (Refuses c) → ⊥
    not_both a (Read n) first (same, lacks) = let there = first.0 in absurd (cc)
    not_both a (TooLarge n l) first (same, most, large) =
        let there = first.0 in
        let text = large.1 in
        let is : large.0 ≡ a = cc in
        omega (arith, first.1, large.2, ap length is)
    not_both a c first second = second

-- ---- the stages

single-words : (words : List (List ℕ)) → IsSingle (WordsOf words)
single-words words = record { given = λ a b is also. let same = sym is ∙ also in cc; refused = refused; not_both = apart }
  where
    refused : (c d : Cause) → WordsOf words (Refuses c) → WordsOf words (Refuses d) → c ≡ d
    refused Words Words first second = refl
    refused Words d first second = absurd second
    refused c d first second = absurd first

    apart : (a : Asked) (c : Cause) → WordsOf words (Gives a) → WordsOf words (Refuses c) → ⊥
    apart a Words first second = let same = sym first ∙ second in cc
    apart a c first second = second

single-machine_of : (text : List ℕ) → IsSingle (MachineOf text)
single-machine_of text = record {
  given = λ m n is also. machine_texts.one_parts text m n is.description also.description;
  refused = refused;
  not_both = apart;
}
  where
    refused : (c d : Cause) → MachineOf text (Refuses c) → MachineOf text (Refuses d) → c ≡ d
    refused (Machine f) (Machine g) first second = ap Machine (machine_texts.one_refusal text f g first second)
    refused (Machine f) d first second = absurd second
    refused c d first second = absurd first

    apart : (m : MachineData) (c : Cause) → MachineOf text (Gives m) → MachineOf text (Refuses c) → ⊥
    apart m (Machine f) first second = machine_texts.not_both text m f first second
    apart m c first second = second

single-machine : (held : Holding) (word : AskedMachine) → IsSingle (MachineIn (Some held) word)
single-machine held (OfPreset which capacity) = single-just (preset_of which capacity)
single-machine held (OfFile name) = single-then (FileIn (Some held) name MACHINE_LIMIT) MachineOf (single-file held name MACHINE_LIMIT) single-machine_of

single-circuit_of : (text : List ℕ) → IsSingle (CircuitOf text)
single-circuit_of text = record { given = λ c d is also. one_circuit text c d is also; refused = refused; not_both = apart }
  where
    refused : (c d : Cause) → CircuitOf text (Refuses c) → CircuitOf text (Refuses d) → c ≡ d
    refused (Circuit a k) (Circuit b l) first second = let same = one_refusal text a b k l first second in let at = same.0 in let kind = same.1 in cc
    refused (Circuit a k) d first second = absurd second
    refused c d first second = absurd first

    apart : (m : CircuitData) (c : Cause) → CircuitOf text (Gives m) → CircuitOf text (Refuses c) → ⊥
    apart m (Circuit a k) first second = not_both text m a k first second
    apart m c first second = second

pub single-circuit : (held : Holding) (name : List ℕ) → IsSingle (CircuitIn (Some held) name)
single-circuit held name = single-then (FileIn (Some held) name CIRCUIT_LIMIT) CircuitOf (single-file held name CIRCUIT_LIMIT) single-circuit_of

single-program : (c : CircuitData) (m : MachineData) (mode : Mode) → IsSingle (Compiled c m mode)
single-program c m mode = record { given = λ p q is also. is.is_chosen ∙ sym also.is_chosen; refused = refused; not_both = apart }
  where
    refused : (x y : Cause) → Compiled c m mode (Refuses x) → Compiled c m mode (Refuses y) → x ≡ y
    refused (Shortage q s) (Shortage r t) first second =
        let qubits : q ≡ r = first.of_circuit ∙ sym second.of_circuit in
        let slots : s ≡ t = first.of_machine ∙ sym second.of_machine in cc
    refused (Shortage q s) (TooLong d n k) first second = absurd (omega (arith, first.fewer, second.1))
    refused (TooLong d n k) (Shortage q s) first second = absurd (omega (arith, second.fewer, first.1))
    refused (TooLong d n k) (TooLong e o l) (items, fits, first) (also, fit, second) =
        let same = one_too_long c m mode d e k l first second in
        let count : n ≡ o = items ∙ sym also in
        let done = same.0 in
        let ops = same.1 in cc
    refused (Shortage q s) y first second = absurd second
    refused (TooLong d n k) y first second = absurd second
    refused x y first second = absurd first

    apart : (p : ProgramData) (x : Cause) → Compiled c m mode (Gives p) → Compiled c m mode (Refuses x) → ⊥
    apart p (Shortage q s) first second = omega (arith, first.fits, second.fewer)
    apart p (TooLong d n k) first (items, fits, second) =
        let room : chosen_long c m mode d ≤ 4194304 - worst_of m = first.room d second.before_an_item in
        let past : 4194304 - worst_of m < k = second.too_many in
        let is : chosen_long c m mode d ≡ k = second.operations in omega arith
    apart p x first second = second

single-raw_of : (text : List ℕ) → IsSingle (RawOf text)
single-raw_of text = record { given = λ a b is also. program_texts.one_raw text a b is also; refused = refused; not_both = apart }
  where
    refused : (c d : Cause) → RawOf text (Refuses c) → RawOf text (Refuses d) → c ≡ d
    refused (Asm a k) (Asm b l) first second =
        let same = program_texts.one_refusal text (lines.refused a k) (lines.refused b l) first second in
        let line : a ≡ b = ap (λ (r : lines.Refusal). r.line) same in
        let kind : k ≡ l = ap (λ (r : lines.Refusal). r.kind) same in cc
    refused (Asm a k) d first second = absurd second
    refused c d first second = absurd first

    apart : (raw : RawData) (c : Cause) → RawOf text (Gives raw) → RawOf text (Refuses c) → ⊥
    apart raw (Asm a k) first second = program_texts.not_both text raw (lines.refused a k) first second
    apart raw c first second = second

single-loaded_on : (m : MachineData) (raw : RawData) → IsSingle (LoadedOn m raw)
single-loaded_on m raw = record { given = λ p q is also. is.1 ∙ sym also.1; refused = refused; not_both = apart }
  where
    refused : (c d : Cause) → LoadedOn m raw (Refuses c) → LoadedOn m raw (Refuses d) → c ≡ d
    refused (Load f) (Load g) first second = ap Load (same_Some f g (sym first ∙ second))
    refused (Load f) d first second = absurd second
    refused c d first second = absurd first

    apart : (p : ProgramData) (c : Cause) → LoadedOn m raw (Gives p) → LoadedOn m raw (Refuses c) → ⊥
    apart p (Load f) first second = let none = first.0 in let some : load_refusal m raw ≡ Some f = second in cc
    apart p c first second = second

single-program_in : (held : Holding) (m : MachineData) (name : List ℕ) → IsSingle (ProgramIn (Some held) m name)
single-program_in held m name =
    single-then (RawIn (Some held) name) (LoadedOn m)
    (single-then (FileIn (Some held) name PROGRAM_LIMIT) RawOf (single-file held name PROGRAM_LIMIT) single-raw_of) (single-loaded_on m)

single-same : (c : CircuitData) (p : ProgramData) → IsSingle (SameAs c p)
single-same c p = record { given = λ u v is also. refl; refused = refused; not_both = apart }
  where
    refused : (x y : Cause) → SameAs c p (Refuses x) → SameAs c p (Refuses y) → x ≡ y
    refused (NotSame v) (NotSame w) first second = ap NotSame (one_at_most c p v w first.0 second.0)
    refused (NotSame v) y first second = absurd second
    refused x y first second = absurd first

    apart : (u : Unit {0}) (x : Cause) → SameAs c p (Gives u) → SameAs c p (Refuses x) → ⊥
    apart u (NotSame v) first second = second.1 (one_at_most c p v Same second.0 first)
    apart u x first second = second

single-loaded : (held : Holding) (machine : AskedMachine) (program : List ℕ) → IsSingle (LoadedIn (Some held) machine program)
single-loaded held machine program = single-then _ _ (single-machine held machine) (λ m. single-program_in held m program)

single-checked : (held : Holding) (machine : AskedMachine) (circuit program : List ℕ) → IsSingle (CheckedIn (Some held) machine circuit program)
single-checked held machine circuit program =
    single-then _ _ (single-machine held machine) (λ m.
    single-then _ _ (single-circuit held circuit) (λ c.
    single-then _ _ (single-program_in held m program) (λ p.
    single-then _ _ (single-same c p) (λ passed. single-just _))))

pub single-compiled : (held : Holding) (machine : AskedMachine) (circuit : List ℕ) (mode : Mode) → IsSingle (CompiledIn (Some held) machine circuit mode)
single-compiled held machine circuit mode =
    single-then _ _ (single-machine held machine) (λ m.
    single-then _ _ (single-circuit held circuit) (λ c. single-program c m mode))

single-rehearsed : (held : Holding) (machine : AskedMachine) (number qubits items : ℕ) → IsSingle (RehearsedIn (Some held) machine number qubits items)
single-rehearsed held machine number qubits items =
    single-then _ _ (single-machine held machine) (λ m. single-program (generated number qubits items) m IonSwap)

-- a command has one answer
single-text : (held : Holding) (asked : Asked) → IsSingle (TextOf (Some held) asked)
single-text held (AskedRun machine circuit workers mode) = single-then _ _ (single-compiled held machine circuit mode) (λ p. single-just _)
single-text held (AskedCompile machine circuit mode) = single-then _ _ (single-compiled held machine circuit mode) (λ p. single-just _)
single-text held (AskedExec machine program workers) = single-then _ _ (single-loaded held machine program) (λ p. single-just _)
single-text held (AskedCheck machine circuit program) = single-then _ _ (single-checked held machine circuit program) (λ p. single-just _)
single-text held (AskedRehearse number qubits items machine workers) = single-then _ _ (single-rehearsed held machine number qubits items) (λ p. single-just _)
single-text held (AskedTidy machine program) = single-then _ _ (single-loaded held machine program) (λ p. single-just _)

-- so have words
pub single-written : (held : Holding) (words : List (List ℕ)) → IsSingle (TextFor (Some held) words)
single-written held words = single-then (WordsOf words) (TextOf (Some held)) (single-words words) (single-text held)
