-- The stages of which commands are made.
use Rattle.std.specs.Prelude.{◌≡◌, ◌≢◌, ℕ, ◌≤◌, List, length, Option, Some, None}
use Rattle.qccd_base.specs.declared.names.Mode.{Mode}
use Rattle.qccd_io.specs.Shelf.{Holding, Lacks}
use Rattle.qccd_io.specs.Fetch.{HoldsFile, HoldsMoreThan}
use Rattle.qccd_circuit.specs.Circuit.{CircuitData}
use Rattle.qccd_machine.specs.Machine.{MachineData, slots_of}
use Rattle.qccd_machine.specs.Preset.{preset_of}
use Rattle.machine_text.specs.Machine.{IsMachineOf, IsRefusalOf}
use Rattle.qasm_reader.specs.Reading.{IsCircuitOf, IsRefusedAt}
use Rattle.qccd_program.specs.Program.{ProgramData}
use Rattle.compiler.specs.Chosen.{IsTooLong}
use Rattle.compiler.specs.Compiled.{IsProgramFor, IsShortage}
use Rattle.transport_asm.specs.Lines.{refused}
use Rattle.transport_asm.specs.Texts as texts
use Rattle.loader.specs.Refusal.{on_machine, load_refusal}
use Rattle.meaning_check.specs.Verdict.{IsVerdict}
use Rattle.meaning_check.specs.declared.verdict.Verdict.TheVariants.{Same}
use Rattle.qccd_words.specs.Words.{AskedMachine, OfPreset, OfFile, Asked, request_of}
use Rattle.qccd_messages.specs.Cause.{Words, Read, TooLarge, Machine, Circuit, Shortage, TooLong, Asm, Load, NotSame}
use Rattle.qccd_top.specs.declared.limits.TheConstants.{CIRCUIT_LIMIT, MACHINE_LIMIT, PROGRAM_LIMIT}
use Rattle.qccd_top.specs.Stage.{Gives, Refuses, Fetches, Stage, ◌>>=◌, Just}

-- what the words ask for
abbrev pub WordsOf : List (List ℕ) → Stage Asked
WordsOf words (Gives asked) = request_of words ≡ Some asked
WordsOf words (Refuses Words) = request_of words ≡ None
WordsOf words (Refuses cause) = ⊥
WordsOf words (Fetches name) = ⊥

-- the bytes of the file of this name, of which there are at most `limit`
abbrev pub FileIn : Option Holding → List ℕ → ℕ → Stage (List ℕ)
FileIn told name limit (Gives text) = HoldsFile told name text × (length text ≤ limit)
FileIn told name limit (Refuses (Read n)) = (n ≡ name) × Lacks told name
FileIn told name limit (Refuses (TooLarge n most)) = (n ≡ name) × (most ≡ limit) × HoldsMoreThan told name limit
FileIn told name limit (Refuses cause) = ⊥
FileIn told name limit (Fetches n) = n ≡ name

-- the machine of a text
abbrev pub MachineOf : List ℕ → Stage MachineData
MachineOf text (Gives m) = IsMachineOf text m
MachineOf text (Refuses (Machine fault)) = IsRefusalOf text fault
MachineOf text (Refuses cause) = ⊥
MachineOf text (Fetches name) = ⊥

-- the machine that a word names
abbrev pub MachineIn : Option Holding → AskedMachine → Stage MachineData
MachineIn told (OfPreset which capacity) = Just (preset_of which capacity)
MachineIn told (OfFile name) = FileIn told name MACHINE_LIMIT >>= MachineOf

-- the circuit of a text
abbrev pub CircuitOf : List ℕ → Stage CircuitData
CircuitOf text (Gives c) = IsCircuitOf text c
CircuitOf text (Refuses (Circuit at kind)) = IsRefusedAt text at kind
CircuitOf text (Refuses cause) = ⊥
CircuitOf text (Fetches name) = ⊥

-- the circuit in the file of this name
abbrev pub CircuitIn : Option Holding → List ℕ → Stage CircuitData
CircuitIn told name = FileIn told name CIRCUIT_LIMIT >>= CircuitOf

-- the program of the circuit on the machine: refused where the machine takes fewer qubits, and where the program
-- might grow past its limit with the next item
abbrev pub Compiled : CircuitData → MachineData → Mode → Stage ProgramData
Compiled c m mode (Gives p) = IsProgramFor c m mode p
Compiled c m mode (Refuses (Shortage qubits slots)) = IsShortage c m qubits slots
Compiled c m mode (Refuses (TooLong done items ops)) = (items ≡ length c.items) × (c.qubits ≤ slots_of m) × IsTooLong c m mode done ops
Compiled c m mode (Refuses cause) = ⊥
Compiled c m mode (Fetches name) = ⊥

-- the raw program that a text spells
abbrev pub RawOf : List ℕ → Stage texts.RawData
RawOf text (Gives raw) = texts.Spells text raw
RawOf text (Refuses (Asm line kind)) = texts.IsRefusedAt text (refused line kind)
RawOf text (Refuses cause) = ⊥
RawOf text (Fetches name) = ⊥

-- the raw program in the file of this name
abbrev pub RawIn : Option Holding → List ℕ → Stage texts.RawData
RawIn told name = FileIn told name PROGRAM_LIMIT >>= RawOf

-- the raw program on the machine: refused where it is no program of it
abbrev pub LoadedOn : MachineData → texts.RawData → Stage ProgramData
LoadedOn m raw (Gives p) = (load_refusal m raw ≡ None) × (p ≡ on_machine m raw)
LoadedOn m raw (Refuses (Load fault)) = load_refusal m raw ≡ Some fault
LoadedOn m raw (Refuses cause) = ⊥
LoadedOn m raw (Fetches name) = ⊥

-- the program in the file of this name, on the machine
abbrev pub ProgramIn : Option Holding → MachineData → List ℕ → Stage ProgramData
ProgramIn told m name = RawIn told name >>= LoadedOn m

-- passed where the verdict is that the program is the same as the circuit, and refused with any other one
abbrev pub SameAs : CircuitData → ProgramData → Stage (Unit {0})
SameAs c p (Gives passed) = IsVerdict c p Same
SameAs c p (Refuses (NotSame verdict)) = IsVerdict c p verdict × (verdict ≢ Same)
SameAs c p (Refuses cause) = ⊥
SameAs c p (Fetches name) = ⊥
