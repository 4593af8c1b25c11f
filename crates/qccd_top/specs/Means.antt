-- What each command writes, or for what it is refused.
use Rattle.std.specs.Prelude.{ℕ, List, Option, Some, None, IfSome, codes}
use Rattle.qccd_base.specs.declared.names.Mode.{Mode}
use Rattle.qccd_base.specs.declared.names.Mode.TheVariants.{IonSwap}
use Rattle.qccd_io.specs.Shelf.{Holding}
use Rattle.qccd_circuit.specs.Circuit.{CircuitData}
use Rattle.qccd_program.specs.Program.{ProgramData}
use Rattle.rehearsal.specs.Generated.{generated}
use Rattle.tracer.specs.Report.{report_text}
use Rattle.tracer.specs.Summary.{summary_text}
use Rattle.transport_asm.specs.ProgramText.{program_text}
use Rattle.passes.specs.Tidy.{tidied}
use Rattle.qccd_words.specs.Words.{AskedMachine, Asked, AskedRun, AskedCompile, AskedExec, AskedCheck, AskedRehearse, AskedTidy}
use Rattle.qccd_top.specs.Stage.{Stage, Gives, ◌>>=◌, Just}
use Rattle.qccd_top.specs.Stages.{WordsOf, MachineIn, CircuitIn, Compiled, ProgramIn, SameAs}

-- the program of the circuit in the file of this name, for the machine that the word names
abbrev pub CompiledIn : Option Holding → AskedMachine → List ℕ → Mode → Stage ProgramData
CompiledIn told machine circuit mode = do
  m ← MachineIn told machine
  c ← CircuitIn told circuit
  Compiled c m mode

-- the program in the file of this name, on the machine that the word names
abbrev pub LoadedIn : Option Holding → AskedMachine → List ℕ → Stage ProgramData
LoadedIn told machine program = do
  m ← MachineIn told machine
  ProgramIn told m program

-- the program in one file, where it is the same as the circuit in the other
abbrev pub CheckedIn : Option Holding → AskedMachine → (circuit program : List ℕ) → Stage ProgramData
CheckedIn told machine circuit program = do
  m ← MachineIn told machine
  c ← CircuitIn told circuit
  p ← ProgramIn told m program
  passed ← SameAs c p
  Just p

-- the program of a circuit that is generated, for the machine that the word names
abbrev pub RehearsedIn : Option Holding → AskedMachine → (number qubits items : ℕ) → Stage ProgramData
RehearsedIn told machine number qubits items = do
  m ← MachineIn told machine
  Compiled (generated number qubits items) m IonSwap

-- the text that a command writes
abbrev pub TextOf : Option Holding → Asked → Stage (List ℕ)
TextOf told (AskedRun machine circuit workers mode) = do
  p ← CompiledIn told machine circuit mode
  Just (report_text p)
TextOf told (AskedCompile machine circuit mode) = do
  p ← CompiledIn told machine circuit mode
  Just (program_text p)
TextOf told (AskedExec machine program workers) = do
  p ← LoadedIn told machine program
  Just (report_text p)
TextOf told (AskedCheck machine circuit program) = do
  p ← CheckedIn told machine circuit program
  Just (codes "same\n")
TextOf told (AskedRehearse number qubits items machine workers) = do
  p ← RehearsedIn told machine number qubits items
  Just (summary_text p number items)
TextOf told (AskedTidy machine program) = do
  p ← LoadedIn told machine program
  Just (program_text (tidied p))

-- what is written for these words
abbrev pub TextFor : Option Holding → List (List ℕ) → Stage (List ℕ)
TextFor told words = WordsOf words >>= TextOf told

-- ---- what is named in what is asked for

-- the word for the machine
abbrev pub word_of : Asked → AskedMachine
word_of (AskedRun machine circuit workers mode) = machine
word_of (AskedCompile machine circuit mode) = machine
word_of (AskedExec machine program workers) = machine
word_of (AskedCheck machine circuit program) = machine
word_of (AskedRehearse number qubits items machine workers) = machine
word_of (AskedTidy machine program) = machine

-- the file of the circuit, where there is one
abbrev pub circuit_file : Asked → Option (List ℕ)
circuit_file (AskedRun machine circuit workers mode) = Some circuit
circuit_file (AskedCompile machine circuit mode) = Some circuit
circuit_file (AskedExec machine program workers) = None
circuit_file (AskedCheck machine circuit program) = Some circuit
circuit_file (AskedRehearse number qubits items machine workers) = None
circuit_file (AskedTidy machine program) = None

-- the file of the program, where there is one
abbrev pub program_file : Asked → Option (List ℕ)
program_file (AskedRun machine circuit workers mode) = None
program_file (AskedCompile machine circuit mode) = None
program_file (AskedExec machine program workers) = Some program
program_file (AskedCheck machine circuit program) = Some program
program_file (AskedRehearse number qubits items machine workers) = None
program_file (AskedTidy machine program) = Some program

-- in which mode the circuit of the file is compiled, where it is
abbrev pub compiling_mode : Asked → Option Mode
compiling_mode (AskedRun machine circuit workers mode) = Some mode
compiling_mode (AskedCompile machine circuit mode) = Some mode
compiling_mode (AskedExec machine program workers) = None
compiling_mode (AskedCheck machine circuit program) = None
compiling_mode (AskedRehearse number qubits items machine workers) = None
compiling_mode (AskedTidy machine program) = None

-- where a circuit's file is named, it holds a circuit
abbrev pub HoldsCircuit : Holding → Asked → Type 0
HoldsCircuit held asked = IfSome (circuit_file asked) (λ name. (c : CircuitData) × CircuitIn (Some held) name (Gives c))
