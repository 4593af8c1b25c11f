-- What the headline says of the program whose report is written, and what other commands say of theirs.
use Rattle.std.specs.Prelude.{◌≡◌, ℕ, ◌≤◌, List, Option, Some, codes}
use Rattle.qccd_base.specs.declared.names.Mode.{Mode}
use Rattle.qccd_base.specs.declared.names.Mode.TheVariants.{IonSwap}
use Rattle.qccd_io.specs.Fetch.{HoldsFile}
use Rattle.qccd_io.specs.Shelf.{Holding}
use Rattle.qccd_io.specs.Sink.{appended, TookPrefix}
use Rattle.qccd_circuit.specs.Circuit.{CircuitData, IsCircuit}
use Rattle.qccd_machine.specs.Machine.{MachineData, IsValid, slots_of}
use Rattle.op_table.specs.Run.{IsRun}
use Rattle.qccd_program.specs.Legal.{IsLegalProgram}
use Rattle.qccd_program.specs.Program.{ProgramData, opening_of}
use Rattle.qccd_program.specs.Implements.{Implements, KeepsBounds, MeetsOperands}
use Rattle.compiler.specs.Chosen.{chosen}
use Rattle.rehearsal.specs.Generated.{generated}
use Rattle.transport_asm.specs.ProgramText.{program_text}
use Rattle.passes.specs.Tidy.{tidied}
use Rattle.tracer.specs.Report.{report_text}
use Rattle.tracer.specs.Summary.{summary_text}
use Rattle.tracer.specs.TimeOrder.{listed_ops, KeepsBoundsListed}
use Rattle.qccd_words.specs.Words.{AskedMachine, AskedRun, AskedCompile, AskedExec, AskedCheck, AskedRehearse, AskedTidy, request_of}
use Rattle.qccd_top.specs.Stage.{Gives}
use Rattle.qccd_top.specs.Stages.{MachineIn, CircuitIn}
use Rattle.qccd_top.specs.Call.{Call, WriteFailed}

-- ---- what the words ask for

-- the words ask for a run
pub record AsksRun (words : List (List ℕ)) : Type 0 where
  pub word : AskedMachine
  pub name : List ℕ
  pub workers : ℕ
  pub mode : Mode
  pub asked : request_of words ≡ Some (AskedRun word name workers mode)

-- the words ask for a program's text
pub record AsksCompile (words : List (List ℕ)) : Type 0 where
  pub word : AskedMachine
  pub name : List ℕ
  pub mode : Mode
  pub asked : request_of words ≡ Some (AskedCompile word name mode)

-- the words ask for the run of the program in a file
pub record AsksExec (words : List (List ℕ)) : Type 0 where
  pub word : AskedMachine
  pub name : List ℕ
  pub workers : ℕ
  pub asked : request_of words ≡ Some (AskedExec word name workers)

-- the words ask for the comparison of the program in a file with the circuit in another
pub record AsksCheck (words : List (List ℕ)) : Type 0 where
  pub word : AskedMachine
  pub name : List ℕ
  pub program_name : List ℕ
  pub asked : request_of words ≡ Some (AskedCheck word name program_name)

-- the words ask for a rehearsal
pub record AsksRehearsal (words : List (List ℕ)) : Type 0 where
  pub number : ℕ
  pub qubits : ℕ
  pub items : ℕ
  pub word : AskedMachine
  pub workers : ℕ
  pub asked : request_of words ≡ Some (AskedRehearse number qubits items word workers)

-- the words ask for the text of the program in a file without operations that undo each other
pub record AsksTidy (words : List (List ℕ)) : Type 0 where
  pub word : AskedMachine
  pub name : List ℕ
  pub asked : request_of words ≡ Some (AskedTidy word name)

-- ---- what a program does

-- The program runs well on its machine: every place keeps its bound in every state of its run, in program order and
-- in the listed order, which is a run as well; and each gate meets exactly its operands' ions in one trap.
pub record RunsWell (machine : MachineData) (program : ProgramData) : Type 0 where
  pub valid : IsValid machine
  pub on : program.machine ≡ machine
  pub legal : IsLegalProgram program
  pub bounds : KeepsBounds program
  pub listed_run : IsRun machine (opening_of program) (listed_ops program)
  pub listed_bounds : KeepsBoundsListed program
  pub operands : MeetsOperands program

-- the program does the circuit on the machine: it implements it, and it runs well
pub record DoesCircuit (machine : MachineData) (circuit : CircuitData) (program : ProgramData) : Type 0 where
  pub whole : IsCircuit circuit
  pub implements : Implements program circuit machine
  pub runs_well : RunsWell machine program

-- ---- the program that is meant

-- the word names this machine and the file holds this circuit, within its slots, and this is the program of it
pub record IsMeant (told : Option Holding) (word : AskedMachine) (name : List ℕ) (mode : Mode) (machine : MachineData) (circuit : CircuitData) (program : ProgramData) : Type 0 where
  pub machine_in : MachineIn told word (Gives machine)
  pub circuit_in : CircuitIn told name (Gives circuit)
  pub slots : circuit.qubits ≤ slots_of machine
  pub chosen : program ≡ chosen circuit machine mode

-- the program is the one meant, and does the circuit
pub record IsMeantProgram (told : Option Holding) (word : AskedMachine) (name : List ℕ) (mode : Mode) (program : ProgramData) : Type 0 where
  pub machine : MachineData
  pub circuit : CircuitData
  pub meant : IsMeant told word name mode machine circuit program
  pub does_circuit : DoesCircuit machine circuit program

-- the file's bytes are the program's text, and the program is for this machine
pub record HoldsText (told : Option Holding) (name : List ℕ) (machine : MachineData) (program : ProgramData) : Type 0 where
  pub held : HoldsFile told name (program_text program)
  pub on : program.machine ≡ machine

-- the word names a machine, the file's bytes are the text of this program for it, and the program runs well
pub record IsLoaded (told : Option Holding) (word : AskedMachine) (name : List ℕ) (program : ProgramData) : Type 0 where
  pub machine : MachineData
  pub machine_in : MachineIn told word (Gives machine)
  pub held : HoldsText told name machine program
  pub runs_well : RunsWell machine program

-- the one file's bytes are the text of this program for the machine, which does the circuit that the other file holds
pub record IsChecked (told : Option Holding) (word : AskedMachine) (name program_name : List ℕ) (program : ProgramData) : Type 0 where
  pub machine : MachineData
  pub circuit : CircuitData
  pub machine_in : MachineIn told word (Gives machine)
  pub circuit_in : CircuitIn told name (Gives circuit)
  pub held : HoldsText told program_name machine program
  pub does_circuit : DoesCircuit machine circuit program

-- ---- what was written

-- the report of the program meant was taken whole
pub record IsReported (call : Call) (asks : AsksRun call.words) : Type 0 where
  pub program : ProgramData
  pub is_meant_program : IsMeantProgram call.told asks.word asks.name asks.mode program
  pub written : call.out.new ≡ appended call.out.old (report_text program)

-- a prefix of that report was taken, and the count of faults of `out` rose
pub record IsCutReport (call : Call) (asks : AsksRun call.words) : Type 0 where
  pub program : ProgramData
  pub is_meant_program : IsMeantProgram call.told asks.word asks.name asks.mode program
  pub prefix : TookPrefix call.out.old call.out.new (report_text program)
  pub rose : WriteFailed call.out

-- the text of the program meant was taken whole
pub record IsProgramWritten (call : Call) (asks : AsksCompile call.words) : Type 0 where
  pub program : ProgramData
  pub is_meant_program : IsMeantProgram call.told asks.word asks.name asks.mode program
  pub written : call.out.new ≡ appended call.out.old (program_text program)

-- the report of the program in the file was taken whole
pub record IsExecuted (call : Call) (asks : AsksExec call.words) : Type 0 where
  pub program : ProgramData
  pub is_loaded : IsLoaded call.told asks.word asks.name program
  pub written : call.out.new ≡ appended call.out.old (report_text program)

-- that the program in the file is the same as the circuit was taken
pub record IsSameTold (call : Call) (asks : AsksCheck call.words) : Type 0 where
  pub program : ProgramData
  pub is_checked : IsChecked call.told asks.word asks.name asks.program_name program
  pub written : call.out.new ≡ appended call.out.old (codes "same\n")

-- the words ask for a rehearsal on this machine, within its slots, and this is the program of the circuit that is
-- generated, which does it
pub record IsRehearsalOf (call : Call) (machine : MachineData) (program : ProgramData) (asks : AsksRehearsal call.words) : Type 0 where
  pub machine_in : MachineIn call.told asks.word (Gives machine)
  pub slots : asks.qubits ≤ slots_of machine
  pub chosen : program ≡ chosen (generated asks.number asks.qubits asks.items) machine IonSwap
  pub does_circuit : DoesCircuit machine (generated asks.number asks.qubits asks.items) program

-- the summary of that program was taken whole
pub record IsSummarized (call : Call) (asks : AsksRehearsal call.words) : Type 0 where
  pub machine : MachineData
  pub program : ProgramData
  pub is_rehearsal : IsRehearsalOf call machine program asks
  pub written : call.out.new ≡ appended call.out.old (summary_text program asks.number asks.items)

-- the text of the program in the file, without the operations that undo each other, was taken whole
pub record IsTidyWritten (call : Call) (asks : AsksTidy call.words) : Type 0 where
  pub program : ProgramData
  pub is_loaded : IsLoaded call.told asks.word asks.name program
  pub written : call.out.new ≡ appended call.out.old (program_text (tidied program))
