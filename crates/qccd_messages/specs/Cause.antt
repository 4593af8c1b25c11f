-- Why a command is refused, in plain numbers and texts.
use Rattle.std.specs.Prelude.{ℕ, List}
use Rattle.machine_text.specs.declared.fault.TextFault.{TextFault}
use Rattle.qasm_reader.specs.declared.fault.QasmKind.{QasmKind}
use Rattle.op_text.specs.declared.kind.AsmKind.{AsmKind}
use Rattle.loader.specs.declared.faults.LoadFault.{LoadFault}
use Rattle.meaning_check.specs.declared.verdict.Verdict.{Verdict}
use Rattle.qccd_messages.specs.declared.refusal.Refusal.{Refusal}
use Rattle.qccd_messages.specs.declared.refusal.Refusal.TheVariants as refusal

-- the causes, in the order of their statuses
pub data Cause : Type 0 where
  Words : Cause
  Read : (name : List ℕ) → Cause
  Write : Cause
  TooLarge : (name : List ℕ) (limit : ℕ) → Cause
  Machine : (fault : TextFault) → Cause
  Circuit : (at : ℕ) (kind : QasmKind) → Cause
  Shortage : (qubits slots : ℕ) → Cause
  TooLong : (done items ops : ℕ) → Cause
  Asm : (line : ℕ) (kind : AsmKind) → Cause
  Load : (fault : LoadFault) → Cause
  NotSame : (verdict : Verdict) → Cause
  NoMemory : Cause

-- the cause of a refusal of the code
abbrev pub cause_of : Refusal → Cause
cause_of refusal.Words = Words
cause_of (refusal.Read name) = Read name.now
cause_of refusal.Write = Write
cause_of (refusal.TooLarge name limit) = TooLarge name.now limit
cause_of (refusal.Machine fault) = Machine fault
cause_of (refusal.Circuit at kind) = Circuit at kind
cause_of (refusal.Shortage qubits slots) = Shortage qubits slots
cause_of (refusal.TooLong done items ops) = TooLong done items ops
cause_of (refusal.Asm line kind) = Asm line kind
cause_of (refusal.Load fault) = Load fault
cause_of (refusal.NotSame verdict) = NotSame verdict
cause_of refusal.NoMemory = NoMemory

-- the status with which the program ends
abbrev pub status_of : Cause → ℕ
status_of Words = 2
status_of (Read name) = 3
status_of Write = 4
status_of (TooLarge name limit) = 5
status_of (Machine fault) = 6
status_of (Circuit at kind) = 7
status_of (Shortage qubits slots) = 8
status_of (TooLong done items ops) = 9
status_of (Asm line kind) = 10
status_of (Load fault) = 10
status_of (NotSame verdict) = 11
status_of NoMemory = 12
