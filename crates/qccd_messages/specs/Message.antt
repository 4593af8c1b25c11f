-- What is told where a command is refused.
use Rattle.std.specs.Prelude.{ℕ, List, [], ◌∷◌, codes, decimal}
use Rattle.std.specs.List.{concat}
use Rattle.machine_text.specs.FaultText.{text_fault_text}
use Rattle.qasm_reader.specs.Kind.{kind_text}
use Rattle.op_text.specs.KindText.{asm_kind_text}
use Rattle.loader.specs.FaultText.{load_fault_text}
use Rattle.meaning_check.specs.VerdictText.{verdict_text}
use Rattle.qccd_messages.specs.Cause.{Cause, Words, Read, Write, TooLarge, Machine, Circuit, Shortage, TooLong, Asm, Load, NotSame, NoMemory}

-- the forms that the words may have
abbrev pub usage : List ℕ
usage = concat (
    codes "usage: qccd run MACHINE CIRCUIT [--workers N] [--swap ion|gate]\n"
    ∷ codes "       qccd compile MACHINE CIRCUIT [--swap ion|gate]\n"
    ∷ codes "       qccd exec MACHINE PROGRAM [--workers N]\n"
    ∷ codes "       qccd check MACHINE CIRCUIT PROGRAM\n"
    ∷ codes "       qccd rehearse NUMBER QUBITS ITEMS MACHINE [--workers N]\n"
    ∷ codes "       qccd tidy MACHINE PROGRAM\n"
    ∷ [])

abbrev pub message_of : Cause → List ℕ
message_of Words = usage
message_of (Read name) = concat (codes "qccd: cannot read " ∷ name ∷ codes "\n" ∷ [])
message_of Write = codes "qccd: cannot write\n"
message_of (TooLarge name limit) =
    concat (codes "qccd: " ∷ name ∷ codes " has more than " ∷ decimal limit ∷ codes " bytes\n" ∷ [])
message_of (Machine fault) = concat (codes "qccd: machine: " ∷ text_fault_text fault ∷ codes "\n" ∷ [])
message_of (Circuit at kind) =
    concat (codes "qccd: circuit: byte " ∷ decimal at ∷ codes ": " ∷ kind_text kind ∷ codes "\n" ∷ [])
message_of (Shortage qubits slots) =
    concat (codes "qccd: " ∷ decimal qubits ∷ codes " qubits, " ∷ decimal slots ∷ codes " slots\n" ∷ [])
message_of (TooLong done items ops) =
    concat (codes "qccd: too long: " ∷ decimal done ∷ codes " of " ∷ decimal items ∷ codes " items took "
    ∷ decimal ops ∷ codes " operations, the limit is 4194304\n" ∷ [])
message_of (Asm line kind) =
    concat (codes "qccd: program: line " ∷ decimal line ∷ codes ": " ∷ asm_kind_text kind ∷ codes "\n" ∷ [])
message_of (Load fault) = concat (codes "qccd: program: " ∷ load_fault_text fault ∷ codes "\n" ∷ [])
message_of (NotSame verdict) = concat (codes "qccd: not the same: " ∷ verdict_text verdict ∷ codes "\n" ∷ [])
message_of NoMemory = codes "qccd: no memory\n"
