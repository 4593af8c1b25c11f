-- What is wrong with a text, in words.
use Rattle.std.specs.Prelude.{ℕ, List, codes}
use Rattle.qasm_reader.specs.declared.fault.Many.{Many}
use Rattle.qasm_reader.specs.declared.fault.Many.TheVariants.{Qubits, Bits, Items, AngleBytes}
use Rattle.qasm_reader.specs.declared.fault.QasmKind.{QasmKind}
use Rattle.qasm_reader.specs.declared.fault.QasmKind.TheVariants.{Header, Token, Syntax, UnknownInclude, DuplicateName, UnknownName, WrongKind, IndexOut, SizeMismatch, SameQubit, AngleCount, OperandCount, EmptyRegister, TooMany, NotBuilt}

abbrev pub many_text : Many → List ℕ
many_text Qubits = codes "too many qubits"
many_text Bits = codes "too many bits"
many_text Items = codes "too many items"
many_text AngleBytes = codes "angle too long"

abbrev pub kind_text : QasmKind → List ℕ
kind_text Header = codes "header"
kind_text Token = codes "token"
kind_text Syntax = codes "syntax"
kind_text UnknownInclude = codes "unknown include"
kind_text DuplicateName = codes "name already used"
kind_text UnknownName = codes "unknown name"
kind_text WrongKind = codes "wrong kind of register"
kind_text IndexOut = codes "index out of range"
kind_text SizeMismatch = codes "sizes differ"
kind_text SameQubit = codes "qubit used twice"
kind_text AngleCount = codes "wrong number of angles"
kind_text OperandCount = codes "wrong number of operands"
kind_text EmptyRegister = codes "empty register"
kind_text (TooMany what limit) = many_text what
kind_text NotBuilt = codes "not built"
