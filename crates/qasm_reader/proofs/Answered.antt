-- What holds of every text, for the crates above.
use Rattle.std.proofs.Common.{◌≡◌, ℕ, ◌⊎◌, List}
use Rattle.qccd_circuit.specs.Circuit.{CircuitData, IsCircuit}
use Rattle.qasm_lex.proofs.AnswerLemmas as lexer
use Rattle.qasm_reader.specs.declared.fault.QasmKind.{QasmKind}
use Rattle.qasm_reader.specs.Reading.{IsCircuitOf, IsRefusedAt}
use Rattle.qasm_reader.proofs.OneAnswer as answer
use Rattle.qasm_reader.proofs.Rule as rule

-- each text is that of a circuit, or it is refused
pub every_text : (text : List ℕ) → ((c : CircuitData) × IsCircuitOf text c) ⊎ ((at : ℕ) × (kind : QasmKind) × IsRefusedAt text at kind)
every_text = answer.every_text lexer.tokens_or_fault

-- of one circuit at most
pub one_circuit : (text : List ℕ) (c d : CircuitData) → IsCircuitOf text c → IsCircuitOf text d → c ≡ d
one_circuit = answer.one_circuit lexer.tokens-unique

-- refused in one way at most
pub one_refusal : (text : List ℕ) (at other : ℕ) (kind another : QasmKind) → IsRefusedAt text at kind → IsRefusedAt text other another → (at ≡ other) × (kind ≡ another)
one_refusal = answer.one_refusal lexer.tokens-unique (answer.not_stuck lexer.not_both) (answer.one_stuck lexer.fault-unique)

-- never both
pub not_both : (text : List ℕ) (c : CircuitData) (at : ℕ) (kind : QasmKind) → IsCircuitOf text c → IsRefusedAt text at kind → ⊥
not_both = answer.no_both lexer.tokens-unique (answer.not_stuck lexer.not_both)

-- a circuit that keeps the rule of circuits
pub keeps_the_rule : (text : List ℕ) (c : CircuitData) → IsCircuitOf text c → IsCircuit c
keeps_the_rule text c = rule.circuit_sound text c (lexer.tokens_each text)
