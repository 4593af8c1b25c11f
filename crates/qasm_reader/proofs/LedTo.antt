-- What a call answers, by what it leads to.
use Rattle.std.proofs.Common.{◌≡◌, ◌⊎◌, inl, inr, ℕ, List, length, Result, Ok, Err, IfOk, IfErr, IsErrAnd, MatchResult, refl, sym, ap, ◌∙◌}
use Rattle.qasm_lex.specs.declared.tokens.Token.{Token}
use Rattle.qasm_lex.specs.Reading.{AreTokens}
use Rattle.qasm_reader.specs.declared.fault.QasmKind.{QasmKind}
use Rattle.qasm_reader.specs.declared.fault.QasmFault.{QasmFault}
use Rattle.qasm_reader.specs.declared.fault.QasmFault.TheVariants.{Refused, NoMemory}
use Rattle.qccd_circuit.specs.Circuit.{CircuitData}
use Rattle.qasm_reader.specs.Reading.{IsCircuitOf, IsRefusedAt, answer}
use Rattle.qasm_reader.specs.Code.{IsFaultOf, Leads, Tells, lexemes_left}
use Rattle.qasm_reader.proofs.Lexed.{circuit_lexed, lexed_all}
use Rattle.qasm_reader.proofs.OneAnswer.{circuit_from}

pub led_to_circuit : (text : List ℕ) (r : Result CircuitData QasmFault) → Leads (answer (length text) (lexemes_left text 0)) (λ c. Ok c) r → IfOk r (IsCircuitOf text)
led_to_circuit text (Ok c) leads =
    let lexed = circuit_lexed text c leads in
    circuit_from text lexed.ts c lexed.are (ap (answer (length text)) (sym (lexed_all text lexed.ts lexed.are)) ∙ leads)
led_to_circuit text (Err e) leads = tt

pub led_to_fault : (text : List ℕ) (ts : List Token) (e : QasmFault) → AreTokens text ts → Tells (answer (length text) (lexemes_left text 0)) e → IsFaultOf text e
led_to_fault text ts (Refused at kind) are told =
    inr (record { tokens = ts; are = are; reads_so = ap (answer (length text)) (sym (lexed_all text ts are)) ∙ told })
led_to_fault text ts NoMemory are told = tt

pub exact_circuit :
    ((text : List ℕ) (c d : CircuitData) → IsCircuitOf text c → IsCircuitOf text d → c ≡ d)
    → ((text : List ℕ) (c : CircuitData) (at : ℕ) (kind : QasmKind) → IsCircuitOf text c → IsRefusedAt text at kind → ⊥)
    → (text : List ℕ) (r : Result CircuitData QasmFault) → IfOk r (IsCircuitOf text) → IfErr r (IsFaultOf text) → (c : CircuitData) → IsCircuitOf text c
    → MatchResult r (λ found. found ≡ c) (λ e. e ≡ NoMemory)
exact_circuit one not_both text (Ok d) found fault c is_of = one text d c found is_of
exact_circuit one not_both text (Err (Refused at kind)) found fault c is_of = absurd (not_both text c at kind is_of fault)
exact_circuit one not_both text (Err NoMemory) found fault c is_of = refl

pub exact_refusal :
    ((text : List ℕ) (at other : ℕ) (kind another : QasmKind) → IsRefusedAt text at kind → IsRefusedAt text other another → (at ≡ other) × (kind ≡ another))
    → ((text : List ℕ) (c : CircuitData) (at : ℕ) (kind : QasmKind) → IsCircuitOf text c → IsRefusedAt text at kind → ⊥)
    → (text : List ℕ) (r : Result CircuitData QasmFault) → IfOk r (IsCircuitOf text) → IfErr r (IsFaultOf text) → (at : ℕ) (kind : QasmKind) → IsRefusedAt text at kind
    → IsErrAnd r (λ e. (e ≡ Refused at kind) ⊎ (e ≡ NoMemory))
exact_refusal one not_both text (Ok c) found fault at kind refusal = absurd (not_both text c at kind found refusal)
exact_refusal one not_both text (Err (Refused other another)) found fault at kind refusal =
    let same = one text other at another kind fault refusal in inl (λ i. Refused (same.0 i) (same.1 i))
exact_refusal one not_both text (Err NoMemory) found fault at kind refusal = inr refl
