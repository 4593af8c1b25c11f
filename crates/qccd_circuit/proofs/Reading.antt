-- What an item's condition reads, among its operands and its bits.
use Rattle.std.proofs.Common.{◌≡◌, refl, ◌∙◌, ap, subst, ℕ, ◌+◌, ◌-◌, ◌*◌, ◌<◌, ◌≤◌, List, length, map, get_or, arith}
use Rattle.std.specs.List.{All}
use Rattle.std.proofs.lemmas.List.{length-append, length-map, get_or_append_left, get_or-append-add, get_or-append_right, get_or-map}
use Rattle.std.proofs.lemmas.List.Elements.{All-append}
use Rattle.qccd_base.specs.declared.names.Bit.{Bit}
use Rattle.qccd_base.specs.declared.names.Qubit.{Qubit}
use Rattle.qccd_circuit.specs.Item.{ItemData, bits_from, bits_of, cond_bits}
use Rattle.qccd_circuit.specs.Operands.{operands_of}
use Rattle.qccd_circuit.proofs.Ranges.{length-bits_from, get_or-bits_from}

-- the number of a qubit's operand, and that of a bit's
abbrev pub qubit_operand : Qubit → ℕ
qubit_operand q = 2 * q.0

abbrev pub bit_operand : Bit → ℕ
bit_operand b = 2 * b.0 + 1

-- an item has as many operands as its qubits, the bits that it writes and those that its condition reads
pub operand_count : (d : ItemData) (first n : ℕ) → cond_bits d.cond ≡ bits_from first n → length (operands_of d) ≡ length d.qubits + length d.bits + n
operand_count d first n read =
    let front = length-append (map qubit_operand d.qubits) (map bit_operand (bits_of d)) in
    let qubits = length-map d.qubits qubit_operand in
    let bits = length-map (bits_of d) bit_operand in
    let both = length-append d.bits (cond_bits d.cond) in
    omega (arith, front, qubits, bits, both, ap length read, length-bits_from first n)

-- behind the qubits and the bits that the item writes stand those that its condition reads
pub operand_read : (d : ItemData) (first n k : ℕ) → cond_bits d.cond ≡ bits_from first n → k < length (operands_of d) → length d.qubits ≤ k → length d.bits ≤ k - length d.qubits → get_or (operands_of d) k 0 ≡ 2 * (first + (k - length d.qubits - length d.bits)) + 1
operand_read d first n k read less past_qubits past_bits =
    let none : Bit = record { 0 = 0 } in
    let count = operand_count d first n read in
    let both = length-append d.bits (cond_bits d.cond) ∙ ap (λ l. length d.bits + l) (ap length read ∙ length-bits_from first n) in
    let behind_qubits = get_or-append_right (map qubit_operand d.qubits) (map bit_operand (bits_of d)) (length d.qubits) k 0
    (length-map d.qubits qubit_operand) past_qubits in
    let at_bit = get_or-map bit_operand (bits_of d) (k - length d.qubits) none 0 (omega (arith, count, both, less, past_qubits)) in
    let behind_bits = get_or-append_right d.bits (cond_bits d.cond) (length d.bits) (k - length d.qubits) none refl past_bits in
    let bit = ap (λ (bs : List Bit). (get_or bs (k - length d.qubits - length d.bits) none).0) read
    ∙ get_or-bits_from first n (k - length d.qubits - length d.bits) none (omega (arith, count, less, past_qubits, past_bits)) in
    behind_qubits ∙ at_bit ∙ ap (λ (b : Bit). 2 * b.0 + 1) behind_bits ∙ ap (λ (b : ℕ). 2 * b + 1) bit

-- the bits of an item are below a number where those that it writes and those that its condition reads are
pub all_below : (d : ItemData) (n : ℕ) → All (λ b. b.0 < n) d.bits → All (λ b. b.0 < n) (cond_bits d.cond) → All (λ b. b.0 < n) (bits_of d)
all_below d n = All-append (λ (b : Bit). b.0 < n) d.bits (cond_bits d.cond)

pub written_below : (d : ItemData) (n : ℕ) → All (λ b. b.0 < n) (bits_of d) → All (λ b. b.0 < n) d.bits
written_below d n all k b less =
    subst (λ (x : Bit). x.0 < n) (get_or_append_left d.bits (cond_bits d.cond) b k less)
    (all k b (omega (arith, length-append d.bits (cond_bits d.cond), less)))

pub read_below : (d : ItemData) (n : ℕ) → All (λ b. b.0 < n) (bits_of d) → All (λ b. b.0 < n) (cond_bits d.cond)
read_below d n all k b less =
    subst (λ (x : Bit). x.0 < n) (get_or-append-add d.bits (cond_bits d.cond) k b)
    (all (length d.bits + k) b (omega (arith, length-append d.bits (cond_bits d.cond), less)))
