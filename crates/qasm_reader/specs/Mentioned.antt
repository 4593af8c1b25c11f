-- How code keeps the qubits of a barrier, and not its operands.
use Rattle.std.specs.Prelude.{◌≡◌, ℕ, ◌+◌, ◌<◌, ◌≤◌, ◌==◌, Bool, true, false, List, [], length, map, flat_map, All, get_or}
use Rattle.std.specs.List.{list_any}
use Rattle.qccd_base.specs.declared.names.Qubit.{Qubit}
use Rattle.qasm_reader.specs.declared.kinds.Operand.{Operand}
use Rattle.qasm_reader.specs.declared.cursor.Cursor.{Cursor}
use Rattle.qasm_reader.specs.Known.{Known}
use Rattle.qasm_reader.specs.Operand.{cells, with_mentions}
use Rattle.qasm_reader.specs.Expected.{behind_operand, of_barrier, operand}
use Rattle.qasm_reader.specs.Sound.{LiesBelow}
use Rattle.qasm_reader.specs.Code.{answer_from}

abbrev pub numbers : List Qubit → List ℕ
numbers qubits = map (λ q. q.0) qubits

abbrev pub is_mentioned : ℕ → List ℕ → Bool
is_mentioned n ns = list_any (λ m. m == n) ns

-- the numbers of the list are marked, and no others
abbrev pub AreSeen : List Bool → List ℕ → Type 0
AreSeen marks ns = (n : ℕ) → n < 256 → get_or marks n false ≡ is_mentioned n ns

-- from each number on, so many are in the list
abbrev pub AreReached : List ℕ → List ℕ → Type 0
AreReached reach ns = (n i : ℕ) → n < 256 → i < get_or reach n 0 → is_mentioned (n + i) ns ≡ true

-- between the two places there are operands of a barrier, which mention these qubits
pub record AreMentioned (k : Known) (before behind : Cursor) (qubits : List Qubit) : Type 0 where
  pub operands : List Operand
  pub some : 1 ≤ length operands
  pub below : All (LiesBelow k.qubits) operands
  pub numbers_are : numbers qubits ≡ with_mentions [] (flat_map cells operands)
  pub leads : answer_from k (operand (of_barrier [])) before ≡ answer_from k (behind_operand (of_barrier operands)) behind
