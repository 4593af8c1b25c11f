-- The words of a fence as they are read, each qubit noted once it was.
use Rattle.std.specs.Prelude.{◌≡◌, ℕ, nat_lt, Bool, true, false, if◌then◌else◌, List, [], ◌∷◌, Option, Some, None, Result, Ok, Err}
use Rattle.std.specs.BTreeSet.{BTreeSet, contains}
use Rattle.std.specs.Ordering.{nat_cmp}
use Rattle.qccd_base.specs.Names.{qubit}
use Rattle.qccd_base.specs.declared.names.Qubit.{Qubit}
use Rattle.qccd_circuit.specs.Item.{are_distinct, has_qubit}
use Rattle.op_text.specs.declared.kind.AsmKind.{AsmKind}
use Rattle.op_text.specs.Steps.{◌>>=◌}
use Rattle.op_text.specs.declared.kind.AsmKind.TheVariants.{Word}
use Rattle.qccd_base.specs.declared.names.TrapId.{TrapId}
use Rattle.op_text.specs.Slots.{greatest, number_slot, trap_slot}
use Rattle.op_text.specs.Shapes.{Reading, read_one}
use Rattle.op_text.specs.Operations.{begins_with, barrier_over, qubits_at}
use Rattle.op_table.specs.Op.{are_ascending}
use Rattle.op_table.specs.declared.kinds.OpKind.{OpKind}
use Rattle.op_table.specs.declared.kinds.OpKind.TheVariants.{Fence}

-- the qubits of a fence, or none where one stands twice
abbrev pub when_distinct : List Qubit × List (List ℕ) → Result (Option (List Qubit)) AsmKind
when_distinct qs = Ok (if are_distinct qs.0 then Some qs.0 else None)

abbrev pub fence_qubits : List (List ℕ) → Result (Option (List Qubit)) AsmKind
fence_qubits words = qubits_at words >>= when_distinct

-- what is known of the qubits in front: where none stands twice, they are kept, and their numbers are seen
pub record AreMarked (front : List Qubit) (seen : BTreeSet ℕ) (qubits : List Qubit) : Type 0 where
  pub kept : qubits ≡ front
  pub distinct : are_distinct front ≡ true
  pub marks : (n : ℕ) → contains nat_cmp seen n ≡ has_qubit front (qubit n)

abbrev pub IsKept : List Qubit → Bool → BTreeSet ℕ → List Qubit → Type 0
IsKept front true seen qubits = are_distinct front ≡ false
IsKept front false seen qubits = AreMarked front seen qubits

-- ---- the traps of a fence

abbrev pub begins_trap : List (List ℕ) → Bool
begins_trap [] = false
begins_trap (word ∷ more) = begins_with 84 word

-- traps, while a word begins with T
abbrev pub traps_at : List (List ℕ) → Reading (List TrapId)
traps_at [] = Ok ([], [])
traps_at (word ∷ more) =
    if begins_with 84 word then (read_one trap_slot (word ∷ more) >>= λ t. traps_at more >>= λ ts. Ok (t.0 ∷ ts.0, ts.1))
    else Ok ([], word ∷ more)

-- the same behind a first trap
abbrev pub traps_behind : TrapId → List (List ℕ) → Reading (List TrapId)
traps_behind first words = traps_at words >>= λ ts. Ok (first ∷ ts.0, ts.1)

-- at least one qubit
abbrev pub some_qubits : List (List ℕ) → Result (Option (List Qubit)) AsmKind
some_qubits [] = Err Word
some_qubits (word ∷ more) = fence_qubits (word ∷ more)

-- a fence's number, its traps, and its qubits or none where one stands twice
abbrev pub fence_parts : List (List ℕ) → Result (ℕ × (List TrapId × Option (List Qubit))) AsmKind
fence_parts words =
    read_one (number_slot greatest) words >>= λ n. read_one trap_slot n.1 >>= λ first. traps_behind first.0 first.1
    >>= λ ts. some_qubits ts.1 >>= λ qs. Ok (n.0, (ts.0, qs))

-- whether a trap stands before the first of others
abbrev pub is_below_first : TrapId → List TrapId → Bool
is_below_first trap [] = true
is_below_first trap (other ∷ more) = nat_lt trap.0 other.0

-- the fence of these, where they keep the rules
abbrev pub fence_made : ℕ → List TrapId → Option (List Qubit) → Result OpKind AsmKind
fence_made number traps None = Err Word
fence_made number traps (Some qubits) = if are_ascending traps then Ok (Fence number (barrier_over qubits) traps) else Err Word
