-- What an item of a circuit is, and when it fits.
use Rattle.std.specs.Prelude.{◌≡◌, ◌≢◌, ℕ, zero, suc, ◌+◌, ◌≤◌, Bool, true, false, ◌&&◌, ◌||◌, not, ◌==◌, nat_le, IsTrue, List, [], ◌∷◌, ◌++◌, length, Option, Some, None, codes}
use Rattle.std.specs.Char.{is_ascii_alphabetic, is_ascii_alphanumeric, is_ascii_graphic}
use Rattle.std.specs.List.{list_any, list_all}
use Rattle.qccd_base.specs.declared.names.Qubit.{Qubit}
use Rattle.qccd_base.specs.declared.names.Bit.{Bit}
use Rattle.qccd_circuit.specs.declared.kinds.ItemKind.{ItemKind}
use Rattle.qccd_circuit.specs.declared.kinds.ItemKind.TheVariants.{Gate1, Gate2, Measure, Reset, Barrier}
use Rattle.qccd_circuit.specs.declared.kinds.Cond.{Cond}

-- an item: a gate, a measurement, a reset or a barrier, on these qubits and bits, under this condition
pub record ItemData : Type 0 where
  pub kind : ItemKind
  pub name : List ℕ
  pub angles : List (List ℕ)
  pub qubits : List Qubit
  pub bits : List Bit
  pub cond : Option Cond

-- a byte of a name after its first: a letter, a digit or an underscore
abbrev pub is_name_byte : ℕ → Bool
is_name_byte c = is_ascii_alphanumeric c || (c == 95)

-- a letter, and then letters, digits and underscores
abbrev pub is_word : List ℕ → Bool
is_word [] = false
is_word (c ∷ cs) = is_ascii_alphabetic c && list_all is_name_byte cs

-- such a word of at most 64 bytes
abbrev pub IsName : List ℕ → Type 0
IsName name = IsTrue (is_word name) × (length name ≤ 64)

-- a byte of an angle: from 33 to 126, and no comma
abbrev pub is_angle_byte : ℕ → Bool
is_angle_byte c = is_ascii_graphic c && not (c == 44)

-- 1 to 1,024 such bytes
abbrev pub is_angle : List ℕ → Bool
is_angle text = nat_le 1 (length text) && nat_le (length text) 1024 && list_all is_angle_byte text

-- at most 16 angles
abbrev pub AreAngles : List (List ℕ) → Type 0
AreAngles angles = IsTrue (list_all is_angle angles) × (length angles ≤ 16)

-- a condition has at least one bit, and none of its bits is above the last number of a bit
abbrev pub IsCond : Option Cond → Type 0
IsCond None = Unit {0}
IsCond (Some c) = (1 ≤ c.count) × (c.first.0 + c.count ≤ 65536)

-- whether the qubit stands in the list
abbrev pub has_qubit : List Qubit → Qubit → Bool
has_qubit qubits q = list_any (λ r. r.0 == q.0) qubits

-- whether no qubit stands twice in the list
abbrev pub are_distinct : List Qubit → Bool
are_distinct [] = true
are_distinct (q ∷ qs) = not (has_qubit qs q) && are_distinct qs

-- the name is none of those that the other kinds have
abbrev pub IsGateName : List ℕ → Type 0
IsGateName name = (name ≢ codes "measure") × (name ≢ codes "reset") × (name ≢ codes "barrier")

-- what each kind asks of its item
abbrev pub FitsKind : ItemKind → ItemData → Type 0
FitsKind Gate1 d = (length d.qubits ≡ 1) × (d.bits ≡ []) × IsGateName d.name
FitsKind Gate2 d = (length d.qubits ≡ 2) × (d.bits ≡ []) × IsGateName d.name
FitsKind Measure d = (length d.qubits ≡ 1) × (length d.bits ≡ 1) × (d.angles ≡ []) × (d.name ≡ codes "measure")
FitsKind Reset d = (length d.qubits ≡ 1) × (d.bits ≡ []) × (d.angles ≡ []) × (d.name ≡ codes "reset")
FitsKind Barrier d =
    (1 ≤ length d.qubits) × (d.bits ≡ []) × (d.angles ≡ []) × (d.name ≡ codes "barrier") × (d.cond ≡ None)

-- the item rule
pub record Fits (d : ItemData) : Type 0 where
  pub name : IsName d.name
  pub angles : AreAngles d.angles
  pub cond : IsCond d.cond
  pub distinct : IsTrue (are_distinct d.qubits)
  pub kind : FitsKind d.kind d

-- so many bits, in order from the first
abbrev pub bits_from : ℕ → ℕ → List Bit
bits_from first zero = []
bits_from first (suc n) = record { 0 = first } ∷ bits_from (first + 1) n

-- the bits that the condition reads
abbrev pub cond_bits : Option Cond → List Bit
cond_bits None = []
cond_bits (Some c) = bits_from c.first.0 c.count

-- the bits of the item, those that its condition reads included
abbrev pub bits_of : ItemData → List Bit
bits_of d = d.bits ++ cond_bits d.cond
