-- The lines of operations.
use Rattle.std.specs.Prelude.{ℕ, take, Bool, true, false, not, ◌&&◌, ◌==◌, nat_lt, List, [], ◌∷◌, ◌++◌, length, map, codes, bytes_eq, if◌then◌else◌, Result, Ok, Err, Option, Some, None, zip, decimal}
use Rattle.qccd_base.specs.declared.names.TrapId.{TrapId}
use Rattle.qccd_base.specs.declared.names.SegId.{SegId}
use Rattle.qccd_base.specs.declared.names.JuncId.{JuncId}
use Rattle.qccd_base.specs.declared.names.Qubit.{Qubit}
use Rattle.qccd_base.specs.declared.names.Bit.{Bit}
use Rattle.qccd_base.specs.declared.names.End.{End}
use Rattle.qccd_circuit.specs.declared.kinds.ItemKind.{ItemKind}
use Rattle.qccd_circuit.specs.declared.kinds.ItemKind.TheVariants.{Gate1, Gate2, Measure, Reset, Barrier}
use Rattle.qccd_circuit.specs.declared.kinds.Cond.{Cond}
use Rattle.qccd_circuit.specs.Item.{ItemData, are_distinct}
use Rattle.op_table.specs.Op.{are_ascending}
use Rattle.op_table.specs.declared.kinds.OpKind.{OpKind}
use Rattle.op_table.specs.declared.kinds.OpKind.TheVariants.{Split, Move, Enter, Leave, Merge, Rot, GSwap, Item, Fence}
use Rattle.op_text.specs.declared.kind.AsmKind.{AsmKind}
use Rattle.op_text.specs.declared.kind.AsmKind.TheVariants.{Word}
use Rattle.op_text.specs.OpText.{trap_text, qubit_text, bit_text, operand_text, angles_text}
use Rattle.op_text.specs.Steps.{◌>>=◌}
use Rattle.op_text.specs.Slots.{Slot, Gate, number_slot, greatest, end_slot, trap_slot, segment_slot, junction_slot, qubit_slot, bit_slot, count_slot, value_slot, operand_slot, gate_slot}
use Rattle.op_text.specs.Shapes.{Reading, Shape, first_word, read_one, one, ◌▸◌, as_value, whole}

-- ---- the words of each operation behind its name

abbrev pub split_shape : Shape (TrapId × (End × SegId))
split_shape = one trap_slot ▸ (one end_slot ▸ one segment_slot)

abbrev pub move_shape : Shape SegId
move_shape = one segment_slot

abbrev pub enter_shape : Shape (SegId × JuncId)
enter_shape = one segment_slot ▸ one junction_slot

abbrev pub leave_shape : Shape (JuncId × SegId)
leave_shape = one junction_slot ▸ one segment_slot

abbrev pub merge_shape : Shape (SegId × (TrapId × End))
merge_shape = one segment_slot ▸ (one trap_slot ▸ one end_slot)

abbrev pub position_slot : Slot ℕ
position_slot = number_slot 255

abbrev pub rot_shape : Shape (TrapId × ℕ)
rot_shape = one trap_slot ▸ one position_slot

abbrev pub gswap_shape : Shape (TrapId × (ℕ × ℕ))
gswap_shape = one trap_slot ▸ (one position_slot ▸ one position_slot)

-- an item's number, gate, trap and first qubit
abbrev pub item_shape : Shape (ℕ × (Gate × (TrapId × (Qubit × ℕ))))
item_shape = one (number_slot greatest) ▸ (one gate_slot ▸ (one trap_slot ▸ one operand_slot))

-- ---- items

-- what stands behind the first qubit: a second one, or a bit, and a condition
pub record Tail : Type 0 where
  pub second : List (Qubit × ℕ)
  pub bits : List Bit
  pub cond : Option Cond

-- the words of a condition behind `if`: the first bit, how many there are, and their value
abbrev pub cond_at : List (List ℕ) → Reading Cond
cond_at words =
    read_one bit_slot words >>= λ b. read_one (count_slot b.0) b.1 >>= λ n. read_one value_slot n.1
    >>= λ v. Ok (record { first = b.0; count = n.0; value = v.0 }, v.1)

-- a condition, where the next word begins one
abbrev pub condition_at : List (List ℕ) → Reading (Option Cond)
condition_at [] = Ok (None, [])
condition_at (word ∷ more) =
    if bytes_eq word (codes "if") then (cond_at more >>= λ c. Ok (Some c.0, c.1))
    else Ok (None, word ∷ more)

-- a condition comes last
abbrev pub ends_item : List (Qubit × ℕ) → List Bit → List (List ℕ) → Reading Tail
ends_item second bits words = condition_at words >>= λ c. Ok (record { second = second; bits = bits; cond = c.0 }, c.1)

-- whether no second qubit may follow: at the end of the line, and at a condition
abbrev pub is_last : List (List ℕ) → Bool
is_last [] = true
is_last (word ∷ more) = bytes_eq word (codes "if")

abbrev pub second_at : List (List ℕ) → Reading Tail
second_at words =
    if is_last words then ends_item [] [] words
    else read_one operand_slot words >>= λ q. ends_item (q.0 ∷ []) [] q.1

-- the bit of a measurement
abbrev pub measured_at : List (List ℕ) → Reading Tail
measured_at words = read_one bit_slot words >>= λ b. ends_item [] (b.0 ∷ []) b.1

-- the name decides which words are stated
abbrev pub tail_at : List ℕ → List (List ℕ) → Reading Tail
tail_at name words =
    if bytes_eq name (codes "measure") then measured_at words
    else (if bytes_eq name (codes "reset") then ends_item [] [] words
    else second_at words)

abbrev pub kind_of : List ℕ → List (Qubit × ℕ) → ItemKind
kind_of name second =
    if bytes_eq name (codes "measure") then Measure
    else (if bytes_eq name (codes "reset") then Reset
    else (if length second == 0 then Gate1 else Gate2))

abbrev pub item_op : ℕ × (Gate × (TrapId × (Qubit × ℕ))) → Tail → OpKind
item_op head tail =
    Item head.0 head.1.1.0
    (record {
      kind = kind_of head.1.0.name tail.second;
      name = head.1.0.name;
      angles = head.1.0.angles;
      qubits = head.1.1.1.0 ∷ map (λ q. q.0) tail.second;
      bits = tail.bits;
      cond = tail.cond;
    })
    (head.1.1.1.1 ∷ map (λ q. q.1) tail.second)

abbrev pub item_at : List (List ℕ) → Reading OpKind
item_at words = item_shape.read words >>= λ head. tail_at head.0.1.0.name head.1 >>= λ tail. Ok (item_op head.0 tail.0, tail.1)

-- ---- fences

-- qubits to the end of the line
abbrev pub qubits_at : List (List ℕ) → Reading (List Qubit)
qubits_at [] = Ok ([], [])
qubits_at (word ∷ more) = read_one qubit_slot (word ∷ more) >>= λ q. qubits_at more >>= λ qs. Ok (q.0 ∷ qs.0, qs.1)

abbrev pub begins_with : ℕ → List ℕ → Bool
begins_with letter [] = false
begins_with letter (c ∷ cs) = c == letter

-- further traps, while a word begins with T, and then qubits, at least one
abbrev pub parts_at : List (List ℕ) → Reading (List TrapId × List Qubit)
parts_at [] = Err Word
parts_at (word ∷ more) =
    if begins_with 84 word then (read_one trap_slot (word ∷ more) >>= λ t. parts_at more >>= λ rest. Ok ((t.0 ∷ rest.0.0, rest.0.1), rest.1))
    else (qubits_at (word ∷ more) >>= λ qs. Ok (([], qs.0), qs.1))

abbrev pub barrier_over : List Qubit → ItemData
barrier_over qubits = record { kind = Barrier; name = codes "barrier"; angles = []; qubits = qubits; bits = []; cond = None }

abbrev pub fence_at : List (List ℕ) → Reading OpKind
fence_at words =
    read_one (number_slot greatest) words >>= λ n. read_one trap_slot n.1 >>= λ first. parts_at first.1
    >>= λ parts. Ok (Fence n.0 (barrier_over parts.0.1) (first.0 ∷ parts.0.0), parts.1)

-- ---- an operation

-- the first word of an operation, and how the words behind it are read
pub record Row : Type 0 where
  pub name : List ℕ
  pub read : List (List ℕ) → Reading OpKind

abbrev pub row : {A : Type 0} → List ℕ → Shape A → (A → OpKind) → Row
row name shape make = record { name = name; read = λ words. as_value make (shape.read words) }

abbrev pub op_rows : List Row
op_rows =
    row (codes "split") split_shape (λ v. Split v.0 v.1.0 v.1.1)
    ∷ row (codes "move") move_shape (λ g. Move g)
    ∷ row (codes "enter") enter_shape (λ v. Enter v.0 v.1)
    ∷ row (codes "leave") leave_shape (λ v. Leave v.0 v.1)
    ∷ row (codes "merge") merge_shape (λ v. Merge v.0 v.1.0 v.1.1)
    ∷ row (codes "rot") rot_shape (λ v. Rot v.0 v.1)
    ∷ row (codes "gswap") gswap_shape (λ v. GSwap v.0 v.1.0 v.1.1)
    ∷ record { name = codes "item"; read = item_at }
    ∷ record { name = codes "fence"; read = fence_at }
    ∷ []

-- the row of the name
abbrev pub read_row : List Row → List ℕ → List (List ℕ) → Reading OpKind
read_row [] name words = Err Word
read_row (first ∷ more) name words = if bytes_eq name first.name then first.read words else read_row more name words

-- the words of an operation, of which the first is its name
abbrev pub op_at : List (List ℕ) → Reading OpKind
op_at words = first_word words >>= λ name. read_row op_rows name.0 name.1

abbrev pub cond_words : Option Cond → List (List ℕ)
cond_words None = []
cond_words (Some c) = codes "if" ∷ bit_text c.first ∷ decimal c.count ∷ decimal c.value ∷ []

-- the words of an operation's text
abbrev pub op_words : OpKind → List (List ℕ)
op_words (Split t e g) = codes "split" ∷ split_shape.words (t, (e, g))
op_words (Move g) = codes "move" ∷ move_shape.words g
op_words (Enter g j) = codes "enter" ∷ enter_shape.words (g, j)
op_words (Leave j g) = codes "leave" ∷ leave_shape.words (j, g)
op_words (Merge g t e) = codes "merge" ∷ merge_shape.words (g, (t, e))
op_words (Rot t p) = codes "rot" ∷ rot_shape.words (t, p)
op_words (GSwap t low high) = codes "gswap" ∷ gswap_shape.words (t, (low, high))
op_words (Item number t item at) =
    codes "item" ∷ decimal number ∷ (item.name ++ angles_text item.angles) ∷ trap_text t ∷ ((map operand_text (zip item.qubits at) ++ map bit_text item.bits) ++ cond_words item.cond)
op_words (Fence number item traps) = codes "fence" ∷ decimal number ∷ (map trap_text traps ++ map qubit_text item.qubits)

-- what a line whose words are all right may still break: the order of positions, the item rule, the order of traps
abbrev pub item_is_right : ItemKind → ItemData → Bool
item_is_right Gate1 item = not (bytes_eq item.name (codes "barrier"))
item_is_right Gate2 item = are_distinct item.qubits && not (bytes_eq item.name (codes "barrier"))
item_is_right Measure item = length item.angles == 0
item_is_right Reset item = length item.angles == 0
item_is_right Barrier item = are_distinct item.qubits

abbrev pub is_right : OpKind → Bool
is_right (Split t e g) = true
is_right (Move g) = true
is_right (Enter g j) = true
is_right (Leave j g) = true
is_right (Merge g t e) = true
is_right (Rot t p) = true
is_right (GSwap t low high) = nat_lt low high
is_right (Item number t item at) = item_is_right item.kind item
is_right (Fence number item traps) = are_distinct item.qubits && are_ascending traps

abbrev pub keeping_rules : OpKind → Result OpKind AsmKind
keeping_rules op = if is_right op then Ok op else Err Word

-- an operation that ends its line and keeps the rules
abbrev pub finished : Reading OpKind → Result OpKind AsmKind
finished reading = reading >>= λ op. whole op.0 op.1 >>= keeping_rules

abbrev pub read_op : List (List ℕ) → Result OpKind AsmKind
read_op words = finished (op_at words)

-- of the operations that are no items and no fences
abbrev pub plain_right : OpKind → Bool
plain_right (Split t e g) = true
plain_right (Move g) = true
plain_right (Enter g j) = true
plain_right (Leave j g) = true
plain_right (Merge g t e) = true
plain_right (Rot t p) = true
plain_right (GSwap t low high) = nat_lt low high
plain_right (Item number t item at) = true
plain_right (Fence number item traps) = true

abbrev pub plain_at : List ℕ → List (List ℕ) → Result OpKind AsmKind
plain_at name words = read_row (take 7 op_rows) name words >>= λ op. whole op.0 op.1 >>= λ made. if plain_right made then Ok made else Err Word
