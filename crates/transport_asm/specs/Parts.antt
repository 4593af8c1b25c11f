-- What the functions that read the words of items found, as the definitions have it.
use Rattle.std.specs.Prelude.{ℕ, List, [], ◌∷◌, Option, Some, None, option_copied}
use Rattle.transport_asm.specs.declared.gates.GateWord.{GateWord}
use Rattle.transport_asm.specs.declared.items.HeadWords.{HeadWords}
use Rattle.transport_asm.specs.declared.items.TailWords.{TailWords}
use Rattle.qccd_base.specs.declared.names.TrapId.{TrapId}
use Rattle.qccd_base.specs.declared.names.Qubit.{Qubit}
use Rattle.op_text.specs.Slots.{Gate}
use Rattle.op_text.specs.Operations.{Tail}
use Rattle.transport_asm.specs.Cursor.{parts_left}

-- the angles of a gate, between commas
abbrev pub angles_left : Option (List ℕ) → List (List ℕ)
angles_left text = parts_left 44 text

abbrev pub gate_of : GateWord → Gate
gate_of word = record { name = word.name.now; angles = angles_left (option_copied word.angles) }

abbrev pub head_of : HeadWords → ℕ × (Gate × (TrapId × (Qubit × ℕ)))
head_of head = (head.number, (gate_of head.gate, (head.trap, head.first)))

abbrev pub as_list : {A : Type 0} → Option A → List A
as_list None = []
as_list (Some x) = x ∷ []

abbrev pub tail_of : TailWords → Tail
tail_of tail = record { second = as_list tail.second; bits = as_list tail.bit; cond = tail.cond }
