use Rattle.std.proofs.Common.{option_copied}
use Rattle.op_text.specs.Operations.{qubits_at}
use Rattle.transport_asm.specs.Cursor.{words_left, size_left}
use Rattle.transport_asm.proofs.Marked.{SoFar}
use Rattle.transport_asm.proofs.fences.qubits_of.Given as goal

abbrev pub invariant-loop-left : goal.invariant-loop-left
invariant-loop-left l = SoFar l.broken l.seen l.qubits.items (qubits_at (words_left (option_copied l.left))) (qubits_at (words_left (option_copied l.fn.words)))

abbrev pub decreases-loop-left : goal.decreases-loop-left
decreases-loop-left l = size_left (option_copied l.left)
