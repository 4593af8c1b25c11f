use Rattle.std.proofs.Common.{option_copied}
use Rattle.transport_asm.specs.Cursor.{words_left}
use Rattle.op_text.specs.Operations.{item_op}
use Rattle.transport_asm.specs.Parts.{head_of, tail_of}
use Rattle.transport_asm.proofs.ItemReading.{item_kept}
use Rattle.transport_asm.proofs.item_ops.item_op.Goals as goal

pub made-requires : goal.made-requires
made-requires c = (item_kept (words_left (option_copied c.args.words)) (item_op (head_of c.in_ok-head.head) (tail_of c.in_ok-head.tail)) c.in_ok-head.ensures).fits
