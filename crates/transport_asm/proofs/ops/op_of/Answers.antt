use Rattle.std.proofs.Common.{option_copied}
use Rattle.transport_asm.specs.Cursor.{words_left}
use Rattle.transport_asm.proofs.OpReading.{read_is_op}
use Rattle.transport_asm.proofs.ops.op_of.Goals as goal

pub op-requires : goal.op-requires
op-requires c = read_is_op (words_left (option_copied c.args.words)) c.in_ok-kind.kind c.in_ok-kind.ensures
