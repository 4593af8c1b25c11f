use Rattle.transport_asm.specs.Lines.{words_of}
use Rattle.transport_asm.proofs.OpReading.{read_is_op}
use Rattle.transport_asm.proofs.ops.read_op.Goals as goal

pub of-requires : goal.of-requires
of-requires c = read_is_op (words_of c.args.text.now) c.in_ok-kind.kind c.in_ok-kind.ensures
