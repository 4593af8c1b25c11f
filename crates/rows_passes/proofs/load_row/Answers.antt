use Rattle.transport_asm.proofs.Rule.{raw_writable}
use Rattle.transport_asm.proofs.TextLaws.{text_takes}
use Rattle.rows_passes.proofs.load_row.Goals as goal

pub load_raw-requires : goal.load_raw-requires
load_raw-requires g c = raw_writable _ (text_takes _ _ c.in-Ok.ensures).1
