use Rattle.std.proofs.Common.{ap}
use Rattle.transport_asm.specs.ProgramText.{program_text}
use Rattle.qccd_top.proofs.Chain.{does_stop, does_on, does_starve, does_write}
use Rattle.qccd_top.proofs.answer.tidy.Goals as goal

pub returns-in_err-loaded : goal.returns-in_err-loaded
returns-in_err-loaded g c = does_stop _ _ _ _ _ _ _ _ _ _ _ c.in_err-loaded.ensures c.from_residual.ensures.1

pub returns-in_err-left : goal.returns-in_err-left
returns-in_err-left g c = does_on _ _ _ _ _ _ _ _ _ _ _ _ _ c.in_ok-loaded.ensures (does_starve _ _ _ _ _ _ _ _ c.from_residual-in_err-left.ensures.1)

pub returns : goal.returns
returns g c = does_on _ _ _ _ _ _ _ _ _ _ _ _ _ c.in_ok-loaded.ensures (does_write _ _ _ _ _ _ _ _ _ (rw c.in_ok-left.ensures.value at c.write_text.ensures))
