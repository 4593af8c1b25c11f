use Rattle.qccd_top.proofs.Chain.{visit_stops, visit_on, pure_last}
use Rattle.qccd_top.proofs.stages.machine_in.Goals as goal

pub returns-in-Preset : goal.returns-in-Preset
returns-in-Preset g c = rw c.in-Preset.is (pure_last _ _ _ _ _ c.preset.ensures)

pub returns-in_err-text-in-File : goal.returns-in_err-text-in-File
returns-in_err-text-in-File g c = rw c.in-File.is (visit_stops _ _ _ _ _ _ _ _ c.in_err-text-in-File.ensures c.from_residual.ensures.1)

pub returns-in_ok-text-in-File : goal.returns-in_ok-text-in-File
returns-in_ok-text-in-File g c =
    rw c.in-File.is (visit_on _ _ _ _ _ _ _ _ _ c.in_ok-text-in-File.ensures (pure_last _ _ _ _ _ (rw c.as_slice.ensures.value at c.machine_of.ensures)))
