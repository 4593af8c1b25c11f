-- No bit so far is used, so those from here on decide.
use Rattle.std.proofs.Common.{◌≡◌, ◌+◌, ◌-◌}
use Rattle.std.specs.List.{list_any}
use Rattle.qccd_circuit.specs.Item.{bits_from, bits_of}
use Rattle.qccd_circuit.specs.Sharing.{has_bit}
use Rattle.qccd_circuit.proofs.sharing.share_from.Given as goal

abbrev pub invariant-loop-step : goal.invariant-loop-step
invariant-loop-step l =
    list_any (has_bit (bits_of l.item)) (bits_from l.first.0 l.count)
    ≡ list_any (has_bit (bits_of l.item)) (bits_from (l.first.0 + l.step) (l.count - l.step))
