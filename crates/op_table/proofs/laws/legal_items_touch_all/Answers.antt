use Rattle.std.proofs.Common.{ap, List, ◌∷◌, map}
use Rattle.qccd_base.specs.declared.names.Bit.{Bit}
use Rattle.qccd_base.specs.declared.names.Res.TheVariants as res
use Rattle.qccd_base.specs.Resource.{ascending}
use Rattle.op_table.proofs.Bits.{legal-bits}
use Rattle.op_table.proofs.laws.legal_items_touch_all.Goals as goal

pub returns : goal.returns
returns c m s number t item at few legal = ap (λ (bits : List Bit). ascending (res.Trap t ∷ map res.Bit bits)) (legal-bits m s number t item at few legal)
