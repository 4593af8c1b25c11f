use Rattle.std.specs.Prelude.{ℕ}
use Rattle.qccd_base.specs.declared.names.Ion.{Ion}
use Rattle.qccd_base.specs.declared.names.Qubit.{Qubit}
use Rattle.qccd_base.specs.declared.names.Bit.{Bit}
use Rattle.qccd_base.specs.declared.names.TrapId.{TrapId}
use Rattle.qccd_base.specs.declared.names.SegId.{SegId}
use Rattle.qccd_base.specs.declared.names.JuncId.{JuncId}

-- what has a number
abbrev pub ion : ℕ → Ion
ion n = record { 0 = n }

abbrev pub qubit : ℕ → Qubit
qubit n = record { 0 = n }

abbrev pub bit : ℕ → Bit
bit n = record { 0 = n }

abbrev pub trap : ℕ → TrapId
trap n = record { 0 = n }

abbrev pub segment : ℕ → SegId
segment n = record { 0 = n }

abbrev pub junction : ℕ → JuncId
junction n = record { 0 = n }
