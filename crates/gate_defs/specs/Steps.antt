-- The gates that two gates on three qubits are expanded to, as steps of a table.
use Rattle.std.specs.Prelude.{List, Option, get_or}
use Rattle.qccd_base.specs.Names.{qubit}
use Rattle.qccd_base.specs.declared.names.Qubit.{Qubit}
use Rattle.qccd_circuit.specs.declared.kinds.Cond.{Cond}
use Rattle.qccd_circuit.specs.Item.{ItemData}
use Rattle.gate_defs.specs.declared.items.Wire.{Wire}
use Rattle.gate_defs.specs.declared.items.Wire.TheVariants.{A, B, C}
use Rattle.gate_defs.specs.declared.items.Step.{Step}
use Rattle.gate_defs.specs.declared.items.Step.TheVariants.{One, Cx}
use Rattle.gate_defs.specs.Items.{cx, one}

-- the operand on this wire
abbrev pub on_wire : List Qubit → Wire → Qubit
on_wire three A = get_or three 0 (qubit 0)
on_wire three B = get_or three 1 (qubit 0)
on_wire three C = get_or three 2 (qubit 0)

-- the item of a step
abbrev pub step_item : List Qubit → Option Cond → Step → ItemData
step_item three cond (One name on) = one name.now (on_wire three on) cond
step_item three cond (Cx control target) = cx (on_wire three control) (on_wire three target) cond
