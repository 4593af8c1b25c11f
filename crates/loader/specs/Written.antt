-- Texts that are loaded as programs, and what a text can tell of an operation.
use Rattle.std.specs.Prelude.{◌≡◌, ℕ, ◌≤◌, List, Option, None, IfSome}
use Rattle.qccd_circuit.specs.declared.kinds.Cond.{Cond}
use Rattle.qccd_machine.specs.Machine.{MachineData}
use Rattle.op_table.specs.Run.{item_in}
use Rattle.op_table.specs.declared.kinds.OpKind.{OpKind}
use Rattle.qccd_program.specs.Program.{ProgramData}
use Rattle.op_text.specs.Slots.{greatest, greatest_value}
use Rattle.transport_asm.specs.Texts.{RawData, Spells}
use Rattle.loader.specs.Refusal.{on_machine, load_refusal}

-- the text is read, and what it spells is loaded on the machine as this program
pub record IsLoadedAs (m : MachineData) (text : List ℕ) (p : ProgramData) : Type 0 where
  pub raw : RawData
  pub spells : Spells text raw
  pub not_refused : load_refusal m raw ≡ None
  pub program : p ≡ on_machine m raw

-- a line can tell the condition's value: it has 128 bits at most
abbrev pub TellsValue : Option Cond → Type 0
TellsValue cond = IfSome cond (λ c. c.value ≤ greatest_value)

-- a line can tell the operation's item: its number, and the value of its condition, are within the limits of words
abbrev pub IsPlain : OpKind → Type 0
IsPlain op = IfSome (item_in op) (λ e. (e.0 ≤ greatest) × TellsValue e.1.cond)
