-- What is told of a text that is that of no machine.
use Rattle.std.specs.Prelude.{ℕ, List, [], ◌∷◌, codes, decimal}
use Rattle.std.specs.List.{concat}
use Rattle.qccd_machine.specs.FaultText.{fault_text}
use Rattle.qccd_machine.specs.TimeName.{time_name_of}
use Rattle.machine_text.specs.declared.fault.Part.{Part}
use Rattle.machine_text.specs.declared.fault.Part.TheVariants.{Top, Junctions, Trap, Capacity, Segment, EndA, EndB, Time, TimeField}
use Rattle.machine_text.specs.declared.fault.TextFault.{TextFault}
use Rattle.machine_text.specs.declared.fault.TextFault.TheVariants.{NotToml, MissingField, WrongValue, UnknownField, Machine, NoMemory}

-- what a field is called, with the number of its trap or segment
abbrev pub field_name : Part → ℕ → List ℕ
field_name Top row = codes "the file"
field_name Junctions row = codes "junctions"
field_name Trap row = codes "trap"
field_name Capacity row = concat (codes "trap " ∷ decimal row ∷ codes " capacity" ∷ [])
field_name Segment row = codes "segment"
field_name EndA row = concat (codes "segment " ∷ decimal row ∷ codes " a" ∷ [])
field_name EndB row = concat (codes "segment " ∷ decimal row ∷ codes " b" ∷ [])
field_name Time row = codes "time"
field_name (TimeField field) row = concat (codes "time " ∷ time_name_of field ∷ [])

-- what a table is called: a trap and a segment by its number
abbrev pub table_name : Part → ℕ → List ℕ
table_name Trap row = concat (codes "trap " ∷ decimal row ∷ [])
table_name Segment row = concat (codes "segment " ∷ decimal row ∷ [])
table_name Top row = codes "the file"
table_name Junctions row = codes "junctions"
table_name Capacity row = field_name Capacity row
table_name EndA row = field_name EndA row
table_name EndB row = field_name EndB row
table_name Time row = codes "time"
table_name (TimeField field) row = field_name (TimeField field) row

abbrev pub text_fault_text : TextFault → List ℕ
text_fault_text NotToml = codes "not TOML"
text_fault_text (MissingField at) = concat (field_name at.part at.row ∷ codes " is missing" ∷ [])
text_fault_text (WrongValue at) =
    concat (field_name at.part at.row ∷ codes " has a wrong value" ∷ [])
text_fault_text (UnknownField at) =
    concat (codes "unknown field in " ∷ table_name at.part at.row ∷ [])
text_fault_text (Machine fault) = fault_text fault
text_fault_text NoMemory = codes "no memory"
