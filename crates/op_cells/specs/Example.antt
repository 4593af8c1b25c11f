-- A hot trap, as a worked example.
use Rattle.std.specs.Prelude.{List, [], ◌∷◌}
use Rattle.qccd_base.specs.Names.{ion, qubit}
use Rattle.op_table.specs.declared.contents.Entry.{Entry}
use Rattle.op_table.specs.Act.{trap_content}
use Rattle.op_cells.specs.Acted.{CellData}

abbrev pub two_entries : List Entry
two_entries = record { ion = ion 0; qubit = qubit 0 } ∷ record { ion = ion 3; qubit = qubit 3 } ∷ []

-- two ions of heat 343 in a trap that operation 6 left at 670
abbrev pub hot_trap : CellData
hot_trap = record {
  content = trap_content two_entries 343;
  clock = 670;
  log = record { op = 6; start = 590; finish = 670 } ∷ [];
}
