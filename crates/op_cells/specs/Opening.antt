-- What start chains are made of.
use Rattle.qccd_base.specs.declared.names.Ion.{Ion}
use Rattle.op_table.specs.declared.contents.Entry.{Entry}

-- each ion of a start chain carries the qubit of its number
abbrev pub start_entry : Ion → Entry
start_entry x = record { ion = x; qubit = record { 0 = x.0 } }
