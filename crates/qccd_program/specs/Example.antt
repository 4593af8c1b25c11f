-- A program on a machine of two traps: two gates in the first trap, the way of an ion to the second, and a
-- gate there.
use Rattle.std.specs.Prelude.{ℕ, List, [], ◌∷◌, None, codes, replicate}
use Rattle.qccd_base.specs.Names.{qubit, ion, trap, segment}
use Rattle.qccd_base.specs.declared.names.Ion.{Ion}
use Rattle.qccd_base.specs.declared.names.End.TheVariants.{Left, Right}
use Rattle.qccd_circuit.specs.Item.{ItemData}
use Rattle.qccd_circuit.specs.Example.{cx_on, h_on}
use Rattle.op_table.specs.declared.contents.Entry.{Entry}
use Rattle.op_table.specs.declared.kinds.OpKind.{OpKind}
use Rattle.op_table.specs.declared.kinds.OpKind.TheVariants.{Split, Move, Merge, Rot, GSwap, Item}
use Rattle.op_table.specs.Act.{trap_content}
use Rattle.op_table.specs.Example.{pair}
use Rattle.op_cells.specs.declared.cells.Done.{Done}
use Rattle.op_cells.specs.Acted.{CellData}
use Rattle.qccd_program.specs.Program.{ProgramData}

abbrev pub x_on : ℕ → ItemData
x_on q = record (h_on q) { name = codes "x" }

abbrev pub start_chains : List (List Ion)
start_chains = (ion 0 ∷ ion 1 ∷ ion 2 ∷ []) ∷ (ion 3 ∷ []) ∷ []

abbrev pub eight_ops : List OpKind
eight_ops =
    Item 0 (trap 0) (cx_on 0 1) (0 ∷ 1 ∷ [])
    ∷ Item 1 (trap 0) (x_on 2) (2 ∷ [])
    ∷ Rot (trap 0) 0
    ∷ Rot (trap 0) 1
    ∷ Split (trap 0) Right (segment 0)
    ∷ Move (segment 0)
    ∷ Merge (segment 0) (trap 1) Left
    ∷ Item 2 (trap 1) (cx_on 0 3) (0 ∷ 1 ∷ [])
    ∷ []

abbrev pub two_gates_and_one : ProgramData
two_gates_and_one = record { machine = pair; qubits = 4; bits = 0; mode = None; start = start_chains; ops = eight_ops }

abbrev pub entry : ℕ → Entry
entry n = record { ion = ion n; qubit = qubit n }

abbrev pub done : ℕ → ℕ → ℕ → Done
done op start finish = record { op = op; start = start; finish = finish }

-- the first trap before the split, and at the end
abbrev pub before_the_split : CellData
before_the_split = record {
  content = trap_content (entry 1 ∷ entry 2 ∷ entry 0 ∷ []) 400;
  clock = 505;
  log = done 0 0 100 ∷ done 1 100 105 ∷ done 2 105 305 ∷ done 3 305 505 ∷ [];
}

abbrev pub first_at_the_end : CellData
first_at_the_end = record {
  content = trap_content (entry 1 ∷ entry 2 ∷ []) 367;
  clock = 585;
  log = done 0 0 100 ∷ done 1 100 105 ∷ done 2 105 305 ∷ done 3 305 505 ∷ done 4 505 585 ∷ [];
}

-- the second trap at the end
abbrev pub second_at_the_end : CellData
second_at_the_end = record {
  content = trap_content (entry 0 ∷ entry 3 ∷ []) 343;
  clock = 770;
  log = done 6 590 670 ∷ done 7 670 770 ∷ [];
}

-- so many exchanges of the first two ions' qubits
abbrev pub exchange : OpKind
exchange = GSwap (trap 0) 0 1

abbrev pub exchanges : ℕ → ProgramData
exchanges n = record two_gates_and_one { ops = replicate n exchange }
