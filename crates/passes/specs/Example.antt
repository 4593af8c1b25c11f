-- Worked examples: programs with steps that undo each other, and the cooled report of a program of two traps.
use Rattle.std.specs.Prelude.{ℕ, List, [], ◌∷◌, None, codes, map}
use Rattle.qccd_base.specs.Names.{ion, segment, trap}
use Rattle.qccd_base.specs.declared.names.End.TheVariants.{Left, Right}
use Rattle.qccd_circuit.specs.Example.{h_on}
use Rattle.op_table.specs.declared.kinds.OpKind.{OpKind}
use Rattle.op_table.specs.declared.kinds.OpKind.TheVariants.{Split, Move, Merge, Rot, Item}
use Rattle.op_table.specs.Example.{pair}
use Rattle.qccd_program.specs.Program.{ProgramData}
use Rattle.qccd_program.specs.Example.{x_on}
use Rattle.passes.specs.Tidy.{staying}

-- two ions exchange places twice, and one goes out to the segment and comes back; then a gate
abbrev pub x_on_first : OpKind
x_on_first = Item 0 (trap 0) (x_on 0) (0 ∷ [])

abbrev pub of_two_ions : List OpKind → ProgramData
of_two_ions ops = record { machine = pair; qubits = 2; bits = 0; mode = None; start = (ion 0 ∷ ion 1 ∷ []) ∷ [] ∷ []; ops = ops }

abbrev pub out_and_back : List OpKind
out_and_back =
    Split (trap 0) Right (segment 0) ∷ Move (segment 0) ∷ Move (segment 0) ∷ Merge (segment 0) (trap 0) Right ∷ []

abbrev pub there_and_back : ProgramData
there_and_back = of_two_ions (Rot (trap 0) 0 ∷ Rot (trap 0) 0
    ∷ Split (trap 0) Right (segment 0) ∷ Move (segment 0) ∷ Move (segment 0) ∷ Merge (segment 0) (trap 0) Right
    ∷ x_on_first ∷ [])

-- the same with a gate in the place of the second exchange
abbrev pub with_a_gate : ProgramData
with_a_gate = of_two_ions (Rot (trap 0) 0 ∷ Item 1 (trap 0) (h_on 1) (0 ∷ [])
    ∷ Split (trap 0) Right (segment 0) ∷ Move (segment 0) ∷ Move (segment 0) ∷ Merge (segment 0) (trap 0) Right
    ∷ Item 0 (trap 0) (x_on 0) (1 ∷ []) ∷ [])

abbrev pub with_a_gate_tidied : ProgramData
with_a_gate_tidied = of_two_ions (Rot (trap 0) 0 ∷ Item 1 (trap 0) (h_on 1) (0 ∷ []) ∷ Item 0 (trap 0) (x_on 0) (1 ∷ []) ∷ [])

-- the numbers of the operations that stay
abbrev pub numbers_left : List OpKind → List ℕ
numbers_left ops = map (λ e. e.0) (staying ops)

-- an exchange of ions in the first trap, a gate in the second trap, and a gate in the first
abbrev pub turned : OpKind
turned = Rot (trap 0) 0

abbrev pub beside : OpKind
beside = Item 1 (trap 1) (x_on 3) (0 ∷ [])

-- out of the first trap to the right, to the segment's other end, into the second trap from the left, and back
abbrev pub out : OpKind
out = Split (trap 0) Right (segment 0)

abbrev pub over : OpKind
over = Move (segment 0)

abbrev pub into : OpKind
into = Merge (segment 0) (trap 1) Left

abbrev pub out_again : OpKind
out_again = Split (trap 1) Left (segment 0)

abbrev pub home : OpKind
home = Merge (segment 0) (trap 0) Right

-- the report of the program of eight operations, cooled at a ceiling of 300
abbrev pub cooled_lines : List (List ℕ)
cooled_lines =
    codes "QCCD cooled report 1"
    ∷ codes "ceiling 300"
    ∷ codes "qubits 4 bits 0 traps 2 segments 1 junctions 0"
    ∷ codes "start T0 0 1 2"
    ∷ codes "start T1 3"
    ∷ codes "ops 8"
    ∷ codes "0 0 100 item 0 cx T0 q0@0 q1@1"
    ∷ codes "1 100 105 item 1 x T0 q2@2"
    ∷ codes "2 105 305 rot T0 0"
    ∷ codes "3 305 505 rot T0 1"
    ∷ codes "4 505 585 split T0 right S0"
    ∷ codes "5 585 590 move S0"
    ∷ codes "6 590 670 merge S0 T1 left"
    ∷ codes "7 670 1070 cool T1"
    ∷ codes "7 1070 1170 item 2 cx T1 q0@0 q3@1"
    ∷ codes "end T0 heat 367 1:q1 2:q2"
    ∷ codes "end T1 heat 0 0:q0 3:q3"
    ∷ codes "counts split 1 merge 1 move 1 enter 0 leave 0 rot 2 gswap 0 gate1 1 gate2 2 measure 0 reset 0 fence 0 cool 1"
    ∷ codes "finish 1170"
    ∷ []
