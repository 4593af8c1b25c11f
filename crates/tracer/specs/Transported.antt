-- The reports of two programs that bring an ion to another trap, by exchanging ions and by exchanging qubits,
-- as worked examples; and lists of operations to count and to put in order.
use Rattle.std.specs.Prelude.{ℕ, List, [], ◌∷◌, ◌++◌, codes, flat_map, replicate}
use Rattle.qccd_base.specs.Line.{line}
use Rattle.qccd_base.specs.Names.{qubit, segment, junction, trap}
use Rattle.qccd_base.specs.declared.names.End.TheVariants.{Left, Right}
use Rattle.qccd_circuit.specs.Example.{h_on, cx_on, measure_into, reset_of, barrier_over}
use Rattle.op_table.specs.declared.kinds.OpKind.{OpKind}
use Rattle.op_table.specs.declared.kinds.OpKind.TheVariants.{Split, Move, Enter, Leave, Merge, Rot, GSwap, Item, Fence}
use Rattle.qccd_program.specs.Program.{ProgramData}
use Rattle.qccd_program.specs.Example.{two_gates_and_one, x_on}

-- the report of the claim's example
abbrev pub ion_lines : List (List ℕ)
ion_lines =
    codes "QCCD report 1"
    ∷ codes "qubits 4 bits 0 traps 2 segments 1 junctions 0"
    ∷ codes "start T0 0 1 2"
    ∷ codes "start T1 3"
    ∷ codes "ops 8"
    ∷ codes "0 0 100 item 0 cx T0 q0@0 q1@1"
    ∷ codes "1 100 105 item 1 x T0 q2@2"
    ∷ codes "2 105 305 rot T0 0"
    ∷ codes "3 305 505 rot T0 1"
    ∷ codes "4 505 585 split T0 right S0"
    ∷ codes "5 585 590 move S0"
    ∷ codes "6 590 670 merge S0 T1 left"
    ∷ codes "7 670 770 item 2 cx T1 q0@0 q3@1"
    ∷ codes "end T0 heat 367 1:q1 2:q2"
    ∷ codes "end T1 heat 343 0:q0 3:q3"
    ∷ codes "counts split 1 merge 1 move 1 enter 0 leave 0 rot 2 gswap 0 gate1 1 gate2 2 measure 0 reset 0 fence 0"
    ∷ codes "finish 770"
    ∷ []

-- the same circuit, where the qubit is brought to the end of its chain by one exchange of qubits
abbrev pub by_qubits : ProgramData
by_qubits = record two_gates_and_one {
  ops =
      Item 0 (trap 0) (cx_on 0 1) (0 ∷ 1 ∷ [])
      ∷ Item 1 (trap 0) (x_on 2) (2 ∷ [])
      ∷ GSwap (trap 0) 0 2
      ∷ Split (trap 0) Right (segment 0)
      ∷ Move (segment 0)
      ∷ Merge (segment 0) (trap 1) Left
      ∷ Item 2 (trap 1) (cx_on 0 3) (0 ∷ 1 ∷ [])
      ∷ [];
}

abbrev pub qubit_lines : List (List ℕ)
qubit_lines =
    codes "QCCD report 1"
    ∷ codes "qubits 4 bits 0 traps 2 segments 1 junctions 0"
    ∷ codes "start T0 0 1 2"
    ∷ codes "start T1 3"
    ∷ codes "ops 7"
    ∷ codes "0 0 100 item 0 cx T0 q0@0 q1@1"
    ∷ codes "1 100 105 item 1 x T0 q2@2"
    ∷ codes "2 105 435 gswap T0 0 2"
    ∷ codes "3 435 515 split T0 right S0"
    ∷ codes "4 515 520 move S0"
    ∷ codes "5 520 600 merge S0 T1 left"
    ∷ codes "6 600 700 item 2 cx T1 q0@0 q3@1"
    ∷ codes "end T0 heat 100 0:q2 1:q1"
    ∷ codes "end T1 heat 210 2:q0 3:q3"
    ∷ codes "counts split 1 merge 1 move 1 enter 0 leave 0 rot 0 gswap 1 gate1 1 gate2 2 measure 0 reset 0 fence 0"
    ∷ codes "finish 700"
    ∷ []

abbrev pub lines : List (List ℕ) → List ℕ
lines texts = flat_map line texts

-- operations of which there is another number of each kind that is counted
abbrev pub of_all_kinds : List OpKind
of_all_kinds =
    replicate 2 (Split (trap 0) Left (segment 0))
    ++ replicate 3 (Merge (segment 0) (trap 0) Left)
    ++ replicate 5 (Move (segment 0))
    ++ replicate 4 (Enter (segment 0) (junction 0))
    ++ replicate 1 (Leave (junction 0) (segment 0))
    ++ replicate 6 (Rot (trap 0) 0)
    ++ replicate 8 (GSwap (trap 0) 0 1)
    ++ replicate 7 (Item 0 (trap 0) (h_on 0) (0 ∷ []))
    ++ replicate 9 (Item 0 (trap 0) (cx_on 0 1) (0 ∷ 1 ∷ []))
    ++ replicate 11 (Item 0 (trap 0) (measure_into 0 0) (0 ∷ []))
    ++ replicate 12 (Item 0 (trap 0) (reset_of 0) (0 ∷ []))
    ++ replicate 10 (Fence 0 (barrier_over (qubit 0 ∷ [])) (trap 0 ∷ []))

-- gates in two traps, in turn
abbrev pub in_turn : List OpKind
in_turn =
    Item 0 (trap 0) (h_on 0) (0 ∷ [])
    ∷ Item 1 (trap 0) (h_on 1) (1 ∷ [])
    ∷ Item 2 (trap 1) (h_on 3) (0 ∷ [])
    ∷ Item 3 (trap 1) (h_on 3) (0 ∷ [])
    ∷ Item 4 (trap 0) (h_on 2) (2 ∷ [])
    ∷ []

abbrev pub gates_in_turn : ProgramData
gates_in_turn = record two_gates_and_one { ops = in_turn }

-- the same where no gate takes time
abbrev pub timeless : ProgramData
timeless = record gates_in_turn { machine = record gates_in_turn.machine { times = record gates_in_turn.machine.times { gate1 = 0 } } }
