-- The report of a transport program.
use Rattle.std.specs.Prelude.{ℕ, Bool, ◌==◌, List, [], ◌∷◌, ◌++◌, length, map, filter, find, count_by, flat_map, filter_map, codes, decimal}
use Rattle.std.specs.List.{enumerate_from, range_with_len}
use Rattle.qccd_base.specs.Greatest.{greatest}
use Rattle.qccd_base.specs.Line.{line}
use Rattle.qccd_base.specs.declared.names.Ion.{Ion}
use Rattle.qccd_base.specs.declared.names.Qubit.{Qubit}
use Rattle.qccd_base.specs.declared.names.SegEnd.{SegEnd}
use Rattle.qccd_base.specs.declared.names.SegEnd.TheVariants.{A, B}
use Rattle.qccd_circuit.specs.declared.kinds.ItemKind.{ItemKind}
use Rattle.qccd_circuit.specs.declared.kinds.ItemKind.TheVariants.{Gate1, Gate2, Measure, Reset, Barrier}
use Rattle.op_table.specs.declared.kinds.OpKind.{OpKind}
use Rattle.op_table.specs.declared.kinds.OpKind.TheVariants.{Split, Move, Enter, Leave, Merge, Rot, GSwap, Item, Fence}
use Rattle.op_table.specs.State.{IonPlace, InTrap, OnSegment, InJunction, Stand, State, is_at, is_on_segment, is_in_junction, ions_in, heat_of}
use Rattle.op_table.specs.Clock.{Timed, timed}
use Rattle.qccd_program.specs.Program.{ProgramData, end_of}
use Rattle.op_text.specs.OpText.{next_word, qubit_text, op_text}
use Rattle.tracer.specs.TimeOrder.{time_order}

-- the words of a line, before the numbers that they name
abbrev pub labelled : List ℕ → ℕ → List ℕ
labelled label n = label ++ decimal n

abbrev pub size_line : ProgramData → List ℕ
size_line p = line (labelled (codes "qubits ") p.qubits ++ labelled (codes " bits ") p.bits
    ++ labelled (codes " traps ") (length p.machine.capacities) ++ labelled (codes " segments ") (length p.machine.segments)
    ++ labelled (codes " junctions ") p.machine.junctions)

-- a trap's number and the ions of its start chain
abbrev pub start_line : ℕ × List Ion → List ℕ
start_line e = line (labelled (codes "start T") e.0 ++ flat_map (λ i. next_word (decimal i.0)) e.1)

-- an operation's number, start, finish and text
abbrev pub op_line : ℕ × Timed → List ℕ
op_line e = line (decimal e.0 ++ next_word (decimal e.1.start) ++ next_word (decimal e.1.finish) ++ next_word (op_text e.1.op))

-- an ion and the qubit that it carries
abbrev pub pair_text : ℕ → Qubit → List ℕ
pair_text ion qubit = decimal ion ++ codes ":" ++ qubit_text qubit

abbrev pub entry_text : ℕ × Stand → List ℕ
entry_text e = pair_text e.0 e.1.qubit

-- the ions of a state with their numbers
abbrev pub numbered_ions : State → List (ℕ × Stand)
numbered_ions s = enumerate_from 0 s.ions

-- the ions of a trap, from left to right
abbrev pub chain_of : State → ℕ → List (ℕ × Stand)
chain_of s t = filter_map (λ k. find (λ e. is_at t k e.1.place) (numbered_ions s)) (range_with_len 0 (ions_in s t))

abbrev pub end_line : State → ℕ → List ℕ
end_line s t = line (labelled (codes "end T") t ++ labelled (codes " heat ") (heat_of s t)
    ++ flat_map (λ e. next_word (entry_text e)) (chain_of s t))

abbrev pub side_text : SegEnd → List ℕ
side_text A = codes "a"
side_text B = codes "b"

-- the line of a segment that holds an ion: the end at which it stands, its heat, and what is told of it
abbrev pub segment_line : ℕ → SegEnd → ℕ → List ℕ → List ℕ
segment_line g side heat entry =
    line (labelled (codes "end S") g ++ next_word (side_text side) ++ labelled (codes " heat ") heat ++ next_word entry)

-- the line of a junction that holds an ion
abbrev pub junction_line : ℕ → ℕ → List ℕ → List ℕ
junction_line j heat entry = line (labelled (codes "end J") j ++ labelled (codes " heat ") heat ++ next_word entry)

-- the line of an ion that the program leaves on a segment or in a junction
abbrev pub stray_text : ℕ × Stand → IonPlace → List ℕ
stray_text e (InTrap t k) = []
stray_text e (OnSegment g side heat) = segment_line g side heat (entry_text e)
stray_text e (InJunction j heat) = junction_line j heat (entry_text e)

abbrev pub stray_lines : State → (IonPlace → Bool) → List ℕ
stray_lines s here = flat_map (λ e. stray_text e e.1.place) (filter (λ e. here e.1.place) (numbered_ions s))

-- the column of the counts in which an operation stands
abbrev pub item_column : ItemKind → ℕ
item_column Gate1 = 7
item_column Gate2 = 8
item_column Measure = 9
item_column Reset = 10
item_column Barrier = 11

abbrev pub column_of : OpKind → ℕ
column_of (Split t e g) = 0
column_of (Merge g t e) = 1
column_of (Move g) = 2
column_of (Enter g j) = 3
column_of (Leave j g) = 4
column_of (Rot t p) = 5
column_of (GSwap t low high) = 6
column_of (Item number t item at) = item_column item.kind
column_of (Fence number item traps) = 11

abbrev pub columns : List (List ℕ)
columns = codes "split" ∷ codes "merge" ∷ codes "move" ∷ codes "enter" ∷ codes "leave" ∷ codes "rot" ∷ codes "gswap"
    ∷ codes "gate1" ∷ codes "gate2" ∷ codes "measure" ∷ codes "reset" ∷ codes "fence" ∷ []

abbrev pub count_text : List OpKind → ℕ × List ℕ → List ℕ
count_text ops column = next_word column.1 ++ next_word (decimal (count_by (λ op. column_of op == column.0) ops))

abbrev pub counts_line : List OpKind → List ℕ
counts_line ops = line (codes "counts" ++ flat_map (count_text ops) (enumerate_from 0 columns))

-- the greatest finish
abbrev pub last_finish : ProgramData → ℕ
last_finish p = greatest (map (λ e. e.finish) (timed p.machine p.ops))

-- what is left where at the end: each trap, then the segments and junctions that hold an ion
abbrev pub end_lines : ProgramData → List ℕ
end_lines p =
    flat_map (end_line (end_of p)) (range_with_len 0 (length p.machine.capacities))
    ++ flat_map (λ g. stray_lines (end_of p) (is_on_segment g)) (range_with_len 0 (length p.machine.segments))
    ++ flat_map (λ j. stray_lines (end_of p) (is_in_junction j)) (range_with_len 0 p.machine.junctions)

abbrev pub report_text : ProgramData → List ℕ
report_text p =
    line (codes "QCCD report 1")
    ++ size_line p
    ++ flat_map start_line (enumerate_from 0 p.start)
    ++ line (labelled (codes "ops ") (length p.ops))
    ++ flat_map op_line (time_order p)
    ++ end_lines p
    ++ counts_line p.ops
    ++ line (labelled (codes "finish ") (last_finish p))
