-- The operands so far are met.
use Rattle.std.proofs.Common.{◌≡◌, ◌+◌, length, Some}
use Rattle.std.specs.Prelude.{slice_get, List}
use Rattle.qccd_circuit.specs.Item.{ItemData}
use Rattle.qccd_circuit.specs.Operands.{operands_of}
use Rattle.dep_graph.specs.Linking.{LinksFrom, data_of}
use Rattle.dep_graph.proofs.Linked.{Partly}
use Rattle.dep_graph.proofs.linking.Linking.link.Given as goal

abbrev pub invariant-loop-k : goal.invariant-loop-k
invariant-loop-k l =
    (items : List ItemData) → slice_get items l.number ≡ Some l.item → LinksFrom items (l.number + 1) (data_of l.fn.self)
    → Partly (length items) (operands_of l.item) l.number (data_of l.fn.self) (data_of l.self) l.k
