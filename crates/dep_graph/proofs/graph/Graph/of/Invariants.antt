-- The items from here on are linked.
use Rattle.dep_graph.specs.Linking.{LinksFrom, data_of}
use Rattle.dep_graph.proofs.graph.Graph.of.Given as goal

abbrev pub invariant-loop-index : goal.invariant-loop-index
invariant-loop-index l = LinksFrom l.items l.index (data_of l.linking)
