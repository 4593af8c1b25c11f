use Rattle.std.proofs.Common.{sym, ◌∙◌}
use Rattle.rows_circuit.proofs.ordering.take_where_ready.Goals as goal

pub take-requires : goal.take-requires
take-requires c = (
  c.args.circuit.now.items,
  record { made = c.requires.made; follows = c.requires.follows; is_next = sym (c.ready.ensures c.args.circuit.now.items c.requires.follows) ∙ c.if-not-ready.false },
)

pub returns : goal.returns
returns c = c.take.ensures.follows c.args.circuit.now.items (record { made = c.requires.made; follows = c.requires.follows; is_next = sym (c.ready.ensures c.args.circuit.now.items c.requires.follows) ∙ c.if-not-ready.false })
