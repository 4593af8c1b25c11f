use Rattle.std.proofs.Common.{◌∙◌, ◌+◌, ℕ, Option, sym, ap, ap₂, nat_le, nat_lt}
use Rattle.std.specs.List.{list_all}
use Rattle.qccd_circuit.specs.Item.{cond_bits}
use Rattle.qccd_circuit.specs.declared.kinds.Cond.{Cond}
use Rattle.op_cells.proofs.Legalities.{range_below}
use Rattle.op_cells.proofs.places.read_below.Goals as goal

pub returns-else-cond-eq0 : goal.returns-else-cond-eq0
returns-else-cond-eq0 c =
    ap₂ (λ (a b : ℕ). nat_le (a + b) c.args.bits) c.from.ensures c.from-in-Some.ensures ∙ range_below c.in-Some.cond.first.0 c.in-Some.cond.count c.args.bits c.if-cond-eq0.false
    ∙ ap (λ (o : Option Cond). list_all (λ b. nat_lt b.0 c.args.bits) (cond_bits o)) (sym c.in-Some.is)
