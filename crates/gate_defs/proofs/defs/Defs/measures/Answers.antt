use Rattle.std.proofs.Common.{List, ap, arith, length, subst}
use Rattle.gate_defs.specs.declared.kinds.Def.{Def}
use Rattle.gate_defs.specs.Kept.{AreMeasuresOf}
use Rattle.gate_defs.proofs.Keeping.{measured_at}
use Rattle.gate_defs.proofs.Measuring.{as_many}
use Rattle.gate_defs.proofs.defs.Defs.measures.Goals as goal

pub index-requires : goal.index-requires
index-requires c =
    omega (arith, c.requires, ap length c.self.view_is, as_many c.self.inside.defs.items c.self.inside.measures.items c.self.invariant.are_measures, c.self.inside.measures.ok.0)

pub returns : goal.returns
returns c =
    let kept = c.self.invariant in
    let m = c.index.result.now in
    subst (λ (defs : List Def). AreMeasuresOf defs c.args.id m) c.self.view_is
    (measured_at c.self.inside.defs.items c.self.inside.measures.items c.self.inside.numbers c.args.id m kept c.index.ensures
    (omega (arith, c.requires, ap length c.self.view_is)))
