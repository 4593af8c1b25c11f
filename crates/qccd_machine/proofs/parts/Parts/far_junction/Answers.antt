use Rattle.std.proofs.Common.{◌≡◌, ◌<◌, true, false, get_or, sym, ◌∙◌, ap, rules}
use Rattle.std.proofs.lemmas.Bool.{false≢true}
use Rattle.qccd_base.specs.declared.names.Res.TheVariants.{Junc}
use Rattle.qccd_machine.specs.Fault.{data_of}
use Rattle.qccd_machine.proofs.Questions.{junction_far, junction_passed}
use Rattle.qccd_machine.proofs.parts.Parts.far_junction.Goals as goal

pub loop-junction-preserved : goal.loop-junction-preserved
loop-junction-preserved c =
    let marked : get_or c.args.marks.now.junctions c.loop-junction.junction false ≡ true = sym (ap (λ i. get_or c.args.marks.now.junctions i false) c.from.ensures) ∙ c.if-not-marks-from.false in
    junction_passed (data_of c.args.self.now) c.loop-junction.junction ((c.requires.marks (Junc (record { 0 = c.loop-junction.junction }))).0 marked) c.loop-junction.invariant

pub returns-then-not-marks-from-clause-some : goal.returns-then-not-marks-from-clause-some
returns-then-not-marks-from-clause-some c =
    let here : c.loop-junction.junction < c.args.self.now.junctions = search rules in
    let bare : get_or c.args.marks.now.junctions c.loop-junction.junction false ≡ false = sym (ap (λ i. get_or c.args.marks.now.junctions i false) c.from.ensures) ∙ c.if-not-marks-from.true in
    junction_far (data_of c.args.self.now) c.loop-junction.junction here (λ reached. false≢true (sym bare ∙ (c.requires.marks (Junc (record { 0 = c.loop-junction.junction }))).1 reached)) c.loop-junction.invariant
