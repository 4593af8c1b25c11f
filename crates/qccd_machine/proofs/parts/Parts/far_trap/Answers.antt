use Rattle.std.proofs.Common.{◌≡◌, ◌<◌, true, false, length, get_or, sym, ◌∙◌, ap, rules}
use Rattle.std.proofs.lemmas.Bool.{false≢true}
use Rattle.qccd_base.specs.declared.names.Res.TheVariants.{Trap}
use Rattle.qccd_machine.specs.Fault.{data_of}
use Rattle.qccd_machine.proofs.Questions.{trap_far, trap_passed}
use Rattle.qccd_machine.proofs.parts.Parts.far_trap.Goals as goal

pub loop-trap-preserved : goal.loop-trap-preserved
loop-trap-preserved c =
    let marked : get_or c.args.marks.now.traps c.loop-trap.trap false ≡ true = sym (ap (λ i. get_or c.args.marks.now.traps i false) c.from.ensures) ∙ c.if-not-marks-from.false in
    trap_passed (data_of c.args.self.now) c.loop-trap.trap ((c.requires.marks (Trap (record { 0 = c.loop-trap.trap }))).0 marked) c.loop-trap.invariant

pub returns-then-not-marks-from-clause-some : goal.returns-then-not-marks-from-clause-some
returns-then-not-marks-from-clause-some c =
    let here : c.loop-trap.trap < length c.args.self.now.capacities.items = search rules in
    let bare : get_or c.args.marks.now.traps c.loop-trap.trap false ≡ false = sym (ap (λ i. get_or c.args.marks.now.traps i false) c.from.ensures) ∙ c.if-not-marks-from.true in
    trap_far (data_of c.args.self.now) c.loop-trap.trap here (λ reached. false≢true (sym bare ∙ (c.requires.marks (Trap (record { 0 = c.loop-trap.trap }))).1 reached)) c.loop-trap.invariant
