use Rattle.std.proofs.Common.{◌∙◌, sym}
use Rattle.std.proofs.lemmas.Bool.{ne_eqb}
use Rattle.qccd_base.specs.declared.names.End.TheVariants.{Left}
use Rattle.qccd_machine.specs.declared.place.Place.TheVariants.{TrapEnd}
use Rattle.router.proofs.Following.{hop_path_none, hop_path_own, hop_path_some}
use Rattle.router.proofs.paths.HopPath.of.Goals as goal

pub returns-then-from-to : goal.returns-then-from-to
returns-then-from-to c = c.none.ensures ∙ sym (hop_path_own c.args.wiring.now c.args.from.0 c.args.to.0 c.if-from-to.true)

pub returns-in_ok-path-in-Some : goal.returns-in_ok-path-in-Some
returns-in_ok-path-in-Some c =
    c.along.ensures ∙ sym (hop_path_some c.args.wiring.now c.args.from.0 c.args.to.0 c.in-Some.count (ne_eqb c.args.from.0 c.args.to.0 c.if-from-to.false) (sym (c.requires.least (TrapEnd c.args.from Left) c.requires.few) ∙ sym c.at.ensures ∙ c.in-Some.is) ∙ c.in_ok-path-in-Some.ensures)

pub returns-in-None : goal.returns-in-None
returns-in-None c =
    c.none-in-None.ensures ∙ sym (hop_path_none c.args.wiring.now c.args.from.0 c.args.to.0 (sym (c.requires.least (TrapEnd c.args.from Left) c.requires.few) ∙ sym c.at.ensures ∙ c.in-None.is))
