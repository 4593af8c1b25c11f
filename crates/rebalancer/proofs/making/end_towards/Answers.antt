use Rattle.std.proofs.Common.{sym, ◌∙◌, ap, [], Option, List, ℕ}
use Rattle.std.specs.Prelude.{unwrap_or}
use Rattle.rebalancer.specs.Hop.{leaving_end}
use Rattle.rebalancer.proofs.Planned.{path_by, path_segments}
use Rattle.rebalancer.proofs.making.end_towards.Goals as goal

pub leaving_end-requires : goal.leaving_end-requires
leaving_end-requires c =
    path_segments c.args.machine.now c.args.from.0 c.args.to.0 c.in-Some.path.now (path_by c.args.machine.now c.args.routes.now c.args.from.0 c.args.to.0 _ c.requires.routes c.in-Some.ensures)

pub returns-in-None : goal.returns-in-None
returns-in-None c =
    sym (ap (λ (o : Option (List ℕ)). leaving_end c.args.machine.now c.args.from.0 (unwrap_or o [])) (path_by c.args.machine.now c.args.routes.now c.args.from.0 c.args.to.0 _ c.requires.routes c.in-None.ensures))

pub returns-in-Some : goal.returns-in-Some
returns-in-Some c =
    c.leaving_end.ensures ∙ sym (ap (λ (o : Option (List ℕ)). leaving_end c.args.machine.now c.args.from.0 (unwrap_or o [])) (path_by c.args.machine.now c.args.routes.now c.args.from.0 c.args.to.0 _ c.requires.routes c.in-Some.ensures))
