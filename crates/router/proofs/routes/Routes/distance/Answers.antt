use Rattle.std.proofs.Common.{rules, length, ◌<◌, ap}
use Rattle.router.specs.declared.hops.Hop.{Hop}
use Rattle.router.proofs.Reading.{hop_got, hops_long, hops_row_long}
use Rattle.router.proofs.routes.Routes.distance.Goals as goal

pub index-requires : goal.index-requires
index-requires c =
    let within : c.from.result < length c.self.inside.hops.items = hops_long c.self.inside.wiring c.args.self.now c.args.to.0 c.from.result c.self.inside.hops.items c.self.view_is c.self.invariant.2 c.from.ensures c.requires.to in
    search rules

pub at-requires : goal.at-requires
at-requires c = hops_row_long c.self.inside.wiring c.args.self.now c.args.from.0 c.args.to.0 c.from.result c.self.inside.hops.items c.index.result.now c.self.view_is c.self.invariant.2 c.from.ensures c.requires.to c.requires.from c.index.ensures

pub returns : goal.returns
returns c =
    ap (λ (hop : Hop). hop.distance)
    (hop_got c.self.inside.wiring c.args.self.now c.args.from.0 c.args.to.0 c.from.result c.self.inside.hops.items c.index.result.now c.at.result.now c.self.view_is c.self.invariant.2 c.from.ensures c.requires.to c.requires.from c.index.ensures c.at.ensures)
