use Rattle.std.proofs.Common.{rules, length, ◌<◌, ◌≡◌, sym}
use Rattle.router.proofs.Reading.{path_got, paths_long, paths_row_long}
use Rattle.router.specs.Paths.{hop_path}
use Rattle.router.proofs.routes.Routes.hop_path.Goals as goal

pub index-requires : goal.index-requires
index-requires c =
    let within : c.from.result < length c.self.inside.paths.items = paths_long c.self.inside.wiring c.args.self.now c.args.to.0 c.from.result c.self.inside.paths.items c.self.view_is c.self.invariant.1 c.from.ensures c.requires.to in
    search rules

pub at-requires : goal.at-requires
at-requires c = paths_row_long c.self.inside.wiring c.args.self.now c.args.from.0 c.args.to.0 c.from.result c.self.inside.paths.items c.index.result.now c.self.view_is c.self.invariant.1 c.from.ensures c.requires.to c.requires.from c.index.ensures

pub returns : goal.returns
returns c =
    let is : c.at.result.now ≡ hop_path c.args.self.now c.args.from.0 c.args.to.0 =
    path_got c.self.inside.wiring c.args.self.now c.args.from.0 c.args.to.0 c.from.result c.self.inside.paths.items c.index.result.now c.at.result.now c.self.view_is c.self.invariant.1 c.from.ensures c.requires.to c.requires.from c.index.ensures c.at.ensures in
    let a = c.segments.ensures in rw (sym is) a
