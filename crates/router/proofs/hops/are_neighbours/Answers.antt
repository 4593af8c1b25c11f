use Rattle.std.proofs.Common.{◌∙◌, ap, arith}
use Rattle.std.specs.Prelude.{is_some}
use Rattle.router.specs.Paths.{hop_path}
use Rattle.router.specs.Tables.{paths_to}
use Rattle.router.proofs.Tabled.{entry_at, entry_got, table_long}
use Rattle.router.proofs.hops.are_neighbours.Goals as goal

pub bounds-paths-from : goal.bounds-paths-from
bounds-paths-from c = omega (arith, c.from.ensures, table_long (paths_to c.args.wiring.now) c.args.wiring.now.traps c.args.to.0 c.args.paths.now c.requires.paths c.requires.to)

pub at-requires : goal.at-requires
at-requires c =
    table_long (λ a. hop_path c.args.wiring.now a c.args.to.0) c.args.wiring.now.traps c.args.from.0 c.index-paths-from.result
    (entry_at (paths_to c.args.wiring.now) c.args.wiring.now.traps c.args.to.0 c.from.result c.args.paths.now c.index-paths-from.result c.requires.paths c.from.ensures c.requires.to c.index-paths-from.is) c.requires.from

pub returns : goal.returns
returns c =
    c.is_some.ensures ∙ ap is_some (entry_got (λ a. hop_path c.args.wiring.now a c.args.to.0) c.args.wiring.now.traps c.args.from.0 c.index-paths-from.result c.at.result.now
    (entry_at (paths_to c.args.wiring.now) c.args.wiring.now.traps c.args.to.0 c.from.result c.args.paths.now c.index-paths-from.result c.requires.paths c.from.ensures c.requires.to c.index-paths-from.is) c.requires.from c.at.ensures)
