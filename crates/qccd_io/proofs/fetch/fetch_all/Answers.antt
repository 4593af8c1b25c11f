use Rattle.std.proofs.Common.{◌≡◌, ◌<◌, ◌⊎◌, ℕ, inl, Vec, Global, arith}
use Rattle.std.proofs.lemmas.Result.{IfOk-weaker}
use Rattle.qccd_io.specs.Faults.{Rose}
use Rattle.qccd_io.specs.Fetch.{HasLeft, HasMoreLeft, HoldsFile, HoldsMoreThan}
use Rattle.qccd_io.specs.Shelf.{Lacks}
use Rattle.qccd_io.proofs.Faulting.{IfErr-map, Rose-from_later}
use Rattle.qccd_io.proofs.Lending.{CanGiveBack-from_Lends, HoldsTheSame-from_PutsBack, HoldsFile-from_Lends, HoldsMoreThan-from_Lends}
use Rattle.qccd_io.proofs.fetch.fetch_all.Goals as goal

pub lend-requires : goal.lend-requires
lend-requires g c = c.requires

pub returns-in-Err-clause-fault : goal.returns-in-Err-clause-fault
returns-in-Err-clause-fault g c = c.in-Err.ensures.failed

pub returns-in-Err-clause-same : goal.returns-in-Err-clause-same
returns-in-Err-clause-same g c = c.in-Err.ensures.keeps

pub returns-in-Err-clause-counts : goal.returns-in-Err-clause-counts
returns-in-Err-clause-counts g c = c.in-Err.ensures.counts

pub give_back-requires : goal.give_back-requires
give_back-requires g c =
    CanGiveBack-from_Lends _ _ _ _ _ c.in-Ok.ensures.lends c.read_all-read.ensures.same

pub returns-clause-ok : goal.returns-clause-ok
returns-clause-ok g c =
    let held : (v : Vec ℕ Global) → HasLeft (g.F.Src.Source.told c.in-Ok.source) v.items
    → HoldsFile (g.F.Shelf.told c.args.shelf.now) c.args.name.now v.items =
    λ v left. HoldsFile-from_Lends _ _ _ _ _ c.in-Ok.ensures.lends left in
    IfOk-weaker _ _ _ held c.read_all-read.ensures.ok

pub returns-clause-fits : goal.returns-clause-fits
returns-clause-fits g c = c.read_all-read.ensures.fits

pub returns-clause-fault : goal.returns-clause-fault
returns-clause-fault g c =
    let rises : Rose (g.F.Src.Source.faults c.in-Ok.source) (g.F.Src.Source.faults c.read_all-read.new.source)
    → Rose (g.F.Shelf.faults c.args.shelf.now) (g.F.Shelf.faults c.give_back.new.self) ⊎ Lacks (g.F.Shelf.told c.args.shelf.now) c.args.name.now =
    λ rose.
    let any : 0 < g.F.Src.Source.faults c.read_all-read.new.source = omega (arith, rose, c.in-Ok.ensures.fresh) in
    inl (Rose-from_later _ _ _ c.in-Ok.ensures.counts c.give_back.ensures.counts (c.give_back.ensures.rises any)) in
    let large : (l : ℕ) → (l ≡ c.args.limit) × HasMoreLeft (g.F.Src.Source.told c.in-Ok.source) c.args.limit
    → (l ≡ c.args.limit) × HoldsMoreThan (g.F.Shelf.told c.args.shelf.now) c.args.name.now c.args.limit =
    λ l more. (more.0, HoldsMoreThan-from_Lends _ _ _ _ _ c.in-Ok.ensures.lends more.1) in
    IfErr-map _ _ _ _ _ rises large c.read_all-read.ensures.fault

pub returns-clause-same : goal.returns-clause-same
returns-clause-same g c =
    HoldsTheSame-from_PutsBack _ _ _ _ _ _ c.requires c.in-Ok.ensures.lends c.read_all-read.ensures.same c.give_back.ensures.puts_back

pub returns-clause-counts : goal.returns-clause-counts
returns-clause-counts g c = omega (arith, c.in-Ok.ensures.counts, c.give_back.ensures.counts)
