use Rattle.std.proofs.Common.{ℕ, List, sym, subst}
use Rattle.loader.specs.Written.{IsLoadedAs}
use Rattle.loader.proofs.Written.{comes_back, loaded_so}
use Rattle.loader.proofs.laws.loads_what_was_written.Goals as goal

pub returns : goal.returns
returns c = λ p text valid. (
  λ loaded. let so = loaded_so p.machine text p loaded in (so.3, so.1, so.2),
  λ is. subst (λ (t : List ℕ). IsLoadedAs p.machine t p) (sym is.0) (comes_back p valid is.1 is.2),
)
