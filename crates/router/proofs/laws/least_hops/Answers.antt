use Rattle.std.proofs.Common.{sym, ◌∙◌, inl, inr}
use Rattle.std.proofs.lemmas.Bool.{cases_lt, false≢true}
use Rattle.router.specs.Hops.{distance}
use Rattle.router.proofs.Distances.{distance_is}
use Rattle.router.proofs.laws.least_hops.Goals as goal

pub returns-clause-lead : goal.returns-clause-lead
returns-clause-lead c = λ w a b wiring from to. (distance_is w a b wiring from to).leads

pub returns-clause-fewest : goal.returns-clause-fewest
returns-clause-fewest c = λ w a b count wiring from to lead. elim (cases_lt count (distance w a b)) [
  | inl less ↦ absurd (false≢true (sym ((distance_is w a b wiring from to).least count less) ∙ lead))
  | inr more ↦ more
]

pub returns-clause-below : goal.returns-clause-below
returns-clause-below c = λ w a b wiring from to. (distance_is w a b wiring from to).below
