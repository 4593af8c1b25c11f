use Rattle.std.proofs.Common.{length}
use Rattle.qccd_base.specs.Names.{trap}
use Rattle.qccd_base.specs.declared.names.Res.TheVariants as res
use Rattle.router.proofs.LeastPath.{hop_path_is, not_less}
use Rattle.router.proofs.laws.least_of_all_paths.Goals as goal

pub returns-clause-is_path : goal.returns-clause-is_path
returns-clause-is_path c = λ w a b path is. (hop_path_is w a b path is).leads_to

pub returns-clause-fewest : goal.returns-clause-fewest
returns-clause-fewest c = λ w a b path other is. (hop_path_is w a b path is).fewest other

pub returns-clause-least : goal.returns-clause-least
returns-clause-least c = λ w a b path other is on long. not_less w b (length path) (res.Trap (trap a)) path other (hop_path_is w a b path is).least on long

pub returns-clause-short : goal.returns-clause-short
returns-clause-short c = λ w a b path is. (hop_path_is w a b path is).short
