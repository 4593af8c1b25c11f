use Rattle.claim_core.proofs.Swapped.{run-swapped}
use Rattle.claim_core.proofs.laws.neighbours_exchanged.Goals as goal

pub returns-clause-run : goal.returns-clause-run
returns-clause-run c m s xs ys a b safe all apart run = (run-swapped m s xs ys a b safe all apart run).0

pub returns-clause-state : goal.returns-clause-state
returns-clause-state c m s xs ys a b safe all apart run = (run-swapped m s xs ys a b safe all apart run).1
