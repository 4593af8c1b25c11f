-- What contracts see of a worker.
use Rattle.claim_board.specs.declared.pass.Pass.{Pass}
use Rattle.workers.specs.declared.kind.WorkerKind.{WorkerKind}
use Rattle.workers.specs.declared.worker.Worker.{Worker}

-- which operations it does, and its part of the deck
abbrev pub kind_of : Worker → WorkerKind
kind_of worker = worker.kind

abbrev pub pass_of : Worker → Pass
pass_of worker = worker.pass
