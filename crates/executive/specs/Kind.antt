-- Which operations the workers of a team do.
use Rattle.std.specs.Prelude.{ℕ, ◌%◌, ◌==◌, if◌then◌else◌, List, All, ◌≡◌}
use Rattle.claim_board.specs.Deck.{view_of}
use Rattle.workers.specs.declared.kind.WorkerKind.{WorkerKind}
use Rattle.workers.specs.declared.kind.WorkerKind.TheVariants.{Transport, Gate, Any}
use Rattle.workers.specs.declared.worker.Worker.{Worker}
use Rattle.workers.specs.Worker.{kind_of, pass_of}

-- One worker alone does all. Of more, those with an even number move ions, and those with an odd one do the items
abbrev pub kind_for : ℕ → ℕ → WorkerKind
kind_for number workers = if workers == 1 then Any else if number % 2 == 0 then Transport else Gate

-- each of so many workers is of the kind for its number
abbrev pub HaveKinds : ℕ → List Worker → Type 0
HaveKinds workers team = All (λ w. kind_of w ≡ kind_for (view_of (pass_of w)).number workers) team
