-- What a round claims.
use Rattle.std.specs.Prelude.{◌≡◌, ◌⊎◌, ℕ, ◌<◌, ◌≤◌, true, List, length, Some, slice_get}
use Rattle.op_table.specs.declared.kinds.OpKind.{OpKind}
use Rattle.qccd_program.specs.Program.{ProgramData}
use Rattle.claim_board.specs.declared.view.View.{View}
use Rattle.claim_board.specs.Rule.{stands}
use Rattle.workers.specs.Kind.{does}
use Rattle.workers.specs.Sweep.{HasSeenPast}
use Rattle.workers.specs.declared.kind.WorkerKind.{WorkerKind}

-- each number in the list is an operation's
abbrev pub AreThere : ProgramData → List ℕ → Type 0
AreThere p ks = (k : ℕ) → stands k ks ≡ true → k < length p.ops

-- each operation of the kind below `next` is past or stands in the list
pub record Covers (p : ProgramData) (kind : WorkerKind) (v : View) (next : ℕ) (ks : List ℕ) : Type 0 where
  pub few : next ≤ length p.ops
  pub there : AreThere p ks
  pub all : (k : ℕ) (op : OpKind) → k < next → slice_get p.ops k ≡ Some op → does kind op ≡ true → HasSeenPast p v k ⊎ (stands k ks ≡ true)

-- of the first list each operation is past or left in the second
pub record Leaves (p : ProgramData) (v : View) (ks left : List ℕ) : Type 0 where
  pub there : AreThere p left
  pub all : (k : ℕ) → stands k ks ≡ true → HasSeenPast p v k ⊎ (stands k left ≡ true)
