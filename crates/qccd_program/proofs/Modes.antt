-- A program that names no mode may have every operation.
use Rattle.std.proofs.Common.{◌≡◌, true, List, [], ◌∷◌, None, refl}
use Rattle.std.specs.Prelude.{IsTrue}
use Rattle.std.specs.List.{AllByRecursion}
use Rattle.op_table.specs.declared.kinds.OpKind.{OpKind}
use Rattle.op_table.specs.declared.kinds.OpKind.TheVariants.{Split, Move, Enter, Leave, Merge, Rot, GSwap, Item, Fence}
use Rattle.qccd_program.specs.Mode.{is_of_mode}

each : (op : OpKind) → is_of_mode None op ≡ true
each (Split t e g) = refl
each (Move g) = refl
each (Enter g j) = refl
each (Leave j g) = refl
each (Merge g t e) = refl
each (Rot t p) = refl
each (GSwap t low high) = refl
each (Item number t item at) = refl
each (Fence number item traps) = refl

pub without_mode : (ops : List OpKind) → AllByRecursion (λ op. IsTrue (is_of_mode None op)) ops
without_mode [] = tt
without_mode (op ∷ ops) = (each op, without_mode ops)
