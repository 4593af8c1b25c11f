-- After its last turn a resource reads as at the end.
use Rattle.std.proofs.Common.{◌≡◌, ℕ, zero, suc, ◌+◌, ◌-◌, ◌≤◌, List, [], ◌∷◌, length, take, refl, sym, ◌∙◌, ap, arith}
use Rattle.qccd_base.specs.declared.names.Res.{Res}
use Rattle.qccd_base.specs.Resource.{among}
use Rattle.op_table.specs.declared.kinds.OpKind.{OpKind}
use Rattle.op_table.specs.Touch.{touches, total}
use Rattle.op_table.proofs.Counts.{count_by-cons}
use Rattle.qccd_program.specs.CellOfRun.{cell_at, cell_in}
use Rattle.qccd_program.specs.Faithful.{one_of}
use Rattle.qccd_program.specs.Program.{ProgramData}
use Rattle.qccd_program.specs.Turn.{at_turn}
use Rattle.qccd_program.specs.World.{opening_world, world_after}
use Rattle.qccd_program.proofs.Turning.{past, stepped, turn-end}

-- past its last turn a resource reads as at the end
turn_late : {S V : Type 0} (read : S → Res → V) (step : S → OpKind → S) (s : S) (ops : List OpKind) (r : Res) (n : ℕ) → total ops r ≤ n → at_turn read step s ops r n ≡ read (stepped step s ops) r
turn_late read step s [] r n h = refl
turn_late {S} {V} read step s (o ∷ ops) r n h =
    let sum : total (o ∷ ops) r ≡ one_of o r + total ops r = count_by-cons (λ x. among (touches x) r) o ops in
    let m : ℕ = n - one_of o r in
    let is : n ≡ one_of o r + m = omega (arith, h, sum) in
    ap (at_turn read step s (o ∷ ops) r) is ∙ past read step s o ops r m ∙ turn_late read step (step s o) ops r m (omega (arith, h, sum, is))

pub cell_late : (p : ProgramData) (r : Res) (n : ℕ) → total p.ops r ≤ n → cell_at p r n ≡ cell_at p r (total p.ops r)
cell_late p r n h = turn_late cell_in (world_after p.machine) (opening_world p) p.ops r n h ∙ sym (turn-end cell_in (world_after p.machine) (opening_world p) p.ops r)

pub take_all : {X : Type 0} (xs : List X) (k : ℕ) → length xs ≤ k → take k xs ≡ xs
take_all [] zero h = refl
take_all [] (suc k) h = refl
take_all (x ∷ xs) zero h = absurd (omega arith)
take_all {X} (x ∷ xs) (suc k) h = ap (λ (ys : List X). x ∷ ys) (take_all xs k (omega arith))
