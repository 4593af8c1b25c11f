-- What the operations of a legal program touch is there, and each touches something.
use Rattle.std.proofs.Common.{◌≡◌, ℕ, zero, suc, ◌<◌, Bool, true, false, if◌then◌else◌, List, [], ◌∷◌, length, map, refl, ◌∙◌, ap, arith, Some}
use Rattle.std.specs.Prelude.{slice_get}
use Rattle.std.proofs.lemmas.Bool.{false≢true, lt-ltb}
use Rattle.qccd_base.specs.declared.names.Res.{Res}
use Rattle.qccd_base.specs.declared.names.Res.TheVariants as res
use Rattle.qccd_base.specs.Resource.{among, same_res, with_res, ascending, comes_before}
use Rattle.qccd_base.proofs.Resources.{all-among}
use Rattle.qccd_circuit.specs.Item.{bits_of}
use Rattle.op_table.specs.declared.kinds.OpKind.{OpKind}
use Rattle.op_table.specs.declared.kinds.OpKind.TheVariants.{Split, Move, Enter, Leave, Merge, Rot, GSwap, Item, Fence}
use Rattle.op_table.specs.Contents.{content}
use Rattle.op_table.specs.Op.{IsOp}
use Rattle.op_table.specs.State.{State, IsSafe}
use Rattle.op_table.specs.Touch.{possible, touches}
use Rattle.op_table.proofs.Every.{why-on}
use Rattle.op_table.proofs.Openings.{opening-safe}
use Rattle.op_cells.specs.Numbering.{IsThere}
use Rattle.op_cells.proofs.InTurn.{touched-there}
use Rattle.qccd_program.specs.Legal.{IsLegalProgram}
use Rattle.qccd_program.specs.Program.{ProgramData, opening_of, before}
use Rattle.qccd_program.proofs.Runs.{legal_at}
use Rattle.claim_core.specs.Board.{is_there}
use Rattle.claim_core.specs.Event.{touched, touches_of}
use Rattle.claim_core.specs.Coded.{Claims}

-- the start of a legal program is safe
pub start-safe : (p : ProgramData) → IsLegalProgram p → IsSafe p.machine (opening_of p)
start-safe p legal = opening-safe p.machine p.qubits p.bits p.start legal.start

some_with : (x : Res) (xs : List Res) → (r : Res) × (rs : List Res) × (with_res x xs ≡ r ∷ rs)
some_with x [] = (x, [], refl)
some_with x (q ∷ qs) = go (same_res x q) (comes_before x q)
  where
    go : (a b : Bool) → (r : Res) × (rs : List Res) × ((if a then q ∷ qs else (if b then x ∷ q ∷ qs else q ∷ with_res x qs)) ≡ r ∷ rs)
    go true b = (q, qs, refl)
    go false true = (x, q ∷ qs, refl)
    go false false = (q, with_res x qs, refl)

touches_some : (op : OpKind) → IsOp op → (r : Res) × (rs : List Res) × (touches op ≡ r ∷ rs)
touches_some (Split t e g) kept = some_with (res.Trap t) (ascending (res.Seg g ∷ []))
touches_some (Move g) kept = some_with (res.Seg g) []
touches_some (Enter g j) kept = some_with (res.Seg g) (ascending (res.Junc j ∷ []))
touches_some (Leave j g) kept = some_with (res.Seg g) (ascending (res.Junc j ∷ []))
touches_some (Merge g t e) kept = some_with (res.Trap t) (ascending (res.Seg g ∷ []))
touches_some (Rot t p) kept = some_with (res.Trap t) []
touches_some (GSwap t low high) kept = some_with (res.Trap t) []
touches_some (Item number t item at) kept = some_with (res.Trap t) (ascending (map res.Bit (possible (bits_of item))))
touches_some (Fence number item []) kept = absurd (no_length kept.1)
  where
    no_length : 0 < 0 → ⊥
    no_length h = omega arith
touches_some (Fence number item (t ∷ ts)) kept = some_with (res.Trap t) (ascending (map res.Trap ts))

there_test : (p : ProgramData) (r : Res) → IsThere p.machine p.bits r → is_there p r ≡ true
there_test p (res.Trap t) h = lt-ltb t.0 (length p.machine.capacities) h
there_test p (res.Seg g) h = lt-ltb g.0 (length p.machine.segments) h
there_test p (res.Junc j) h = lt-ltb j.0 p.machine.junctions h
there_test p (res.Bit b) h = lt-ltb b.0 p.bits h

op_at : (ops : List OpKind) (k : ℕ) (r : Res) → among (touched ops k) r ≡ true → (op : OpKind) × (slice_get ops k ≡ Some op) × (among (touches op) r ≡ true)
op_at [] k r h = absurd (false≢true h)
op_at (o ∷ ops) zero r h = (o, refl, h)
op_at (o ∷ ops) (suc k) r h = op_at ops k r h

pub op_there : (ops : List OpKind) (k : ℕ) → k < length ops → (op : OpKind) × (slice_get ops k ≡ Some op)
op_there [] k h = absurd (omega arith)
op_there (o ∷ ops) zero h = (o, refl)
op_there (o ∷ ops) (suc k) h = op_there ops k (omega arith)

pub touched_at : (ops : List OpKind) (k : ℕ) (op : OpKind) → slice_get ops k ≡ Some op → touched ops k ≡ touches op
touched_at ops k op is = ap touches_of is

touched_there : (p : ProgramData) (k : ℕ) (op : OpKind) (r : Res) → IsLegalProgram p → slice_get p.ops k ≡ Some op → among (touches op) r ≡ true → is_there p r ≡ true
touched_there p k op r legal is at =
    let s : State = before p k in
    let facts = legal_at p.machine (opening_of p) p.ops k op (start-safe p legal) legal.ops legal.run is in
    let all = touched-there p.machine s.bits op (map (content s) (touches op)) (why-on p.machine s op facts.1 facts.2 ∙ facts.0) in
    there_test p r (all-among (IsThere p.machine p.bits) (touches op) r (rw (← facts.3) all) at)

pub claims-legal : (p : ProgramData) → IsLegalProgram p → Claims p
claims-legal p legal = record {
  there = λ k r at. let op = op_at p.ops k r at in touched_there p k op.0 r legal op.1 op.2;
  some = λ k there.
      let op = op_there p.ops k there in
      let facts = legal_at p.machine (opening_of p) p.ops k op.0 (start-safe p legal) legal.ops legal.run op.1 in
      let some = touches_some op.0 facts.2 in
      (some.0, some.1, touched_at p.ops k op.0 op.1 ∙ some.2);
  few = legal.few;
}
