-- An operation's resources, as they are read off a program.
use Rattle.std.proofs.Common.{◌≡◌, ℕ, ◌<◌, true, List, length, get_or, refl, sym, ◌∙◌, ap, Some}
use Rattle.std.specs.Prelude.{slice_get, slice_index_or}
use Rattle.std.proofs.lemmas.Option.{slice_get-get_or, slice_get_read}
use Rattle.qccd_base.specs.declared.names.Res.{Res}
use Rattle.qccd_base.specs.Resource.{among}
use Rattle.op_table.specs.declared.kinds.OpKind.{OpKind}
use Rattle.op_table.specs.Touch.{touches}
use Rattle.qccd_program.specs.Legal.{IsLegalProgram}
use Rattle.qccd_program.specs.Program.{ProgramData}
use Rattle.claim_core.specs.Board.{is_there}
use Rattle.claim_core.specs.Event.{touched}
use Rattle.claim_core.proofs.Coded.{get-there}
use Rattle.claim_core.proofs.Legally.{claims-legal, touched_at}
use Rattle.claim_board.proofs.Claims.{get-among}

-- the resource r is the i-th that operation k touches
pub record Reads (p : ProgramData) (k i : ℕ) (op : OpKind) (r : Res) : Type 0 where
  pub op_is : slice_get p.ops k ≡ Some op
  pub res_is : slice_get (touches op) i ≡ Some r
  pub there : is_there p r ≡ true
  pub touches : among (touched p.ops k) r ≡ true

pub reads-at : (p : ProgramData) (ops : List OpKind) (rs : List Res) (k i : ℕ) (op : OpKind) (d : Res) → IsLegalProgram p → ops ≡ p.ops → k < length p.ops → op ≡ get_or ops k op → rs ≡ touches op → i < length rs → Reads p k i op (slice_index_or rs i d)
reads-at p ops rs k i op d legal listed there at same less =
    let op_is : slice_get p.ops k ≡ Some op = slice_get_read p.ops (length p.ops) k op refl there (at ∙ ap (λ (os : List OpKind). get_or os k op) listed) in
    let res_is : slice_get (touches op) i ≡ Some (slice_index_or rs i d) = ap (λ (xs : List Res). slice_get xs i) (sym same) ∙ slice_get-get_or rs i d less in
    let in_touched : slice_get (touched p.ops k) i ≡ Some (slice_index_or rs i d) = ap (λ (xs : List Res). slice_get xs i) (touched_at p.ops k op op_is) ∙ res_is in
    record {
      op_is = op_is;
      res_is = res_is;
      there = get-there p k i (slice_index_or rs i d) (claims-legal p legal) in_touched;
      touches = get-among (touched p.ops k) i (slice_index_or rs i d) in_touched;
    }
