use Rattle.std.proofs.Common.{◌≡◌, ℕ, List, [], drop, ap, arith}
use Rattle.std.proofs.lemmas.List.{drop_all}
use Rattle.qccd_io.specs.Piece.{PieceData}
use Rattle.qccd_io.proofs.piece.Piece.clear.Goals as goal

pub returns : goal.returns
returns c =
    let none : drop 288 c.self.inside.bytes ≡ [] = drop_all 288 c.self.inside.bytes (omega arith) in
    ap (λ (text : List ℕ). record { text = text; room = 288 }) none
