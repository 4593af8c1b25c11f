use Rattle.std.proofs.Common.{◌≤◌, ◌^◌, ◌<◌, ℕ, length, decimal, ap, arith}
use Rattle.std.proofs.lemmas.Fmt.{length-decimal-le}
use Rattle.qccd_io.specs.Piece.{PieceData}
use Rattle.qccd_io.proofs.piece.Piece.put_number.Goals as goal

short : (n : ℕ) → n < 2 ^ 64 → length (decimal n) ≤ 20
short n small = length-decimal-le 20 n (omega arith) (omega (arith, small)) small

pub write_digits-self-inside-requires : goal.write_digits-self-inside-requires
write_digits-self-inside-requires c =
    let digits = short c.args.n c.ranges.n.fits in
    let room = ap (λ (p : PieceData). p.room) c.self.view_is in
    (omega (arith, digits, room, c.requires), omega (arith, c.self.invariant))

pub returns-clause-room : goal.returns-clause-room
returns-clause-room c =
    let digits = short c.args.n c.ranges.n.fits in
    let room = ap (λ (p : PieceData). p.room) c.self.view_is in
    omega (arith, digits, room, c.write_digits-self-inside.ensures.start)
