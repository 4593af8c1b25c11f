use Rattle.std.proofs.Common.{◌≡◌, List, ℕ, ◌++◌, codes, decimal, ap, append_assoc}
use Rattle.qccd_io.specs.Piece.{PieceData}
use Rattle.tracer.proofs.Loops.{sent_as}
use Rattle.tracer.proofs.report.send_parts.Goals as goal

flat : (a b c d e f g : List ℕ) → a ++ (b ++ (c ++ (d ++ (e ++ (f ++ g))))) ≡ (((a ++ b) ++ (c ++ d)) ++ (e ++ f)) ++ g
flat a b c d e f g = simp (append_assoc)

pub returns : goal.returns
returns g c =
    let nothing = ap (λ (p : PieceData). p.text) c.new-piece.ensures in
    sent_as (flat (codes " traps ") (decimal c.args.traps) (codes " segments ") (decimal c.args.segments) (codes " junctions ") (decimal c.args.junctions) (codes "\n"))
    (rw (
      c.as_slice.ensures,
      c.put_labelled-3.ensures.text,
      c.from-3.ensures,
      c.put_labelled-2.ensures.text,
      c.from-2.ensures,
      c.put_labelled.ensures.text,
      c.from.ensures,
      c.put.ensures.text,
      nothing,
    ) at c.send.ensures)
