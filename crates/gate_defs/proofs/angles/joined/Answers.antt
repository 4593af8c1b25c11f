use Rattle.std.proofs.Common.{ap₂, ◌≡◌, ◌<◌, ◌+◌, length, get_or, sym, ap, ◌∙◌, arith, flat_map, take, length-append, List, ℕ}
use Rattle.std.specs.Prelude.{nat_lt}
use Rattle.std.proofs.lemmas.Bool.{lt-ltb, ltb-true}
use Rattle.std.proofs.lemmas.List.{get_or_default}
use Rattle.std.proofs.lemmas.List.Folds.{length-flat_map-take}
use Rattle.gate_defs.specs.declared.kinds.Piece.{Piece}
use Rattle.gate_defs.specs.declared.kinds.Piece.TheVariants.{Param}
use Rattle.gate_defs.specs.Angles.{piece_text}
use Rattle.gate_defs.proofs.angles.joined.Goals as goal

-- the text of some of the pieces is past the limit, so that of all is
pub returns-then-is_past : goal.returns-then-is_past
returns-then-is_past c =
    let f = piece_text c.args.args.now in
    let ps = c.args.pieces.now in
    let i = c.loop-piece.piece-index in
    let new = c.put_piece.new.text.items in
    let past : 1024 < length new =
    ltb-true 1024 (length new) (sym (c.is_past.ensures ∙ ap (λ (l : List ℕ). nat_lt 1024 (length l)) c.deref.ensures.value) ∙ c.if-is_past.true) in
    let here : c.piece-item.result ≡ get_or ps i (Param 0) = c.piece-item.is ∙ get_or_default ps i _ (Param 0) c.loop-piece-test.true in
    let size : length new ≡ length (flat_map f (take i ps)) + length (f (get_or ps i (Param 0))) =
    ap length c.in_ok-put_piece.ensures ∙ length-append c.loop-piece.text.items _ ∙ ap₂ (λ (l : List ℕ) (p : Piece). length l + length (f p)) c.loop-piece.invariant.0 here in
    lt-ltb 1024 (length (flat_map f ps)) (omega (arith, past, size, length-flat_map-take f ps i (Param 0) c.loop-piece-test.true))
