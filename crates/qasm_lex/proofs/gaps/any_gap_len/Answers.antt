-- One more piece is passed, or no piece is left.
use Rattle.std.proofs.Common.{ℕ, List, ◌+◌, ◌≡◌, false, drop, sym, subst, arith, add_assoc, add-zero}
use Rattle.std.proofs.lemmas.List.{drop-drop, length-drop, take_rest}
use Rattle.qasm_lex.specs.Gaps.{begins_gap}
use Rattle.qasm_lex.specs.Fronts.{BeginsGap, GapAtFront}
use Rattle.qasm_lex.proofs.GapLemmas.{gap_goes_on, no_gap}
use Rattle.qasm_lex.proofs.gaps.any_gap_len.Goals as goal

pub loop-piece-preserved : goal.loop-piece-preserved
loop-piece-preserved c =
    let text = c.args.text.now in
    let len = c.loop-piece.len in
    let piece = c.in-Some.piece in
    let begun = subst (λ (t : List ℕ). BeginsGap t piece) (take_rest text len) c.in-Some.ensures.found in
    record {
      fits = omega (arith, begun.fits, begun.some, length-drop len text);
      goes_on = λ more behind.
          let inner = subst (λ (t : List ℕ). GapAtFront t more) (sym (drop-drop piece len text)) behind in
          subst (λ (n : ℕ). GapAtFront text n) (sym (add_assoc len piece more))
          (c.loop-piece.invariant.goes_on (piece + more) (gap_goes_on (drop len text) piece more begun inner));
    }

pub returns : goal.returns
returns c =
    let text = c.args.text.now in
    let len = c.loop-piece.len in
    let none = subst (λ (t : List ℕ). begins_gap t ≡ false) (take_rest text len) c.in_default.ensures.none in
    subst (λ (n : ℕ). GapAtFront text n) (add-zero len) (c.loop-piece.invariant.goes_on 0 (no_gap (drop len text) none))
