use Rattle.std.proofs.Common.{◌∷◌, [], List, length, length-append, sym, subst, ◌∙◌, ap, arith}
use Rattle.claim_board.specs.declared.pass.Pass.{Pass}
use Rattle.claim_board.specs.Deck.{AreDealt}
use Rattle.claim_board.specs.Plays.{stays}
use Rattle.claim_board.proofs.Emptying.{dealt-more}
use Rattle.claim_board.proofs.dealing.passes_of.Goals as goal

pub loop-number-preserved : goal.loop-number-preserved
loop-number-preserved c =
    let h = c.loop-number.invariant in
    let deck = c.args.deck.now in
    let p = c.args.program.now in
    record {
      table = c.cut-place.ensures.seat.0 ∙ h.table;
      view = c.cut-place.ensures.seat.2 ∙ (λ i. (stays (h.view i).0, (h.view i).1));
      dealt =
          subst (AreDealt deck p 1) (sym c.in_ok-push.ensures.items)
          (dealt-more deck p 1 c.loop-number.number c.loop-number.passes.items c.in_ok-pass_at.field-0 h.dealt (omega (arith, h.count)) c.in_ok-pass_at.ensures);
      count = omega (arith, h.count, ap (λ (xs : List Pass). length xs) c.in_ok-push.ensures.items, length-append c.loop-number.passes.items (c.in_ok-pass_at.field-0 ∷ []));
    }
