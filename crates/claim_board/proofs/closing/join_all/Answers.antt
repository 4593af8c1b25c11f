use Rattle.std.proofs.Common.{◌≡◌, ◌∷◌, ◌++◌, List, None, sym, ◌∙◌, ap}
use Rattle.claim_board.specs.declared.pass.Pass.{Pass}
use Rattle.claim_board.specs.Deck.{view_of}
use Rattle.claim_board.specs.Plays.{Knows}
use Rattle.claim_board.proofs.Emptying.{all-middle, append-one}
use Rattle.claim_board.proofs.Joining.{joined-more}
use Rattle.claim_board.proofs.closing.join_all.Goals as goal

pub merge-requires-clause-table : goal.merge-requires-clause-table
merge-requires-clause-table c =
    let h = c.loop-pass.invariant in
    let own = all-middle (λ (q : Pass). (q.place.table_id ≡ c.args.top.now.table_id) × ((view_of q).program ≡ c.args.top.now.key.program.value) × ((view_of q).op ≡ None)) c.args.passes.items c.loop-pass.passes.items c.pop-in-loop-pass.new.self.items h.joined.0 c.in-Some-pop.pass c.requires.each h.joined.1 c.in-Some-pop.ensures.items in
    (h.table, own.0, c.requires.words)

pub merge-requires-clause-empty : goal.merge-requires-clause-empty
merge-requires-clause-empty c =
    let h = c.loop-pass.invariant in
    let own = all-middle (λ (q : Pass). (q.place.table_id ≡ c.args.top.now.table_id) × ((view_of q).program ≡ c.args.top.now.key.program.value) × ((view_of q).op ≡ None)) c.args.passes.items c.loop-pass.passes.items c.pop-in-loop-pass.new.self.items h.joined.0 c.in-Some-pop.pass c.requires.each h.joined.1 c.in-Some-pop.ensures.items in
    (own.2, c.in-Some-pop.pass.empty (sym c.in-Some-pop.pass.op_is ∙ own.2))

pub loop-pass-preserved : goal.loop-pass-preserved
loop-pass-preserved c =
    let h = c.loop-pass.invariant in
    let own = all-middle (λ (q : Pass). (q.place.table_id ≡ c.args.top.now.table_id) × ((view_of q).program ≡ c.args.top.now.key.program.value) × ((view_of q).op ≡ None)) c.args.passes.items c.loop-pass.passes.items c.pop-in-loop-pass.new.self.items h.joined.0 c.in-Some-pop.pass c.requires.each h.joined.1 c.in-Some-pop.ensures.items in
    record {
      table = c.merge.ensures.0 ∙ h.table;
      joined = (
        c.in-Some-pop.pass ∷ h.joined.0,
        h.joined.1 ∙ ap (λ (xs : List Pass). xs ++ h.joined.0) c.in-Some-pop.ensures.items ∙ append-one c.pop-in-loop-pass.new.self.items h.joined.0 c.in-Some-pop.pass,
        joined-more c.args.top.now.key.program.value c.loop-pass.place.me.0 c.merge.new.place.me.0 c.in-Some-pop.pass h.joined.0 h.joined.2 own.1 (ap (λ (z : Knows). z.0) c.merge.ensures.2),
      );
    }
