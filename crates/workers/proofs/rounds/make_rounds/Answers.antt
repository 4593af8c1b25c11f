use Rattle.std.proofs.Common.{◌≡◌, ◌∙◌, ℕ, List, inr, length, ap, sym, arith}
use Rattle.std.proofs.lemmas.Bool.{eqb-true}
use Rattle.claim_board.specs.Deck.{view_of}
use Rattle.workers.proofs.Windows.{covers-all, covers-on}
use Rattle.workers.proofs.Working.{worked-more}
use Rattle.workers.proofs.rounds.make_rounds.Goals as goal

pub loop-swept-preserved : goal.loop-swept-preserved
loop-swept-preserved g c =
    let inv = c.loop-swept.invariant in
    let swept = c.loop-swept.swept in
    let u = view_of c.loop-swept.pass in
    let w = view_of c.claim_each-round.new.pass in
    let round = c.claim_each-round.result in
    let done = c.claim_each-round.ensures in
    record {
      together = done.together;
      empty = done.empty;
      worked = worked-more (view_of c.args.pass.now) u w swept.done swept.claims round.done round.claims inv.worked done.worked;
      done = omega (arith, inv.done, done.done);
      few = omega (arith, c.loop-swept-test.true, done.few);
      covers = covers-on c.args.program.now c.args.kind u w round.done round.claims c.renewed-window.result.next c.renewed-window.result.ops.items inv.together.program c.ops-ops.ensures.legal done.worked c.renewed-window.ensures.covers;
    }

pub returns-then-is_empty-clause-swept : goal.returns-then-is_empty-clause-swept
returns-then-is_empty-clause-swept g c =
    let inv = c.loop-swept.invariant in
    let ops = c.renewed-window.result.ops.items in
    let seen = c.as_slice-ops.result.now in
    let none : length ops ≡ 0 = ap (λ (ks : List ℕ). length ks) (sym c.as_slice-ops.ensures.value) ∙ eqb-true (length seen) 0 (sym c.is_empty.ensures ∙ c.if-is_empty.true) in
    record {
      worked = inv.worked;
      empty = inv.empty;
      few = inv.few;
      end = inr (covers-all c.args.program.now c.args.kind (view_of c.loop-swept.pass) c.renewed-window.result.next ops none (c.renewed-window.ensures.all none) c.renewed-window.ensures.covers);
    }
