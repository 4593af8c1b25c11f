use Rattle.std.proofs.Common.{◌∙◌, ap, arith, get_or, length, length-append, ◌∷◌, [], ℕ}
use Rattle.op_cells.proofs.RestedTraps.{fresh-next}
use Rattle.op_cells.proofs.cells.Cells.of.Goals as goal

pub loop-content-preserved : goal.loop-content-preserved
loop-content-preserved c =
    let left = c.pop.new.self.items in
    let long = ap (λ xs. length xs) c.in-Some.ensures.items ∙ length-append left ((c.in-Some.content, c.in-Some.free_at) ∷ []) in
    record {
      few = omega (arith, c.loop-content.invariant.few, long);
      made =
          fresh-next c.args.states.items c.args.rooms.items c.loop-content.states.items left (c.in-Some.content, c.in-Some.free_at) c.loop-content.list.items c.push.new.self.items c.index.result.now c.in_ok-log.log
          c.in-Some.ensures.items c.loop-content.invariant.few (c.index.ensures ∙ ap (λ (n : ℕ). get_or c.args.rooms.items n c.index.result.now) (c.len-in-Some.ensures ∙ c.pop.new.self.ok.0)) c.in_ok-log.ensures c.in_ok-push.ensures.items c.loop-content.invariant.made;
    }
