use Rattle.std.proofs.Common.{◌≡◌, ◌∙◌, ℕ, [], ◌∷◌, ◌++◌, List, length, ap, sym, subst, arith}
use Rattle.std.specs.Prelude.{slice_index_or}
use Rattle.arrayvec.specs.ArrayVec.{ArrayVec}
use Rattle.claim_board.specs.Deck.{view_of}
use Rattle.workers.specs.Window.{Leaves}
use Rattle.workers.proofs.Windows.{leaves-left, leaves-past, one-more, there-at}
use Rattle.workers.proofs.window.without_past.Goals as goal
use Rattle.workers.proofs.window.without_past.Goals.{then-not-is_past, else-not-is_past}

pub is_past-requires-clause-there : goal.is_past-requires-clause-there
is_past-requires-clause-there c = there-at c.args.program.now c.args.ops.now c.loop-k.k-index 0 c.requires.there c.loop-k-test.true

pub loop-k-preserved : goal.loop-k-preserved
loop-k-preserved c =
    let p = c.args.program.now in
    let v = view_of c.args.pass.now in
    let ks = c.args.ops.now in
    let i = c.loop-k.k-index in
    let left = c.loop-k.left.items in
    let inv = c.loop-k.invariant in
    elim c.if-not-is_past.branch [
      | then-not-is_past w ↦
          let is : c.if-not-is_past.left.items ≡ left ++ slice_index_or ks i 0 ∷ [] = ap (λ (a : ArrayVec ℕ). a.items) w.left-is ∙ w.push.ensures.items in
          record {
            leaves = subst (Leaves p v _) (sym is) (leaves-left p v ks left i 0 c.loop-k-test.true c.requires.there inv.leaves);
            few = (let long = ap (λ (xs : List ℕ). length xs) is in let few = inv.few in let one = one-more left (slice_index_or ks i 0) in omega (arith, long, few, one));
          }
      | else-not-is_past w ↦
          let is : c.if-not-is_past.left.items ≡ left = ap (λ (a : ArrayVec ℕ). a.items) w.left-is in
          record {
            leaves = subst (Leaves p v _) (sym is) (leaves-past p v ks left i 0 c.loop-k-test.true (c.is_past.ensures w.if-not-is_past.false) inv.leaves);
            few = (let long = ap (λ (xs : List ℕ). length xs) is in let few = inv.few in omega (arith, long, few));
          }
    ]
