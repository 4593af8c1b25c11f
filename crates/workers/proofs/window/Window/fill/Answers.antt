use Rattle.std.proofs.Common.{◌≡◌, ◌∙◌, ◌<◌, ◌+◌, [], ◌∷◌, ◌++◌, List, length, get_or, ap, sym, subst, refl, Some}
use Rattle.std.proofs.lemmas.Bool.{false≢true}
use Rattle.std.proofs.lemmas.Option.{same_Some, slice_get_read}
use Rattle.std.specs.Prelude.{slice_get}
use Rattle.op_table.specs.declared.kinds.OpKind.{OpKind}
use Rattle.claim_board.specs.Deck.{view_of}
use Rattle.workers.specs.Kind.{does}
use Rattle.workers.specs.Window.{Covers}
use Rattle.workers.specs.declared.window.Window.{Window}
use Rattle.workers.proofs.Windows.{covers-push, covers-skip}
use Rattle.workers.proofs.window.Window.fill.Goals as goal
use Rattle.workers.proofs.window.Window.fill.Goals.{then-does+then-not-is_past, else-does, else-does-via-then-does+else-not-is_past, else-does-via-else-does}

pub loop-ops-preserved : goal.loop-ops-preserved
loop-ops-preserved c =
    let p = c.args.program.now in
    let v = view_of c.args.pass.now in
    let n = c.loop-ops.self.next in
    let ks = c.loop-ops.self.ops.items in
    let covers = c.loop-ops.invariant.covers in
    let op = c.index-ops-k.result in
    let less : n < length p.ops = subst (λ (os : List OpKind). n < length os) c.ops-ops.ensures.value c.if-self-ops.true in
    let at : slice_get p.ops n ≡ Some op = slice_get_read p.ops (length p.ops) n op refl less (c.index-ops-k.is ∙ ap (λ (os : List OpKind). get_or os n op) c.ops-ops.ensures.value) in
    elim c.if-does.branch [
      | then-does+then-not-is_past w ↦
          let is : c.if-does.self.ops.items ≡ ks ++ n ∷ [] = ap (λ (s : Window). s.ops.items) w.self-is ∙ w.push.ensures.items in
          record { covers = subst (Covers p c.args.kind v (n + 1)) (sym is) (covers-push p c.args.kind v n ks less covers) }
      | else-does w ↦
          let is : c.if-does.self.ops.items ≡ ks = ap (λ (s : Window). s.ops.items) w.self-is in
          elim w.else-does.branch [
            | else-does-via-then-does+else-not-is_past u ↦
                record { covers = subst (Covers p c.args.kind v (n + 1)) (sym is) (covers-skip p c.args.kind v n ks less covers (λ o here d. u.is_past.ensures u.if-not-is_past.false)) }
            | else-does-via-else-does u ↦
                record {
                  covers = subst (Covers p c.args.kind v (n + 1)) (sym is)
                      (covers-skip p c.args.kind v n ks less covers
                      (λ o here d. absurd (false≢true (sym u.if-does.false ∙ c.does.ensures ∙ ap (does c.args.kind) (same_Some op o (sym at ∙ here)) ∙ d))));
                }
          ]
    ]
