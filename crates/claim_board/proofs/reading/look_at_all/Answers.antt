use Rattle.std.proofs.Common.{ℕ, List, [], length, Option, refl, sym, ◌∙◌, ap, subst}
use Rattle.std.specs.Prelude.{IfSome}
use Rattle.std.proofs.lemmas.Bool.{false≢true}
use Rattle.claim_core.proofs.Coded.{index-at}
use Rattle.claim_board.specs.declared.claimed.Claimed.{Claimed}
use Rattle.claim_board.specs.Pass.{Answered}
use Rattle.claim_board.proofs.Claims.{looked-next, looked-own, none-told, told-looked}
use Rattle.claim_board.proofs.reading.look_at_all.Goals as goal

pub loop-i-init : goal.loop-i-init
loop-i-init c = record { table = refl; id = refl; slots = refl; sits = c.requires.sits; looked = looked-own c.args.place.now.me.0; free = λ r h. absurd (false≢true h) }

pub look_at-why-requires-clause-table : goal.look_at-why-requires-clause-table
look_at-why-requires-clause-table c = c.loop-i.invariant.table ∙ c.requires.table

pub look_at-why-requires-clause-sits : goal.look_at-why-requires-clause-sits
look_at-why-requires-clause-sits c = c.loop-i.invariant.sits

pub returns-then-is_some-clause-told : goal.returns-then-is_some-clause-told
returns-then-is_some-clause-told c =
    let p = c.args.program.now in
    let at = index-at p c.args.k c.loop-i.i c.touched_by-touched.result.now _ c.touched_by-touched.ensures c.loop-i-test.true in
    let s = c.loop-i.invariant.sits in
    let view = c.look_at-why.ensures.view in
    let t = told-looked p c.args.place.now.me.0 c.loop-i.place.me.0 c.look_at-why.new.place.me.0 c.args.k c.loop-i.i view.0 c.needed-turn.result _ c.look_at-why.result s.program
    (ap (λ (z : List ℕ). length z) s.seen ∙ s.long) c.needed-turn.ensures.there at c.needed-turn.ensures.value c.requires.empty c.loop-i.invariant.looked view.1 view.2 (sym c.is_some.ensures ∙ c.if-is_some.true) in
    subst (λ (o : Option Claimed). IfSome o (λ a. Answered c.args.place.now.me.0 c.look_at-why.new.place.me.0 c.args.k [] a)) (sym t.1.1) t.1.2

pub loop-i-preserved : goal.loop-i-preserved
loop-i-preserved c =
    let p = c.args.program.now in
    let at = index-at p c.args.k c.loop-i.i c.touched_by-touched.result.now _ c.touched_by-touched.ensures c.loop-i-test.true in
    let s = c.loop-i.invariant.sits in
    let view = c.look_at-why.ensures.view in
    let t = looked-next p c.args.place.now.me.0 c.loop-i.place.me.0 c.look_at-why.new.place.me.0 c.args.k c.loop-i.i view.0 c.needed-turn.result _ s.program
    (ap (λ (z : List ℕ). length z) s.seen ∙ s.long) c.needed-turn.ensures.there at c.needed-turn.ensures.value c.loop-i.invariant.looked c.loop-i.invariant.free view.1
    (sym view.2 ∙ none-told c.look_at-why.result (sym c.is_some.ensures ∙ c.if-is_some.false)) in
    record {
      table = c.look_at-why.ensures.seat.0 ∙ c.loop-i.invariant.table;
      id = c.look_at-why.ensures.seat.1 ∙ c.loop-i.invariant.id;
      slots = c.look_at-why.ensures.seat.2 ∙ c.loop-i.invariant.slots;
      sits = c.look_at-why.ensures.sits;
      looked = t.0;
      free = t.1;
    }
