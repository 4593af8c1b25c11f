-- What a pass keeps while its worker works.
use Rattle.std.proofs.Common.{◌≡◌, ℕ, ◌+◌, ◌<◌, true, refl, sym, ◌∙◌, subst, arith}
use Rattle.qccd_base.specs.declared.names.Res.{Res}
use Rattle.qccd_base.specs.Resource.{among}
use Rattle.qccd_program.specs.Program.{ProgramData}
use Rattle.claim_core.specs.Board.{is_there}
use Rattle.claim_core.specs.Event.{touched}
use Rattle.claim_board.specs.declared.view.View.{View}
use Rattle.claim_board.specs.Pass.{Kept}
use Rattle.workers.specs.Sweep.{HasSeenPast, HasWorked}

pub there-moved : (p q : ProgramData) (r : Res) → q ≡ p → is_there p r ≡ true → is_there q r ≡ true
there-moved p q r same h = subst (λ (x : ProgramData). is_there x r ≡ true) (sym same) h

pub worked-none : (v : View) → HasWorked v v 0 0
worked-none v = record {
  program = refl;
  workers = refl;
  live = refl;
  number = refl;
  made = refl;
  ended = refl;
  seen = λ r there. omega arith;
  begun = omega arith;
  claims = omega arith;
}

pub worked-more : (u v w : View) (d c e f : ℕ) → HasWorked u v d c → HasWorked v w e f → HasWorked u w (d + e) (c + f)
worked-more u v w d c e f a b = record {
  program = b.program ∙ a.program;
  workers = b.workers ∙ a.workers;
  live = b.live ∙ a.live;
  number = b.number ∙ a.number;
  made = b.made ∙ a.made;
  ended = b.ended ∙ a.ended;
  seen = λ r there. let x = a.seen r there in let y = b.seen r (there-moved u.program v.program r a.program there) in omega (arith, x, y);
  begun = omega (arith, a.begun, b.begun);
  claims = omega (arith, a.claims, b.claims, a.begun, b.begun);
}

-- a claim that began nothing
pub worked-looked : (v w : View) (most : ℕ) → Kept v w most → v.looks < w.looks → w.begun ≡ v.begun → HasWorked v w 0 1
worked-looked v w most kept looked begun = record {
  program = kept.program;
  workers = kept.workers;
  live = kept.live;
  number = kept.number;
  made = kept.made;
  ended = kept.ended;
  seen = kept.seen;
  begun = omega (arith, begun);
  claims = omega (arith, looked, begun);
}

-- a claim that began an operation, and its hand-back
pub worked-did : (v u w : View) (most : ℕ) → Kept v u most → u.begun ≡ v.begun + 1 → Kept u w 0 → w.begun ≡ u.begun → HasWorked v w 1 1
worked-did v u w most claimed begun given same = record {
  program = given.program ∙ claimed.program;
  workers = given.workers ∙ claimed.workers;
  live = given.live ∙ claimed.live;
  number = given.number ∙ claimed.number;
  made = given.made ∙ claimed.made;
  ended = given.ended ∙ claimed.ended;
  seen = λ r there.
      let x = claimed.seen r there in
      let y = given.seen r (there-moved v.program u.program r claimed.program there) in
      omega (arith, x, y);
  begun = omega (arith, begun, same);
  claims = omega (arith, begun, same, claimed.looks, given.looks);
}

-- what was seen past stays so
pub past-on : (p : ProgramData) (v w : View) (d c k : ℕ) → HasWorked v w d c → ((r : Res) → among (touched p.ops k) r ≡ true → is_there v.program r ≡ true) → HasSeenPast p v k → HasSeenPast p w k
past-on p v w d c k worked there past = record {
  res = past.res;
  touches = past.touches;
  past = (let x = worked.seen past.res (there past.res past.touches) in omega (arith, x, past.past));
}
