use Rattle.std.proofs.Common.{◌≡◌, ◌<◌, ◌+◌, ℕ, List, [], ◌∷◌, length, length-append, take, refl, sym, ◌∙◌, ap, subst, arith}
use Rattle.qccd_base.specs.declared.names.Res.{Res}
use Rattle.op_cells.specs.declared.cells.Held.{Held}
use Rattle.qccd_program.specs.Program.{ProgramData}
use Rattle.claim_core.specs.Event.{touched}
use Rattle.claim_core.proofs.Coded.{not-empty}
use Rattle.claim_core.proofs.Legally.{claims-legal}
use Rattle.claim_board.specs.Pass.{AreCells, HasGiven, next_turn}
use Rattle.claim_board.proofs.Handing.{cells-last, given-none, map-long}
use Rattle.claim_board.proofs.giving.give_all.Goals as goal

pub loop-held-init : goal.loop-held-init
loop-held-init c =
    let p = c.args.program.now in
    let v = c.args.place.now.me.0 in
    let same = c.requires.sits.program in
    let whole = c.requires.whole.1 in
    let there : c.args.k < length p.ops = subst (λ (q : ProgramData). c.args.k < length q.ops) same whole.there in
    let some = not-empty p c.args.k (touched p.ops c.args.k) (claims-legal p c.ops-ops.ensures.legal) there refl in
    let names : length c.args.cells.now.items ≡ length (touched p.ops c.args.k) = sym (map-long (λ (h : Held). h.res) c.args.cells.now.items) ∙ ap (λ (xs : List Res). length xs) c.requires.cells.names in
    record {
      table = refl;
      id = refl;
      sits = c.requires.sits;
      room = refl;
      given =
          given-none v c.args.place.now.me.1 c.args.cells.now.items c.args.k (length c.args.cells.now.items) c.requires.whole.0 whole (names ∙ ap (λ (q : ProgramData). length (touched q.ops c.args.k)) (sym same))
          (subst (λ (q : ProgramData). AreCells q (next_turn q c.args.k) (touched q.ops c.args.k) c.args.cells.now.items) (sym same) c.requires.cells) (omega (arith, some, names));
    }

pub give_one-requires-clause-held : goal.give_one-requires-clause-held
give_one-requires-clause-held c =
    let p = c.args.program.now in
    let same = c.requires.sits.program in
    let h = c.loop-held.invariant.given in
    let cells = subst (λ (q : ProgramData). AreCells q (next_turn q c.args.k) (take (length c.loop-held.cells.items) (touched q.ops c.args.k)) c.loop-held.cells.items) same h.cells in
    let last = cells-last p (next_turn p c.args.k) (touched p.ops c.args.k) c.loop-held.cells.items c.pop.new.self.items c.in-Some.held c.len.result cells c.in-Some.ensures.items (c.len.ensures ∙ c.pop.new.self.ok.0) in
    (last.0, last.1)

pub loop-held-preserved : goal.loop-held-preserved
loop-held-preserved c =
    let p = c.args.program.now in
    let v = c.args.place.now.me.0 in
    let same = c.requires.sits.program in
    let h = c.loop-held.invariant.given in
    let cells = subst (λ (q : ProgramData). AreCells q (next_turn q c.args.k) (take (length c.loop-held.cells.items) (touched q.ops c.args.k)) c.loop-held.cells.items) same h.cells in
    let count = c.len.ensures ∙ c.pop.new.self.ok.0 in
    let last = cells-last p (next_turn p c.args.k) (touched p.ops c.args.k) c.loop-held.cells.items c.pop.new.self.items c.in-Some.held c.len.result cells c.in-Some.ensures.items count in
    let long : length c.loop-held.cells.items ≡ c.len.result + 1 = omega (arith, ap (λ (xs : List Held). length xs) c.in-Some.ensures.items, length-append c.pop.new.self.items (c.in-Some.held ∷ []), count) in
    let before = subst (λ (n : ℕ). HasGiven v c.loop-held.place.me c.loop-held.cells.items c.args.k n) long h in
    record {
      table = c.give_one.ensures.seat.0 ∙ c.loop-held.invariant.table;
      id = c.give_one.ensures.seat.1 ∙ c.loop-held.invariant.id;
      sits = c.give_one.ensures.sits;
      room = c.in-Some.ensures.capacity ∙ c.loop-held.invariant.room;
      given = subst (λ (n : ℕ). HasGiven v c.give_one.new.place.me c.pop.new.self.items c.args.k n) count (c.give_one.ensures.given v c.loop-held.cells.items c.pop.new.self.items same before last.2);
    }
