use Rattle.std.proofs.Common.{◌++◌, ◌∷◌, [], ℕ, List, Option, None, Some, length, slice_index_or, refl, sym, subst, ◌∙◌, ap, arith}
use Rattle.std.specs.Prelude.{IfNone}
use Rattle.op_cells.specs.declared.cells.Held.{Held}
use Rattle.atomic_table.specs.Seated.{TableId}
use Rattle.atomic_table.specs.Table.{rest}
use Rattle.qccd_base.specs.Names.{trap}
use Rattle.qccd_base.specs.declared.names.Res.{Res}
use Rattle.qccd_base.specs.declared.names.Res.TheVariants.{Trap}
use Rattle.op_table.specs.Touch.{nth}
use Rattle.claim_core.specs.Event.{touched}
use Rattle.claim_core.proofs.Coded.{get-there, index-at, not-empty}
use Rattle.claim_core.proofs.Legally.{claims-legal}
use Rattle.claim_board.specs.declared.claimed.Claimed.{Claimed}
use Rattle.claim_board.specs.Plays.{Knows, Takes, after_begin}
use Rattle.claim_board.proofs.Claims.{may-begin, none-told, sits-same, taken-first}
use Rattle.claim_board.proofs.taking.take_all.Goals as goal

pub bounds-touched-0 : goal.bounds-touched-0
bounds-touched-0 c = not-empty c.args.program.now c.args.k c.touched_by-touched.result.now (claims-legal c.args.program.now c.ops-ops.ensures.legal) c.requires.there c.touched_by-touched.ensures

pub reach_one-requires-clause-table : goal.reach_one-requires-clause-table
reach_one-requires-clause-table c = c.loop-j.invariant.table ∙ c.requires.table

pub reach_one-requires-clause-sits : goal.reach_one-requires-clause-sits
reach_one-requires-clause-sits c = c.loop-j.invariant.sits

pub reach_one-requires-clause-number : goal.reach_one-requires-clause-number
reach_one-requires-clause-number c = (c.loop-j.invariant.taken.kept.number ∙ c.requires.number.0, c.requires.number.1)

pub reach_one-requires-clause-at : goal.reach_one-requires-clause-at
reach_one-requires-clause-at c = index-at c.args.program.now c.args.k c.loop-j.j c.touched_by-touched.result.now _ c.touched_by-touched.ensures c.loop-j-test.true

pub reach_one-requires-clause-room : goal.reach_one-requires-clause-room
reach_one-requires-clause-room c = omega (arith, c.requires.room, c.loop-j.invariant.room)

pub reach_one-requires-clause-taken : goal.reach_one-requires-clause-taken
reach_one-requires-clause-taken c = (c.args.place.now.me.0, c.requires.sits.program, c.loop-j.invariant.taken)

pub begin_at-why-requires-clause-may : goal.begin_at-why-requires-clause-may
begin_at-why-requires-clause-may c =
    let p = c.args.program.now in
    may-begin p c.args.place.now.me.0 c.args.k _ c.requires.sits.program c.requires.sits.live c.requires.empty.0 c.requires.there
    (index-at p c.args.k 0 c.touched_by-touched.result.now _ c.touched_by-touched.ensures (not-empty p c.args.k c.touched_by-touched.result.now (claims-legal p c.ops-ops.ensures.legal) c.requires.there c.touched_by-touched.ensures))
    c.requires.free

pub begin_at-why-requires-clause-first : goal.begin_at-why-requires-clause-first
begin_at-why-requires-clause-first c =
    let p = c.args.program.now in
    index-at p c.args.k 0 c.touched_by-touched.result.now _ c.touched_by-touched.ensures (not-empty p c.args.k c.touched_by-touched.result.now (claims-legal p c.ops-ops.ensures.legal) c.requires.there c.touched_by-touched.ensures)

pub take_out-requires-clause-room : goal.take_out-requires-clause-room
take_out-requires-clause-room c =
    let p = c.args.program.now in
    let more = not-empty p c.args.k (touched p.ops c.args.k) (claims-legal p c.ops-ops.ensures.legal) c.requires.there refl in
    omega (arith, c.requires.room, more, c.args.cells.now.ok.0, ap (λ (xs : List Held). length xs) c.requires.empty.2)

pub loop-j-init : goal.loop-j-init
loop-j-init c =
    let p = c.args.program.now in
    let v = c.args.place.now.me.0 in
    let r : Res = slice_index_or c.touched_by-touched.result.now 0 (Trap (trap 0)) in
    let at = index-at p c.args.k 0 c.touched_by-touched.result.now _ c.touched_by-touched.ensures (not-empty p c.args.k c.touched_by-touched.result.now (claims-legal p c.ops-ops.ensures.legal) c.requires.there c.touched_by-touched.ensures) in
    let there = get-there p c.args.k 0 r (claims-legal p c.ops-ops.ensures.legal) at in
    let none = none-told c.begin_at-why.result (sym c.is_some.ensures ∙ c.if-is_some.false) in
    let t = subst (λ (o : Option Claimed). IfNone o (Takes p r (nth p.ops c.args.k r) c.args.place.now.me (after_begin c.args.k r v) c.begin_at-why.new.place.me)) none c.begin_at-why.ensures.begun in
    let put = c.take_out.ensures.cells in
    let i_is = c.index_in.ensures in
    let out = c.take_out.ensures.seat.2 in
    record {
      table = c.take_out.ensures.seat.0 ∙ c.begin_at-why.ensures.seat.0;
      id = c.take_out.ensures.seat.1 ∙ c.begin_at-why.ensures.seat.1;
      sits = sits-same p c.begin_at-why.new.place.table_id.words c.take_out.new.place.table_id.words c.begin_at-why.new.place.me.0 c.take_out.new.place.me.0 c.begin_at-why.new.seen.items c.begin_at-why.ensures.sits (ap (λ (z : TableId). z.words) c.take_out.ensures.seat.0) (ap (λ (z : Knows). z.0) out);
      room = c.take_out.ensures.room;
      taken =
          taken-first p v c.args.place.now.me.1 c.begin_at-why.new.place.me c.take_out.new.place.me c.take_out.new.cells.items c.args.k r c.requires.sits.program there at c.requires.empty.1 t
          (out ∙ ap (λ (n : ℕ). (c.begin_at-why.new.place.me.0, (n, None) ∷ rest c.begin_at-why.new.place.me.1)) i_is)
          (put.0, put.1 ∙ ap (λ (n : ℕ). (n, Some put.0) ∷ rest c.begin_at-why.new.place.me.1) i_is, put.2 ∙ ap (λ (xs : List Held). xs ++ record { res = r; cell = put.0 } ∷ []) c.requires.empty.2);
    }
