use Rattle.atomic_table.specs.Table.{rest}
use Rattle.std.proofs.Common.{◌≡◌, ℕ, ◌*◌, ◌<◌, ◌∷◌, None, Some, sym, subst, ◌∙◌, ap, arith}
use Rattle.atomic_table.specs.Seated.{TableId}
use Rattle.op_cells.specs.Numbering.{index_of}
use Rattle.op_table.specs.Touch.{nth}
use Rattle.qccd_program.specs.Program.{ProgramData}
use Rattle.claim_board.specs.declared.view.View.{View}
use Rattle.claim_board.specs.Plays.{Knows, after_reach}
use Rattle.claim_board.specs.View.{seen_also}
use Rattle.claim_board.proofs.Claims.{may-reach, sits-more, taken-one, takes-slot, word-in}
use Rattle.claim_board.proofs.taking.reach_one.Goals as goal

pub reach-requires-clause-table : goal.reach-requires-clause-table
reach-requires-clause-table c =
    (c.requires.table, subst (λ (z : TableId). c.index_in-i.result < z.words) c.requires.table (word-in c.args.program.now c.args.place.now.table_id.words c.index_in-i.result c.args.place.now.me.0 c.args.seen.now.items c.args.r c.requires.sits c.needed-turn.ensures.there c.index_in-i.ensures).0)

pub reach-requires-clause-asks : goal.reach-requires-clause-asks
reach-requires-clause-asks c =
    let p = c.args.program.now in
    let h = c.requires.taken in
    let same = c.requires.sits.program in (
      c.args.k,
      c.args.r,
      may-reach p h.0 c.args.place.now.me c.args.cells.now.items c.args.k c.args.j c.args.r h.1 same c.requires.sits.live c.requires.at h.2,
      ap (λ (q : ProgramData). index_of q.machine c.args.r) same ∙ sym c.index_in-i.ensures,
      ap (λ (n : ℕ). 32 * n) (c.from-free.ensures ∙ c.needed-turn.ensures.value ∙ ap (λ (q : ProgramData). nth q.ops c.args.k c.args.r) (sym same)),
      omega (arith, c.from.ensures, c.requires.number.0),
    )

pub note-requires : goal.note-requires
note-requires c = (word-in c.args.program.now c.args.place.now.table_id.words c.index_in-i.result c.args.place.now.me.0 c.args.seen.now.items c.args.r c.requires.sits c.needed-turn.ensures.there c.index_in-i.ensures).1

pub take_out-requires-clause-taken : goal.take_out-requires-clause-taken
take_out-requires-clause-taken c =
    let p = c.args.program.now in
    let h = c.requires.taken in
    let same = c.requires.sits.program in
    let at = ap (λ (q : ProgramData). index_of q.machine c.args.r) same ∙ sym c.index_in-i.ensures in
    let may = may-reach p h.0 c.args.place.now.me c.args.cells.now.items c.args.k c.args.j c.args.r h.1 same c.requires.sits.live c.requires.at h.2 in
    takes-slot c.args.place.now.me.0.program c.args.r _ _ _ c.reach.new.place.me c.index_in-i.result (c.reach.ensures.taken c.args.k c.args.r may at) (sym at)

pub returns-clause-sits : goal.returns-clause-sits
returns-clause-sits c =
    let p = c.args.program.now in
    let h = c.requires.taken in
    let same = c.requires.sits.program in
    let me = c.args.place.now.me in
    let at = ap (λ (q : ProgramData). index_of q.machine c.args.r) same ∙ sym c.index_in-i.ensures in
    let may = may-reach p h.0 me c.args.cells.now.items c.args.k c.args.j c.args.r h.1 same c.requires.sits.live c.requires.at h.2 in
    let t = c.reach.ensures.taken c.args.k c.args.r may at in
    let is : c.take_out.new.place.me.0 ≡ after_reach c.args.k c.args.r me.0 = ap (λ (z : Knows). z.0) c.take_out.ensures.seat.2 ∙ ap (λ (z : Knows). z.0) t.knows in
    sits-more p c.args.place.now.table_id.words _ me.0 c.take_out.new.place.me.0 c.args.seen.now.items c.note.new.seen.items c.index_in-i.result c.needed-turn.result c.requires.sits
    (ap (λ (z : TableId). z.words) (c.take_out.ensures.seat.0 ∙ c.reach.ensures.seat.0)) (ap (λ (z : View). z.live) is) (ap (λ (z : View). z.program) is)
    (ap (λ (z : View). z.seen) is ∙ (λ j. seen_also me.0.seen (at j) ((ap (λ (q : ProgramData). nth q.ops c.args.k c.args.r) same ∙ sym c.needed-turn.ensures.value) j))) c.note.ensures

pub returns-clause-taken : goal.returns-clause-taken
returns-clause-taken c v is h =
    let p = c.args.program.now in
    let same = c.requires.sits.program in
    let at = ap (λ (q : ProgramData). index_of q.machine c.args.r) same ∙ sym c.index_in-i.ensures in
    let may = may-reach p v c.args.place.now.me c.args.cells.now.items c.args.k c.args.j c.args.r is same c.requires.sits.live c.requires.at h in
    let i_is = c.index_in-i.ensures in
    let put = c.take_out.ensures.cells in
    taken-one p v c.args.place.now.me c.reach.new.place.me c.take_out.new.place.me c.args.cells.now.items c.take_out.new.cells.items c.args.k c.args.j c.args.r is c.needed-turn.ensures.there c.requires.at h
    (c.reach.ensures.taken c.args.k c.args.r may at)
    (c.take_out.ensures.seat.2 ∙ ap (λ (n : ℕ). (c.reach.new.place.me.0, (n, None) ∷ rest c.reach.new.place.me.1)) i_is)
    (put.0, put.1 ∙ ap (λ (n : ℕ). (n, Some put.0) ∷ rest c.reach.new.place.me.1) i_is, put.2)
