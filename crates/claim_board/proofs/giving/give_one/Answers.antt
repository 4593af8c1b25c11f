use Rattle.std.proofs.Common.{◌≡◌, ℕ, ◌+◌, ◌*◌, List, ◌∷◌, length, None, Some, sym, subst, ◌∙◌, ap}
use Rattle.atomic_table.specs.Seated.{TableId}
use Rattle.atomic_table.specs.Table.{rest}
use Rattle.op_cells.specs.Numbering.{index_of}
use Rattle.op_table.specs.Touch.{nth}
use Rattle.qccd_program.specs.CellOfRun.{IsCell}
use Rattle.qccd_program.specs.Program.{ProgramData}
use Rattle.claim_board.specs.declared.view.View.{View}
use Rattle.claim_board.specs.Plays.{Knows, after_give}
use Rattle.claim_board.specs.View.{seen_also}
use Rattle.claim_board.proofs.Claims.{sits-more}
use Rattle.claim_board.proofs.Handing.{given-one, may-give, next-slot}
use Rattle.claim_board.proofs.giving.give_one.Goals as goal

pub exchange-requires : goal.exchange-requires
exchange-requires c =
    let h = c.requires.given in
    (c.requires.table, (None, next-slot c.args.program.now h.0 c.args.place.now.me h.1 c.args.k c.args.n c.index_in-i.result c.args.held.res h.2 c.requires.held.0 c.index_in-i.ensures h.3))

pub give-requires-clause-asks : goal.give-requires-clause-asks
give-requires-clause-asks c =
    let p = c.args.program.now in
    let h = c.requires.given in
    let me = c.args.place.now.me in
    let r = c.args.held.res in
    let out = c.exchange.ensures.3 in
    let w_is = ap (λ (z : Knows). z.0) out in
    let w_p = ap (λ (z : View). z.program) w_is ∙ c.requires.sits.program in
    let slots = ap (λ (z : Knows). z.1) out in (
      c.args.k,
      r,
      c.args.held.cell,
      may-give p h.0 c.exchange.new.seat.me.0 me h.1 c.args.k c.args.n r h.2 w_is c.requires.sits.program c.requires.sits.live c.requires.held.0 h.3,
      ap (λ (q : ProgramData). index_of q.machine r) w_p ∙ sym c.index_in-i.ensures,
      ap (λ (n : ℕ). 32 * n) (c.from.ensures ∙ ap (λ (n : ℕ). n + 1) (c.needed-next.ensures.value ∙ ap (λ (q : ProgramData). nth q.ops c.args.k r) (sym w_p))),
      slots ∙ (λ j. (c.index_in-i.result, Some c.args.held.cell) ∷ rest (sym slots j)),
      subst (λ (q : ProgramData). IsCell q r (nth q.ops c.args.k r + 1) c.args.held.cell) (sym w_p) c.requires.held.1,
    )

pub returns-clause-sits : goal.returns-clause-sits
returns-clause-sits c =
    let p = c.args.program.now in
    let h = c.requires.given in
    let me = c.args.place.now.me in
    let r = c.args.held.res in
    let w_is = ap (λ (z : Knows). z.0) c.exchange.ensures.3 in
    let w_p = ap (λ (z : View). z.program) w_is ∙ c.requires.sits.program in
    let may = may-give p h.0 c.exchange.new.seat.me.0 me h.1 c.args.k c.args.n r h.2 w_is c.requires.sits.program c.requires.sits.live c.requires.held.0 h.3 in
    let at = ap (λ (q : ProgramData). index_of q.machine r) w_p ∙ sym c.index_in-i.ensures in
    let given = c.give.ensures.given c.args.k r may at in
    let is : c.give.new.place.me.0 ≡ after_give c.args.k r me.0 = ap (λ (z : Knows). z.0) given ∙ ap (after_give c.args.k r) w_is in
    let me_p = c.requires.sits.program in
    sits-more p c.args.place.now.table_id.words _ me.0 c.give.new.place.me.0 c.args.seen.now.items c.note.new.seen.items c.index_in-i.result (c.needed-next.result + 1) c.requires.sits
    (ap (λ (z : TableId). z.words) (c.give.ensures.seat.0 ∙ c.exchange.ensures.0)) (ap (λ (z : View). z.live) is) (ap (λ (z : View). z.program) is)
    (ap (λ (z : View). z.seen) is ∙ (λ j. seen_also me.0.seen ((ap (λ (q : ProgramData). index_of q.machine r) me_p ∙ sym c.index_in-i.ensures) j) ((ap (λ (q : ProgramData). nth q.ops c.args.k r) me_p ∙ sym c.needed-next.ensures.value) j + 1))) c.note.ensures

pub returns-clause-given : goal.returns-clause-given
returns-clause-given c v held later v_p h cells =
    let p = c.args.program.now in
    let me = c.args.place.now.me in
    let r = c.args.held.res in
    let out = c.exchange.ensures.3 in
    let w_is = ap (λ (z : Knows). z.0) out in
    let w_p = ap (λ (z : View). z.program) w_is ∙ c.requires.sits.program in
    let may = may-give p v c.exchange.new.seat.me.0 me held c.args.k c.args.n r v_p w_is c.requires.sits.program c.requires.sits.live c.requires.held.0 h in
    let given = c.give.ensures.given c.args.k r may (ap (λ (q : ProgramData). index_of q.machine r) w_p ∙ sym c.index_in-i.ensures) in
    given-one p v me c.give.new.place.me c.exchange.new.seat.me.0 held later c.args.k c.args.n r v_p c.needed-next.ensures.there c.requires.held.0
    (sym h.kept.long ∙ ap (λ (z : List ℕ). length z) c.requires.sits.seen ∙ c.requires.sits.long) h w_is
    (given ∙ ap (λ (z : Knows). (after_give c.args.k r c.exchange.new.seat.me.0, rest z.1)) out) cells
