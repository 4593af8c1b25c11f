use Rattle.std.proofs.Common.{◌≡◌, ◌≢◌, ℕ, ◌+◌, ◌*◌, ◌<◌, List, [], Option, sym, subst, ◌∙◌, ap, refl, arith}
use Rattle.atomic_table.specs.Seated.{TableId}
use Rattle.op_cells.specs.Numbering.{index_of}
use Rattle.op_table.specs.Touch.{nth}
use Rattle.qccd_program.specs.Program.{ProgramData}
use Rattle.claim_core.specs.Event.{touched}
use Rattle.claim_core.proofs.Kept.{first_among}
use Rattle.claim_board.specs.declared.claimed.Claimed.{Claimed}
use Rattle.claim_board.specs.declared.view.View.{View}
use Rattle.claim_board.specs.Pass.{Answered, Looked}
use Rattle.claim_board.specs.Plays.{Knows}
use Rattle.claim_board.proofs.Claims.{answered-look, looked-one, word-in}
use Rattle.claim_board.proofs.taking.begin_at.Goals as goal

pub begin-found-requires-clause-table : goal.begin-found-requires-clause-table
begin-found-requires-clause-table c =
    (c.requires.table, subst (λ (z : TableId). c.index_in-i.result < z.words) c.requires.table (word-in c.args.program.now c.args.place.now.table_id.words c.index_in-i.result c.args.place.now.me.0 c.args.seen.now.items c.args.r c.requires.sits c.needed-turn.ensures.there c.index_in-i.ensures).0)

pub note-requires : goal.note-requires
note-requires c = (word-in c.args.program.now c.args.place.now.table_id.words c.index_in-i.result c.args.place.now.me.0 c.args.seen.now.items c.args.r c.requires.sits c.needed-turn.ensures.there c.index_in-i.ensures).1

pub note-requires-else-found-free : goal.note-requires-else-found-free
note-requires-else-found-free c = (word-in c.args.program.now c.args.place.now.table_id.words c.index_in-i.result c.args.place.now.me.0 c.args.seen.now.items c.args.r c.requires.sits c.needed-turn.ensures.there c.index_in-i.ensures).1

pub returns-else-found-free-clause-told : goal.returns-else-found-free-clause-told
returns-else-found-free-clause-told c =
    let p = c.args.program.now in
    let v = c.args.place.now.me.0 in
    let me = c.begin-found.new.place.me in
    let i = c.index_in-i.result in
    let x = c.begin-found.result in
    let l = c.begin-found.ensures.looked c.if-found-free.false in
    let is = ap (λ (z : Knows). z.0) l.0 in
    let within = (word-in p c.args.place.now.table_id.words i v c.args.seen.now.items c.args.r c.requires.sits c.needed-turn.ensures.there c.index_in-i.ensures).1 in (
      subst (λ (w : View). Looked v w 1) (sym is) (looked-one v i x),
      ap (λ (z : Knows). z.1) l.0,
      subst (λ (a : Claimed). Answered v me.0 c.args.k [] a) (sym c.why_not.ensures)
          (answered-look v me.0 c.args.k i x c.needed-turn.result c.args.r c.requires.may.empty is
          (c.index_in-i.ensures ∙ ap (λ (q : ProgramData). index_of q.machine c.args.r) (sym c.requires.sits.program))
          (subst (λ (s : List ℕ). i < Rattle.std.proofs.Common.length s) (sym c.requires.sits.seen) within)
          (first_among (touched v.program.ops c.args.k) c.args.r c.requires.may.first)
          (c.needed-turn.ensures.value ∙ ap (λ (q : ProgramData). nth q.ops c.args.k c.args.r) (sym c.requires.sits.program))
          (λ e. c.if-found-free.false (e ∙ ap (λ (n : ℕ). 32 * n) (sym c.from-free.ensures)))),
    )
