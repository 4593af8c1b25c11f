use Rattle.std.proofs.Common.{arith}
use Rattle.std.specs.Prelude.{slice_index_or}
use Rattle.qccd_base.specs.Names.{trap}
use Rattle.qccd_base.specs.declared.names.Res.{Res}
use Rattle.qccd_base.specs.declared.names.Res.TheVariants as res
use Rattle.claim_board.specs.Close.{turn_of}
use Rattle.executive.proofs.Finished.{less-false, less-true, number-below, one-past, one-rests, reads-first}
use Rattle.executive.proofs.finishing.is_finished.Goals as goal

pub bounds-touches-0 : goal.bounds-touches-0
bounds-touches-0 c = (reads-first c.args.program.now c.ops.result.now c.touches.result.now c.args.k c.index-ops-k.result (res.Trap (trap 0)) c.ops.ensures.legal c.ops.ensures.value c.requires.there c.index-ops-k.is c.touches.ensures).some

pub nth-turn-requires : goal.nth-turn-requires
nth-turn-requires c =
    let first = reads-first c.args.program.now c.ops.result.now c.touches.result.now c.args.k c.index-ops-k.result (res.Trap (trap 0)) c.ops.ensures.legal c.ops.ensures.value c.requires.there c.index-ops-k.is c.touches.ensures in
    record { there = (c.index-ops-k.result, slice_index_or c.touches.result.now 0 (res.Trap (trap 0)), first.reads.op_is, first.reads.res_is) }

pub bounds-turns-index_of : goal.bounds-turns-index_of
bounds-turns-index_of c =
    let first = reads-first c.args.program.now c.ops.result.now c.touches.result.now c.args.k c.index-ops-k.result (res.Trap (trap 0)) c.ops.ensures.legal c.ops.ensures.value c.requires.there c.index-ops-k.is c.touches.ensures in
    number-below c.args.program.now c.machine.result.now c.index_of.result (slice_index_or c.touches.result.now 0 (res.Trap (trap 0))) c.args.turns.now c.machine.ensures.value c.index_of.ensures first.reads.there c.requires.long

pub offset_bounds-turns-index_of : goal.offset_bounds-turns-index_of
offset_bounds-turns-index_of c =
    let first = reads-first c.args.program.now c.ops.result.now c.touches.result.now c.args.k c.index-ops-k.result (res.Trap (trap 0)) c.ops.ensures.legal c.ops.ensures.value c.requires.there c.index-ops-k.is c.touches.ensures in
    let below = number-below c.args.program.now c.machine.result.now c.index_of.result (slice_index_or c.touches.result.now 0 (res.Trap (trap 0))) c.args.turns.now c.machine.ensures.value c.index_of.ensures first.reads.there c.requires.long in
    omega arith

pub returns-clause-past : goal.returns-clause-past
returns-clause-past c =
    λ e.
    let p = c.args.program.now in
    let r : Res = slice_index_or c.touches.result.now 0 (res.Trap (trap 0)) in
    let first = reads-first p c.ops.result.now c.touches.result.now c.args.k c.index-ops-k.result (res.Trap (trap 0)) c.ops.ensures.legal c.ops.ensures.value c.requires.there c.index-ops-k.is c.touches.ensures in
    one-past p (turn_of p c.args.turns.now) c.args.k c.requires.rest.0 r c.requires.rest.1 c.requires.there first.reads.touches
    (less-true p c.machine.result.now c.args.k c.nth-turn.result c.index_of.result r c.args.turns.now c.machine.ensures.value c.index_of.ensures (c.nth-turn.ensures c.index-ops-k.result r first.reads.op_is first.reads.res_is) e)

pub returns-clause-not_begun : goal.returns-clause-not_begun
returns-clause-not_begun c =
    λ e.
    let p = c.args.program.now in
    let r : Res = slice_index_or c.touches.result.now 0 (res.Trap (trap 0)) in
    let first = reads-first p c.ops.result.now c.touches.result.now c.args.k c.index-ops-k.result (res.Trap (trap 0)) c.ops.ensures.legal c.ops.ensures.value c.requires.there c.index-ops-k.is c.touches.ensures in
    one-rests p (turn_of p c.args.turns.now) c.args.k c.requires.rest.0 r c.requires.rest.1 c.requires.there first.reads.touches
    (less-false p c.machine.result.now c.args.k c.nth-turn.result c.index_of.result r c.args.turns.now c.machine.ensures.value c.index_of.ensures (c.nth-turn.ensures c.index-ops-k.result r first.reads.op_is first.reads.res_is) e)
