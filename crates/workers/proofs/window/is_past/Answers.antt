use Rattle.std.proofs.Common.{arith}
use Rattle.qccd_base.specs.Names.{trap}
use Rattle.qccd_base.specs.declared.names.Res.TheVariants as res
use Rattle.std.specs.Prelude.{slice_index_or}
use Rattle.workers.proofs.Reading.{reads-at}
use Rattle.workers.proofs.Working.{there-moved}
use Rattle.workers.proofs.window.is_past.Goals as goal

pub nth-turn-requires : goal.nth-turn-requires
nth-turn-requires c =
    let reads = reads-at c.args.program.now c.ops.result.now c.touches-touched.result.now c.args.k c.loop-i.i c.index-ops-k.result (res.Trap (trap 0)) c.ops.ensures.legal c.ops.ensures.value c.requires.there c.index-ops-k.is c.touches-touched.ensures c.loop-i-test.true in
    record { there = (c.index-ops-k.result, slice_index_or c.touches-touched.result.now c.loop-i.i (res.Trap (trap 0)), reads.op_is, reads.res_is) }

pub seen-requires : goal.seen-requires
seen-requires c =
    let reads = reads-at c.args.program.now c.ops.result.now c.touches-touched.result.now c.args.k c.loop-i.i c.index-ops-k.result (res.Trap (trap 0)) c.ops.ensures.legal c.ops.ensures.value c.requires.there c.index-ops-k.is c.touches-touched.ensures c.loop-i-test.true in
    record { there = there-moved _ _ _ c.requires.together reads.there }

pub returns-then-seen-turn : goal.returns-then-seen-turn
returns-then-seen-turn c =
    λ e.
    let r = slice_index_or c.touches-touched.result.now c.loop-i.i (res.Trap (trap 0)) in
    let reads = reads-at c.args.program.now c.ops.result.now c.touches-touched.result.now c.args.k c.loop-i.i c.index-ops-k.result (res.Trap (trap 0)) c.ops.ensures.legal c.ops.ensures.value c.requires.there c.index-ops-k.is c.touches-touched.ensures c.loop-i-test.true in
    record {
      res = r;
      touches = reads.touches;
      past = (let turn = c.nth-turn.ensures c.index-ops-k.result r reads.op_is reads.res_is in omega (arith, c.if-seen-turn.true, turn, c.seen.ensures));
    }
