use Rattle.std.proofs.Common.{ℕ, List, length, ap, arith, ◌≡◌, ◌≤◌, ◌∙◌, ◌++◌, ◌∷◌, []}
use Rattle.op_cells.specs.Numbering.{count_of}
use Rattle.qccd_program.proofs.FirstCells.{may-note, noted-next}
use Rattle.qccd_program.proofs.Tables.{may-count, counted-next, turns-few}
use Rattle.qccd_program.proofs.turn_table.turn_table.Goals as goal

pub count-requires : goal.count-requires
count-requires c = record {
  there = may-count c.args.machine.now c.args.bits c.args.ops.now c.loop-op.op-index c.op-item.result c.loop-op.counters.items c.touches-touched.result.now c.touches-touched.ensures c.requires.there c.op-item.is c.loop-op-test.true c.loop-op.invariant.1;
}

pub count_first-requires : goal.count_first-requires
count_first-requires c = record {
  there = may-note c.args.machine.now c.args.bits c.args.ops.now c.loop-op.op-index c.op-item.result c.loop-op.rooms.items c.touches-touched.result.now c.touches-touched.ensures c.requires.there c.op-item.is c.loop-op-test.true c.loop-op.invariant.3;
}

pub loop-op-preserved : goal.loop-op-preserved
loop-op-preserved c =
    let long : length c.as_slice.result.now ≡ length c.loop-op.turns.items = ap (λ (xs : List ℕ). length xs) c.as_slice.ensures.value in
    let few : count_of c.args.machine.now c.args.bits ≤ 480 = omega (arith, c.count_of.ensures.count, c.count_of.ensures.few, c.requires.bits) in
    let next = counted-next c.args.machine.now c.args.bits c.args.ops.now c.loop-op.op-index c.op-item.result c.loop-op.counters.items c.loop-op.starts.items c.loop-op.turns.items c.touches-touched.result.now
    c.count.new.counters.items c.push.new.self.items c.count.new.turns.items c.requires.few c.requires.there c.op-item.is c.loop-op-test.true
    c.loop-op.invariant.0 c.loop-op.invariant.1 c.touches-touched.ensures
    (c.in_ok-push.ensures.items ∙ ap (λ (n : ℕ). c.loop-op.starts.items ++ n ∷ []) (omega (arith, long, c.loop-op.invariant.2, c.loop-op-test.true, c.requires.few))) c.in_ok-count.ensures.turns c.in_ok-count.ensures.counters in (
      next.0,
      next.1,
      turns-few c.args.machine.now c.args.bits c.args.ops.now c.loop-op.op-index c.op-item.result c.loop-op.counters.items c.loop-op.turns.items c.count.new.turns.items c.touches-touched.result.now
          few c.requires.there c.op-item.is c.loop-op-test.true c.touches-touched.ensures c.in_ok-count.ensures.turns c.loop-op.invariant.2,
      noted-next c.args.machine.now c.args.bits c.args.ops.now c.loop-op.op-index c.op-item.result c.loop-op.rooms.items c.count_first.new.rooms.items c.touches-touched.result.now
          c.requires.few c.touches-touched.ensures c.requires.there c.op-item.is c.loop-op-test.true c.loop-op.invariant.3 c.count_first.ensures,
    )
