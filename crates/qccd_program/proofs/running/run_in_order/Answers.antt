use Rattle.std.proofs.Common.{List, length, ap, arith}
use Rattle.op_table.specs.declared.kinds.OpKind.{OpKind}
use Rattle.qccd_program.proofs.Stepping.{may-read, next-read, at-end}
use Rattle.qccd_program.proofs.running.run_in_order.Goals as goal

pub run_one-requires : goal.run_one-requires
run_one-requires c =
    may-read c.args.program.now c.machine-machine.result.now c.ops-op-items.result.now c.loop-k.k c.op-item.result c.loop-k.cells
    c.machine-machine.ensures.value c.ops-op-items.ensures.value c.machine-machine.ensures.valid c.ops-op-items.ensures.legal c.op-item.is c.loop-k-test.true c.loop-k.invariant

pub loop-k-preserved : goal.loop-k-preserved
loop-k-preserved c =
    next-read c.args.program.now c.machine-machine.result.now c.ops-op-items.result.now c.loop-k.k c.op-item.result c.loop-k.cells c.run_one.new.cells
    c.machine-machine.ensures.value c.ops-op-items.ensures.value c.machine-machine.ensures.valid c.ops-op-items.ensures.legal c.op-item.is c.loop-k-test.true c.loop-k.invariant c.run_one.ensures

pub returns : goal.returns
returns c =
    at-end c.args.program.now c.loop-k.k c.loop-k.cells (let long = ap (λ (os : List OpKind). length os) c.ops-op-items.ensures.value in omega (arith, long, c.loop-k-test.false)) c.loop-k.invariant
