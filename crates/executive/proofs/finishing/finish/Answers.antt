use Rattle.std.proofs.Common.{ℕ, List, length, ap, subst, arith}
use Rattle.op_table.specs.declared.kinds.OpKind.{OpKind}
use Rattle.claim_board.specs.Close.{NotBegun, Past, turn_of}
use Rattle.executive.proofs.CaughtUp.{caught-end, caught-first, may-read-at, next-read-at, skip-read-at}
use Rattle.executive.proofs.finishing.finish.Goals as goal
use Rattle.executive.proofs.finishing.finish.Goals.{then-not-is_finished, else-not-is_finished}

pub loop-k-init : goal.loop-k-init
loop-k-init c = caught-first c.args.program.now (turn_of c.args.program.now c.args.closed.turns.items) c.args.closed.cells c.requires.cells

pub run_one-requires : goal.run_one-requires
run_one-requires c =
    let p = c.args.program.now in
    let rest = subst (λ (ns : List ℕ). NotBegun p.ops (turn_of p ns) c.loop-k.k) c.as_slice.ensures.value (c.is_finished.ensures.not_begun c.if-not-is_finished.true) in
    may-read-at p (turn_of p c.args.closed.turns.items) c.machine-machine.result.now c.ops-op-items.result.now c.loop-k.k c.op-item.result c.loop-k.cells
    c.machine-machine.ensures.value c.ops-op-items.ensures.value c.machine-machine.ensures.valid c.ops-op-items.ensures.legal c.op-item.is c.loop-k-test.true rest c.loop-k.invariant

pub loop-k-preserved : goal.loop-k-preserved
loop-k-preserved c =
    let p = c.args.program.now in
    let turn = turn_of p c.args.closed.turns.items in
    elim c.if-not-is_finished.branch [
      | then-not-is_finished w ↦
          let rest = subst (λ (ns : List ℕ). NotBegun p.ops (turn_of p ns) c.loop-k.k) c.as_slice.ensures.value (c.is_finished.ensures.not_begun w.if-not-is_finished.true) in
          rw w.cells-is
          (next-read-at p turn c.machine-machine.result.now c.ops-op-items.result.now c.loop-k.k c.op-item.result c.loop-k.cells w.run_one.new.cells
          c.machine-machine.ensures.value c.ops-op-items.ensures.value c.machine-machine.ensures.valid c.ops-op-items.ensures.legal c.op-item.is c.loop-k-test.true rest c.loop-k.invariant w.run_one.ensures)
      | else-not-is_finished w ↦
          let done = subst (λ (ns : List ℕ). Past p.ops (turn_of p ns) c.loop-k.k) c.as_slice.ensures.value (c.is_finished.ensures.past w.if-not-is_finished.false) in
          rw w.cells-is
          (skip-read-at p turn c.ops-op-items.result.now c.loop-k.k c.op-item.result c.loop-k.cells c.ops-op-items.ensures.value c.op-item.is c.loop-k-test.true done c.loop-k.invariant)
    ]

pub returns : goal.returns
returns c =
    caught-end c.args.program.now (turn_of c.args.program.now c.args.closed.turns.items) c.loop-k.k c.loop-k.cells
    (let long = ap (λ (os : List OpKind). length os) c.ops-op-items.ensures.value in omega (arith, long, c.loop-k-test.false)) c.loop-k.invariant
