use Rattle.std.proofs.Common.{List, length, ap, sym, ◌∙◌, arith}
use Rattle.op_table.specs.declared.kinds.OpKind.{OpKind}
use Rattle.claim_core.proofs.Coded.{all-from, least-from, suits-board}
use Rattle.claim_core.proofs.board.Board.least_unfinished.Goals as goal

pub is_finished-requires-clause-wide : goal.is_finished-requires-clause-wide
is_finished-requires-clause-wide c = (suits-board c.args.program.now c.args.self.now c.ops.ensures.legal c.requires.board).sound.wide

pub returns-then-not-is_finished-clause-some : goal.returns-then-not-is_finished-clause-some
returns-then-not-is_finished-clause-some c =
    least-from c.args.program.now c.args.self.now c.loop-k.k (let long = ap (λ (os : List OpKind). length os) c.ops.ensures.value in omega (arith, long, c.loop-k-test.true, c.ops.ensures.legal.few)) c.loop-k.invariant
    (sym c.is_finished.ensures ∙ c.if-not-is_finished.true)

pub returns-clause-none : goal.returns-clause-none
returns-clause-none c =
    all-from c.args.program.now c.args.self.now c.loop-k.k (let long = ap (λ (os : List OpKind). length os) c.ops.ensures.value in omega (arith, long, c.loop-k-test.false, c.ops.ensures.legal.few)) c.loop-k.invariant
