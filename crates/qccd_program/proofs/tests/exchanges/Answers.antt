use Rattle.std.proofs.Common.{sym, ◌∙◌, ◌++◌, ◌∷◌, [], ap, subst, arith}
use Rattle.op_table.specs.declared.kinds.OpKind.{OpKind}
use Rattle.qccd_program.specs.Legal.{IsLegalProgram}
use Rattle.qccd_program.proofs.Examples.{exchanges-legal, exchanges-read, replicated-next}
use Rattle.qccd_program.proofs.tests.exchanges.Goals as goal

pub loop-init : goal.loop-init
loop-init c = c.in_ok-ops.ensures.items

pub loop-preserved : goal.loop-preserved
loop-preserved c =
    c.in_ok-push.ensures.items ∙ ap (λ (op : OpKind). c.loop.ops.items ++ op ∷ []) c.in_ok-of.ensures ∙ replicated-next c.loop.ops.items c.loop.counter c.loop.invariant

pub of-requires-2 : goal.of-requires-2
of-requires-2 c = record {
  legal = subst IsLegalProgram
      (sym (exchanges-read c.in_ok-two_traps.field-0 c.in_ok-chains.field-0.items c.loop.ops.items c.args.count c.loop.counter c.in_ok-two_traps.ensures c.in_ok-chains.ensures c.loop.invariant (omega (arith, c.loop-test.false, c.loop.auto.counter-end))))
      (exchanges-legal c.args.count c.requires);
}

pub returns : goal.returns
returns c =
    c.in_ok-of-2.ensures
    ∙ exchanges-read c.in_ok-two_traps.field-0 c.in_ok-chains.field-0.items c.loop.ops.items c.args.count c.loop.counter c.in_ok-two_traps.ensures c.in_ok-chains.ensures c.loop.invariant (omega (arith, c.loop-test.false, c.loop.auto.counter-end))
