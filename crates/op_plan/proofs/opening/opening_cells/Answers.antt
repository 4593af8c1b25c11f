use Rattle.std.proofs.Common.{arith, sym, subst}
use Rattle.op_table.specs.State.{opening}
use Rattle.op_cells.specs.Shows.{Shows}
use Rattle.op_plan.specs.Cold.{cold}
use Rattle.op_plan.proofs.Begun.{all_shown, next_shown}
use Rattle.op_plan.proofs.opening.opening_cells.Goals as goal

pub loop-number-preserved : goal.loop-number-preserved
loop-number-preserved c = record {
  shown = λ qubits start.
      next_shown c.args.machine.now qubits c.args.bits c.args.chains.now c.loop-number.number c.loop-number.cells.items c.push.new.self.items
      (record { content = c.opening_content-content.result; free_at = 0; log = c.in_ok-log.log }) start (c.loop-number.invariant.shown qubits start) (c.opening_content-content.ensures qubits c.args.bits start) c.in_ok-push.ensures.items;
  most = omega (arith, c.loop-number-test.true);
}

pub returns : goal.returns
returns c qubits start =
    subst (Shows c.args.machine.now (cold (opening qubits c.args.bits c.args.chains.now))) (sym c.of_list.ensures)
    (all_shown c.args.machine.now qubits c.args.bits c.args.chains.now c.loop-number.number c.loop-number.cells.items
    (omega (arith, c.loop-number-test.false, c.loop-number.invariant.most, c.count_of-count.ensures.count)) (c.loop-number.invariant.shown qubits start))
