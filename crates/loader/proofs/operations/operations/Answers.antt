use Rattle.std.proofs.Common.{◌≡◌, None, List, take, sym, ◌∙◌, subst, refl}
use Rattle.std.specs.Prelude.{IsTrue}
use Rattle.op_table.specs.declared.kinds.OpKind.{OpKind}
use Rattle.op_table.specs.Op.{IsOp, KeepsItemRule}
use Rattle.op_table.specs.Run.{after}
use Rattle.op_table.specs.State.{State, IsSafe, opening}
use Rattle.op_table.proofs.Every.{safe-effect}
use Rattle.op_table.proofs.Openings.{opening-safe}
use Rattle.op_cells.specs.Shows.{Shows}
use Rattle.qccd_program.specs.Mode.{is_of_mode}
use Rattle.op_plan.specs.Cold.{cold}
use Rattle.loader.specs.Refusal.{fault_behind}
use Rattle.loader.specs.Marked.{AreDone}
use Rattle.loader.proofs.NoFaults.{no_fault}
use Rattle.loader.proofs.Stepping.{none_done}
use Rattle.loader.proofs.Going.{front_is, state_next, fault_next, all_next}
use Rattle.loader.proofs.operations.operations.Goals as goal

pub loop-k-init : goal.loop-k-init
loop-k-init c = record {
  safe = opening-safe c.args.machine.now c.args.qubits c.args.bits c.args.chains.now c.requires.start;
  shows = c.in_ok-cells.ensures c.args.qubits c.requires.start;
  done = none_done c.new-done.result c.new-done.ensures.empty;
  rest = refl;
  kinds = tt;
  items = tt;
  of_mode = tt;
}

pub loop-k-preserved : goal.loop-k-preserved
loop-k-preserved c =
    let m = c.args.machine.now in
    let ops = c.args.ops.now in
    let k = c.loop-k.k in
    let op = c.index-ops-k.result in
    let first : State = opening c.args.qubits c.args.bits c.args.chains.now in
    let s : State = after m first (take k ops) in
    let told : fault_behind m c.args.mode s (take k ops) k op ≡ None = c.in_ok-step.ensures.told s (take k ops) c.loop-k.invariant.safe c.loop-k.invariant.shows c.loop-k.invariant.done in
    let well = no_fault m c.args.mode s (take k ops) k op told in
    let next = c.in_ok-step.ensures.next s (take k ops) c.loop-k.invariant.safe c.loop-k.invariant.shows c.loop-k.invariant.done in
    let same = state_next m first ops k op c.loop-k-test.true c.index-ops-k.is in
    let front = front_is ops k op c.loop-k-test.true c.index-ops-k.is in
    record {
      safe = subst (IsSafe m) (sym same) (safe-effect m s op c.loop-k.invariant.safe c.step.ensures.is_op well.1);
      shows = subst (λ (t : State). Shows m (cold t) c.step.new.cells) (sym same) next.0;
      done = subst (λ (earlier : List OpKind). AreDone earlier c.step.new.done) (sym front) next.1;
      rest = sym (fault_next m c.args.mode first ops k op c.loop-k-test.true c.index-ops-k.is told) ∙ c.loop-k.invariant.rest;
      kinds = all_next IsOp ops k op c.loop-k-test.true c.index-ops-k.is c.loop-k.invariant.kinds c.step.ensures.is_op;
      of_mode = all_next (λ (o : OpKind). IsTrue (is_of_mode c.args.mode o)) ops k op c.loop-k-test.true c.index-ops-k.is c.loop-k.invariant.of_mode c.in_ok-step.ensures.of_mode;
      items = all_next KeepsItemRule ops k op c.loop-k-test.true c.index-ops-k.is c.loop-k.invariant.items c.step.ensures.item_rule;
    }
