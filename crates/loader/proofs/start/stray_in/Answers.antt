use Rattle.std.proofs.Common.{◌<◌, true, List, ◌++◌, take, get_or, sym, ◌∙◌, subst, arith}
use Rattle.std.proofs.lemmas.List.{take_all, length-set}
use Rattle.qccd_base.specs.Names.{ion}
use Rattle.qccd_base.specs.declared.names.Ion.{Ion}
use Rattle.loader.specs.Marked.{AreSeen}
use Rattle.loader.proofs.Starts.{stray_here, stray_next, mark_next}
use Rattle.loader.proofs.start.stray_in.Goals as goal

pub returns-then-is_stray-clause-stray : goal.returns-then-is_stray-clause-stray
returns-then-is_stray-clause-stray c = λ front are.
    let chain = c.args.chain.now in
    let i = c.loop-ion.ion-index in
    sym (stray_here c.args.qubits front chain i (ion 0) c.loop-ion-test.true (sym (c.is_stray.ensures.stray (front ++ take i chain) (c.loop-ion.invariant.seen front are)) ∙ c.if-is_stray.true)) ∙ c.loop-ion.invariant.stray front are

pub bounds-seen-from : goal.bounds-seen-from
bounds-seen-from c =
    let below : (get_or c.args.chain.now c.loop-ion.ion-index (ion 0)).0 < c.args.qubits = c.if-is_stray.ensures.below in
    omega (arith, below, c.requires.few, c.loop-ion.invariant.long, c.from.ensures)

pub loop-ion-preserved : goal.loop-ion-preserved
loop-ion-preserved c =
    let chain = c.args.chain.now in
    let i = c.loop-ion.ion-index in
    let below : (get_or chain i (ion 0)).0 < c.args.qubits = c.if-is_stray.ensures.below in
    record {
      long = length-set c.loop-ion.seen c.from.result true ∙ c.loop-ion.invariant.long;
      stray = λ front are.
          sym (stray_next c.args.qubits front chain i (ion 0) c.loop-ion-test.true (sym (c.is_stray.ensures.stray (front ++ take i chain) (c.loop-ion.invariant.seen front are)) ∙ c.if-is_stray.false)) ∙ c.loop-ion.invariant.stray front are;
      seen = λ front are. mark_next front chain i (ion 0) c.loop-ion.seen c.from.result c.loop-ion-test.true c.from.ensures (omega (arith, below, c.requires.few)) (c.loop-ion.invariant.seen front are);
    }

pub returns-clause-seen : goal.returns-clause-seen
returns-clause-seen c = λ front are.
    subst (λ (xs : List Ion). AreSeen (front ++ xs) c.loop-ion.seen) (take_all c.loop-ion.ion-index c.args.chain.now (omega (arith, c.loop-ion-test.false))) (c.loop-ion.invariant.seen front are)
