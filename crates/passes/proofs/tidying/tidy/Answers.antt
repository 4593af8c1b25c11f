use Rattle.std.proofs.Common.{◌≤◌, length}
use Rattle.qccd_circuit.specs.Circuit.{CircuitData}
use Rattle.qccd_machine.specs.Machine.{MachineData}
use Rattle.qccd_program.specs.Implements.{Implements}
use Rattle.qccd_program.specs.Program.{end_of}
use Rattle.passes.specs.Kept.{SameStands}
use Rattle.passes.specs.Tidy.{IsTidy}
use Rattle.passes.proofs.Keeping.{tidied_ends, tidied_few, tidied_implements, of_tidied}
use Rattle.passes.proofs.Later.{tidied_no_later}
use Rattle.passes.proofs.Removing.{staying_tidy}
use Rattle.passes.proofs.tidying.tidy.Goals as goal

pub returns-clause-implements : goal.returns-clause-implements
returns-clause-implements c =
    of_tidied c.args.program c.without_pairs.result (λ p. (k : CircuitData) (m : MachineData) → Implements c.args.program k m → Implements p k m)
    (λ k m of. tidied_implements c.args.program k m c.ops-ops.ensures.legal of) c.without_pairs.ensures

pub returns-clause-ends : goal.returns-clause-ends
returns-clause-ends c =
    of_tidied c.args.program c.without_pairs.result (λ p. SameStands (end_of c.args.program) (end_of p)) (tidied_ends c.args.program c.ops-ops.ensures.legal) c.without_pairs.ensures

pub returns-clause-few : goal.returns-clause-few
returns-clause-few c =
    of_tidied c.args.program c.without_pairs.result (λ p. length p.ops ≤ length c.args.program.ops) (tidied_few c.args.program c.ops-ops.ensures.legal) c.without_pairs.ensures

pub returns-clause-no_later : goal.returns-clause-no_later
returns-clause-no_later c = tidied_no_later c.args.program

pub returns-clause-none_left : goal.returns-clause-none_left
returns-clause-none_left c =
    of_tidied c.args.program c.without_pairs.result (λ p. IsTidy p.ops) (staying_tidy c.args.program.ops) c.without_pairs.ensures
