use Rattle.std.proofs.Common.{ap, arith}
use Rattle.qccd_machine.specs.Machine.{MachineData}
use Rattle.qccd_machine.proofs.machine.Machine.degree.Goals as goal

-- a junction joins four ends at most
pub overflow_cast-result : goal.overflow_cast-result
overflow_cast-result c =
    let junctions = ap (λ (m : MachineData). m.junctions) c.self.view_is in
    let few = (c.self.invariant.degrees c.args.j.0 (omega (arith, junctions))).1 in
    omega (arith, few, rw c.as_slice.ensures.value at c.ends_at.ensures)
