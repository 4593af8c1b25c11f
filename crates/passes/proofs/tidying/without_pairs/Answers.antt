use Rattle.std.proofs.Common.{sym, subst}
use Rattle.qccd_program.specs.Legal.{IsLegalProgram}
use Rattle.qccd_program.specs.Program.{program_data}
use Rattle.passes.specs.Tidy.{tidied}
use Rattle.passes.proofs.Keeping.{ok_as, tidied_legal}
use Rattle.passes.proofs.Marking.{parts_left}
use Rattle.passes.proofs.tidying.without_pairs.Goals as goal

pub of-requires : goal.of-requires
of-requires c = record {
  legal = subst IsLegalProgram
      (sym (parts_left c.args.program c.into_parts-machine.result.0 c.qubits-qubits.result c.bits-bits.result c.mode-mode.result c.into_parts-machine.result.1.items
      c.in_ok-left.left.items c.ops.result.now c.in_ok-gone.gone.items c.as_slice.result.now
      c.into_parts-machine.ensures.machine c.qubits-qubits.ensures c.bits-bits.ensures c.mode-mode.ensures c.into_parts-machine.ensures.start
      c.in_ok-left.ensures c.as_slice.ensures.value c.ops.ensures.value c.in_ok-gone.ensures.0))
      (tidied_legal c.args.program c.ops.ensures.legal);
}

pub returns : goal.returns
returns c =
    ok_as (tidied c.args.program) (program_data c.into_parts-machine.result.0 c.qubits-qubits.result c.bits-bits.result c.mode-mode.result c.into_parts-machine.result.1.items c.in_ok-left.left.items) c.of.result
    (parts_left c.args.program c.into_parts-machine.result.0 c.qubits-qubits.result c.bits-bits.result c.mode-mode.result c.into_parts-machine.result.1.items
    c.in_ok-left.left.items c.ops.result.now c.in_ok-gone.gone.items c.as_slice.result.now
    c.into_parts-machine.ensures.machine c.qubits-qubits.ensures c.bits-bits.ensures c.mode-mode.ensures c.into_parts-machine.ensures.start
    c.in_ok-left.ensures c.as_slice.ensures.value c.ops.ensures.value c.in_ok-gone.ensures.0)
    c.of.ensures
