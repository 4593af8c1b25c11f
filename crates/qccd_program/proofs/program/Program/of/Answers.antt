use Rattle.std.proofs.Common.{refl}
use Rattle.qccd_program.specs.Program.{program_data}
use Rattle.qccd_program.proofs.Stepping.{parts-there}
use Rattle.qccd_program.proofs.program.Program.of.Goals as goal

pub turn_table-requires-clause-there : goal.turn_table-requires-clause-there
turn_table-requires-clause-there c =
    parts-there (program_data c.args.machine c.args.qubits c.args.bits c.args.mode c.args.start.items c.args.ops.items) c.args.machine c.args.bits c.as_slice.result.now refl refl c.as_slice.ensures.value c.requires.legal
