use Rattle.std.proofs.Common.{refl}
use Rattle.qccd_top.proofs.Stopping.{machine_file_refuses, circuit_file_refuses, program_file_refuses}
use Rattle.qccd_top.proofs.laws.refused_files.Goals as goal

pub returns-clause-missing : goal.returns-clause-missing
returns-clause-missing c = λ held name limit missing. (refl, missing)

pub returns-clause-large : goal.returns-clause-large
returns-clause-large c = λ held name text limit there large. (refl, refl, (text, there, large))

pub returns-clause-machine : goal.returns-clause-machine
returns-clause-machine c = machine_file_refuses

pub returns-clause-circuit : goal.returns-clause-circuit
returns-clause-circuit c = circuit_file_refuses

pub returns-clause-program : goal.returns-clause-program
returns-clause-program c = program_file_refuses
