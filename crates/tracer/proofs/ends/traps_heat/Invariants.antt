use Rattle.std.proofs.Common.{◌≡◌, take}
use Rattle.std.specs.List.{sum}
use Rattle.qccd_program.specs.Program.{end_of}
use Rattle.tracer.proofs.ends.traps_heat.Given as goal

abbrev pub invariant-loop-trap : goal.invariant-loop-trap
invariant-loop-trap l = l.sum ≡ sum (take l.trap (end_of l.program).heats)
