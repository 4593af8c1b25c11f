use Rattle.std.proofs.Common.{◌≡◌, ◌++◌, drop}
use Rattle.ion_mapping.specs.Placement.{fills, filled}
use Rattle.ion_mapping.proofs.placing.chains_of.Given as goal

-- with the chains of the traps to come they are all
abbrev pub invariant-loop-trap : goal.invariant-loop-trap
invariant-loop-trap l = l.chains.items ++ filled (drop l.trap (fills l.machine l.spare)) l.rest ≡ filled (fills l.machine l.spare) l.ions
