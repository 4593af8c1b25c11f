use Rattle.std.proofs.Common.{◌≡◌, ◌+◌, ◌*◌, ◌≤◌, drop, sum}
use Rattle.ion_mapping.specs.Placement.{fills}
use Rattle.ion_mapping.proofs.placing.places.Given as goal

-- with what the traps to come take it is the whole
abbrev pub invariant-loop-trap : goal.invariant-loop-trap
invariant-loop-trap l = record {
  whole : l.all + sum (drop l.trap (fills l.machine l.spare)) ≡ sum (fills l.machine l.spare);
  small : l.all ≤ 255 * l.trap;
}
