use Rattle.std.proofs.Common.{◌≡◌, map, take}
use Rattle.qccd_base.specs.Greatest.{greatest}
use Rattle.gate_defs.specs.Kept.{counts_in, depths_in, weights_in}
use Rattle.gate_defs.specs.Measures.{depth_under, size_all}
use Rattle.gate_defs.proofs.measures.of_steps.Given as goal

-- those of the steps so far
abbrev pub invariant-loop-step : goal.invariant-loop-step
invariant-loop-step l =
    record {
      depth : l.depth ≡ greatest (map (λ s. depth_under (depths_in l.known) s.callee) (take l.step-index l.steps));
      weight : l.weight ≡ size_all (weights_in l.known) (take l.step-index l.steps);
      items : l.items ≡ size_all (counts_in l.known) (take l.step-index l.steps);
    }
