use Rattle.std.proofs.Common.{◌≡◌, ◌++◌, map, take}
use Rattle.gate_defs.specs.Steps.{step_item}
use Rattle.gate_defs.proofs.items.add_steps.Given as goal

-- the items of the steps so far were added
abbrev pub invariant-loop-step : goal.invariant-loop-step
invariant-loop-step l = l.items.items ≡ l.fn.items.items ++ map (step_item l.three l.cond) (take l.step-index l.steps)
