use Rattle.std.proofs.Common.{◌≡◌, ◌++◌}
use Rattle.std.specs.Prelude.{All}
use Rattle.gate_defs.specs.Meaning.{any_long, applications, expansion, items_of}
use Rattle.gate_defs.specs.Frames.{IsOpen, left, turns_left}
use Rattle.gate_defs.proofs.expanding.expanded.Given as goal

-- the items so far and those of what is left are all, and a long angle is among what is left
abbrev pub invariant-loop-frame : goal.invariant-loop-frame
invariant-loop-frame l =
    record {
      items : expansion l.defs l.id l.args l.qubits l.cond ≡ l.items.items ++ items_of l.defs l.cond (left l.defs l.frames.items);
      long : any_long (applications l.defs l.id l.args l.qubits) ≡ any_long (left l.defs l.frames.items);
      all_open : All (IsOpen l.defs) l.frames.items;
    }

abbrev pub decreases-loop-frame : goal.decreases-loop-frame
decreases-loop-frame l = turns_left l.defs l.frames.items
