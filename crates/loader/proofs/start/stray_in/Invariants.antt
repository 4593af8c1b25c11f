use Rattle.std.proofs.Common.{◌≡◌, List, ◌++◌, length, take, drop}
use Rattle.qccd_base.specs.declared.names.Ion.{Ion}
use Rattle.loader.specs.Refusal.{stray_behind}
use Rattle.loader.specs.Marked.{AreSeen}
use Rattle.loader.proofs.start.stray_in.Given as goal

abbrev pub invariant-loop-ion : goal.invariant-loop-ion
invariant-loop-ion l = record {
  long : length l.seen ≡ 256;
  stray : (front : List Ion) → AreSeen front l.fn.seen → stray_behind l.qubits (front ++ take l.ion-index l.chain) (drop l.ion-index l.chain) ≡ stray_behind l.qubits front l.chain;
  seen : (front : List Ion) → AreSeen front l.fn.seen → AreSeen (front ++ take l.ion-index l.chain) l.seen;
}
