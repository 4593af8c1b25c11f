use Rattle.std.proofs.Common.{◌≡◌, [], take, drop}
use Rattle.loader.specs.Refusal.{ions_of, stray_behind}
use Rattle.loader.specs.Marked.{AreSeen}
use Rattle.loader.proofs.start.stray_of.Given as goal

abbrev pub invariant-loop-chain : goal.invariant-loop-chain
invariant-loop-chain l = record {
  stray : stray_behind l.qubits (ions_of (take l.chain-index l.chains)) (ions_of (drop l.chain-index l.chains)) ≡ stray_behind l.qubits [] (ions_of l.chains);
  seen : AreSeen (ions_of (take l.chain-index l.chains)) l.seen;
}
