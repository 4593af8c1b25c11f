use Rattle.std.proofs.Common.{Ok, take}
use Rattle.std.specs.Prelude.{flat_map, codes, ◌++◌}
use Rattle.qccd_io.specs.declared.failed.Failed.{Failed}
use Rattle.qccd_io.specs.Sends.{Sends}
use Rattle.op_text.proofs.writing.send_further_angles.Given as goal

abbrev pub invariant-loop-angle : goal.invariant-loop-angle
invariant-loop-angle g l = Sends {T = Unit {0}} {E = Failed} g.S.Sink.taken g.S.Sink.faults g.S.Sink.behind l.fn.sink l.sink (Ok tt) (flat_map (λ angle. codes "," ++ angle) (take l.angle-index l.angles))
