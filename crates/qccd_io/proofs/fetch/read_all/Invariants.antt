use Rattle.std.proofs.Common.{◌≡◌, ◌≤◌, ◌+◌, ◌-◌, vec_len}
use Rattle.qccd_io.specs.Source.{Reads}
use Rattle.qccd_io.proofs.fetch.read_all.Given as goal

abbrev pub invariant-loop-bytes : goal.invariant-loop-bytes
invariant-loop-bytes g l = record {
  reads : Reads (g.S.Source.told l.initial.source) l.bytes.items (g.S.Source.told l.source);
  counts : g.S.Source.faults l.initial.source ≤ g.S.Source.faults l.source;
  piece_len : vec_len l.piece ≡ 65536;
}

abbrev pub decreases-loop-bytes : goal.decreases-loop-bytes
decreases-loop-bytes g l = l.most + 1 - vec_len l.bytes
