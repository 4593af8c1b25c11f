use Rattle.std.proofs.Common.{◌≡◌, ◌≤◌, length}
use Rattle.qccd_io.specs.Sink.{appended, known_length, Further}
use Rattle.qccd_io.proofs.buffered.hand_on.Given as goal

abbrev pub invariant-loop-sink : goal.invariant-loop-sink
invariant-loop-sink g l = record {
  taken : appended (g.S.Sink.taken l.sink) l.buffer ≡ appended (g.S.Sink.taken l.fn.sink) l.fn.buffer;
  count : g.S.Sink.faults l.fn.sink ≤ g.S.Sink.faults l.sink;
  handed : known_length (g.S.Sink.taken l.fn.sink) ≤ known_length (g.S.Sink.taken l.sink);
  further : Further (g.S.Sink.behind l.fn.sink) (g.S.Sink.behind l.sink);
}

abbrev pub decreases-loop-sink : goal.decreases-loop-sink
decreases-loop-sink g l = length l.buffer
