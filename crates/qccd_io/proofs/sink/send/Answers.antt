use Rattle.std.proofs.Common.{arith, length-drop, ◌∙◌}
use Rattle.qccd_io.proofs.Appended.{appended-next, rest-of}
use Rattle.qccd_io.proofs.sink.send.Goals as goal

pub loop-sent-preserved : goal.loop-sent-preserved
loop-sent-preserved g c =
    let h = c.in_ok-sent.ensures in
    let old = c.loop-sent.invariant.sends in
    let rest = rest-of c.loop-sent.sent c.args.text.now in
    let ok = rw rest at h.ok in
    record {
      within = omega (arith, length-drop c.loop-sent.sent c.args.text.now, ok.0);
      sends = record {
        ok = appended-next _ _ _ _ _ _ old.ok ok.2;
        err = tt;
        count = omega (arith, old.count, h.count);
        further = (h.further.0 ∙ old.further.0, omega (arith, old.further.1, h.further.1));
      };
    }
