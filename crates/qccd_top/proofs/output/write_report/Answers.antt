use Rattle.std.proofs.Common.{rules}
use Rattle.tracer.specs.Report.{report_text}
use Rattle.qccd_top.proofs.Finishing.{same_name, writes_all}
use Rattle.qccd_top.proofs.output.write_report.Goals as goal

pub returns : goal.returns
returns g c =
    let sent = c.in-Ok-write_report.ensures in
    let names = same_name _ _ _ _ _ c.of-buffered.ensures.same_reference sent.further.0 in
    writes_all g.O.Sink.taken g.O.Sink.faults g.O.Sink.behind c.args.out.now c.of-buffered.result.sink.now c.write_report.new.sink.sink.now _ _
    c.of-buffered.result.buffer.now c.write_report.new.sink.buffer.now (report_text c.args.program.now) c.finish.result
    c.of-buffered.ensures.sink c.of-buffered.ensures.empty sent.ok sent.count sent.further.1 c.finish.ensures.sends c.finish.ensures.fault (search rules)
