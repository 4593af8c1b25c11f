use Rattle.std.proofs.Common.{◌<◌, length, ap, arith}
use Rattle.qccd_machine.specs.Fault.{data_of}
use Rattle.qccd_machine.proofs.Questions.{time_found, time_passed}
use Rattle.qccd_machine.proofs.parts.Parts.wrong_time.Goals as goal

pub loop-field-preserved : goal.loop-field-preserved
loop-field-preserved c = time_passed (data_of c.args.self.now) c.all_times-times.result c.loop-field.field c.all_times-times.ensures c.if-time-gt-LONGEST.false c.loop-field.invariant

pub returns-then-time-gt-LONGEST-clause-some : goal.returns-then-time-gt-LONGEST-clause-some
returns-then-time-gt-LONGEST-clause-some c =
    let here : c.loop-field.field < length c.all_times-times.result = omega (arith, ap length c.all_times-times.ensures) in
    time_found (data_of c.args.self.now) c.all_times-times.result c.loop-field.field c.all_times-times.ensures here c.if-time-gt-LONGEST.true c.loop-field.invariant
