use Rattle.std.proofs.Common.{Some, refl, inl}
use Rattle.qasm_reader.proofs.Answered.{keeps_the_rule}
use Rattle.qccd_program.specs.Program.{ProgramData}
use Rattle.compiler.specs.Chosen.{chosen}
use Rattle.tracer.specs.Report.{report_text}
use Rattle.qccd_words.specs.Words.{AskedRun}
use Rattle.qccd_words.proofs.Capacities.{request-limits}
use Rattle.qccd_top.specs.Stage.{◌>>=◌}
use Rattle.qccd_top.proofs.Headline.{accepted, valid_in}
use Rattle.qccd_top.proofs.laws.accepted_run.Goals as goal

pub returns : goal.returns
unfolding ◌>>=◌
returns c = λ words held machine circuit text workers mode m d reading given there few reads fits short.
    let p : ProgramData = chosen d m mode in
    let valid = valid_in (Some held) machine m (request-limits words (AskedRun machine circuit workers mode) reading).0 given in
    inl (
      report_text p,
      (
        AskedRun machine circuit workers mode,
        reading,
        (p, (m, given, (d, (text, (there, few), reads), accepted d m mode (keeps_the_rule text d reads) valid fits short)), refl),
      ),
      refl,
    )
