-- Why a report was not written, in words.
use Rattle.std.specs.Prelude.{ℕ, List, codes}
use Rattle.tracer.specs.declared.fault.ReportFault.{ReportFault}
use Rattle.tracer.specs.declared.fault.ReportFault.TheVariants.{Write, NoMemory}

abbrev pub report_fault_text : ReportFault → List ℕ
report_fault_text Write = codes "cannot write"
report_fault_text NoMemory = codes "no memory"
