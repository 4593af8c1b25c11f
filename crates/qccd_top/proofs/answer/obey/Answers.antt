use Rattle.qccd_top.proofs.answer.obey.Goals as goal

pub returns-in-Run : goal.returns-in-Run
returns-in-Run g c = rw c.in-Run.is c.run.ensures

pub returns-in-Compile : goal.returns-in-Compile
returns-in-Compile g c = rw c.in-Compile.is c.compile.ensures

pub returns-in-Exec : goal.returns-in-Exec
returns-in-Exec g c = rw c.in-Exec.is c.exec.ensures

pub returns-in-Check : goal.returns-in-Check
returns-in-Check g c = rw c.in-Check.is c.check.ensures

pub returns-in-Rehearse : goal.returns-in-Rehearse
returns-in-Rehearse g c = rw c.in-Rehearse.is c.rehearse.ensures

pub returns-in-Tidy : goal.returns-in-Tidy
returns-in-Tidy g c = rw c.in-Tidy.is c.tidy.ensures
