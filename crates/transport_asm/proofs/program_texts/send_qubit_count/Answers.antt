use Rattle.std.proofs.Common.{ℕ, ◌++◌, codes, decimal, subst}
use Rattle.qccd_io.specs.Sends.{Sends}
use Rattle.transport_asm.proofs.program_texts.send_qubit_count.Goals as goal

pub returns : goal.returns
returns g c =
    subst (λ (n : ℕ). Sends g.S.Sink.taken g.S.Sink.faults g.S.Sink.behind c.args.sink.now c.send_labelled.new.sink c.send_labelled.result (codes "qubits " ++ decimal n)) c.from.ensures c.send_labelled.ensures
