use Rattle.std.proofs.Common.{refl, inl, inr}
use Rattle.qccd_machine.specs.Machine.{slots_of}
use Rattle.qccd_words.specs.Words.{AskedRun}
use Rattle.qccd_messages.specs.Cause.{Shortage}
use Rattle.qccd_top.specs.Stage.{◌>>=◌}
use Rattle.qccd_top.proofs.laws.too_few_slots.Goals as goal

pub returns : goal.returns
unfolding ◌>>=◌
returns c = λ words held machine circuit text workers mode m d reading given there few reads wide.
    inr (
      Shortage d.qubits (slots_of m),
      inr (
        AskedRun machine circuit workers mode,
        reading,
        inl (inr (m, given, inr (d, (text, (there, few), reads), record { fewer = wide; of_circuit = refl; of_machine = refl }))),
      ),
      refl,
    )
