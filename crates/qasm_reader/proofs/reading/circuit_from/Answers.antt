-- Each statement leads to the next.
use Rattle.std.proofs.Common.{sym, ap, subst, ◌∙◌}
use Rattle.qasm_reader.specs.Known.{Known}
use Rattle.qasm_reader.specs.Expected.{between}
use Rattle.qasm_reader.specs.Sound.{IsSound}
use Rattle.qasm_reader.specs.Code.{answer_from}
use Rattle.qasm_reader.proofs.Rule.{nothing_sound}
use Rattle.qasm_reader.proofs.reading.circuit_from.Goals as goal

pub loop-state-init : goal.loop-state-init
loop-state-init c =
    record {
      sound = subst IsSound (sym c.in_ok-state.ensures) nothing_sound;
      leads = c.in_ok-rest.ensures ∙ ap (λ (k : Known). answer_from k between c.in_ok-rest.rest) (sym c.in_ok-state.ensures);
    }
