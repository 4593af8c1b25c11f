use Rattle.std.proofs.Common.{[], codes, refl, arith}
use Rattle.toml.proofs.OnLiterals.{toml_on_literals}
use Rattle.qccd_base.specs.Times.{usual}
use Rattle.qccd_machine.specs.Machine.{MachineData}
use Rattle.machine_text.proofs.Computed.{describing}
use Rattle.machine_text.proofs.worked.no_trap.Goals as goal

nothing : MachineData
nothing = record { capacities = []; junctions = 0; segments = []; times = usual }

pub returns : goal.returns
unfolding toml_on_literals nothing
returns c = record {
  parts = nothing;
  description = describing (codes "trap = []\n") nothing refl refl (refl, record { capacities = refl; junctions = refl; segments = refl; times = refl });
  first = record { applies = refl; none_earlier = λ other earlier applies. omega arith };
}
