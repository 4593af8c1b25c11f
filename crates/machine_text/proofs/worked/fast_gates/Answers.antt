use Rattle.std.proofs.Common.{ℕ, ◌≤◌, codes, refl, arith}
use Rattle.std.proofs.lemmas.List.Elements.{All-from_recursion}
use Rattle.toml.proofs.OnLiterals.{toml_on_literals}
use Rattle.qccd_base.specs.Times.{times_of}
use Rattle.qccd_machine.specs.Machine.{IsValid}
use Rattle.qccd_machine.proofs.SingleTrap.{valid_single}
use Rattle.machine_text.specs.Fast.{fast}
use Rattle.machine_text.proofs.Computed.{describing}
use Rattle.machine_text.proofs.worked.fast_gates.Goals as goal

valid : IsValid fast
valid = let v = valid_single 4 (omega arith) (omega arith) in record {
  some_trap = v.some_trap;
  few_traps = v.few_traps;
  few_segments = v.few_segments;
  few_junctions = v.few_junctions;
  capacities = v.capacities;
  ends_there = v.ends_there;
  two_sites = v.two_sites;
  ends_free = v.ends_free;
  degrees = v.degrees;
  traps_reached = v.traps_reached;
  junctions_reached = v.junctions_reached;
  times = All-from_recursion (λ (t : ℕ). t ≤ 1000000) (times_of fast.times) (omega arith, (omega arith, (omega arith, (omega arith, (omega arith, (omega arith, (omega arith, (omega arith, (omega arith, (omega arith, (omega arith, (omega arith, tt))))))))))));
}

pub returns : goal.returns
unfolding toml_on_literals
returns c = record {
  description = describing (codes "[[trap]]\ncapacity = 4\n[time]\ngate1 = 0\ngate2 = 0\n") fast refl refl (refl, record { capacities = refl; junctions = refl; segments = refl; times = refl });
  valid = valid;
}
