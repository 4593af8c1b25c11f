use Rattle.std.proofs.Common.{◌≡◌, ℕ, ◌<◌, ◌≤◌, [], ◌∷◌, All, ap, arith}
use Rattle.std.proofs.lemmas.List.Elements.{All-from_recursion}
use Rattle.qccd_base.specs.declared.names.TrapId.{TrapId}
use Rattle.qccd_base.specs.declared.names.Res.TheVariants as res
use Rattle.qccd_machine.specs.Machine.{IsValid, first_trap}
use Rattle.qccd_machine.specs.Preset.{single}
use Rattle.qccd_base.specs.Times.{usual, times_of}

only_trap : (t : TrapId) → t.0 < 1 → first_trap ≡ res.Trap t
only_trap t h = let zero_is : 0 ≡ t.0 = omega arith in ap (λ (n : ℕ). res.Trap (record { 0 = n })) zero_is

-- the usual times are within the limit
pub usual_within : All (λ t. t ≤ 1000000) (times_of usual)
usual_within = All-from_recursion (λ (t : ℕ). t ≤ 1000000) (times_of usual) (omega arith, (omega arith, (omega arith, (omega arith, (omega arith, (omega arith, (omega arith, (omega arith, (omega arith, (omega arith, (omega arith, (omega arith, tt))))))))))))

-- a machine of one trap of a capacity within the limits is valid
pub valid_single : (capacity : ℕ) → 2 ≤ capacity → capacity ≤ 32 → IsValid (single capacity)
valid_single c low high = record {
  some_trap = omega arith;
  few_traps = omega arith;
  few_segments = omega arith;
  few_junctions = omega arith;
  capacities = All-from_recursion (λ (n : ℕ). (2 ≤ n) × (n ≤ 32)) (c ∷ []) ((low, high), tt);
  ends_there = λ k d h. absurd (omega arith);
  two_sites = λ k d h. absurd (omega arith);
  ends_free = λ t end. omega arith;
  degrees = λ j h. absurd (omega arith);
  traps_reached = λ t h. ([], only_trap t h);
  junctions_reached = λ j h. absurd (omega arith);
  times = usual_within;
}
