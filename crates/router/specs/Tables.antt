-- The tables of a wiring: for each trap what leads there, from each trap.
use Rattle.std.specs.Prelude.{ℕ, List, map, Option, option_map}
use Rattle.std.specs.List.{range_with_len}
use Rattle.qccd_base.specs.Names.{trap}
use Rattle.router.specs.Wiring.{WiringData}
use Rattle.router.specs.Paths.{hop_path}
use Rattle.router.specs.Hops.{distance, next_hop}
use Rattle.router.specs.declared.hops.Hop.{Hop}

abbrev pub paths_to : WiringData → ℕ → List (Option (List ℕ))
paths_to w b = map (λ a. hop_path w a b) (range_with_len 0 w.traps)

abbrev pub all_paths : WiringData → List (List (Option (List ℕ)))
all_paths w = map (paths_to w) (range_with_len 0 w.traps)

abbrev pub hop_of : WiringData → ℕ → ℕ → Hop
hop_of w b a = record { distance = distance w a b; next = option_map trap (next_hop w a b) }

abbrev pub hops_to : WiringData → ℕ → List Hop
hops_to w b = map (hop_of w b) (range_with_len 0 w.traps)

abbrev pub all_hops : WiringData → List (List Hop)
all_hops w = map (hops_to w) (range_with_len 0 w.traps)
