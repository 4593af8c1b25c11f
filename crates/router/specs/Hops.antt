-- Hops from neighbour to neighbour: how many it takes, and the next one.
use Rattle.std.specs.Prelude.{ℕ, zero, suc, ◌+◌, Bool, ◌&&◌, ◌==◌, find, Option, is_some, unwrap_or}
use Rattle.std.specs.List.{range_with_len, list_any}
use Rattle.router.specs.Wiring.{WiringData}
use Rattle.router.specs.Paths.{hop_path}

-- two different traps that a path joins with no trap inside
abbrev pub are_neighbours : WiringData → ℕ → ℕ → Bool
are_neighbours w a b = is_some (hop_path w a b)

-- whether so many hops lead from trap a to trap b
abbrev pub hops_lead : WiringData → ℕ → ℕ → ℕ → Bool
hops_lead w b zero a = a == b
hops_lead w b (suc count) a = list_any (λ c. are_neighbours w a c && hops_lead w b count c) (range_with_len 0 w.traps)

-- the least number of hops from trap a to trap b
unfoldable pub distance : WiringData → ℕ → ℕ → ℕ
distance w a b = unwrap_or (find (λ count. hops_lead w b count a) (range_with_len 0 w.traps)) 0

-- the least neighbour of trap a that is one hop nearer to trap b
unfoldable pub next_hop : WiringData → ℕ → ℕ → Option ℕ
next_hop w a b = find (λ c. are_neighbours w a c && (distance w c b + 1 == distance w a b)) (range_with_len 0 w.traps)
