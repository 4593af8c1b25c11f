-- How many hops lead to a trap, at the least: what a search by rounds has found.
use Rattle.std.specs.Prelude.{◌≡◌, ℕ, ◌<◌, Bool, ◌&&◌, find, Option, None, option_map, slice_index_or}
use Rattle.std.specs.List.{range_with_len}
use Rattle.qccd_base.specs.Names.{trap}
use Rattle.qccd_base.specs.declared.names.TrapId.{TrapId}
use Rattle.router.specs.Wiring.{WiringData}
use Rattle.router.specs.Hops.{are_neighbours, hops_lead}
use Rattle.router.specs.Steps.{is_at}
use Rattle.router.specs.declared.hops.Counts.{Counts}

abbrev pub count_at : Counts → ℕ → Option ℕ
count_at counts a = slice_index_or counts.traps a None

-- the least number of hops from trap a to trap b, where it is below so many
abbrev pub least_hops : WiringData → ℕ → ℕ → ℕ → Option ℕ
least_hops w b below a = find (λ count. hops_lead w b count a) (range_with_len 0 below)

abbrev pub AreCounts : WiringData → ℕ → ℕ → Counts → Type 0
AreCounts w b below counts = (a : ℕ) → a < w.traps → count_at counts a ≡ least_hops w b below a

-- whether trap c is a neighbour of trap a from which so many hops lead on
abbrev pub is_near : WiringData → Counts → ℕ → ℕ → ℕ → Bool
is_near w counts a left c = are_neighbours w a c && is_at (count_at counts c) left

-- the least such neighbour
abbrev pub near : WiringData → Counts → ℕ → ℕ → Option TrapId
near w counts a left = option_map trap (find (is_near w counts a left) (range_with_len 0 w.traps))
