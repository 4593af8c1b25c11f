-- The order of resources: traps, segments, junctions, bits, and each by number.
use Rattle.std.specs.Prelude.{◌≡◌, ℕ, Bool, true, false, ◌&&◌, ◌||◌, ◌==◌, nat_lt, if◌then◌else◌, List, [], ◌∷◌}
use Rattle.std.specs.List.{AllByRecursion}
use Rattle.qccd_base.specs.declared.names.Res.{Res}
use Rattle.qccd_base.specs.declared.names.Res.TheVariants.{Trap, Seg, Junc, Bit}

abbrev pub rank_of : Res → ℕ
rank_of (Trap t) = 0
rank_of (Seg g) = 1
rank_of (Junc j) = 2
rank_of (Bit b) = 3

abbrev pub number_of : Res → ℕ
number_of (Trap t) = t.0
number_of (Seg g) = g.0
number_of (Junc j) = j.0
number_of (Bit b) = b.0

abbrev pub same_res : Res → Res → Bool
same_res r q = (rank_of r == rank_of q) && (number_of r == number_of q)

abbrev pub comes_before : Res → Res → Bool
comes_before r q = nat_lt (rank_of r) (rank_of q) || ((rank_of r == rank_of q) && nat_lt (number_of r) (number_of q))

-- whether the resource stands in the list
abbrev pub among : List Res → Res → Bool
among [] r = false
among (q ∷ qs) r = same_res q r || among qs r

-- an ascending list with one more resource, which stands in it once
abbrev pub with_res : Res → List Res → List Res
with_res r [] = r ∷ []
with_res r (q ∷ qs) = if same_res r q then q ∷ qs else (if comes_before r q then r ∷ q ∷ qs else q ∷ with_res r qs)

-- the resources of a list, ascending, each once
abbrev pub ascending : List Res → List Res
ascending [] = []
ascending (r ∷ rs) = with_res r (ascending rs)

-- each resource of the list comes before all that follow it
abbrev pub IsAscending : List Res → Type 0
IsAscending [] = Unit {0}
IsAscending (r ∷ rs) = AllByRecursion (λ q. comes_before r q ≡ true) rs × IsAscending rs
