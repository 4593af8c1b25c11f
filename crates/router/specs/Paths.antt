-- Paths from trap to trap, along segments and through junctions.
use Rattle.std.specs.Prelude.{ℕ, zero, suc, ◌+◌, Bool, true, false, ◌&&◌, ◌||◌, ◌==◌, nat_lt, if◌then◌else◌, List, [], ◌∷◌, length, map, flat_map, Option, Some, None, is_some, option_map, slice_get}
use Rattle.std.specs.List.{range_with_len}
use Rattle.qccd_base.specs.Names.{trap}
use Rattle.qccd_base.specs.Resource.{same_res}
use Rattle.qccd_base.specs.declared.names.Res.{Res}
use Rattle.qccd_base.specs.declared.names.Res.TheVariants as res
use Rattle.qccd_machine.specs.declared.place.Place.{Place}
use Rattle.qccd_machine.specs.declared.place.Place.TheVariants.{TrapEnd, Junction}
use Rattle.qccd_machine.specs.Machine.{site}
use Rattle.router.specs.Wiring.{WiringData}

-- a segment as it is gone along from a trap or a junction: the place at this end, and that at the other
abbrev pub turned : Res → Option (Place × Place) → Option (Place × Place)
turned from None = None
turned from (Some ends) =
    if same_res (site ends.0) from then Some ends else (if same_res (site ends.1) from then Some (ends.1, ends.0) else None)

abbrev pub way_along : WiringData → Res → ℕ → Option (Place × Place)
way_along w from g = turned from (slice_get w.segments g)

-- whether a way ends in trap t, where it is the last one, or in a junction from which the others lead on
abbrev pub goes_on : ℕ → Option (Place × Place) → Bool → (Res → Bool) → Bool
goes_on t None last more = false
goes_on t (Some (near, TrapEnd u e)) last more = last && (u.0 == t)
goes_on t (Some (near, Junction j)) last more = more (res.Junc j)

abbrev pub is_last : List ℕ → Bool
is_last [] = true
is_last (g ∷ path) = false

-- whether these segments, in turn, are a path from a trap or a junction to trap t, with no trap inside
abbrev pub is_path : WiringData → ℕ → List ℕ → Res → Bool
is_path w t [] from = false
is_path w t (g ∷ path) from = goes_on t (way_along w from g) (is_last path) (is_path w t path)

-- all lists of so many numbers below n, the least first
abbrev pub lists_of : ℕ → ℕ → List (List ℕ)
lists_of n zero = [] ∷ []
lists_of n (suc count) = flat_map (λ g. map (λ path. g ∷ path) (lists_of n count)) (range_with_len 0 n)

-- whether a list of numbers is less than another, by their first numbers that differ
abbrev pub is_less : List ℕ → List ℕ → Bool
is_less [] ys = is_some (slice_get ys 0)
is_less (x ∷ xs) [] = false
is_less (x ∷ xs) (y ∷ ys) = nat_lt x y || ((x == y) && is_less xs ys)

-- what f gives at the first number of the list at which it gives something
abbrev pub first_of : {X : Type 0} → (ℕ → Option X) → List ℕ → Option X
first_of f [] = None
first_of f (k ∷ ks) = if is_some (f k) then f k else first_of f ks

-- segment g and the path behind it, of so many segments: none behind trap t, and else one from the junction
abbrev pub path_behind : ℕ → ℕ → ℕ → Option (Place × Place) → (Res → Option (List ℕ)) → Option (List ℕ)
path_behind t count g None more = None
path_behind t count g (Some (near, TrapEnd u e)) more = if (count == 0) && (u.0 == t) then Some (g ∷ []) else None
path_behind t count g (Some (near, Junction j)) more = option_map (λ path. g ∷ path) (more (res.Junc j))

-- the least path of so many segments to trap t: the least segment behind which there is one, and the least one there
abbrev pub path_of : WiringData → ℕ → ℕ → Res → Option (List ℕ)
path_of w t zero from = None
path_of w t (suc count) from =
    first_of (λ g. path_behind t count g (way_along w from g) (path_of w t count)) (range_with_len 0 (length w.segments))

-- the path from a trap to another with the fewest segments, among these the least list of numbers. It comes
-- through each junction once at most
unfoldable pub hop_path : WiringData → ℕ → ℕ → Option (List ℕ)
hop_path w a b =
    if a == b then None else first_of (λ count. path_of w b count (res.Trap (trap a))) (range_with_len 1 (w.junctions + 1))
