-- States in which nothing is hot.
use Rattle.std.specs.Prelude.{ℕ, map}
use Rattle.op_table.specs.State.{IonPlace, InTrap, OnSegment, InJunction, Stand, State}

abbrev pub cold_place : IonPlace → IonPlace
cold_place (InTrap t k) = InTrap t k
cold_place (OnSegment g e h) = OnSegment g e 0
cold_place (InJunction j h) = InJunction j 0

-- the same places and bindings, with every heat 0
abbrev pub cold : State → State
cold s = record s {
  ions = map (λ (w : Stand). record w { place = cold_place w.place }) s.ions;
  heats = map (λ (h : ℕ). 0) s.heats;
}
