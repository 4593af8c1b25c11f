-- Where the qubits are, by trap, segment and junction, and when a state lies so.
use Rattle.std.specs.Prelude.{◌≡◌, ℕ, ◌==◌, if◌then◌else◌, List, [], ◌∷◌, ◌++◌, length, map, filter, Option, Some, None, slice_get}
use Rattle.qccd_base.specs.declared.names.Qubit.{Qubit}
use Rattle.qccd_base.specs.declared.names.SegEnd.{SegEnd}
use Rattle.qccd_base.specs.declared.names.SegEnd.TheVariants.{A}
use Rattle.qccd_base.specs.declared.names.End.{End}
use Rattle.qccd_base.specs.declared.names.End.TheVariants.{Left, Right}
use Rattle.op_table.specs.State.{IonPlace, InTrap, OnSegment, InJunction, Stand, State, is_at, is_on_segment, is_in_junction, ions_in}

-- the chain of each trap, the qubit on each segment with the end at which it is, the qubit in each junction
pub record Layout : Type 0 where
  pub chains : ℕ → List Qubit
  pub riders : ℕ → Option (SegEnd × Qubit)
  pub carries : ℕ → Option Qubit

abbrev pub end_on : IonPlace → SegEnd
end_on (InTrap t k) = A
end_on (OnSegment g e h) = e
end_on (InJunction j h) = A

abbrev pub riding : Stand → SegEnd × Qubit
riding w = (end_on w.place, w.qubit)

abbrev pub listed : {X : Type 0} → Option X → List X
listed None = []
listed (Some x) = x ∷ []

-- the state has these chains, riders and carries; nothing is said of ions' numbers and of heats
pub record Lies (s : State) (l : Layout) : Type 0 where
  pub counts : (t : ℕ) → ions_in s t ≡ length (l.chains t)
  pub chains : (t k : ℕ) → map (λ (w : Stand). w.qubit) (filter (λ (w : Stand). is_at t k w.place) s.ions) ≡ listed (slice_get (l.chains t) k)
  pub riders : (g : ℕ) → map riding (filter (λ (w : Stand). is_on_segment g w.place) s.ions) ≡ listed (l.riders g)
  pub carries : (j : ℕ) → map (λ (w : Stand). w.qubit) (filter (λ (w : Stand). is_in_junction j w.place) s.ions) ≡ listed (l.carries j)

-- another value at one number
abbrev pub with_at : {X : Type 0} → ℕ → X → (ℕ → X) → ℕ → X
with_at n x f k = if k == n then x else f k

-- nothing outside the traps; one qubit on a segment; one in a junction
abbrev pub settled : (ℕ → List Qubit) → Layout
settled chains = record { chains = chains; riders = λ g. None; carries = λ j. None }

abbrev pub on_segment : (ℕ → List Qubit) → ℕ → SegEnd → Qubit → Layout
on_segment chains g e q = record { chains = chains; riders = with_at g (Some (e, q)) (λ h. None); carries = λ j. None }

abbrev pub in_junction : (ℕ → List Qubit) → ℕ → Qubit → Layout
in_junction chains j q = record { chains = chains; riders = λ g. None; carries = with_at j (Some q) (λ h. None) }

-- a chain with one more qubit at an end
abbrev pub joined : End → Qubit → List Qubit → List Qubit
joined Left q chain = q ∷ chain
joined Right q chain = chain ++ q ∷ []
