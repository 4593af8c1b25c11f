-- The nearest trap with a free slot, as a search over the traps finds it.
use Rattle.std.specs.Prelude.{◌≡◌, ℕ, ◌<◌, ◌≤◌, Bool, true, false, ◌&&◌, nat_lt, if◌then◌else◌, Option, None, Some}
use Rattle.qccd_machine.specs.Machine.{MachineData}
use Rattle.op_table.specs.State.{State}
use Rattle.router.specs.Hops.{distance}
use Rattle.router.specs.Wiring.{wiring_of}
use Rattle.rebalancer.specs.Room.{has_room}
use Rattle.rebalancer.specs.declared.making.Goal.{Goal}

abbrev pub is_nearer : ℕ → Option Goal → Bool
is_nearer far None = true
is_nearer far (Some goal) = nat_lt far goal.distance

-- a trap in place of the best so far, where it has a free slot and is nearer
abbrev pub better : Bool → Goal → Option Goal → Option Goal
better has goal best = if has && is_nearer goal.distance best then Some goal else best

-- of the first n traps it is the nearest to t with a free slot, of equals the least
pub record IsBestGoal (m : MachineData) (s : State) (t n : ℕ) (goal : Goal) : Type 0 where
  pub below : goal.trap.0 < n
  pub room : has_room m s goal.trap.0 ≡ true
  pub far : goal.distance ≡ distance (wiring_of m) t goal.trap.0
  pub nearest : (u : ℕ) → u < n → has_room m s u ≡ true → goal.distance ≤ distance (wiring_of m) t u
  pub least : (u : ℕ) → u < goal.trap.0 → has_room m s u ≡ true → goal.distance < distance (wiring_of m) t u

-- or there is none, and they are all full
abbrev pub IsBest : MachineData → State → ℕ → ℕ → Option Goal → Type 0
IsBest m s t n None = (u : ℕ) → u < n → has_room m s u ≡ false
IsBest m s t n (Some goal) = IsBestGoal m s t n goal
