-- Where a qubit stands.
use Rattle.std.specs.Prelude.{ℕ, ◌==◌, List, filter_map, Option, Some, None, option_map, find}
use Rattle.std.specs.List.{range_with_len}
use Rattle.qccd_base.specs.Names.{trap}
use Rattle.qccd_base.specs.declared.names.Qubit.{Qubit}
use Rattle.qccd_base.specs.declared.names.TrapId.{TrapId}
use Rattle.op_table.specs.State.{IonPlace, InTrap, OnSegment, InJunction, Stand, State, ions_in, qubit_at}

-- the place of the ion that carries the qubit
abbrev pub ion_place : State → Qubit → Option IonPlace
ion_place s q = option_map (λ (w : Stand). w.place) (find (λ (w : Stand). w.qubit.0 == q.0) s.ions)

-- the trap and the position there, of a place in a trap
abbrev pub trap_and_position : Option IonPlace → Option (TrapId × ℕ)
trap_and_position None = None
trap_and_position (Some (InTrap t k)) = Some (trap t, k)
trap_and_position (Some (OnSegment g e h)) = None
trap_and_position (Some (InJunction j h)) = None

-- the trap in which the qubit stands and its position there; none while its ion is in no trap
abbrev pub stands_in : State → Qubit → Option (TrapId × ℕ)
stands_in s q = trap_and_position (ion_place s q)

-- that trap alone
abbrev pub home : State → Qubit → Option TrapId
home s q = option_map (λ (p : TrapId × ℕ). p.0) (stands_in s q)

-- both as numbers, for a qubit that stands in a trap
abbrev pub trap_in : Option IonPlace → ℕ
trap_in None = 0
trap_in (Some (InTrap t k)) = t
trap_in (Some (OnSegment g e h)) = 0
trap_in (Some (InJunction j h)) = 0

abbrev pub position_in : Option IonPlace → ℕ
position_in None = 0
position_in (Some (InTrap t k)) = k
position_in (Some (OnSegment g e h)) = 0
position_in (Some (InJunction j h)) = 0

abbrev pub trap_of : State → Qubit → ℕ
trap_of s q = trap_in (ion_place s q)

abbrev pub position_of : State → Qubit → ℕ
position_of s q = position_in (ion_place s q)

-- the qubits of a trap, from left to right
abbrev pub qubits_in : State → ℕ → List Qubit
qubits_in s t = filter_map (qubit_at s t) (range_with_len 0 (ions_in s t))
