-- The operations that bring a qubit to an end of its chain.
use Rattle.std.specs.Prelude.{ℕ, zero, suc, ◌+◌, ◌-◌, ◌==◌, if◌then◌else◌, List, [], ◌∷◌}
use Rattle.qccd_base.specs.Names.{trap}
use Rattle.qccd_base.specs.declared.names.Qubit.{Qubit}
use Rattle.qccd_base.specs.declared.names.End.{End}
use Rattle.qccd_base.specs.declared.names.End.TheVariants.{Left, Right}
use Rattle.qccd_base.specs.declared.names.Mode.{Mode}
use Rattle.qccd_base.specs.declared.names.Mode.TheVariants.{IonSwap, GateSwap}
use Rattle.op_table.specs.declared.kinds.OpKind.{OpKind}
use Rattle.op_table.specs.declared.kinds.OpKind.TheVariants.{Rot, GSwap}
use Rattle.op_table.specs.State.{State, ions_in}
use Rattle.op_plan.specs.Place.{trap_of, position_of}

-- exchanges of neighbours from position p down to the left end, and so many from p up
abbrev pub rots_down : ℕ → ℕ → List OpKind
rots_down t zero = []
rots_down t (suc p) = Rot (trap t) p ∷ rots_down t p

abbrev pub rots_up : ℕ → ℕ → ℕ → List OpKind
rots_up t p zero = []
rots_up t p (suc n) = Rot (trap t) p ∷ rots_up t (p + 1) n

-- an exchange of the qubits at two positions, where these are two
abbrev pub swap_ops : ℕ → ℕ → ℕ → List OpKind
swap_ops t low high = if low == high then [] else GSwap (trap t) low high ∷ []

-- the ion at position p of the n in trap t goes to this end
abbrev pub to_end : ℕ → ℕ → ℕ → End → Mode → List OpKind
to_end t n p Left IonSwap = rots_down t p
to_end t n p Right IonSwap = rots_up t p (n - 1 - p)
to_end t n p Left GateSwap = if p == 0 then [] else GSwap (trap t) 0 p ∷ []
to_end t n p Right GateSwap = if p + 1 == n then [] else GSwap (trap t) p (n - 1) ∷ []

abbrev pub reorder_ops : State → Qubit → End → Mode → List OpKind
reorder_ops s q end mode = to_end (trap_of s q) (ions_in s (trap_of s q)) (position_of s q) end mode
