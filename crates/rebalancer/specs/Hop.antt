-- A hop of a qubit to a neighbouring trap.
use Rattle.std.specs.Prelude.{ℕ, List, [], ◌∷◌, ◌++◌, Option, Some, None, unwrap_or}
use Rattle.qccd_base.specs.Names.{trap, segment}
use Rattle.qccd_base.specs.declared.names.Qubit.{Qubit}
use Rattle.qccd_base.specs.declared.names.End.{End}
use Rattle.qccd_base.specs.declared.names.End.TheVariants.{Left}
use Rattle.qccd_base.specs.declared.names.Mode.{Mode}
use Rattle.qccd_base.specs.declared.names.Res.{Res}
use Rattle.qccd_base.specs.declared.names.Res.TheVariants as res
use Rattle.qccd_machine.specs.declared.place.Place.{Place}
use Rattle.qccd_machine.specs.declared.place.Place.TheVariants.{TrapEnd, Junction}
use Rattle.qccd_machine.specs.Machine.{MachineData, site}
use Rattle.op_table.specs.declared.kinds.OpKind.{OpKind}
use Rattle.op_table.specs.declared.kinds.OpKind.TheVariants.{Split, Move, Enter, Leave, Merge}
use Rattle.op_table.specs.State.{State}
use Rattle.op_plan.specs.Place.{trap_of}
use Rattle.chain_reorder.specs.Reorder.{reorder_ops}
use Rattle.router.specs.Paths.{way_along, hop_path}
use Rattle.router.specs.Wiring.{wiring_of}

-- onto a segment from a place at one end of it, and off it to the place at its other end
abbrev pub leave_by : ℕ → Place → OpKind
leave_by g (TrapEnd t e) = Split t e (segment g)
leave_by g (Junction j) = Leave j (segment g)

abbrev pub arrive_by : ℕ → Place → OpKind
arrive_by g (TrapEnd t e) = Merge (segment g) t e
arrive_by g (Junction j) = Enter (segment g) j

-- onto a segment, to its other end, and off it
abbrev pub crossing : ℕ → Place → Place → List OpKind
crossing g near far = leave_by g near ∷ Move (segment g) ∷ arrive_by g far ∷ []

-- along a segment, and then on from the trap or the junction at its other end
abbrev pub along_way : ℕ → Option (Place × Place) → (Res → List OpKind) → List OpKind
along_way g None more = []
along_way g (Some ends) more = crossing g ends.0 ends.1 ++ more (site ends.1)

-- along each segment in turn
abbrev pub along : MachineData → List ℕ → Res → List OpKind
along m [] from = []
along m (g ∷ path) from = along_way g (way_along (wiring_of m) from g) (along m path)

-- the end of the chain by which a way leaves; where it begins at a junction there is none
abbrev pub near_end : Place × Place → End
near_end (TrapEnd t e, far) = e
near_end (Junction j, far) = Left

abbrev pub end_of_way : Option (Place × Place) → End
end_of_way None = Left
end_of_way (Some ends) = near_end ends

-- the end of trap t by which the first segment of a path leaves
abbrev pub leaving_end : MachineData → ℕ → List ℕ → End
leaving_end m t [] = Left
leaving_end m t (g ∷ path) = end_of_way (way_along (wiring_of m) (res.Trap (trap t)) g)

-- qubit q, which stands in trap t, hops along this path
abbrev pub hop_along : MachineData → State → Qubit → Mode → ℕ → List ℕ → List OpKind
hop_along m s q mode t path = reorder_ops s q (leaving_end m t path) mode ++ along m path (res.Trap (trap t))

unfoldable pub hop_ops : MachineData → State → Qubit → ℕ → Mode → List OpKind
hop_ops m s q to mode = hop_along m s q mode (trap_of s q) (unwrap_or (hop_path (wiring_of m) (trap_of s q) to) [])
