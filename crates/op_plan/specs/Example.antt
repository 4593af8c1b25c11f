-- A plan on a machine of two traps.
use Rattle.std.specs.Prelude.{◌≡◌, List, [], ◌∷◌}
use Rattle.qccd_base.specs.Names.{ion}
use Rattle.qccd_base.specs.declared.names.Ion.{Ion}
use Rattle.op_table.specs.Example.{pair}
use Rattle.op_plan.specs.Plan.{PlanData, begun}

-- three ions in the first trap
abbrev pub three_ions : List (List Ion)
three_ions = (ion 0 ∷ ion 1 ∷ ion 2 ∷ []) ∷ [] ∷ []

-- it began with them
abbrev pub IsOfThree : PlanData → Type 0
IsOfThree p = record p { ops = [] } ≡ begun pair 3 0 three_ions
