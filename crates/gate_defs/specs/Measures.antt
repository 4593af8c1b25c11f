-- How deep a definition is, what it weighs, and how many items it is.
use Rattle.std.specs.Prelude.{ℕ, ◌+◌, List, [], map, get_or, None, Some}
use Rattle.std.specs.List.{sum_by}
use Rattle.qccd_base.specs.Greatest.{greatest}
use Rattle.gate_defs.specs.declared.kinds.Callee.{Callee}
use Rattle.gate_defs.specs.declared.kinds.Callee.TheVariants.{Plain, Ccx, Cswap, Defined, Barrier}
use Rattle.gate_defs.specs.declared.kinds.BodyStep.{BodyStep}
use Rattle.gate_defs.specs.declared.kinds.Def.{Def}
use Rattle.gate_defs.specs.Meaning.{each_from}

-- how many items a callee is, where definitions have these sizes
abbrev pub size_of : List ℕ → Callee → ℕ
size_of sizes (Plain name) = 1
size_of sizes Ccx = 15
size_of sizes Cswap = 17
size_of sizes (Defined id) = get_or sizes id 0
size_of sizes Barrier = 1

-- how deep it is
abbrev pub depth_under : List ℕ → Callee → ℕ
depth_under depths (Plain name) = 0
depth_under depths Ccx = 0
depth_under depths Cswap = 0
depth_under depths (Defined id) = get_or depths id 0
depth_under depths Barrier = 0

-- an opaque gate has depth 0, a gate with a body 1 and the greatest depth in it
abbrev pub depth_over : List ℕ → Def → ℕ
depth_over depths d = elim d.body as (λ _. ℕ) [ None ↦ 0 | Some steps ↦ 1 + greatest (map (λ s. depth_under depths s.callee) steps) ]

-- the sizes of the steps together
abbrev pub size_all : List ℕ → List BodyStep → ℕ
size_all sizes steps = sum_by (λ s. size_of sizes s.callee) steps

-- an opaque gate weighs 1, a gate with a body 1 and what its steps weigh
abbrev pub weight_over : List ℕ → Def → ℕ
weight_over weights d = elim d.body as (λ _. ℕ) [ None ↦ 1 | Some steps ↦ 1 + size_all weights steps ]

-- an opaque gate is one item, a gate with a body those of its steps
abbrev pub count_over : List ℕ → Def → ℕ
count_over counts d = elim d.body as (λ _. ℕ) [ None ↦ 1 | Some steps ↦ size_all counts steps ]

abbrev pub depths : List Def → List ℕ
depths defs = each_from depth_over [] defs

abbrev pub weights : List Def → List ℕ
weights defs = each_from weight_over [] defs

abbrev pub counts : List Def → List ℕ
counts defs = each_from count_over [] defs

abbrev pub depth : List Def → ℕ → ℕ
depth defs id = get_or (depths defs) id 0

abbrev pub weight : List Def → ℕ → ℕ
weight defs id = get_or (weights defs) id 0

-- how many items an application of it is
abbrev pub count : List Def → ℕ → ℕ
count defs id = get_or (counts defs) id 0
