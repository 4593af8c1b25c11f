-- What is kept beside the definitions: the measures of each, and the number of each name.
use Rattle.std.specs.Prelude.{◌≡◌, ℕ, ◌<◌, ◌≤◌, List, map, Option, Some, if◌then◌else◌}
use Rattle.std.specs.Str.{bytes_eq}
use Rattle.std.specs.BTreeMap.{get_by}
use Rattle.std.specs.Cmp.Lexicographic.{slice_cmp}
use Rattle.std.specs.Ordering.{nat_cmp}
use Rattle.gate_defs.specs.declared.kinds.Callee.{Callee}
use Rattle.gate_defs.specs.declared.kinds.Callee.TheVariants.{Plain, Ccx, Cswap, Defined, Barrier}
use Rattle.gate_defs.specs.declared.kinds.Def.{Def}
use Rattle.gate_defs.specs.declared.measures.Measures.{Measures}
use Rattle.gate_defs.specs.declared.numbers.Numbers.{Numbers}
use Rattle.gate_defs.specs.Measures.{count, counts, depth, depths, weight, weights}
use Rattle.gate_defs.specs.Rule.{AreDefs, found}

-- the callee is one of so many definitions, where it is one
abbrev pub IsThere : ℕ → Callee → Type 0
IsThere count (Plain name) = Unit {0}
IsThere count Ccx = Unit {0}
IsThere count Cswap = Unit {0}
IsThere count (Defined id) = id < count
IsThere count Barrier = Unit {0}

abbrev pub depths_in : List Measures → List ℕ
depths_in all = map (λ m. m.depth) all

abbrev pub weights_in : List Measures → List ℕ
weights_in all = map (λ m. m.weight) all

abbrev pub counts_in : List Measures → List ℕ
counts_in all = map (λ m. m.items) all

-- these are the measures of the definitions
pub record AreMeasures (defs : List Def) (all : List Measures) : Type 0 where
  pub depths : depths_in all ≡ depths defs
  pub weights : weights_in all ≡ weights defs
  pub counts : counts_in all ≡ counts defs

-- these are the measures of the definition with this number
pub record AreMeasuresOf (defs : List Def) (id : ℕ) (m : Measures) : Type 0 where
  pub is_depth : m.depth ≡ depth defs id
  pub is_weight : m.weight ≡ weight defs id
  pub is_count : m.items ≡ count defs id
  pub deep : m.depth ≤ 64
  pub heavy : m.weight ≤ 65536
  pub many : m.items ≤ 65536

-- the number that is kept for a name
abbrev pub number_of : Numbers → List ℕ → Option ℕ
number_of numbers name = get_by (λ key. slice_cmp nat_cmp name key.items) numbers.map

-- numbers of names with one more
abbrev pub with_number : List ℕ → ℕ → (List ℕ → Option ℕ) → List ℕ → Option ℕ
with_number name n numbers other = if bytes_eq other name then Some n else numbers other

pub record IsKept (defs : List Def) (all : List Measures) (numbers : Numbers) : Type 0 where
  pub are_defs : AreDefs defs
  pub are_measures : AreMeasures defs all
  pub are_numbers : (name : List ℕ) → number_of numbers name ≡ found defs name
