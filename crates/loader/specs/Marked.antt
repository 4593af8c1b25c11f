-- What is kept while a raw program is gone through.
use Rattle.std.specs.Prelude.{◌≡◌, ℕ, ◌<◌, Bool, false, List, length, get_or}
use Rattle.std.specs.BTreeSet.{BTreeSet, contains}
use Rattle.std.specs.Ordering.{nat_cmp}
use Rattle.qccd_base.specs.declared.names.Ion.{Ion}
use Rattle.op_table.specs.declared.kinds.OpKind.{OpKind}
use Rattle.loader.specs.Refusal.{has_ion, does_item}

-- a mark for each ion below 256 that stands in front
pub record AreSeen (front : List Ion) (seen : List Bool) : Type 0 where
  pub long : length seen ≡ 256
  pub each : (i : ℕ) → i < 256 → get_or seen i false ≡ has_ion front i

-- the numbers of the items that were done
abbrev pub AreDone : List OpKind → BTreeSet ℕ → Type 0
AreDone ops done = (number : ℕ) → contains nat_cmp done number ≡ does_item ops number
