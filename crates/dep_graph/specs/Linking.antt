-- What is kept while a graph is made, from the last item to the first.
use Rattle.std.specs.Prelude.{◌≡◌, ℕ, ◌+◌, ◌<◌, ◌≤◌, Bool, false, ◌==◌, if◌then◌else◌, Option, Some, None, List, [], ◌∷◌, ◌++◌, length, get_or, slice_set}
use Rattle.qccd_circuit.specs.Item.{ItemData}
use Rattle.dep_graph.specs.declared.linking.Linking.{Linking}
use Rattle.dep_graph.specs.Direct.{is_first}
use Rattle.dep_graph.specs.Graph.{AreLinked, AreCounted}

pub record LinkingData : Type 0 where
  pub links : List ℕ
  pub ends : List ℕ
  pub waits : List ℕ
  pub linked_by : List ℕ
  pub next : List (Option ℕ)

abbrev pub data_of : Linking → LinkingData
data_of l = record {
  links = l.links.items;
  ends = l.ends.items;
  waits = l.waits.items;
  linked_by = l.linked_by.items;
  next = l.next;
}

abbrev pub is_some_at : Option ℕ → ℕ → Bool
is_some_at None j = false
is_some_at (Some k) j = k == j

-- of the items from a number on: their links, counts and first items on each operand; and each was linked last
-- by one of them
pub record LinksFrom (items : List ItemData) (from : ℕ) (made : LinkingData) : Type 0 where
  pub linked : AreLinked items from made.links made.ends
  pub counted : AreCounted items from made.waits
  pub all_next : length made.next ≡ 512
  pub firsts : (o j : ℕ) → o < 512 → is_some_at (get_or made.next o None) j ≡ is_first items from o j
  pub all_linked_by : length made.linked_by ≡ length items
  pub later : (j : ℕ) → from ≤ j → j < length items → from ≤ get_or made.linked_by j 0

-- a link from an item to a later one, unless there is one already
abbrev pub linked_to : LinkingData → ℕ → ℕ → LinkingData
linked_to made later number =
    if get_or made.linked_by later 0 == number then made
    else record made {
      links = made.links ++ later ∷ [];
      waits = slice_set made.waits later (get_or made.waits later 0 + 1);
      linked_by = slice_set made.linked_by later number;
    }

abbrev pub linked_where : LinkingData → Option ℕ → ℕ → LinkingData
linked_where made None number = made
linked_where made (Some later) number = linked_to made later number

-- the item is now the first on an operand, and is linked to the one that was
abbrev pub met : LinkingData → ℕ → ℕ → LinkingData
met made row number =
    linked_where (record made { next = slice_set made.next row (Some number) }) (get_or made.next row None) number

-- the item of this number has its entries in the lists, and no great count
pub record HasEntries (made : LinkingData) (later : ℕ) : Type 0 where
  pub linked_by : later < length made.linked_by
  pub waits : later < length made.waits
  pub few : get_or made.waits later 0 ≤ 131072
