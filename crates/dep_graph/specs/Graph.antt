-- What a graph keeps of a circuit's items.
use Rattle.std.specs.Prelude.{◌≡◌, ℕ, ◌+◌, ◌-◌, ◌<◌, ◌≤◌, ◌==◌, if◌then◌else◌, List, length, get_or, slice_range, count_by}
use Rattle.std.specs.List.{range_with_len}
use Rattle.qccd_circuit.specs.Item.{ItemData}
use Rattle.dep_graph.specs.Direct.{directly_before}
use Rattle.dep_graph.specs.Levels.{levels}

-- the levels; the items that stand directly behind each item, from the last item to the first, and where
-- those of each end; how many stand directly before each
pub record GraphData : Type 0 where
  pub levels : List ℕ
  pub links : List ℕ
  pub ends : List ℕ
  pub waits : List ℕ

-- the links of an item
abbrev pub links_of : List ℕ → List ℕ → ℕ → List ℕ
links_of links ends i = slice_range links (get_or ends (i + 1) 0) (get_or ends i 0)

-- the links of the items from a number on are those that stand directly behind each, once each
pub record AreLinked (items : List ItemData) (from : ℕ) (links ends : List ℕ) : Type 0 where
  pub all_ends : length ends ≡ length items + 1
  pub end_of_all : get_or ends from 0 ≡ length links
  pub ascending : (i : ℕ) → from ≤ i → i < length items → get_or ends (i + 1) 0 ≤ get_or ends i 0
  pub inside : (i : ℕ) → from ≤ i → i ≤ length items → get_or ends i 0 ≤ length links
  pub behind :
      (i j : ℕ) → from ≤ i → i < length items
      → count_by (λ k. k == j) (links_of links ends i) ≡ (if directly_before items i j then 1 else 0)

-- how many items from a number on stand directly before each
pub record AreCounted (items : List ItemData) (from : ℕ) (waits : List ℕ) : Type 0 where
  pub all_waits : length waits ≡ length items
  pub counts :
      (j : ℕ) → j < length items
      → get_or waits j 0 ≡ count_by (λ k. directly_before items k j) (range_with_len from (length items - from))

-- the graph of these items: their levels, what stands directly behind each, and how many directly before
pub record IsGraphOf (items : List ItemData) (graph : GraphData) : Type 0 where
  pub levelled : graph.levels ≡ levels items
  pub linked : AreLinked items 0 graph.links graph.ends
  pub counted : AreCounted items 0 graph.waits
