-- Which items may be taken next.
use Rattle.std.specs.Prelude.{◌≡◌, ℕ, ◌<◌, ◌≤◌, Bool, true, false, ◌&&◌, ◌||◌, ◌==◌, not, nat_lt, List, length, filter, get_or, count_by}
use Rattle.std.specs.List.{list_all, range_with_len}
use Rattle.qccd_circuit.specs.Item.{ItemData}
use Rattle.dep_graph.specs.Direct.{shares_at, directly_before}
use Rattle.dep_graph.specs.Graph.{GraphData, IsGraphOf}

abbrev pub is_taken : List Bool → ℕ → Bool
is_taken taken i = get_or taken i false

-- item j is not taken, and all earlier items that share with it are
abbrev pub is_ready : List ItemData → List Bool → ℕ → Bool
is_ready items taken j =
    nat_lt j (length items) && not (is_taken taken j)
    && list_all (λ i. not (shares_at items i j) || is_taken taken i) (range_with_len 0 j)

-- the items that are ready, ascending
abbrev pub ready_items : List ItemData → List Bool → List ℕ
ready_items items taken = filter (is_ready items taken) (range_with_len 0 (length items))

-- how many items that stand directly before item j are not taken
abbrev pub waiting : List ItemData → List Bool → ℕ → ℕ
waiting items taken j = count_by (λ k. not (is_taken taken k) && directly_before items k j) (range_with_len 0 (length items))

-- the numbers of those that are not taken and wait for none
abbrev pub is_free : List Bool → List ℕ → ℕ → Bool
is_free taken waits j = not (is_taken taken j) && (get_or waits j 0 == 0)

abbrev pub free_numbers : List Bool → List ℕ → List ℕ
free_numbers taken waits = filter (is_free taken waits) (range_with_len 0 (length waits))

-- there are as many of both, not too many, and room to list them all
pub record HasRoom (taken : List Bool) (waits : List ℕ) (room : ℕ) : Type 0 where
  pub same : length waits ≡ length taken
  pub few : length waits ≤ 65536
  pub all : length waits ≤ room

-- for each item whether it is taken and how many items it waits for, and the ready items
pub record ReadyData : Type 0 where
  pub taken : List Bool
  pub waits : List ℕ
  pub list : List ℕ

-- what is taken of a circuit's items was ready when it was, and the rest is counted and listed rightly
pub record Follows (items : List ItemData) (ready : ReadyData) : Type 0 where
  pub all_taken : length ready.taken ≡ length items
  pub all_waits : length ready.waits ≡ length items
  pub closed : (i j : ℕ) → i < j → shares_at items i j ≡ true → is_taken ready.taken j ≡ true → is_taken ready.taken i ≡ true
  pub counts : (j : ℕ) → j < length items → get_or ready.waits j 0 ≡ waiting items ready.taken j
  pub listed : ready.list ≡ ready_items items ready.taken

-- the graph is that of the items, and the item is one of them that may be taken next
pub record MayTake (items : List ItemData) (graph : GraphData) (ready : ReadyData) (item : ℕ) : Type 0 where
  pub made : IsGraphOf items graph
  pub follows : Follows items ready
  pub is_next : is_ready items ready.taken item ≡ true
