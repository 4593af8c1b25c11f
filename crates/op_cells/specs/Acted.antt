-- What an operation leaves in the cells that it touches, from these cells alone.
use Rattle.std.specs.Prelude.{ℕ, ◌+◌, List, [], ◌∷◌, ◌++◌, map, length}
use Rattle.qccd_base.specs.Greatest.{greatest}
use Rattle.qccd_machine.specs.Machine.{MachineData}
use Rattle.op_table.specs.declared.kinds.OpKind.{OpKind}
use Rattle.op_table.specs.declared.contents.Content.{Content}
use Rattle.op_table.specs.Act.{acted}
use Rattle.op_table.specs.Clock.{duration}
use Rattle.op_cells.specs.declared.cells.Cell.{Cell}
use Rattle.op_cells.specs.declared.cells.Done.{Done}

-- content, clock and log
pub record CellData : Type 0 where
  pub content : Content
  pub clock : ℕ
  pub log : List Done

-- what is read of a cell, and how many entries its log takes in all
abbrev pub data_of : Cell → CellData
data_of c = record { content = c.content; clock = c.free_at; log = c.log.entries }

abbrev pub room_of : Cell → ℕ
room_of c = length c.log.entries + c.log.spare

-- these contents, each from now on free at the finish
abbrev pub with_contents_at : ℕ → List Content → List CellData → List CellData
with_contents_at finish [] ds = []
with_contents_at finish (c ∷ cs) [] = []
with_contents_at finish (c ∷ cs) (d ∷ ds) = record { content = c; clock = finish; log = d.log } ∷ with_contents_at finish cs ds

abbrev pub noted_at : Done → List CellData → List CellData
noted_at done [] = []
noted_at done (d ∷ ds) = record d { log = d.log ++ done ∷ [] } ∷ ds

abbrev pub start_on : List CellData → ℕ
start_on ds = greatest (map (λ d. d.clock) ds)

abbrev pub done_on : MachineData → ℕ → OpKind → List CellData → Done
done_on m k op ds = record { op = k; start = start_on ds; finish = start_on ds + duration m op }

abbrev pub acted_on : MachineData → ℕ → OpKind → List CellData → List CellData
acted_on m k op ds =
    noted_at (done_on m k op ds) (with_contents_at (done_on m k op ds).finish (acted m op (map (λ d. d.content) ds)) ds)
