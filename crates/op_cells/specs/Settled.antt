-- What becomes of cells that are held out of their places.
use Rattle.std.specs.Prelude.{◌≡◌, ℕ, ◌-◌, ◌++◌, List, [], ◌∷◌, map, None}
use Rattle.qccd_machine.specs.Machine.{MachineData}
use Rattle.op_table.specs.declared.kinds.OpKind.{OpKind}
use Rattle.op_table.specs.declared.contents.Content.{Content}
use Rattle.op_table.specs.Act.{why_on}
use Rattle.op_cells.specs.declared.cells.Cell.{Cell}
use Rattle.op_cells.specs.declared.cells.Held.{Held}
use Rattle.op_cells.specs.declared.cells.Done.{Done}

-- legal on these contents, for some number of bits
abbrev pub IsLegalOn : MachineData → OpKind → List Content → Type 0
IsLegalOn m op cs = (bits : ℕ) × (why_on m bits op cs ≡ None)

-- legal on some contents
abbrev pub IsLegalSomewhere : MachineData → OpKind → Type 0
IsLegalSomewhere m op = (cs : List Content) × IsLegalOn m op cs

abbrev pub contents_of : List Held → List Content
contents_of held = map (λ (h : Held). h.cell.content) held

abbrev pub with_content : Content → Held → Held
with_content c h = record h { cell = record h.cell { content = c } }

-- the cells with these contents, each else as it was
abbrev pub with_contents : List Content → List Held → List Held
with_contents [] hs = hs
with_contents (c ∷ cs) [] = []
with_contents (c ∷ cs) (h ∷ hs) = with_content c h ∷ with_contents cs hs

-- free at the finish
abbrev pub freed : ℕ → Held → Held
freed finish h = record h { cell = record h.cell { free_at = finish } }

-- with one entry more in its log
abbrev pub noted : Done → Cell → Cell
noted done c = record c { log = record { entries = c.log.entries ++ done ∷ []; spare = c.log.spare - 1 } }

abbrev pub noted_first : Done → List Held → List Held
noted_first done [] = []
noted_first done (h ∷ hs) = record h { cell = noted done h.cell } ∷ hs
