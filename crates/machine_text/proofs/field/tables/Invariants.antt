use Rattle.std.proofs.Common.{◌≡◌, ◌++◌, drop}
use Rattle.toml.specs.View.{items_view}
use Rattle.machine_text.specs.Texts.{tables_of}
use Rattle.machine_text.specs.Field.{are_tables, rows_in}
use Rattle.machine_text.proofs.field.tables.Given as goal

abbrev pub invariant-loop-item : goal.invariant-loop-item
invariant-loop-item l = record {
  left : are_tables (items_view l.item-items) ≡ are_tables (items_view (drop l.item-index l.item-items));
  rows : rows_in (items_view l.item-items) ≡ tables_of l.tables.items ++ rows_in (items_view (drop l.item-index l.item-items));
}
