-- What lists of references of the code point to.
use Rattle.std.specs.Prelude.{ℕ, List, map, String}
use Rattle.std.specs.Borrow.{Bor}
use Rattle.std.specs.BTreeMap.{BTreeMap}
use Rattle.std.specs.declared.alloc.Global.{Global}
use Rattle.toml.specs.Data.{Members}
use Rattle.toml.specs.View.{table_view}
use Rattle.toml.specs.declared.value.Value.{Value}

abbrev pub texts_of : List (Bor (List ℕ)) → List (List ℕ)
texts_of names = map (λ name. name.now) names

abbrev pub tables_of : List (Bor (BTreeMap (String Global) Value)) → List Members
tables_of rows = map (λ row. table_view row.now) rows
