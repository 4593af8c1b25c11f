use Rattle.std.proofs.Common.{◌∙◌, map, List, ℕ, Bor, String, Global, string_bytes, rules, tests}
use Rattle.std.specs.List.{list_any}
use Rattle.std.specs.Str.{bytes_eq}
use Rattle.std.specs.BTreeMap.{keys}
use Rattle.std.proofs.lemmas.Iterator.Search.{all_from_yields_List}
use Rattle.std.proofs.lemmas.Iterator.Consumers.{YieldsList-from_rest}
use Rattle.machine_text.proofs.Fields.{has_only-keys}
use Rattle.machine_text.proofs.field.has_only.Goals as goal

pub returns : goal.returns
returns c =
    let names = map (λ (name : Bor (List ℕ)). name.now) c.args.names.now in
    all_from_yields_List (λ (k : String Global). list_any (bytes_eq (string_bytes k)) names) _ _ c.all.result c.all.ensures.ran
    (YieldsList-from_rest (keys c.args.table.now) c.keys.ensures.rest) (λ x b q k. search (rules, tests))
    ∙ has_only-keys names c.args.table.now.entries
