use Rattle.std.proofs.Common.{◌∙◌, List, ℕ, Bor, rules, tests}
use Rattle.std.specs.Str.{bytes_eq}
use Rattle.std.proofs.lemmas.Iterator.{YieldsList-from_slice}
use Rattle.std.proofs.lemmas.Iterator.Search.{any_from_yields_List}
use Rattle.machine_text.proofs.Fields.{list_any-map}
use Rattle.machine_text.proofs.field.is_among.Goals as goal

pub returns : goal.returns
returns c =
    any_from_yields_List (λ (other : Bor (List ℕ)). bytes_eq c.args.name.now other.now) _ _ c.any.result c.any.ensures.ran
    (YieldsList-from_slice c.args.names.now cc) (λ x b q k. search (rules, tests))
    ∙ list_any-map (bytes_eq c.args.name.now) (λ (other : Bor (List ℕ)). other.now) c.args.names.now
