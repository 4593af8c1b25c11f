-- Each name has the number that it had, but for the new one.
use Rattle.std.proofs.Common.{◌∙◌, ap}
use Rattle.std.specs.Map.{lookup}
use Rattle.std.specs.Cmp.Lexicographic.{slice_cmp}
use Rattle.std.specs.Ordering.{is_eq, nat_cmp}
use Rattle.gate_defs.proofs.NameLemmas.{lookup_inserted}
use Rattle.gate_defs.proofs.numbers.Numbers.add.Goals as goal

pub returns-clause-ok : goal.returns-clause-ok
returns-clause-ok c = λ i name.
    (ap (λ es. lookup (λ key. is_eq (slice_cmp nat_cmp name key.items)) es) c.in_ok-insert.ensures.entries
    ∙ lookup_inserted (λ key. key.items) name c.args.name c.args.number c.args.self.now.map.entries) i
