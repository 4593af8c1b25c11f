-- A name stands for what it stood for, but for the new one.
use Rattle.std.proofs.Common.{◌≡◌, false, cond, Option, Some, sym, ap, ◌∙◌}
use Rattle.std.specs.Map.{lookup}
use Rattle.std.specs.Str.{bytes_eq}
use Rattle.std.specs.Cmp.Lexicographic.{slice_cmp}
use Rattle.std.specs.Ordering.{is_eq, nat_cmp}
use Rattle.std.proofs.lemmas.Bool.{false≢true}
use Rattle.std.proofs.lemmas.Slice.Eq.{bytes_eq-Decides}
use Rattle.qasm_reader.specs.declared.kinds.Register.{Register}
use Rattle.qasm_reader.specs.declared.names.Named.{Named}
use Rattle.qasm_reader.specs.Known.{with_name}
use Rattle.qasm_reader.specs.Named.{stands_for}
use Rattle.gate_defs.proofs.NameLemmas.{apart, lookup_inserted}
use Rattle.qasm_reader.proofs.names.Names.add.Goals as goal

pub returns-in_ok-insert-in-Some : goal.returns-in_ok-insert-in-Some
returns-in_ok-insert-in-Some c = λ i name.
    let first = c.in-Some.first in
    let other : bytes_eq c.args.name.items first.name.items ≡ false =
    sym (c.same.ensures ∙ (λ j. bytes_eq (c.deref.ensures.value j) (c.deref-in-Some.ensures.value j))) ∙ c.if-same.false in
    (ap (λ (o : Option Register). cond (bytes_eq name first.name.items) (Some first.register) o)
    (ap (λ es. lookup (λ key. is_eq (slice_cmp nat_cmp name key.items)) es) c.in_ok-insert-in-Some.ensures.entries
    ∙ lookup_inserted (λ key. key.items) name c.args.name c.args.register c.args.self.now.map.entries)
    ∙ apart (bytes_eq name first.name.items) (bytes_eq name c.args.name.items) (Some c.args.register)
    (lookup (λ key. is_eq (slice_cmp nat_cmp name key.items)) c.args.self.now.map.entries) (Some first.register)
    (λ here also.
    false≢true (sym other
    ∙ (bytes_eq-Decides c.args.name.items first.name.items).1
    (sym ((bytes_eq-Decides name c.args.name.items).0 also) ∙ (bytes_eq-Decides name first.name.items).0 here)))
    ∙ ap (λ (o : Option Named). with_name c.args.name.items c.args.register (stands_for (record { first = o; map = c.args.self.now.map })) name) (sym c.in-Some.is)) i
