use Rattle.std.proofs.Common.{◌≡◌, ◌+◌}
use Rattle.std.specs.Prelude.{replicate}
use Rattle.dep_graph.proofs.Linked.{LinksFrom-none}
use Rattle.dep_graph.proofs.linking.Linking.begin.Goals as goal

pub returns : goal.returns
returns c = λ items all.
    let ends : c.in_ok-ends.ends.items ≡ replicate (c.args.count + 1) 0 = c.in_ok-ends.ensures.items_if_clones_equal (λ y e. e) in
    let waits : c.in_ok-waits.waits.items ≡ replicate c.args.count 0 = c.in_ok-waits.ensures.items_if_clones_equal (λ y e. e) in
    let linked_by : c.in_ok-linked_by.linked_by.items ≡ replicate c.args.count 0 = c.in_ok-linked_by.ensures.items_if_clones_equal (λ y e. e) in
    rw (ends, waits, linked_by, c.new.ensures.items) (LinksFrom-none items c.args.count all)
