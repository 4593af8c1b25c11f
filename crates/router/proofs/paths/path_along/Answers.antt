use Rattle.std.proofs.Common.{◌-◌, ◌∙◌, ◌++◌, sym, ap, map, List}
use Rattle.std.specs.Prelude.{option_map}
use Rattle.qccd_base.specs.declared.names.SegId.{SegId}
use Rattle.qccd_machine.specs.Machine.{site}
use Rattle.router.proofs.Following.{all_along, at_start, far_known, numbers_more, one_further, rest_of, rest_some}
use Rattle.router.proofs.paths.path_along.Goals as goal

pub loop-left-init : goal.loop-left-init
loop-left-init c = record {
  whole = at_start c.args.wiring.now c.args.to.0 c.args.count c.args.start c.args.steps.now c.requires.there c.requires.least c.requires.count
      ∙ ap (λ (xs : List SegId). option_map (λ rest. map (λ g. g.0) xs ++ rest) (rest_of c.args.wiring.now c.args.to.0 c.args.count (site c.args.start))) (sym c.in_ok-path.ensures.items);
  known = λ some. c.requires.count;
  there = c.requires.there;
}

pub loop-left-preserved : goal.loop-left-preserved
loop-left-preserved c = record {
  whole = one_further c.args.wiring.now c.args.to.0 c.args.count (c.loop-left.left - 1) c.first_on-far.result.0.0 (site c.args.start) (site c.loop-left.place) c.first_on-far.result.1 (map (λ g. g.0) c.loop-left.path.items) (map (λ g. g.0) c.push.new.self.items) c.args.steps.now
      c.first_on-far.ensures c.requires.least (ap (map (λ g. g.0)) c.in_ok-push.ensures.items ∙ numbers_more c.loop-left.path.items c.first_on-far.result.0)
      (c.loop-left.invariant.whole ∙ ap (option_map (λ rest. map (λ g. g.0) c.loop-left.path.items ++ rest)) (rest_some c.args.wiring.now c.args.to.0 c.loop-left.left (site c.loop-left.place) c.loop-left-test.true));
  known = λ some. far_known c.args.to.0 (c.loop-left.left - 1) c.first_on-far.result.1 c.args.steps.now c.first_on-far.ensures.leads some;
  there = c.first_on-far.ensures.there;
}

pub returns : goal.returns
returns c = all_along c.args.wiring.now c.args.to.0 c.args.count c.loop-left.left (site c.args.start) (site c.loop-left.place) (map (λ g. g.0) c.loop-left.path.items) c.loop-left-test.false c.loop-left.invariant.whole
