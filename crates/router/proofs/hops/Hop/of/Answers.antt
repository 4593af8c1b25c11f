use Rattle.std.proofs.Common.{◌∙◌, ap, arith}
use Rattle.router.proofs.Hopping.{hop_on, hop_own}
use Rattle.router.proofs.hops.Hop.of.Goals as goal
use Rattle.router.proofs.hops.Hop.of.Goals.{then-count-eq0, else-count-eq0}

pub returns : goal.returns
returns c = elim c.if-count-eq0.branch [
  | then-count-eq0 w ↦ ap (λ o. record { distance = c.from.result; next = o }) w.next-is
      ∙ hop_own c.args.wiring.now c.args.from.0 c.args.to.0 c.count-count.result c.from.result c.args.counts.now c.traps-traps.ensures.wiring c.requires.counts c.requires.from c.requires.to c.count-count.ensures c.from.ensures w.if-count-eq0.true
  | else-count-eq0 w ↦ ap (λ o. record { distance = c.from.result; next = o }) (w.next-is ∙ w.near-next.ensures)
      ∙ hop_on c.args.wiring.now c.args.from.0 c.args.to.0 c.count-count.result c.from.result c.args.counts.now c.traps-traps.ensures.wiring c.requires.counts c.requires.from c.requires.to c.count-count.ensures c.from.ensures (omega (arith, w.if-count-eq0.false))
]
