use Rattle.rows_deck.proofs.Readied.{ready-answer}
use Rattle.rows_deck.proofs.passes.dealt.Goals as goal

pub returns : goal.returns
returns c = ready-answer c.args.program.now _ c.deal.result c.deal.ensures.deck c.deal.ensures.passes
