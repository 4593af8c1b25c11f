use Rattle.std.proofs.Common.{◌≡◌, ◌++◌, List, length}
use Rattle.claim_board.specs.declared.pass.Pass.{Pass}
use Rattle.claim_board.specs.Deck.{HasJoined}
use Rattle.claim_board.proofs.closing.join_all.Given as goal

abbrev pub invariant-loop-pass : goal.invariant-loop-pass
invariant-loop-pass l = record {
  table : l.place.table_id ≡ l.top.table_id;
  joined : (qs : List Pass) × (l.fn.passes.items ≡ l.passes.items ++ qs) × HasJoined l.top.key.program.value l.place.me.0 qs;
}

abbrev pub decreases-loop-pass : goal.decreases-loop-pass
decreases-loop-pass l = length l.passes.items
