use Rattle.std.proofs.Common.{◌≡◌, ◌-◌}
use Rattle.transport_asm.specs.LineCursor.{unread, IsNumbered}
use Rattle.transport_asm.specs.Lines.{numbered}
use Rattle.transport_asm.specs.Texts.{chain_line}
use Rattle.transport_asm.proofs.Loop.{with_front}
use Rattle.transport_asm.proofs.chains.chains_at.Given as goal

abbrev pub invariant-loop-k : goal.invariant-loop-k
invariant-loop-k l = record {
  so_far : with_front l.chains.items (numbered chain_line (l.count - l.k) l.k (unread l.left)) ≡ numbered chain_line l.count 0 (unread l.fn.lines);
  is_numbered : IsNumbered l.left;
}
