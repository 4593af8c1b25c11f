use Rattle.std.proofs.Common.{◌≡◌, take}
use Rattle.op_plan.proofs.opening.copied.Given as goal

abbrev pub invariant-loop-chain : goal.invariant-loop-chain
invariant-loop-chain l = l.copies.items ≡ take l.chain-index l.fn.chains
