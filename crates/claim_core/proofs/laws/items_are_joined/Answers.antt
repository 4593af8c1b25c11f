use Rattle.qccd_program.specs.Program.{opening_of}
use Rattle.claim_core.proofs.Legally.{start-safe}
use Rattle.claim_core.proofs.Ordered.{shared-chain}
use Rattle.claim_core.proofs.laws.items_are_joined.Goals as goal

pub returns : goal.returns
returns c p a b legal two = shared-chain p.machine (opening_of p) p.ops a b (record { safe = start-safe p legal; each = legal.ops; run = legal.run }) legal.bits legal.items_fit two
