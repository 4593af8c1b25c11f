use Rattle.std.proofs.Common.{◌∙◌, sym}
use Rattle.op_cells.proofs.Legalities.{fence-read, item-read}
use Rattle.op_cells.proofs.legality.cause_there.Goals as goal

pub returns-in-Item : goal.returns-in-Item
returns-in-Item c =
    item-read c.args.machine.now c.args.op.now c.args.cells.now c.in-Item.number c.in-Item.trap c.in-Item.item c.in-Item.at c.chain_at-chain.result.now c.as_slice.result.now c.as_slice-in-Item.result.now c.item_cause.result
    (sym c.kind.ensures.value ∙ c.in-Item.is) c.chain_at-chain.ensures c.as_slice.ensures (c.as_slice-in-Item.ensures ∙ c.qubits.ensures) c.item_cause.ensures

pub returns-in-Fence : goal.returns-in-Fence
returns-in-Fence c =
    fence-read c.args.machine.now c.args.op.now c.args.cells.now c.in-Fence.number c.in-Fence.item c.in-Fence.traps c.touches.result.now c.as_slice-in-Fence.result.now c.fence_cause.result
    (sym c.kind.ensures.value ∙ c.in-Fence.is) c.touches.ensures (c.as_slice-in-Fence.ensures ∙ c.qubits-in-Fence.ensures) c.fence_cause.ensures
