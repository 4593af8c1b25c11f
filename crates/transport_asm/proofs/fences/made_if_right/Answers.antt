use Rattle.std.proofs.Common.{sym, ap, ◌∙◌}
use Rattle.std.specs.Prelude.{option_map}
use Rattle.op_table.specs.Op.{are_ascending}
use Rattle.op_table.specs.declared.kinds.OpKind.TheVariants.{Fence}
use Rattle.transport_asm.specs.Marks.{fence_made}
use Rattle.op_text.specs.Operations.{barrier_over}
use Rattle.transport_asm.proofs.FenceReading.{fence_right}
use Rattle.transport_asm.proofs.fences.made_if_right.Goals as goal

pub made-requires : goal.made-requires
made-requires c =
    let right = sym (c.are_ascending.ensures ∙ ap are_ascending c.as_slice.ensures.value) ∙ c.if-are_ascending.true in
    c.requires (Fence c.args.number (barrier_over c.in-Some.qubits.items) c.args.traps.items)
    (ap (λ o. fence_made c.args.number c.args.traps.items (option_map (λ v. v.items) o)) c.in-Some.is ∙ fence_right c.args.number c.args.traps.items c.in-Some.qubits.items right)
