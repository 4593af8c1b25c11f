-- A chain that takes another ion has fewer than 32.
use Rattle.std.proofs.Common.{◌≡◌, ℕ, ◌<◌, ◌≤◌, Bool, true, nat_lt, List, length, get_or, arith, ap, sym, ◌∙◌, ◌&&◌}
use Rattle.std.proofs.lemmas.Bool.{and_parts, ltb-true}
use Rattle.qccd_base.specs.declared.names.SegId.{SegId}
use Rattle.qccd_base.specs.declared.names.TrapId.{TrapId}
use Rattle.qccd_base.specs.declared.names.End.{End}
use Rattle.qccd_machine.specs.Machine.{MachineData, IsValid}
use Rattle.op_table.specs.declared.kinds.OpKind.{OpKind}
use Rattle.op_table.specs.declared.kinds.OpKind.TheVariants.{Merge}
use Rattle.op_table.specs.declared.contents.Content.{Content}
use Rattle.op_table.specs.Act.{chain_in, first, needs_on, why_on}
use Rattle.op_table.specs.Step.{has_trap, has_segment}
use Rattle.op_table.proofs.Shared.{all_met}
use Rattle.op_cells.specs.Settled.{IsLegalOn}

pub merge_room : (m : MachineData) (op : OpKind) (cs : List Content) (g : SegId) (t : TrapId) (e : End) → IsValid m → op ≡ Merge g t e → IsLegalOn m op cs → length (chain_in (first cs)) < 32
merge_room m op cs g t e valid is legal =
    let met = all_met (needs_on m legal.0 (Merge g t e) cs) (ap (λ (o : OpKind). why_on m legal.0 o cs) (sym is) ∙ legal.1) in
    within t.0 (length (chain_in (first cs))) (has_segment m g.0) met.0 met.1.1.0
  where
    within : (k n : ℕ) (b : Bool) → (has_trap m k && b) ≡ true → nat_lt n (get_or m.capacities k 0) ≡ true → n < 32
    within k n b there less =
        let at : k < length m.capacities = ltb-true k (length m.capacities) (and_parts (has_trap m k) b there).0 in
        let capacity : (2 ≤ get_or m.capacities k 0) × (get_or m.capacities k 0 ≤ 32) = valid.capacities k 0 at in
        let below : n < get_or m.capacities k 0 = ltb-true n (get_or m.capacities k 0) less in
        omega (arith, capacity.1, below)
