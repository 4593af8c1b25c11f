use Rattle.std.proofs.Common.{◌≡◌, sym, ◌∙◌, ap, subst, List, Option, None, map, option_map, slice_get}
use Rattle.std.specs.List.{AllByRecursion}
use Rattle.qccd_base.specs.declared.names.Qubit.{Qubit}
use Rattle.qccd_base.specs.declared.names.TrapId.{TrapId}
use Rattle.op_table.specs.declared.contents.Entry.{Entry}
use Rattle.op_table.specs.declared.kinds.OpKind.{OpKind}
use Rattle.op_table.specs.declared.kinds.OpKind.TheVariants.{Split}
use Rattle.op_table.specs.Act.{chain_in, end_index}
use Rattle.op_table.specs.Contents.{content}
use Rattle.op_table.specs.Touch.{touches}
use Rattle.op_cells.specs.Numbering.{IsThere}
use Rattle.op_plan.specs.Kept.{mover}
use Rattle.op_plan.proofs.moving.mover.Goals as goal

pub returns-in-Split : goal.returns-in-Split
returns-in-Split c m s shows there =
    let is : c.args.op.now ≡ Split c.in-Split.trap c.in-Split.end c.in-Split.seg = sym c.kind.ensures.value ∙ c.in-Split.is in
    let chain : c.chain_in.result.now ≡ chain_in c.held.result.now = c.chain_in.ensures in
    let at = (subst (λ (op : OpKind). AllByRecursion (IsThere m s.bits) (touches op)) is there).0 in
    c.leaving.ensures
    ∙ ap (λ (xs : List Entry). option_map {T = Entry} {U = Qubit × Option TrapId} (λ x. (x.qubit, None)) (slice_get xs (end_index c.in-Split.end xs))) (chain ∙ ap chain_in (c.held.ensures m s shows at))
    ∙ sym (ap (λ (op : OpKind). mover op (map (content s) (touches op))) is)
