use Rattle.std.proofs.Common.{List, ◌+◌, take, subst, rules}
use Rattle.std.proofs.lemmas.List.{take_all}
use Rattle.op_table.specs.declared.kinds.OpKind.{OpKind}
use Rattle.tracer.specs.Counted.{Tallied}
use Rattle.tracer.specs.TimeOrder.{listed_ops, time_order}
use Rattle.tracer.specs.Report.{op_line}
use Rattle.tracer.proofs.Loops.{more_sent, part_sent, all_sent, sent_giving}
use Rattle.tracer.proofs.Tally.{tally_listed, tally_row}
use Rattle.tracer.proofs.Telling.{all_listed, all_told, few_told, next_told, op_within, takes_less, told_row}
use Rattle.tracer.proofs.report.send_ops.Goals as goal

pub loop-done-init : goal.loop-done-init
loop-done-init g c = (0, search rules, search rules, c.requires)

pub op_of-op-requires : goal.op_of-op-requires
op_of-op-requires g c =
    let told = c.loop-done.invariant in
    let next = next_told c.args.program.now told.0 c.loop-done.heads.items c.take_first.new.heads.items c.in-Some.done told.3 c.in-Some.ensures.some in
    op_within c.args.program.now told.0 c.in-Some.done c.ops-ops.result.now next.0 c.ops-ops.ensures.value

pub returns-in_err-send_op-clause-sent : goal.returns-in_err-send_op-clause-sent
returns-in_err-send_op-clause-sent g c =
    let told = c.loop-done.invariant in
    let next = next_told c.args.program.now told.0 c.loop-done.heads.items c.take_first.new.heads.items c.in-Some.done told.3 c.in-Some.ensures.some in
    part_sent op_line (time_order c.args.program.now) told.0 _ _
    (told_row c.args.program.now told.0 c.in-Some.done c.ops-ops.result.now c.op_of-op.result.now next.0 c.ops-ops.ensures.value c.op_of-op.ensures)
    told.1 c.in_err-send_op.ensures c.from_residual.ensures.1

pub count-requires : goal.count-requires
count-requires g c =
    let told = c.loop-done.invariant in
    let next = next_told c.args.program.now told.0 c.loop-done.heads.items c.take_first.new.heads.items c.in-Some.done told.3 c.in-Some.ensures.some in
    record { few = (take told.0 (listed_ops c.args.program.now), told.2, few_told c.args.program.now told.0 c.in-Some.done next.0 c.ops-ops.ensures.legal.few) }

pub loop-done-smaller : goal.loop-done-smaller
loop-done-smaller g c = takes_less c.loop-done.heads.items c.take_first.new.heads.items c.in-Some.done c.in-Some.ensures.some

pub loop-done-preserved : goal.loop-done-preserved
loop-done-preserved g c =
    let told = c.loop-done.invariant in
    let next = next_told c.args.program.now told.0 c.loop-done.heads.items c.take_first.new.heads.items c.in-Some.done told.3 c.in-Some.ensures.some in
    let at = told_row c.args.program.now told.0 c.in-Some.done c.ops-ops.result.now c.op_of-op.result.now next.0 c.ops-ops.ensures.value c.op_of-op.ensures in (
      told.0 + 1,
      more_sent op_line (time_order c.args.program.now) told.0 _ at told.1 c.in_ok-send_op.ensures,
      tally_row c.args.program.now told.0 (c.in-Some.done.op, record { op = c.op_of-op.result.now; start = c.in-Some.done.start; finish = c.in-Some.done.finish }) _ at
          (c.count.ensures (take told.0 (listed_ops c.args.program.now)) told.2),
      next.1,
    )

pub returns-clause-sent : goal.returns-clause-sent
returns-clause-sent g c =
    let told = c.loop-done.invariant in
    sent_giving {t = tt} (all_sent op_line (time_order c.args.program.now) told.0 (all_told c.args.program.now told.0 c.loop-done.heads.items (c.take_first.ensures.none c.in_default.is) told.3) told.1)

pub returns-clause-counted : goal.returns-clause-counted
returns-clause-counted g c =
    let told = c.loop-done.invariant in
    let far = all_listed c.args.program.now told.0 (all_told c.args.program.now told.0 c.loop-done.heads.items (c.take_first.ensures.none c.in_default.is) told.3) in
    tally_listed c.args.program.now _ (subst (λ (ops : List OpKind). Tallied ops c.loop-done.counts) (take_all told.0 (listed_ops c.args.program.now) far) told.2)
