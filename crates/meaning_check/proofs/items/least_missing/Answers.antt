use Rattle.std.proofs.Common.{◌+◌, sym, ap, subst}
use Rattle.meaning_check.proofs.Going.{AreSeen, seen_none, seen_one, seen_past}
use Rattle.meaning_check.proofs.items.least_missing.Goals as goal
use Rattle.meaning_check.proofs.items.least_missing.Goals.{in-Some+then-at-count, in-Some+else-at-count, in_default}

pub loop-op-preserved : goal.loop-op-preserved
loop-op-preserved c =
    let count = c.args.count in
    let ops = c.args.ops.now in
    let k = c.loop-op.op-index in
    let op = c.op-item.result in
    let seen = c.loop-op.seen.items in
    elim c.match-item_of.branch [
      | in-Some+then-at-count w ↦
          subst (AreSeen count ops (k + 1)) (sym (ap (λ v. v.items) w.seen-is))
          (seen_one count ops k op (w.in-Some.number, w.in-Some.field-0-1.now) seen c.loop-op-test.true c.op-item.is (sym w.in-Some.ensures.value) w.if-at-count.true c.loop-op.invariant)
      | in-Some+else-at-count w ↦
          subst (AreSeen count ops (k + 1)) (sym (ap (λ v. v.items) w.seen-is))
          (seen_past count ops k op (w.in-Some.number, w.in-Some.field-0-1.now) seen c.loop-op-test.true c.op-item.is (sym w.in-Some.ensures.value) w.if-at-count.false c.loop-op.invariant)
      | in_default w ↦
          subst (AreSeen count ops (k + 1)) (sym (ap (λ v. v.items) w.seen-is))
          (seen_none count ops k op seen c.loop-op-test.true c.op-item.is (sym w.in_default.ensures.value) c.loop-op.invariant)
    ]
