use Rattle.std.proofs.Common.{◌≡◌, sym, ◌∙◌, ap, None}
use Rattle.std.specs.Result.{result_err}
use Rattle.op_table.specs.Step.{why}
use Rattle.op_plan.specs.Cold.{cold}
use Rattle.op_plan.proofs.Cold.{safe_cold}
use Rattle.op_plan.proofs.Shown.{why_cold, may_run, shows_next}
use Rattle.loader.proofs.Stepping.{told_illegal, told_none, told_wrong}
use Rattle.loader.proofs.operations.step.Goals as goal

pub legal-requires : goal.legal-requires
legal-requires c =
    let r = c.requires in
    record { state = cold r.0; safe = safe_cold c.args.machine.now r.0 r.1; shows = r.2 }

pub returns-in-Err-clause-told : goal.returns-in-Err-clause-told
returns-in-Err-clause-told c = λ s earlier safe shows done.
    told_illegal c.args.machine.now c.args.mode s earlier c.args.number c.args.op.now c.in-Err.why (sym (c.in_ok-is_again.ensures.again earlier done) ∙ c.if-branch.false)
    (sym (why_cold c.args.machine.now s c.args.op.now safe c.kind-kind.ensures.is_op) ∙ sym (c.legal.ensures (cold s) (safe_cold c.args.machine.now s safe) shows) ∙ ap result_err c.in-Err.is)

pub returns-then-not-is_of_mode-clause-told : goal.returns-then-not-is_of_mode-clause-told
returns-then-not-is_of_mode-clause-told c = λ s earlier safe shows done.
    told_wrong c.args.machine.now c.args.mode s earlier c.args.number c.args.op.now (sym (c.in_ok-is_again.ensures.again earlier done) ∙ c.if-branch.false)
    (sym (why_cold c.args.machine.now s c.args.op.now safe c.kind-kind.ensures.is_op) ∙ sym (c.legal.ensures (cold s) (safe_cold c.args.machine.now s safe) shows) ∙ ap result_err c.in_default.is)
    (sym c.if-not-is_of_mode.ensures)

pub run_cold-requires : goal.run_cold-requires
run_cold-requires c =
    let r = c.requires in
    may_run c.args.machine.now r.0 c.args.op.now c.args.cells.now r.1 c.kind-kind.ensures.is_op
    (sym (why_cold c.args.machine.now r.0 c.args.op.now r.1 c.kind-kind.ensures.is_op) ∙ sym (c.legal.ensures (cold r.0) (safe_cold c.args.machine.now r.0 r.1) r.2) ∙ ap result_err c.in_default.is) r.2

pub returns-clause-told : goal.returns-clause-told
returns-clause-told c = λ s earlier safe shows done.
    told_none c.args.machine.now c.args.mode s earlier c.args.number c.args.op.now (sym (c.in_ok-is_again.ensures.again earlier done) ∙ c.if-branch.false)
    (sym (why_cold c.args.machine.now s c.args.op.now safe c.kind-kind.ensures.is_op) ∙ sym (c.legal.ensures (cold s) (safe_cold c.args.machine.now s safe) shows) ∙ ap result_err c.in_default.is)
    (sym c.if-not-is_of_mode.ensures)

pub returns-clause-next : goal.returns-clause-next
returns-clause-next c = λ s earlier safe shows done.
    let legal : why c.args.machine.now s c.args.op.now ≡ None =
    sym (why_cold c.args.machine.now s c.args.op.now safe c.kind-kind.ensures.is_op) ∙ sym (c.legal.ensures (cold s) (safe_cold c.args.machine.now s safe) shows) ∙ ap result_err c.in_default.is in (
      shows_next c.args.machine.now s c.args.op.now c.args.cells.now c.run_cold.new.cells safe c.kind-kind.ensures.is_op legal shows c.run_cold.ensures,
      c.in_ok-is_again.ensures.done earlier done,
    )
