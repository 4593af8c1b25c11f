use Rattle.std.proofs.Common.{List, ap, option_map, subst, sym, ◌∙◌}
use Rattle.gate_defs.specs.declared.expanding.Frame.{Frame}
use Rattle.gate_defs.specs.Frames.{Opens}
use Rattle.gate_defs.specs.Meaning.{Application}
use Rattle.gate_defs.proofs.Opening.{opens_nothing, opens_steps}
use Rattle.gate_defs.proofs.expanding.open.Goals as goal

pub returns-in_ok-add_own-in-None-clause-opens : goal.returns-in_ok-add_own-in-None-clause-opens
returns-in_ok-add_own-in-None-clause-opens c =
    opens_nothing c.requires.are_defs c.args.callee.now c.args.args.items c.args.qubits.items c.args.frames.now.items c.requires.called
    (sym c.entered.ensures ∙ ap (option_map (λ steps. steps.now)) c.in-None.is) c.requires.others

pub returns-in_ok-push-in-Some-clause-opens : goal.returns-in_ok-push-in-Some-clause-opens
returns-in_ok-push-in-Some-clause-opens c =
    let frame : Frame = record { steps = c.in-Some.steps; args = c.args.args; qubits = c.args.qubits } in
    let app : Application = record { callee = c.args.callee.now; args = c.args.args.items; qubits = c.args.qubits.items } in
    subst (λ (fs : List Frame). Opens c.args.defs.now app c.args.frames.now.items fs) (sym c.in_ok-push-in-Some.ensures.items)
    (opens_steps c.requires.are_defs c.args.callee.now frame c.args.frames.now.items c.requires.called
    (sym c.entered.ensures ∙ ap (option_map (λ steps. steps.now)) c.in-Some.is) c.requires.are_args c.requires.distinct c.requires.others)
