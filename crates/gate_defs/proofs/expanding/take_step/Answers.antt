-- A step is taken, or a definition without further steps is closed.
use Rattle.std.proofs.Common.{◌≡◌, ℕ, ◌<◌, List, [], ◌∷◌, ◌++◌, length, ap, ap₂, arith, drop, get_or, map, refl, subst, sym, ◌∙◌}
use Rattle.std.specs.List.{list_any}
use Rattle.std.specs.Prelude.{IsTrue}
use Rattle.qccd_base.specs.Names.{qubit}
use Rattle.qccd_base.specs.declared.names.Qubit.{Qubit}
use Rattle.qccd_circuit.specs.Item.{are_distinct}
use Rattle.gate_defs.specs.declared.kinds.Arg.{Arg}
use Rattle.gate_defs.specs.declared.kinds.BodyStep.{BodyStep}
use Rattle.gate_defs.specs.declared.kinds.Piece.{Piece}
use Rattle.gate_defs.specs.Angles.{angle_under, is_long}
use Rattle.gate_defs.specs.Frames.{Opens}
use Rattle.gate_defs.specs.Meaning.{Application, own_items}
use Rattle.gate_defs.specs.Outcome.{Tells}
use Rattle.gate_defs.specs.Rule.{AreArgs, IsStep}
use Rattle.gate_defs.proofs.ArgTexts.{angles_are}
use Rattle.gate_defs.proofs.Stepping.{application_is, closed, first_and_cut, first_and_rest, first_of, rest_open, taken, tells_long}
use Rattle.gate_defs.proofs.Telling.{refused}
use Rattle.gate_defs.proofs.Wires.{wired}
use Rattle.gate_defs.proofs.expanding.take_step.Goals as goal

pub returns-in_err-inner_args : goal.returns-in_err-inner_args
returns-in_err-inner_args c =
    let defs = c.args.defs.now in
    let f = c.args.frame in
    let s = c.step-item.result in
    let e = c.in_err-inner_args.field-0.0 in
    let told : Tells (list_any is_long (map (angle_under f.args.items) s.angles)) e =
    subst (λ (args : List Arg). Tells (list_any is_long (map (angle_under args) s.angles)) e) c.deref.ensures.value
    (subst (λ (angles : List (List Piece)). Tells (list_any is_long (map (angle_under c.deref.result.now) angles)) e) c.as_slice.ensures
    c.in_err-inner_args.ensures.long) in
    refused defs c.args.cond _ c.args.frames.now.items c.args.items.now.items c.args.items.now.items c.from_residual.result e
    (tells_long defs c.args.frames.now.items f s (drop 1 f.steps.now) e (first_and_rest f.steps.now s c.step-item.is c.in-len1-up.len_at_least) told)
    c.from_residual.ensures.1

pub open-requires-clause-are_args : goal.open-requires-clause-are_args
open-requires-clause-are_args c =
    let f = c.args.frame in
    let s = c.step-item.result in
    let args_are : c.in_ok-inner_args.inner_args.items ≡ map (angle_under f.args.items) s.angles =
    c.in_ok-inner_args.ensures.value
    ∙ ap₂ (λ (args : List Arg) (angles : List (List Piece)). map (angle_under args) angles) c.deref.ensures.value c.as_slice.ensures in
    let rule = first_of (IsStep c.args.defs.now _ _) f.steps.now s c.step-item.is c.in-len1-up.len_at_least c.requires.frame.steps in
    subst AreArgs (sym args_are)
    (angles_are f.args.items s.angles c.requires.frame.are_args rule.angles (ap (list_any is_long) (sym args_are) ∙ c.in_ok-inner_args.ensures.short))

pub open-requires-clause-distinct : goal.open-requires-clause-distinct
open-requires-clause-distinct c =
    let f = c.args.frame in
    let s = c.step-item.result in
    let rule = first_of (IsStep c.args.defs.now _ _) f.steps.now s c.step-item.is c.in-len1-up.len_at_least c.requires.frame.steps in
    let qubits_are : c.in_ok-inner_qubits.inner_qubits.items ≡ map (λ w. get_or f.qubits.items w (qubit 0)) s.wires =
    c.in_ok-inner_qubits.ensures
    ∙ ap₂ (λ (xs : List Qubit) (ws : List ℕ). map (λ w. get_or xs w (qubit 0)) ws) c.deref-in-len1-up.ensures.value c.as_slice-in-len1-up.ensures in
    subst (λ (qs : List Qubit). IsTrue (are_distinct qs)) (sym qubits_are) (wired f.qubits.items s.wires c.requires.frame.distinct rule.distinct rule.wires)

pub open-requires-clause-others : goal.open-requires-clause-others
open-requires-clause-others c =
    let f = c.args.frame in
    let s = c.step-item.result in
    rest_open c.args.defs.now c.args.frames.now.items f s _ c.in_ok-push.ensures.items (first_and_cut f.steps.now s c.step-item.is c.in-len1-up.len_at_least)
    refl refl c.requires.others c.requires.frame

none : (steps : List BodyStep) → length steps < 1 → steps ≡ []
none [] few = refl
none (s ∷ steps) few = absurd (omega (arith, few))

pub returns-in_default : goal.returns-in_default
returns-in_default c =
    closed c.args.defs.now c.args.cond c.args.items.now.items c.args.frames.now.items c.args.frame (none c.args.frame.steps.now c.in_default.len_below) c.requires.others

pub returns-in_ok-open : goal.returns-in_ok-open
returns-in_ok-open c =
    let defs = c.args.defs.now in
    let f = c.args.frame in
    let s = c.step-item.result in
    let args = c.in_ok-inner_args.inner_args.items in
    let qubits = c.in_ok-inner_qubits.inner_qubits.items in
    let args_are : args ≡ map (angle_under f.args.items) s.angles =
    c.in_ok-inner_args.ensures.value
    ∙ ap₂ (λ (xs : List Arg) (angles : List (List Piece)). map (angle_under xs) angles) c.deref.ensures.value c.as_slice.ensures in
    let qubits_are : qubits ≡ map (λ w. get_or f.qubits.items w (qubit 0)) s.wires =
    c.in_ok-inner_qubits.ensures
    ∙ ap₂ (λ (xs : List Qubit) (ws : List ℕ). map (λ w. get_or xs w (qubit 0)) ws) c.deref-in-len1-up.ensures.value c.as_slice-in-len1-up.ensures in
    let app = application_is f s args qubits args_are qubits_are in
    taken defs c.args.cond c.args.items.now.items c.open.new.items.items c.args.frames.now.items c.open.new.frames.items f s _ c.in_ok-push.ensures.items
    (first_and_cut f.steps.now s c.step-item.is c.in-len1-up.len_at_least) refl refl
    (subst (λ (a : Application). Opens defs a c.push.new.self.items c.open.new.frames.items) app c.in_ok-open.ensures.opens)
    (subst (λ (a : Application). c.open.new.items.items ≡ c.args.items.now.items ++ own_items defs c.args.cond a) app c.in_ok-open.ensures.items)
    (ap (list_any is_long) (sym args_are) ∙ c.in_ok-inner_args.ensures.short)
