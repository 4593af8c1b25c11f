-- What an application leaves to do.
use Rattle.std.proofs.Common.{◌≡◌, ℕ, List, [], ◌∷◌, ◌++◌, ◌<◌, length, sym, ap, ap₂, subst, ◌∙◌, arith, length-append, None, Some, All}
use Rattle.std.specs.Prelude.{IsTrue}
use Rattle.std.specs.List.{AllByRecursion}
use Rattle.std.proofs.lemmas.List.Elements.{All-cons, All-nil}
use Rattle.qccd_base.specs.declared.names.Qubit.{Qubit}
use Rattle.qccd_circuit.specs.Item.{are_distinct}
use Rattle.gate_defs.specs.declared.expanding.Frame.{Frame}
use Rattle.gate_defs.specs.declared.kinds.Arg.{Arg}
use Rattle.gate_defs.specs.declared.kinds.BodyStep.{BodyStep}
use Rattle.gate_defs.specs.declared.kinds.Callee.{Callee}
use Rattle.gate_defs.specs.declared.kinds.Def.{Def}
use Rattle.gate_defs.specs.Frames.{IsOpen, Opens, entered, left}
use Rattle.gate_defs.specs.Meaning.{Application, applications, applied_all, def_at, meanings, steps_at}
use Rattle.gate_defs.specs.Rule.{AreArgs, AreDefs, CanApply, IsCalled, IsStep}
use Rattle.gate_defs.proofs.Stepping.{one_more_open, pushed}
use Rattle.gate_defs.proofs.Unfolds.{nothing_inside, steps_inside, steps_open, steps_rule, unfolded}

-- one that opens no definition
pub opens_nothing :
    {defs : List Def} → AreDefs defs → (c : Callee) (args : List Arg) (qubits : List Qubit) (fs : List Frame) → IsCalled defs c (length args) (length qubits)
    → entered defs c ≡ None → All (IsOpen defs) fs → Opens defs (record { callee = c; args = args; qubits = qubits }) fs fs
opens_nothing {defs = defs} are c args qubits fs called opens all =
    record {
      inside_first = sym (ap (λ (l : List Application). l ++ left defs fs) (nothing_inside are c (length args) (length qubits) args qubits called opens));
      one_more = omega arith;
      all_open = all;
    }

-- and one that opens one
pub opens_steps :
    {defs : List Def} → AreDefs defs → (c : Callee) (f : Frame) (fs : List Frame) → IsCalled defs c (length f.args.items) (length f.qubits.items)
    → entered defs c ≡ Some f.steps.now → AreArgs f.args.items → IsTrue (are_distinct f.qubits.items) → All (IsOpen defs) fs
    → Opens defs (record { callee = c; args = f.args.items; qubits = f.qubits.items }) fs (fs ++ f ∷ [])
opens_steps {defs = defs} are c f fs called opens are_args distinct all =
    let args = f.args.items in
    let qubits = f.qubits.items in
    record {
      inside_first =
          pushed defs fs f
          ∙ ap (λ (l : List Application). l ++ left defs fs) (sym (steps_inside are c (length args) (length qubits) args qubits f.steps.now called opens));
      one_more = omega (arith, length-append fs (f ∷ []));
      all_open =
          one_more_open defs fs f all
          (record { steps = steps_open are c (length args) (length qubits) f.steps.now called opens; are_args = are_args; distinct = distinct });
    }

-- ---- at the start

pub first_is : (fs new : List Frame) (f : Frame) → new ≡ fs ++ f ∷ [] → fs ≡ [] → new ≡ f ∷ []
first_is fs new f new_is is = new_is ∙ ap (λ (l : List Frame). l ++ f ∷ []) is

pub first_left :
    {defs : List Def} → AreDefs defs → (id : ℕ) (args : List Arg) (qubits : List Qubit) (fs : List Frame) (f : Frame) → id < length defs → fs ≡ f ∷ []
    → f.steps.now ≡ steps_at defs id → f.args.items ≡ args → f.qubits.items ≡ qubits → left defs fs ≡ applications defs id args qubits
first_left {defs = defs} are id args qubits fs f there is steps_are args_are qubits_are =
    ap (left defs) is
    ∙ ap (λ (steps : List BodyStep). applied_all (meanings defs) f.args.items f.qubits.items steps) steps_are
    ∙ ap₂ (λ (x : List Arg) (y : List Qubit). applied_all (meanings defs) x y (steps_at defs id)) args_are qubits_are
    ∙ sym (unfolded are id args qubits there)

pub first_open :
    {defs : List Def} → AreDefs defs → (id : ℕ) (args : List Arg) (qubits : List Qubit) (fs : List Frame) (f : Frame) → CanApply defs id args qubits
    → fs ≡ f ∷ [] → f.steps.now ≡ steps_at defs id → f.args.items ≡ args → f.qubits.items ≡ qubits → All (IsOpen defs) fs
first_open {defs = defs} are id args qubits fs f can is steps_are args_are qubits_are =
    let params : (def_at defs id).params ≡ length f.args.items = sym (ap length args_are ∙ can.args_fit) in
    let formals : (def_at defs id).qubits ≡ length f.qubits.items = sym (ap length qubits_are ∙ can.qubits_fit) in
    let rule : AllByRecursion (IsStep defs (def_at defs id).params (def_at defs id).qubits) f.steps.now =
    subst (AllByRecursion (IsStep defs (def_at defs id).params (def_at defs id).qubits)) (sym steps_are) (steps_rule are id can.there) in
    let first : IsOpen defs f = record {
      steps =
          subst (λ (n : ℕ). AllByRecursion (IsStep defs n (length f.qubits.items)) f.steps.now) params
          (subst (λ (n : ℕ). AllByRecursion (IsStep defs (def_at defs id).params n) f.steps.now) formals rule);
      are_args = subst AreArgs (sym args_are) can.are_args;
      distinct = subst (λ (qs : List Qubit). IsTrue (are_distinct qs)) (sym qubits_are) can.distinct;
    } in
    subst (All (IsOpen defs)) (sym is) (All-cons (IsOpen defs) f [] first (All-nil (IsOpen defs)))
