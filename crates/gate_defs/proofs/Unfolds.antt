-- What a definition is, is told by its own steps.
use Rattle.std.proofs.Common.{◌≡◌, ℕ, ◌<◌, ◌≤◌, inl, inr, List, [], ◌∷◌, ◌++◌, length, take, get_or, refl, sym, ◌∙◌, ap, ap₂, subst, arith, length-append, Option, None, Some}
use Rattle.std.specs.List.{AllByRecursion}
use Rattle.std.proofs.lemmas.Bool.{cases_lt}
use Rattle.std.proofs.lemmas.List.{take_at, take-append-le, get_or_append_left, get_or_push, get_or-take, length-take-le}
use Rattle.qccd_base.specs.declared.names.Qubit.{Qubit}
use Rattle.gate_defs.specs.declared.kinds.Arg.{Arg}
use Rattle.gate_defs.specs.declared.kinds.BodyStep.{BodyStep}
use Rattle.gate_defs.specs.declared.kinds.Callee.{Callee}
use Rattle.gate_defs.specs.declared.kinds.Callee.TheVariants.{Plain, Ccx, Cswap, Defined, Barrier}
use Rattle.gate_defs.specs.declared.kinds.Def.{Def}
use Rattle.gate_defs.specs.Meaning.{Application, Meaning, applications, applied, applied_all, def_at, empty, inside, meaning_over, meanings, steps_at, steps_in, unnamed}
use Rattle.gate_defs.specs.Rule.{AreDefs, none, next, IsBody, IsCalled, IsNext, IsStep, MayApply}
use Rattle.gate_defs.specs.Frames.{entered}
use Rattle.gate_defs.proofs.EachFrom.{turn}

-- each definition keeps the rule over those before it
pub rule_at : {defs : List Def} → AreDefs defs → (id : ℕ) → id < length defs → IsNext (take id defs) (def_at defs id)
rule_at none id below = absurd (omega (arith, below))
rule_at (next {defs = defs} d are rule) id below = elim (cases_lt id (length defs)) [
  | inl less ↦
      subst (λ (front : List Def). IsNext front (get_or (defs ++ d ∷ []) id unnamed)) (sym (take-append-le id defs (d ∷ []) (omega (arith, less))))
      (subst (λ (x : Def). IsNext (take id defs) x) (sym (get_or_append_left defs (d ∷ []) unnamed id less)) (rule_at are id less))
  | inr more ↦
      let same : length defs ≡ id = omega (arith, more, below, length-append defs (d ∷ [])) in
      subst (λ (front : List Def). IsNext front (get_or (defs ++ d ∷ []) id unnamed)) (sym (take_at defs (d ∷ []) id same))
      (subst (λ (x : Def). IsNext defs x) (sym (get_or_push defs d unnamed id same)) rule)
]

-- ---- a callee of a definition is one of those before it

-- and it means there what it means in the end
inside_front :
    (ms : List Meaning) (n : ℕ) (front : List Def) (c : Callee) (a q : ℕ) (args : List Arg) (qubits : List Qubit) → length front ≤ n → IsCalled front c a q
    → inside (take n ms) (record { callee = c; args = args; qubits = qubits }) ≡ inside ms (record { callee = c; args = args; qubits = qubits })
inside_front ms n front (Plain name) a q args qubits few is = refl
inside_front ms n front Ccx a q args qubits few is = refl
inside_front ms n front Cswap a q args qubits few is = refl
inside_front ms n front (Defined id) a q args qubits few is = ap (λ (m : Meaning). m args qubits) (get_or-take n ms id empty (omega (arith, few, is.0)))
inside_front ms n front Barrier a q args qubits few is = refl

steps_front :
    (ms : List Meaning) (n : ℕ) (front : List Def) (p q : ℕ) (args : List Arg) (qubits : List Qubit) (steps : List BodyStep) → length front ≤ n
    → AllByRecursion (IsStep front p q) steps → applied_all (take n ms) args qubits steps ≡ applied_all ms args qubits steps
steps_front ms n front p q args qubits [] few all = refl
steps_front ms n front p q args qubits (s ∷ steps) few all =
    let a = applied args qubits s in
    ap₂ (λ (here more : List Application). a ∷ (here ++ more)) (inside_front ms n front s.callee _ _ a.args a.qubits few all.0.called)
    (steps_front ms n front p q args qubits steps few all.1)

pub all_steps : (front : List Def) (d : Def) (body : Option (List BodyStep)) → IsBody front d body → AllByRecursion (IsStep front d.params d.qubits) (steps_in body)
all_steps front d None is = tt
all_steps front d (Some steps) is = is

pub unfolded : {defs : List Def} → AreDefs defs → (id : ℕ) (args : List Arg) (qubits : List Qubit) → id < length defs
    → applications defs id args qubits ≡ applied_all (meanings defs) args qubits (steps_at defs id)
unfolded {defs = defs} are id args qubits below =
    let d = def_at defs id in
    turn_at d (turn meaning_over defs id empty unnamed below)
  where
    turn_at : (d : Def) → get_or (meanings defs) id empty ≡ meaning_over (take id (meanings defs)) (def_at defs id) → applications defs id args qubits ≡ applied_all (meanings defs) args qubits (steps_at defs id)
    turn_at d is =
        ap (λ (m : Meaning). m args qubits) is
        ∙ steps_front (meanings defs) id (take id defs) (def_at defs id).params (def_at defs id).qubits args qubits (steps_at defs id)
        (omega (arith, length-take-le id defs (omega (arith, below)))) (all_steps (take id defs) (def_at defs id) (def_at defs id).body (rule_at are id below).body)

-- ---- and the rule of its steps holds over all definitions

pub called_more : (defs : List Def) (n : ℕ) (c : Callee) (a q : ℕ) → n ≤ length defs → IsCalled (take n defs) c a q → IsCalled defs c a q
called_more defs n (Plain name) a q few is = is
called_more defs n Ccx a q few is = is
called_more defs n Cswap a q few is = is
called_more defs n (Defined id) a q few is =
    let below : id < n = omega (arith, is.0, length-take-le n defs few) in
    let same : def_at (take n defs) id ≡ def_at defs id = get_or-take n defs id unnamed below in (
      omega (arith, below, few),
      is.1 ∙ ap (λ (d : Def). d.params) same,
      is.2 ∙ ap (λ (d : Def). d.qubits) same,
      subst (λ (d : Def). MayApply d.body d.qubits) same is.3,
    )
called_more defs n Barrier a q few is = is

steps_more :
    (defs : List Def) (n p q : ℕ) (steps : List BodyStep) → n ≤ length defs → AllByRecursion (IsStep (take n defs) p q) steps → AllByRecursion (IsStep defs p q) steps
steps_more defs n p q [] few all = tt
steps_more defs n p q (s ∷ steps) few all = (
  record { called = called_more defs n s.callee (length s.angles) (length s.wires) few all.0.called; angles = all.0.angles; distinct = all.0.distinct; wires = all.0.wires },
  steps_more defs n p q steps few all.1,
)

pub steps_rule : {defs : List Def} → AreDefs defs → (id : ℕ) → id < length defs → AllByRecursion (IsStep defs (def_at defs id).params (def_at defs id).qubits) (steps_at defs id)
steps_rule {defs = defs} are id below =
    let d = def_at defs id in
    steps_more defs id d.params d.qubits (steps_at defs id) (omega (arith, below)) (all_steps (take id defs) d d.body (rule_at are id below).body)

-- ---- what is inside an application

-- nothing, where it opens no definition
pub nothing_inside :
    {defs : List Def} → AreDefs defs → (c : Callee) (a q : ℕ) (args : List Arg) (qubits : List Qubit) → IsCalled defs c a q → entered defs c ≡ None
    → inside (meanings defs) (record { callee = c; args = args; qubits = qubits }) ≡ []
nothing_inside are (Plain name) a q args qubits is opens = refl
nothing_inside are Ccx a q args qubits is opens = refl
nothing_inside are Cswap a q args qubits is opens = refl
nothing_inside {defs = defs} are (Defined id) a q args qubits is opens =
    unfolded are id args qubits is.0 ∙ ap (λ (body : Option (List BodyStep)). applied_all (meanings defs) args qubits (steps_in body)) opens
nothing_inside are Barrier a q args qubits is opens = refl

-- and else the steps of the definition
pub steps_inside :
    {defs : List Def} → AreDefs defs → (c : Callee) (a q : ℕ) (args : List Arg) (qubits : List Qubit) (steps : List BodyStep) → IsCalled defs c a q
    → entered defs c ≡ Some steps → inside (meanings defs) (record { callee = c; args = args; qubits = qubits }) ≡ applied_all (meanings defs) args qubits steps
steps_inside are (Plain name) a q args qubits steps is opens = cc
steps_inside are Ccx a q args qubits steps is opens = cc
steps_inside are Cswap a q args qubits steps is opens = cc
steps_inside {defs = defs} are (Defined id) a q args qubits steps is opens =
    unfolded are id args qubits is.0 ∙ ap (λ (body : Option (List BodyStep)). applied_all (meanings defs) args qubits (steps_in body)) opens
steps_inside are Barrier a q args qubits steps is opens = cc

-- these can be applied
pub steps_open :
    {defs : List Def} → AreDefs defs → (c : Callee) (a q : ℕ) (steps : List BodyStep) → IsCalled defs c a q → entered defs c ≡ Some steps
    → AllByRecursion (IsStep defs a q) steps
steps_open are (Plain name) a q steps is opens = absurd (cc)
steps_open are Ccx a q steps is opens = absurd (cc)
steps_open are Cswap a q steps is opens = absurd (cc)
steps_open {defs = defs} are (Defined id) a q steps is opens =
    subst (λ (n : ℕ). AllByRecursion (IsStep defs n q) steps) (sym is.1)
    (subst (λ (n : ℕ). AllByRecursion (IsStep defs (def_at defs id).params n) steps) (sym is.2)
    (subst (λ (body : Option (List BodyStep)). AllByRecursion (IsStep defs (def_at defs id).params (def_at defs id).qubits) (steps_in body)) opens (steps_rule are id is.0)))
steps_open are Barrier a q steps is opens = absurd (cc)
