-- What holds of each application's own items holds of all items of an application.
use Rattle.std.proofs.Common.{◌≡◌, ℕ, zero, suc, ◌<◌, ◌≤◌, false, List, [], ◌∷◌, ◌++◌, length, map, take, All, sym, ap, subst, ◌∙◌, arith, Option}
use Rattle.std.specs.List.{AllByRecursion}
use Rattle.std.proofs.lemmas.Bool.{or_parts}
use Rattle.std.proofs.lemmas.Grind.{flat_map-append}
use Rattle.std.proofs.lemmas.List.{length-map, length-take-le}
use Rattle.std.proofs.lemmas.List.Elements.{All-head, All-tail, All-cons, All-nil}
use Rattle.std.proofs.lemmas.List.Folds.{list_any-append}
use Rattle.qccd_base.specs.Names.{qubit}
use Rattle.qccd_base.specs.declared.names.Qubit.{Qubit}
use Rattle.qccd_circuit.specs.declared.kinds.Cond.{Cond}
use Rattle.qccd_circuit.specs.Item.{ItemData}
use Rattle.gate_defs.specs.declared.kinds.Arg.{Arg}
use Rattle.gate_defs.specs.declared.kinds.BodyStep.{BodyStep}
use Rattle.gate_defs.specs.declared.kinds.Callee.{Callee}
use Rattle.gate_defs.specs.declared.kinds.Callee.TheVariants.{Plain, Ccx, Cswap, Defined, Barrier}
use Rattle.gate_defs.specs.declared.kinds.Def.{Def}
use Rattle.gate_defs.specs.Meaning.{Application, any_long, applications, applied, applied_all, def_at, has_long, inside, items_of, meanings, own_items, steps_at, with_inside}
use Rattle.gate_defs.specs.Rule.{AreDefs, IsApplied, IsCalled, IsStep}
use Rattle.gate_defs.proofs.ArgTexts.{angles_are}
use Rattle.gate_defs.proofs.Counting.{app}
use Rattle.gate_defs.proofs.Unfolds.{all_steps, called_more, rule_at, unfolded}
use Rattle.gate_defs.proofs.Wires.{on, wired}

-- qubits on wires are among the qubits
wired_below : (n : ℕ) (qs : List Qubit) (ws : List ℕ) → All (λ (q : Qubit). q.0 < n) qs → All (λ (w : ℕ). w < length qs) ws → All (λ (q : Qubit). q.0 < n) (map (on qs) ws)
wired_below n qs [] below all = All-nil (λ (q : Qubit). q.0 < n)
wired_below n qs (w ∷ ws) below all =
    All-cons (λ (q : Qubit). q.0 < n) (on qs w) (map (on qs) ws) (below w (qubit 0) (All-head (λ (v : ℕ). v < length qs) w ws all))
    (wired_below n qs ws below (All-tail (λ (v : ℕ). v < length qs) w ws all))

-- a step of a body under what the definition is applied to
step_applied :
    (defs : List Def) (n k : ℕ) (args : List Arg) (qubits : List Qubit) (s : BodyStep) → k ≤ length defs → IsApplied defs n (app (Defined k) args qubits)
    → IsStep (take k defs) (length args) (length qubits) s → has_long (applied args qubits s) ≡ false → IsApplied defs n (applied args qubits s)
step_applied defs n k args qubits s few is step short =
    let called : IsCalled defs s.callee (length s.angles) (length s.wires) = called_more defs k s.callee (length s.angles) (length s.wires) few step.called in
    record {
      called =
          subst (λ (a : ℕ). IsCalled defs s.callee a (length (applied args qubits s).qubits)) (sym (length-map s.angles _))
          (subst (λ (q : ℕ). IsCalled defs s.callee (length s.angles) q) (sym (length-map s.wires _)) called);
      are_args = angles_are args s.angles is.are_args step.angles short;
      distinct = wired qubits s.wires is.distinct step.distinct step.wires;
      below = wired_below n qubits s.wires is.below step.wires;
    }

-- what is asked of the own items of each application on the first n qubits
abbrev pub OwnItems : List Def → Option Cond → ℕ → (ItemData → Type 0) → Type 0
OwnItems defs cond n P = (a : Application) → IsApplied defs n a → AllByRecursion P (own_items defs cond a)

abbrev pub AllItems : List Def → Option Cond → (ItemData → Type 0) → Application → Type 0
AllItems defs cond P a = AllByRecursion P (items_of defs cond (with_inside (meanings defs) a))

-- all items of a definition below this number have what is asked
abbrev pub AllBelow : List Def → Option Cond → ℕ → (ItemData → Type 0) → ℕ → Type 0
AllBelow defs cond n P k =
    (id : ℕ) → id < k → id < length defs → (args : List Arg) (qubits : List Qubit) → IsApplied defs n (app (Defined id) args qubits)
    → any_long (with_inside (meanings defs) (app (Defined id) args qubits)) ≡ false → AllItems defs cond P (app (Defined id) args qubits)

pub joined : (P : ItemData → Type 0) (ds es : List ItemData) → AllByRecursion P ds → AllByRecursion P es → AllByRecursion P (ds ++ es)
joined P [] es first second = second
joined P (d ∷ ds) es first second = (first.0, joined P ds es first.1 second)

callee_all :
    (defs : List Def) (cond : Option Cond) (n : ℕ) (P : ItemData → Type 0) (k : ℕ) (front : List Def) (c : Callee) (a q : ℕ) (args : List Arg) (qubits : List Qubit)
    → OwnItems defs cond n P → AllBelow defs cond n P k → length front ≤ k → length front ≤ length defs → IsCalled front c a q
    → IsApplied defs n (app c args qubits) → any_long (with_inside (meanings defs) (app c args qubits)) ≡ false → AllItems defs cond P (app c args qubits)
callee_all defs cond n P k front (Plain name) a q args qubits own lower below few called is short = joined P (own_items defs cond (app (Plain name) args qubits)) [] (own (app (Plain name) args qubits) is) tt
callee_all defs cond n P k front Ccx a q args qubits own lower below few called is short = joined P (own_items defs cond (app Ccx args qubits)) [] (own (app Ccx args qubits) is) tt
callee_all defs cond n P k front Cswap a q args qubits own lower below few called is short = joined P (own_items defs cond (app Cswap args qubits)) [] (own (app Cswap args qubits) is) tt
callee_all defs cond n P k front (Defined id) a q args qubits own lower below few called is short =
    lower id (omega (arith, called.0, below)) (omega (arith, called.0, few)) args qubits is short
callee_all defs cond n P k front Barrier a q args qubits own lower below few called is short = joined P (own_items defs cond (app Barrier args qubits)) [] (own (app Barrier args qubits) is) tt

steps_all :
    (defs : List Def) (cond : Option Cond) (n : ℕ) (P : ItemData → Type 0) (k id : ℕ) (args : List Arg) (qubits : List Qubit) (steps : List BodyStep)
    → OwnItems defs cond n P → AllBelow defs cond n P k → id ≤ k → id ≤ length defs → IsApplied defs n (app (Defined id) args qubits)
    → AllByRecursion (IsStep (take id defs) (length args) (length qubits)) steps → any_long (applied_all (meanings defs) args qubits steps) ≡ false
    → AllByRecursion P (items_of defs cond (applied_all (meanings defs) args qubits steps))
steps_all defs cond n P k id args qubits [] own lower below few is all short = tt
steps_all defs cond n P k id args qubits (s ∷ steps) own lower below few is all short =
    let ms = meanings defs in
    let a = applied args qubits s in
    let here = with_inside ms a in
    let rest = applied_all ms args qubits steps in
    let parts = or_parts (any_long here) (any_long rest) (sym (list_any-append has_long here rest) ∙ short) in
    let own_short = or_parts (has_long a) (any_long (inside ms a)) parts.0 in
    let small = length-take-le id defs few in
    let first : AllItems defs cond P a =
    callee_all defs cond n P k (take id defs) s.callee (length s.angles) (length s.wires) a.args a.qubits own lower (omega (arith, small, below)) (omega (arith, small, few))
    all.0.called (step_applied defs n id args qubits s few is all.0 own_short.0) parts.0 in
    subst (AllByRecursion P) (sym (flat_map-append (own_items defs cond) here rest))
    (joined P (items_of defs cond here) (items_of defs cond rest) first (steps_all defs cond n P k id args qubits steps own lower below few is all.1 parts.1))

def_all : {defs : List Def} → AreDefs defs → (cond : Option Cond) (n : ℕ) (P : ItemData → Type 0) (k : ℕ) → OwnItems defs cond n P → AllBelow defs cond n P k
def_all are cond n P zero own = λ id below there args qubits is short. absurd (omega (arith, below))
def_all {defs = defs} are cond n P (suc k) own = λ id below there args qubits is short. at_id id below there args qubits is short (def_all are cond n P k own)
  where
    at_id :
        (id : ℕ) → id < suc k → id < length defs → (args : List Arg) (qubits : List Qubit) → IsApplied defs n (app (Defined id) args qubits)
        → any_long (with_inside (meanings defs) (app (Defined id) args qubits)) ≡ false → AllBelow defs cond n P k → AllItems defs cond P (app (Defined id) args qubits)
    at_id id below there args qubits is short lower =
        let d = def_at defs id in
        let a = app (Defined id) args qubits in
        let body = applied_all (meanings defs) args qubits (steps_at defs id) in
        let same : applications defs id args qubits ≡ body = unfolded are id args qubits there in
        let rule : AllByRecursion (IsStep (take id defs) (length args) (length qubits)) (steps_at defs id) =
        subst (λ (p : ℕ). AllByRecursion (IsStep (take id defs) p (length qubits)) (steps_at defs id)) (sym is.called.1)
        (subst (λ (q : ℕ). AllByRecursion (IsStep (take id defs) d.params q) (steps_at defs id)) (sym is.called.2)
        (all_steps (take id defs) d d.body (rule_at are id there).body)) in
        let rest_short : any_long body ≡ false = ap any_long (sym same) ∙ (or_parts (has_long a) (any_long (applications defs id args qubits)) short).1 in
        joined P (own_items defs cond a) (items_of defs cond (applications defs id args qubits)) (own a is)
        (subst (λ (apps : List Application). AllByRecursion P (items_of defs cond apps)) (sym same)
        (steps_all defs cond n P k id args qubits (steps_at defs id) own lower (omega (arith, below)) (omega (arith, there)) is rule rest_short))

-- any application
pub application_all :
    {defs : List Def} → AreDefs defs → (cond : Option Cond) (n : ℕ) (P : ItemData → Type 0) (a : Application) → OwnItems defs cond n P → IsApplied defs n a
    → any_long (with_inside (meanings defs) a) ≡ false → AllByRecursion P (items_of defs cond (with_inside (meanings defs) a))
application_all {defs = defs} are cond n P a own is short =
    callee_all defs cond n P (length defs) defs a.callee (length a.args) (length a.qubits) a.args a.qubits own (def_all are cond n P (length defs) own)
    (omega arith) (omega arith) is.called is short
