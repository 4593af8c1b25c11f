-- An application is as many items as are counted for it.
use Rattle.std.proofs.Common.{◌≡◌, ℕ, zero, suc, ◌+◌, ◌<◌, ◌≤◌, true, List, [], ◌∷◌, ◌++◌, length, take, get_or, refl, sym, ap, ap₂, ◌∙◌, arith, length-append, Option, None, Some, is_some}
use Rattle.std.specs.List.{AllByRecursion}
use Rattle.std.proofs.lemmas.Bool.{false≢true}
use Rattle.std.proofs.lemmas.Grind.{flat_map-append}
use Rattle.std.proofs.lemmas.List.{get_or-take, length-map, length-take-le}
use Rattle.std.proofs.lemmas.List.Sums.{sum_by-cons}
use Rattle.qccd_base.specs.Names.{qubit}
use Rattle.qccd_base.specs.declared.names.Qubit.{Qubit}
use Rattle.qccd_circuit.specs.declared.kinds.Cond.{Cond}
use Rattle.qccd_circuit.specs.Item.{ItemData}
use Rattle.gate_defs.specs.declared.kinds.Arg.{Arg}
use Rattle.gate_defs.specs.declared.kinds.BodyStep.{BodyStep}
use Rattle.gate_defs.specs.declared.kinds.Callee.{Callee}
use Rattle.gate_defs.specs.declared.kinds.Callee.TheVariants.{Plain, Ccx, Cswap, Defined, Barrier}
use Rattle.gate_defs.specs.declared.kinds.Def.{Def}
use Rattle.gate_defs.specs.Items.{ccx_items, cswap_items, on_three}
use Rattle.gate_defs.specs.Meaning.{Application, applications, applied, applied_all, def_at, expansion, items_of, meanings, own_items, own_of, steps_at, steps_in, unnamed, with_inside}
use Rattle.gate_defs.specs.Measures.{count, count_over, counts, size_all, size_of}
use Rattle.gate_defs.specs.Rule.{AreDefs, IsCalled, IsStep}
use Rattle.gate_defs.proofs.EachFrom.{turn}
use Rattle.gate_defs.proofs.Unfolds.{all_steps, rule_at, unfolded}

abbrev pub app : Callee → List Arg → List Qubit → Application
app c args qubits = record { callee = c; args = args; qubits = qubits }

-- how many items an application is
abbrev pub length_of : List Def → Option Cond → Application → ℕ
length_of defs cond a = length (items_of defs cond (with_inside (meanings defs) a))

-- an application of a definition below this number is as many items as are counted
abbrev pub IsCounted : List Def → Option Cond → ℕ → Type 0
IsCounted defs cond n = (id : ℕ) → id < n → id < length defs → (args : List Arg) (qubits : List Qubit) → length_of defs cond (app (Defined id) args qubits) ≡ count defs id

three_long : (items : Qubit → Qubit → Qubit → Option Cond → List ItemData) (n : ℕ) (qs : List Qubit) (cond : Option Cond) → length qs ≡ 3
    → ((a b c : Qubit) → length (items a b c cond) ≡ n) → length (on_three items qs cond ++ []) ≡ n
three_long items n [] cond three each = absurd (omega (arith, three))
three_long items n (a ∷ []) cond three each = absurd (omega (arith, three))
three_long items n (a ∷ b ∷ []) cond three each = absurd (omega (arith, three))
three_long items n (a ∷ b ∷ c ∷ []) cond three each = omega (arith, length-append (items a b c cond) [], each a b c)
three_long items n (a ∷ b ∷ c ∷ d ∷ qs) cond three each = absurd (omega (arith, three))

callee_counted :
    (defs : List Def) (cond : Option Cond) (n : ℕ) (front : List Def) (c : Callee) (a q : ℕ) (args : List Arg) (qubits : List Qubit) → IsCounted defs cond n
    → length front ≤ n → length front ≤ length defs → IsCalled front c a q → length qubits ≡ q → length_of defs cond (app c args qubits) ≡ size_of (counts defs) c
callee_counted defs cond n front (Plain name) a q args qubits counted below few called fit = refl
callee_counted defs cond n front Ccx a q args qubits counted below few called fit = three_long ccx_items 15 qubits cond (fit ∙ called.1) (λ a b c. refl)
callee_counted defs cond n front Cswap a q args qubits counted below few called fit = three_long cswap_items 17 qubits cond (fit ∙ called.1) (λ a b c. refl)
callee_counted defs cond n front (Defined id) a q args qubits counted below few called fit =
    counted id (omega (arith, called.0, below)) (omega (arith, called.0, few)) args qubits
callee_counted defs cond n front Barrier a q args qubits counted below few called fit = refl

steps_counted :
    (defs : List Def) (cond : Option Cond) (n : ℕ) (front : List Def) (p q : ℕ) (args : List Arg) (qubits : List Qubit) (steps : List BodyStep)
    → IsCounted defs cond n → length front ≤ n → length front ≤ length defs → AllByRecursion (IsStep front p q) steps
    → length (items_of defs cond (applied_all (meanings defs) args qubits steps)) ≡ size_all (counts defs) steps
steps_counted defs cond n front p q args qubits [] counted below few all = refl
steps_counted defs cond n front p q args qubits (s ∷ steps) counted below few all =
    let ms = meanings defs in
    let here = with_inside ms (applied args qubits s) in
    let rest = applied_all ms args qubits steps in
    let split : items_of defs cond (here ++ rest) ≡ items_of defs cond here ++ items_of defs cond rest = flat_map-append (own_items defs cond) here rest in
    let one : length (items_of defs cond here) ≡ size_of (counts defs) s.callee =
    callee_counted defs cond n front s.callee (length s.angles) (length s.wires) (applied args qubits s).args (applied args qubits s).qubits counted below few
    all.0.called (length-map s.wires (λ w. get_or qubits w (qubit 0))) in
    ap length split
    ∙ length-append (items_of defs cond here) (items_of defs cond rest)
    ∙ ap₂ (λ (x y : ℕ). x + y) one (steps_counted defs cond n front p q args qubits steps counted below few all.1)
    ∙ sym (sum_by-cons (λ (t : BodyStep). size_of (counts defs) t.callee) s steps)

-- what is counted for a callee of a definition depends on those before it alone
size_front : (sizes : List ℕ) (n : ℕ) (front : List Def) (c : Callee) (a q : ℕ) → length front ≤ n → IsCalled front c a q → size_of (take n sizes) c ≡ size_of sizes c
size_front sizes n front (Plain name) a q few is = refl
size_front sizes n front Ccx a q few is = refl
size_front sizes n front Cswap a q few is = refl
size_front sizes n front (Defined id) a q few is = get_or-take n sizes id 0 (omega (arith, few, is.0))
size_front sizes n front Barrier a q few is = refl

sizes_front :
    (sizes : List ℕ) (n : ℕ) (front : List Def) (p q : ℕ) (steps : List BodyStep) → length front ≤ n → AllByRecursion (IsStep front p q) steps
    → size_all (take n sizes) steps ≡ size_all sizes steps
sizes_front sizes n front p q [] few all = refl
sizes_front sizes n front p q (s ∷ steps) few all =
    sum_by-cons (λ (t : BodyStep). size_of (take n sizes) t.callee) s steps
    ∙ ap₂ (λ (x y : ℕ). x + y) (size_front sizes n front s.callee _ _ few all.0.called) (sizes_front sizes n front p q steps few all.1)
    ∙ sym (sum_by-cons (λ (t : BodyStep). size_of sizes t.callee) s steps)

-- of a body, or of none, with what is counted for its steps
body_counted :
    (defs : List Def) (cond : Option Cond) (d : Def) (body : Option (List BodyStep)) (a : Application) (rest : List Application) (sizes : List ℕ)
    → rest ≡ applied_all (meanings defs) a.args a.qubits (steps_in body)
    → length (items_of defs cond (applied_all (meanings defs) a.args a.qubits (steps_in body))) ≡ size_all sizes (steps_in body)
    → length (own_of (record d { body = body }) a cond ++ items_of defs cond rest) ≡ count_over sizes (record d { body = body })
body_counted defs cond d None a rest sizes is steps = ap (λ (apps : List Application). suc (length (items_of defs cond apps))) is
body_counted defs cond d (Some steps) a rest sizes is counted = ap (λ (apps : List Application). length (items_of defs cond apps)) is ∙ counted

def_counted : {defs : List Def} → AreDefs defs → (cond : Option Cond) (n : ℕ) → IsCounted defs cond n
def_counted are cond zero = λ id below there args qubits. absurd (omega (arith, below))
def_counted {defs = defs} are cond (suc n) = λ id below there args qubits. at_id id below there args qubits (def_counted are cond n)
  where
    at_id :
        (id : ℕ) → id < suc n → id < length defs → (args : List Arg) (qubits : List Qubit) → IsCounted defs cond n
        → length_of defs cond (app (Defined id) args qubits) ≡ count defs id
    at_id id below there args qubits counted =
        let d = def_at defs id in
        let front = take id defs in
        let small : length front ≤ id = omega (arith, length-take-le id defs (omega (arith, there))) in
        let rule = all_steps front d d.body (rule_at are id there).body in
        let steps : length (items_of defs cond (applied_all (meanings defs) args qubits (steps_at defs id))) ≡ size_all (take id (counts defs)) (steps_at defs id) =
        steps_counted defs cond n front d.params d.qubits args qubits (steps_at defs id) counted (omega (arith, small, below)) (omega (arith, small, there)) rule
        ∙ sym (sizes_front (counts defs) id front d.params d.qubits (steps_at defs id) small rule) in
        body_counted defs cond d d.body (app (Defined id) args qubits) (applications defs id args qubits) (take id (counts defs)) (unfolded are id args qubits there) steps
        ∙ sym (turn count_over defs id 0 unnamed there)

-- any application
pub application_counted :
    {defs : List Def} → AreDefs defs → (cond : Option Cond) (a : Application) → IsCalled defs a.callee (length a.args) (length a.qubits)
    → length (items_of defs cond (with_inside (meanings defs) a)) ≡ size_of (counts defs) a.callee
application_counted {defs = defs} are cond a called =
    callee_counted defs cond (length defs) defs a.callee (length a.args) (length a.qubits) a.args a.qubits (def_counted are cond (length defs)) (omega arith)
    (omega arith) called refl

-- and the expansion of a definition with a body
own_none : (d : Def) (body : Option (List BodyStep)) (a : Application) (cond : Option Cond) (rest : List ItemData) → is_some body ≡ true
    → length (own_of (record d { body = body }) a cond ++ rest) ≡ length rest
own_none d None a cond rest is = absurd (false≢true is)
own_none d (Some steps) a cond rest is = refl

pub expansion_counted :
    {defs : List Def} → AreDefs defs → (id : ℕ) (args : List Arg) (qubits : List Qubit) (cond : Option Cond) → id < length defs → is_some (def_at defs id).body ≡ true
    → length (expansion defs id args qubits cond) ≡ count defs id
expansion_counted {defs = defs} are id args qubits cond there has_body =
    let d = def_at defs id in
    sym (own_none d d.body (app (Defined id) args qubits) cond (expansion defs id args qubits cond) has_body)
    ∙ def_counted are cond (length defs) id there there args qubits
