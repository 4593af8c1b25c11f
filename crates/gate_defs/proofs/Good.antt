-- The items of an application itself keep the item rule, and are on its qubits.
use Rattle.std.proofs.Common.{◌≡◌, ℕ, true, ◌<◌, List, [], ◌∷◌, length, All, Option, None, Some, codes, refl}
use Rattle.std.specs.List.{AllByRecursion}
use Rattle.std.proofs.lemmas.List.Elements.{All-cons, All-head, All-nil, All-tail}
use Rattle.qccd_base.specs.declared.names.Bit.{Bit}
use Rattle.qccd_base.specs.declared.names.Qubit.{Qubit}
use Rattle.qccd_circuit.specs.declared.kinds.Cond.{Cond}
use Rattle.qccd_circuit.specs.Circuit.{IsWithin}
use Rattle.qccd_circuit.specs.Item.{Fits, IsCond, are_distinct, cond_bits}
use Rattle.gate_defs.specs.declared.kinds.Arg.{Arg}
use Rattle.gate_defs.specs.declared.kinds.BodyStep.{BodyStep}
use Rattle.gate_defs.specs.declared.kinds.Callee.{Callee}
use Rattle.gate_defs.specs.declared.kinds.Callee.TheVariants.{Plain, Ccx, Cswap, Defined, Barrier}
use Rattle.gate_defs.specs.declared.kinds.Def.{Def}
use Rattle.gate_defs.specs.Items.{ccx_items, cswap_items, cx, on_three, one}
use Rattle.gate_defs.specs.Meaning.{Application, def_at, own_items, own_of}
use Rattle.gate_defs.specs.Rule.{AreArgs, AreDefs, IsApplied, IsCalled}
use Rattle.gate_defs.proofs.Counting.{app}
use Rattle.gate_defs.proofs.Inheriting.{joined}
use Rattle.gate_defs.proofs.Fitting.{barrier_fits, ccx_all, cx_all, opaque_fits, plain_fits}

abbrev pub AreBelow : ℕ → List Qubit → Type 0
AreBelow n qs = All (λ (q : Qubit). q.0 < n) qs

-- ---- the item rule

pub ccx_fits : (qs : List Qubit) (cond : Option Cond) → are_distinct qs ≡ true → IsCond cond → AllByRecursion Fits (on_three ccx_items qs cond)
ccx_fits [] cond distinct is_cond = tt
ccx_fits (a ∷ []) cond distinct is_cond = tt
ccx_fits (a ∷ b ∷ []) cond distinct is_cond = tt
ccx_fits (a ∷ b ∷ c ∷ []) cond distinct is_cond = ccx_all a b c cond distinct is_cond
ccx_fits (a ∷ b ∷ c ∷ d ∷ qs) cond distinct is_cond = tt

pub cswap_fits : (qs : List Qubit) (cond : Option Cond) → are_distinct qs ≡ true → IsCond cond → AllByRecursion Fits (on_three cswap_items qs cond)
cswap_fits [] cond distinct is_cond = tt
cswap_fits (a ∷ []) cond distinct is_cond = tt
cswap_fits (a ∷ b ∷ []) cond distinct is_cond = tt
cswap_fits (a ∷ b ∷ c ∷ []) cond distinct is_cond =
    let around = cx_all a b c cond distinct is_cond in
    (around, joined Fits (ccx_items a b c cond) (cx c b cond ∷ []) (ccx_all a b c cond distinct is_cond) (around, tt))
cswap_fits (a ∷ b ∷ c ∷ d ∷ qs) cond distinct is_cond = tt

body_fits :
    {defs : List Def} → AreDefs defs → (id : ℕ) (args : List Arg) (qubits : List Qubit) (cond : Option Cond) (body : Option (List BodyStep)) → (def_at defs id).body ≡ body
    → IsCalled defs (Defined id) (length args) (length qubits) → AreArgs args → are_distinct qubits ≡ true → IsCond cond
    → AllByRecursion Fits (own_of (record (def_at defs id) { body = body }) (app (Defined id) args qubits) cond)
body_fits are id args qubits cond None is called are_args distinct is_cond =
    (opaque_fits are id args qubits cond is called.0 called.1 called.2 called.3 are_args distinct is_cond, tt)
body_fits are id args qubits cond (Some steps) is called are_args distinct is_cond = tt

pub own_fits : {defs : List Def} → AreDefs defs → (cond : Option Cond) → IsCond cond → (n : ℕ) (a : Application) → IsApplied defs n a → AllByRecursion Fits (own_items defs cond a)
own_fits {defs = defs} are cond is_cond n a is = by_callee a.callee is.called
  where
    by_callee : (c : Callee) → IsCalled defs c (length a.args) (length a.qubits) → AllByRecursion Fits (own_items defs cond (app c a.args a.qubits))
    by_callee (Plain name) called = (plain_fits name a.args a.qubits cond called is.are_args is.distinct is_cond, tt)
    by_callee Ccx called = ccx_fits a.qubits cond is.distinct is_cond
    by_callee Cswap called = cswap_fits a.qubits cond is.distinct is_cond
    by_callee (Defined id) called = body_fits are id a.args a.qubits cond (def_at defs id).body refl called is.are_args is.distinct is_cond
    by_callee Barrier called = (barrier_fits a.qubits called.1 is.distinct, tt)

-- ---- on its qubits

one_within : (n m : ℕ) (name : List ℕ) (a : Qubit) (cond : Option Cond) → a.0 < n → All (λ (b : Bit). b.0 < m) (cond_bits cond) → IsWithin n m (one name a cond)
one_within n m name a cond below bits =
    record { qubits_below = All-cons (λ (q : Qubit). q.0 < n) a [] below (All-nil (λ (q : Qubit). q.0 < n)); bits_below = bits }

cx_within : (n m : ℕ) (a b : Qubit) (cond : Option Cond) → a.0 < n → b.0 < n → All (λ (b : Bit). b.0 < m) (cond_bits cond) → IsWithin n m (cx a b cond)
cx_within n m a b cond below_a below_b bits =
    record {
      qubits_below = All-cons (λ (q : Qubit). q.0 < n) a (b ∷ []) below_a (All-cons (λ (q : Qubit). q.0 < n) b [] below_b (All-nil (λ (q : Qubit). q.0 < n)));
      bits_below = bits;
    }

three_within :
    (n m : ℕ) (a b c : Qubit) (cond : Option Cond) → a.0 < n → b.0 < n → c.0 < n → All (λ (b : Bit). b.0 < m) (cond_bits cond)
    → AllByRecursion (IsWithin n m) (ccx_items a b c cond)
three_within n m a b c cond below_a below_b below_c bits =
    let b_c = cx_within n m b c cond below_b below_c bits in
    let a_c = cx_within n m a c cond below_a below_c bits in
    let a_b = cx_within n m a b cond below_a below_b bits in
    let h_c = one_within n m (codes "h") c cond below_c bits in
    let tdg_b = one_within n m (codes "tdg") b cond below_b bits in
    let tdg_c = one_within n m (codes "tdg") c cond below_c bits in
    let t_a = one_within n m (codes "t") a cond below_a bits in
    let t_b = one_within n m (codes "t") b cond below_b bits in
    let t_c = one_within n m (codes "t") c cond below_c bits in
    (h_c, (b_c, (tdg_c, (a_c, (t_c, (b_c, (tdg_c, (a_c, (t_b, (t_c, (h_c, (a_b, (t_a, (tdg_b, (a_b, tt)))))))))))))))

-- the first three of qubits below n
pub record AreThreeBelow (n : ℕ) (a b c : Qubit) : Type 0 where
  pub first : a.0 < n
  pub second : b.0 < n
  pub third : c.0 < n

three_below : (n : ℕ) (a b c : Qubit) (qs : List Qubit) → AreBelow n (a ∷ b ∷ c ∷ qs) → AreThreeBelow n a b c
three_below n a b c qs below =
    let P : Qubit → Type 0 = λ q. q.0 < n in
    let rest = All-tail P a (b ∷ c ∷ qs) below in
    record { first = All-head P a (b ∷ c ∷ qs) below; second = All-head P b (c ∷ qs) rest; third = All-head P c qs (All-tail P b (c ∷ qs) rest) }

pub ccx_within : (n m : ℕ) (qs : List Qubit) (cond : Option Cond) → AreBelow n qs → All (λ (b : Bit). b.0 < m) (cond_bits cond) → AllByRecursion (IsWithin n m) (on_three ccx_items qs cond)
ccx_within n m [] cond below bits = tt
ccx_within n m (a ∷ []) cond below bits = tt
ccx_within n m (a ∷ b ∷ []) cond below bits = tt
ccx_within n m (a ∷ b ∷ c ∷ []) cond below bits = let is = three_below n a b c [] below in three_within n m a b c cond is.first is.second is.third bits
ccx_within n m (a ∷ b ∷ c ∷ d ∷ qs) cond below bits = tt

pub cswap_within : (n m : ℕ) (qs : List Qubit) (cond : Option Cond) → AreBelow n qs → All (λ (b : Bit). b.0 < m) (cond_bits cond) → AllByRecursion (IsWithin n m) (on_three cswap_items qs cond)
cswap_within n m [] cond below bits = tt
cswap_within n m (a ∷ []) cond below bits = tt
cswap_within n m (a ∷ b ∷ []) cond below bits = tt
cswap_within n m (a ∷ b ∷ c ∷ []) cond below bits =
    let is = three_below n a b c [] below in
    let around = cx_within n m c b cond is.third is.second bits in
    (around, joined (IsWithin n m) (ccx_items a b c cond) (cx c b cond ∷ []) (three_within n m a b c cond is.first is.second is.third bits) (around, tt))
cswap_within n m (a ∷ b ∷ c ∷ d ∷ qs) cond below bits = tt

body_within :
    (n m : ℕ) (d : Def) (a : Application) (cond : Option Cond) (body : Option (List BodyStep)) → AreBelow n a.qubits → All (λ (b : Bit). b.0 < m) (cond_bits cond)
    → AllByRecursion (IsWithin n m) (own_of (record d { body = body }) a cond)
body_within n m d a cond None below bits = (record { qubits_below = below; bits_below = bits }, tt)
body_within n m d a cond (Some steps) below bits = tt

pub own_within :
    (defs : List Def) (cond : Option Cond) (n m : ℕ) → All (λ (b : Bit). b.0 < m) (cond_bits cond) → (a : Application) → IsApplied defs n a
    → AllByRecursion (IsWithin n m) (own_items defs cond a)
own_within defs cond n m bits a is = by_callee a.callee
  where
    by_callee : (c : Callee) → AllByRecursion (IsWithin n m) (own_items defs cond (app c a.args a.qubits))
    by_callee (Plain name) = (record { qubits_below = is.below; bits_below = bits }, tt)
    by_callee Ccx = ccx_within n m a.qubits cond is.below bits
    by_callee Cswap = cswap_within n m a.qubits cond is.below bits
    by_callee (Defined id) = body_within n m (def_at defs id) (app (Defined id) a.args a.qubits) cond (def_at defs id).body is.below bits
    by_callee Barrier = (record { qubits_below = is.below; bits_below = All-nil (λ (b : Bit). b.0 < m) }, tt)
