-- The items of an application keep the item rule.
use Rattle.std.proofs.Common.{◌≡◌, ◌≢◌, ℕ, ◌<◌, ◌≤◌, ◌==◌, Bool, true, false, not, ◌&&◌, ◌||◌, List, [], ◌∷◌, ◌++◌, length, get_or, All, Option, None, Some, codes, refl, sym, ap, subst, ◌∙◌, arith}
use Rattle.std.specs.Prelude.{IsTrue, nat_le, if◌then◌else◌}
use Rattle.std.specs.List.{AllByRecursion, list_all}
use Rattle.std.specs.Str.{bytes_eq}
use Rattle.std.proofs.lemmas.Bool.{and_parts, eqb-true, eq-eqb, false_from_ne_true, false≢true, leb-true, not-true, not_from_true, or_parts}
use Rattle.std.proofs.lemmas.Slice.Eq.{bytes_eq-Decides}
use Rattle.std.proofs.lemmas.List.Elements.{All-from_recursion}
use Rattle.std.proofs.lemmas.List.{length-map}
use Rattle.std.proofs.lemmas.List.Folds.{list_all-map}
use Rattle.qccd_base.specs.Names.{qubit}
use Rattle.qccd_base.specs.declared.names.Qubit.{Qubit}
use Rattle.qccd_circuit.specs.declared.kinds.Cond.{Cond}
use Rattle.qccd_circuit.specs.Item.{AreAngles, Fits, IsCond, IsGateName, IsName, are_distinct, is_angle, is_word}
use Rattle.gate_defs.specs.declared.kinds.Arg.{Arg}
use Rattle.gate_defs.specs.declared.kinds.Def.{Def}
use Rattle.gate_defs.specs.Gates.{Gate, always, gate_in, gate_of, included, plain_gate}
use Rattle.gate_defs.specs.Items.{barrier_on, ccx_items, cswap_items, cx, gate_on, on_three, one}
use Rattle.gate_defs.specs.Meaning.{def_at, texts}
use Rattle.gate_defs.specs.Rule.{AreArgs, AreDefs, HasShape, IsBody, MayApply}
use Rattle.gate_defs.proofs.Unfolds.{rule_at}

-- ---- names

-- whether the name can be that of a gate's item
abbrev pub can_be_name : List ℕ → Bool
can_be_name name =
    is_word name
    && (nat_le (length name) 64 && (not (bytes_eq name (codes "measure")) && (not (bytes_eq name (codes "reset")) && not (bytes_eq name (codes "barrier")))))

other_name : (name other : List ℕ) → not (bytes_eq name other) ≡ true → name ≢ other
other_name name other apart = λ same. false≢true (sym (not_from_true (bytes_eq name other) ((bytes_eq-Decides name other).1 same)) ∙ apart)

pub names : (name : List ℕ) → can_be_name name ≡ true → IsName name × IsGateName name
names name can =
    let word = and_parts (is_word name) _ can in
    let size = and_parts (nat_le (length name) 64) _ word.1 in
    let measure = and_parts (not (bytes_eq name (codes "measure"))) _ size.1 in
    let reset = and_parts (not (bytes_eq name (codes "reset"))) _ measure.1 in (
      (word.0, leb-true (length name) 64 size.0),
      (other_name name _ measure.0, other_name name _ reset.0, other_name name _ reset.1),
    )

-- ---- gates that are one item

-- a gate on one or two qubits
pub gate_fits :
    (name : List ℕ) (angles : List (List ℕ)) (on : List Qubit) (cond : Option Cond) → IsName name → IsGateName name → AreAngles angles → IsTrue (are_distinct on)
    → IsCond cond → 1 ≤ length on → length on ≤ 2 → Fits (gate_on name angles on cond)
gate_fits name angles [] cond is_name is_gate are distinct is_cond some few = absurd (omega (arith, some))
gate_fits name angles (a ∷ []) cond is_name is_gate are distinct is_cond some few =
    record { name = is_name; angles = are; cond = is_cond; distinct = distinct; kind = (refl, refl, is_gate) }
gate_fits name angles (a ∷ b ∷ []) cond is_name is_gate are distinct is_cond some few =
    record { name = is_name; angles = are; cond = is_cond; distinct = distinct; kind = (refl, refl, is_gate) }
gate_fits name angles (a ∷ b ∷ c ∷ on) cond is_name is_gate are distinct is_cond some few = absurd (omega (arith, few))

-- what the tables say of each gate that is one item
abbrev pub is_row : List ℕ → Gate → Bool
is_row name g =
    (bytes_eq name (codes "ccx") || bytes_eq name (codes "cswap"))
    || (can_be_name name && (nat_le g.angles 16 && (nat_le 1 g.qubits && nat_le g.qubits 2)))

pub record IsRow (name : List ℕ) (g : Gate) : Type 0 where
  pub is_name : IsName name
  pub is_gate : IsGateName name
  pub angles : g.angles ≤ 16
  pub some : 1 ≤ g.qubits
  pub few : g.qubits ≤ 2

row_from : (name : List ℕ) (g : Gate) → bytes_eq name (codes "ccx") ≡ false → bytes_eq name (codes "cswap") ≡ false → is_row name g ≡ true → IsRow name g
row_from name g ccx cswap is =
    let parts : can_be_name name && (nat_le g.angles 16 && (nat_le 1 g.qubits && nat_le g.qubits 2)) ≡ true =
    sym (ap (λ (b : Bool). (b || bytes_eq name (codes "cswap")) || (can_be_name name && (nat_le g.angles 16 && (nat_le 1 g.qubits && nat_le g.qubits 2)))) ccx
    ∙ ap (λ (b : Bool). b || (can_be_name name && (nat_le g.angles 16 && (nat_le 1 g.qubits && nat_le g.qubits 2)))) cswap) ∙ is in
    let named = and_parts (can_be_name name) _ parts in
    let angles = and_parts (nat_le g.angles 16) _ named.1 in
    let qubits = and_parts (nat_le 1 g.qubits) _ angles.1 in
    let both = names name named.0 in
    record { is_name = both.0; is_gate = both.1; angles = leb-true g.angles 16 angles.0; some = leb-true 1 g.qubits qubits.0; few = leb-true g.qubits 2 qubits.1 }

-- what holds of each gate of a table holds of the one that is found
pub holds_in :
    (test : List ℕ → Gate → Bool) (gs : List Gate) (name : List ℕ) (g : Gate) → list_all (λ h. test h.name h) gs ≡ true → gate_in gs name ≡ Some g → test name g ≡ true
holds_in test [] name g all is = cc
holds_in test (h ∷ gs) name g all is =
    let parts = and_parts (test h.name h) (list_all (λ h. test h.name h) gs) all in
    by_name (bytes_eq name h.name) refl is parts.0 (holds_in test gs name g parts.1)
  where
    same_some : (t : Gate) → Some t ≡ Some g → t ≡ g
    same_some t e = cc

    by_name :
        (b : Bool) → bytes_eq name h.name ≡ b → elim b as (λ _. Option Gate) [ true ↦ Some h | false ↦ gate_in gs name ] ≡ Some g → test h.name h ≡ true
        → (gate_in gs name ≡ Some g → test name g ≡ true) → test name g ≡ true
    by_name true here e first more =
        subst (λ (t : Gate). test name t ≡ true) (same_some h e) (subst (λ (n : List ℕ). test n h ≡ true) (sym ((bytes_eq-Decides name h.name).0 here)) first)
    by_name false here e first more = more e

pub plain_row : (name : List ℕ) (g : Gate) → plain_gate name ≡ Some g → IsRow name g
plain_row name g is = by_ccx (bytes_eq name (codes "ccx")) refl is
  where
    by_cswap : (c : Bool) → bytes_eq name (codes "ccx") ≡ false → bytes_eq name (codes "cswap") ≡ c → (if c then None else gate_of true name) ≡ Some g → IsRow name g
    by_cswap true ccx here e = cc
    by_cswap false ccx here e = row_from name g ccx here (holds_in is_row (always ++ included) name g refl e)

    by_ccx :
        (b : Bool) → bytes_eq name (codes "ccx") ≡ b
        → (if b then None else (if bytes_eq name (codes "cswap") then None else gate_of true name)) ≡ Some g → IsRow name g
    by_ccx true here e = cc
    by_ccx false here e = by_cswap (bytes_eq name (codes "cswap")) here refl e

args_fit : (args : List Arg) → AreArgs args → length args ≤ 16 → AreAngles (texts args)
args_fit args are few = (list_all-map is_angle (λ (a : Arg). a.text) args ∙ are, omega (arith, length-map args (λ (a : Arg). a.text), few))

-- a gate of the tables
pub plain_fits :
    (name : List ℕ) (args : List Arg) (on : List Qubit) (cond : Option Cond) → HasShape (length args) (length on) (plain_gate name) → AreArgs args
    → IsTrue (are_distinct on) → IsCond cond → Fits (gate_on name (texts args) on cond)
plain_fits name args on cond has are distinct is_cond = by_shape (plain_gate name) refl has
  where
    by_shape : (o : Option Gate) → plain_gate name ≡ o → HasShape (length args) (length on) o → Fits (gate_on name (texts args) on cond)
    by_shape None is has = absurd has
    by_shape (Some s) is has =
        let row = plain_row name s is in
        gate_fits name (texts args) on cond row.is_name row.is_gate (args_fit args are (omega (arith, has.0, row.angles))) distinct is_cond
        (omega (arith, has.1, row.some)) (omega (arith, has.1, row.few))

-- an opaque gate
pub opaque_fits :
    {defs : List Def} → AreDefs defs → (id : ℕ) (args : List Arg) (on : List Qubit) (cond : Option Cond) → (def_at defs id).body ≡ None
    → id < length defs → length args ≡ (def_at defs id).params → length on ≡ (def_at defs id).qubits → MayApply (def_at defs id).body (def_at defs id).qubits
    → AreArgs args → IsTrue (are_distinct on) → IsCond cond → Fits (gate_on (def_at defs id).name (texts args) on cond)
opaque_fits {defs = defs} defined id args on cond opaque there args_are on_are may are distinct is_cond =
    let d = def_at defs id in
    let rule = rule_at defined id there in
    let body : IsName d.name × IsGateName d.name × (d.params ≤ 16) = subst (IsBody _ d) opaque rule.body in
    let few : d.qubits ≤ 2 = subst (λ body. MayApply body d.qubits) opaque may in
    gate_fits d.name (texts args) on cond body.0 body.1 (args_fit args are (omega (arith, args_are, body.2))) distinct is_cond
    (omega (arith, on_are, rule.qubits)) (omega (arith, on_are, few))

-- ---- a barrier

pub barrier_fits : (on : List Qubit) → 1 ≤ length on → IsTrue (are_distinct on) → Fits (barrier_on on)
barrier_fits on some distinct =
    record { name = (refl, omega arith); angles = (refl, omega arith); cond = tt; distinct = distinct; kind = (some, refl, refl, refl, refl) }

-- ---- gates on three qubits

one_fits : (name : List ℕ) (a : Qubit) (cond : Option Cond) → can_be_name name ≡ true → IsCond cond → Fits (one name a cond)
one_fits name a cond can is_cond =
    let n = names name can in record { name = n.0; angles = (refl, omega arith); cond = is_cond; distinct = refl; kind = (refl, refl, n.1) }

cx_fits : (a b : Qubit) (cond : Option Cond) → (b.0 == a.0) ≡ false → IsCond cond → Fits (cx a b cond)
cx_fits a b cond apart is_cond =
    let n = names (codes "cx") refl in
    record { name = n.0; angles = (refl, omega arith); cond = is_cond; distinct = ap (λ (x : Bool). not (x || false) && true) apart; kind = (refl, refl, n.1) }

-- three qubits that are apart
pub record AreThree (a b c : Qubit) : Type 0 where
  pub ba : (b.0 == a.0) ≡ false
  pub ca : (c.0 == a.0) ≡ false
  pub cb : (c.0 == b.0) ≡ false

three_from : (a b c : Qubit) → are_distinct (a ∷ b ∷ c ∷ []) ≡ true → AreThree a b c
three_from a b c distinct =
    let first = and_parts (not ((b.0 == a.0) || ((c.0 == a.0) || false))) _ distinct in
    let second = and_parts (not ((c.0 == b.0) || false)) _ first.1 in
    let one = or_parts (b.0 == a.0) _ (not-true _ first.0) in
    record { ba = one.0; ca = (or_parts (c.0 == a.0) false one.1).0; cb = (or_parts (c.0 == b.0) false (not-true _ second.0)).0 }

swapped : (a b : Qubit) → (b.0 == a.0) ≡ false → (a.0 == b.0) ≡ false
swapped a b apart = false_from_ne_true (a.0 == b.0) (λ is. false≢true (sym apart ∙ eq-eqb b.0 a.0 (sym (eqb-true a.0 b.0 is))))

pub ccx_all : (a b c : Qubit) (cond : Option Cond) → IsTrue (are_distinct (a ∷ b ∷ c ∷ [])) → IsCond cond → AllByRecursion Fits (ccx_items a b c cond)
ccx_all a b c cond distinct is_cond =
    let three = three_from a b c distinct in
    let b_c = cx_fits b c cond three.cb is_cond in
    let a_c = cx_fits a c cond three.ca is_cond in
    let a_b = cx_fits a b cond three.ba is_cond in
    let h_c = one_fits (codes "h") c cond refl is_cond in
    let tdg_b = one_fits (codes "tdg") b cond refl is_cond in
    let tdg_c = one_fits (codes "tdg") c cond refl is_cond in
    let t_a = one_fits (codes "t") a cond refl is_cond in
    let t_b = one_fits (codes "t") b cond refl is_cond in
    let t_c = one_fits (codes "t") c cond refl is_cond in
    (h_c, (b_c, (tdg_c, (a_c, (t_c, (b_c, (tdg_c, (a_c, (t_b, (t_c, (h_c, (a_b, (t_a, (tdg_b, (a_b, tt)))))))))))))))

-- what cswap has around these
pub cx_all : (a b c : Qubit) (cond : Option Cond) → IsTrue (are_distinct (a ∷ b ∷ c ∷ [])) → IsCond cond → Fits (cx c b cond)
cx_all a b c cond distinct is_cond = cx_fits c b cond (swapped b c (three_from a b c distinct).cb) is_cond

-- the first three of a list
abbrev pub nth : List Qubit → ℕ → Qubit
nth qs n = get_or qs n (qubit 0)

pub ccx_fit : (qs : List Qubit) (cond : Option Cond) → length qs ≡ 3 → IsTrue (are_distinct qs) → IsCond cond → All Fits (ccx_items (nth qs 0) (nth qs 1) (nth qs 2) cond)
ccx_fit [] cond three distinct is_cond = absurd (omega (arith, three))
ccx_fit (a ∷ []) cond three distinct is_cond = absurd (omega (arith, three))
ccx_fit (a ∷ b ∷ []) cond three distinct is_cond = absurd (omega (arith, three))
ccx_fit (a ∷ b ∷ c ∷ []) cond three distinct is_cond = All-from_recursion Fits (ccx_items a b c cond) (ccx_all a b c cond distinct is_cond)
ccx_fit (a ∷ b ∷ c ∷ d ∷ qs) cond three distinct is_cond = absurd (omega (arith, three))

pub around_fits : (qs : List Qubit) (cond : Option Cond) → length qs ≡ 3 → IsTrue (are_distinct qs) → IsCond cond → All Fits (cx (nth qs 2) (nth qs 1) cond ∷ [])
around_fits [] cond three distinct is_cond = absurd (omega (arith, three))
around_fits (a ∷ []) cond three distinct is_cond = absurd (omega (arith, three))
around_fits (a ∷ b ∷ []) cond three distinct is_cond = absurd (omega (arith, three))
around_fits (a ∷ b ∷ c ∷ []) cond three distinct is_cond =
    All-from_recursion Fits (cx c b cond ∷ []) (cx_all a b c cond distinct is_cond, tt)
around_fits (a ∷ b ∷ c ∷ d ∷ qs) cond three distinct is_cond = absurd (omega (arith, three))

pub ccx_is : (qs : List Qubit) (cond : Option Cond) → length qs ≡ 3 → on_three ccx_items qs cond ≡ ccx_items (nth qs 0) (nth qs 1) (nth qs 2) cond
ccx_is [] cond three = absurd (omega (arith, three))
ccx_is (a ∷ []) cond three = absurd (omega (arith, three))
ccx_is (a ∷ b ∷ []) cond three = absurd (omega (arith, three))
ccx_is (a ∷ b ∷ c ∷ []) cond three = refl
ccx_is (a ∷ b ∷ c ∷ d ∷ qs) cond three = absurd (omega (arith, three))

pub cswap_is : (qs : List Qubit) (cond : Option Cond) → length qs ≡ 3 → on_three cswap_items qs cond ≡ cswap_items (nth qs 0) (nth qs 1) (nth qs 2) cond
cswap_is [] cond three = absurd (omega (arith, three))
cswap_is (a ∷ []) cond three = absurd (omega (arith, three))
cswap_is (a ∷ b ∷ []) cond three = absurd (omega (arith, three))
cswap_is (a ∷ b ∷ c ∷ []) cond three = refl
cswap_is (a ∷ b ∷ c ∷ d ∷ qs) cond three = absurd (omega (arith, three))
