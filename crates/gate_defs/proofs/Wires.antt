-- Distinct wires into distinct qubits are distinct qubits.
use Rattle.std.proofs.Common.{◌≡◌, ℕ, zero, suc, ◌<◌, ◌==◌, true, false, not, List, [], ◌∷◌, map, length, get_or, All, refl, sym, ap, ◌∙◌, arith}
use Rattle.std.specs.List.{list_any}
use Rattle.std.proofs.lemmas.Bool.{and_from, and_parts, eq-eqb, eqb-false, eqb-true, false_from_ne_true, false≢true, not-true, not_from_false, or_from, or_parts}
use Rattle.std.proofs.lemmas.List.Elements.{All-head, All-tail}
use Rattle.std.proofs.lemmas.List.Folds.{list_any_at}
use Rattle.qccd_base.specs.Names.{qubit}
use Rattle.qccd_base.specs.declared.names.Qubit.{Qubit}
use Rattle.qccd_circuit.specs.Item.{are_distinct, has_qubit}
use Rattle.gate_defs.specs.Rule as rule

-- a qubit of the rest is not the first
apart : (q : Qubit) (qs : List Qubit) (n : ℕ) → not (has_qubit qs q) ≡ true → n < length qs → (get_or qs n (qubit 0)).0 ≡ q.0 → ⊥
apart q qs n absent below same =
    false≢true (sym (not-true (has_qubit qs q) absent) ∙ list_any_at (λ r. r.0 == q.0) qs n (qubit 0) below (eq-eqb _ _ same))

-- one qubit stands at one place
one_place : (qs : List Qubit) (m n : ℕ) → are_distinct qs ≡ true → m < length qs → n < length qs → (get_or qs m (qubit 0)).0 ≡ (get_or qs n (qubit 0)).0 → m ≡ n
one_place [] m n distinct below_m below_n same = absurd (omega (arith, below_m))
one_place (q ∷ qs) zero zero distinct below_m below_n same = refl
one_place (q ∷ qs) zero (suc n) distinct below_m below_n same =
    absurd (apart q qs n (and_parts (not (has_qubit qs q)) _ distinct).0 (omega (arith, below_n)) (sym same))
one_place (q ∷ qs) (suc m) zero distinct below_m below_n same =
    absurd (apart q qs m (and_parts (not (has_qubit qs q)) _ distinct).0 (omega (arith, below_m)) same)
one_place (q ∷ qs) (suc m) (suc n) distinct below_m below_n same =
    ap suc (one_place qs m n (and_parts (not (has_qubit qs q)) _ distinct).1 (omega (arith, below_m)) (omega (arith, below_n)) same)

abbrev pub on : List Qubit → ℕ → Qubit
on qs w = get_or qs w (qubit 0)

absent : (qs : List Qubit) (w : ℕ) (ws : List ℕ) → are_distinct qs ≡ true → w < length qs → All (λ v. v < length qs) ws → list_any (λ v. v == w) ws ≡ false
    → has_qubit (map (on qs) ws) (on qs w) ≡ false
absent qs w [] distinct below all none = refl
absent qs w (v ∷ ws) distinct below all none =
    let parts = or_parts (v == w) _ none in
    let below_v = All-head (λ v. v < length qs) v ws all in
    or_from ((on qs v).0 == (on qs w).0) _
    (false_from_ne_true _ (λ is. eqb-false v w parts.0 (one_place qs v w distinct below_v below (eqb-true _ _ is))))
    (absent qs w ws distinct below (All-tail (λ v. v < length qs) v ws all) parts.1)

pub wired : (qs : List Qubit) (ws : List ℕ) → are_distinct qs ≡ true → rule.are_distinct ws ≡ true → All (λ w. w < length qs) ws → are_distinct (map (on qs) ws) ≡ true
wired qs [] distinct apart all = refl
wired qs (w ∷ ws) distinct apart all =
    let parts = and_parts (not (list_any (λ v. v == w) ws)) _ apart in
    and_from (not (has_qubit (map (on qs) ws) (on qs w))) _
    (not_from_false _ (absent qs w ws distinct (All-head (λ w. w < length qs) w ws all) (All-tail (λ w. w < length qs) w ws all) (not-true _ parts.0)))
    (wired qs ws distinct parts.1 (All-tail (λ w. w < length qs) w ws all))
