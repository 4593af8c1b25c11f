-- Chains, gone through with a mark for each ion.
use Rattle.std.proofs.Common.{◌≡◌, ℕ, ◌+◌, ◌<◌, ◌≤◌, Bool, true, false, not, ◌||◌, ◌==◌, List, [], ◌∷◌, ◌++◌, length, take, drop, get_or, refl, sym, ◌∙◌, ap, ap₂, subst, arith, Option, Some, None, inl, inr, append_assoc, nat_lt, if◌then◌else◌, drop-cons, suc, set}
use Rattle.std.specs.Prelude.{is_some, IfNone, option_map}
use Rattle.std.specs.Option.{option_or}
use Rattle.std.proofs.Math.Seq.{take-suc}
use Rattle.std.proofs.lemmas.Grind.{flat_map-append}
use Rattle.std.proofs.lemmas.Option.{same_Some, slice_get-get_or}
use Rattle.std.proofs.lemmas.Bool.{ltb-true, lt-ltb}
use Rattle.std.proofs.lemmas.Bool.Decides.{eqb_tells}
use Rattle.std.proofs.lemmas.List.{append-nil, length-set, get_or-set_same, get_or-set_other}
use Rattle.qccd_base.specs.declared.names.Ion.{Ion}
use Rattle.qccd_base.specs.Names.{ion, trap}
use Rattle.qccd_base.specs.declared.names.TrapId.{TrapId}
use Rattle.qccd_machine.specs.Machine.{MachineData}
use Rattle.loader.specs.Refusal.{ions_of, has_ion, is_stray, stray_behind, missing_ion, overfull_trap}
use Rattle.loader.specs.Marked.{AreSeen}
use Rattle.loader.proofs.Firsts.{true_false, one_passes, none_passes}
use Rattle.loader.proofs.Chains.{has_more, from_le}

front_next : (earlier ions : List Ion) (i : ℕ) (d : Ion) → i < length ions → (earlier ++ take i ions) ++ get_or ions i d ∷ [] ≡ earlier ++ take (i + 1) ions
front_next earlier ions i d within =
    let n : i + 1 ≡ suc i = omega arith in
    append_assoc earlier (take i ions) (get_or ions i d ∷ []) ∙ ap (λ (xs : List Ion). earlier ++ xs) (sym (ap (λ (j : ℕ). take j ions) n ∙ take-suc ions i d within))

-- one ion more, which is not astray
pub stray_next : (qubits : ℕ) (earlier ions : List Ion) (i : ℕ) (d : Ion) → i < length ions → is_stray qubits (earlier ++ take i ions) (get_or ions i d) ≡ false
    → stray_behind qubits (earlier ++ take i ions) (drop i ions) ≡ stray_behind qubits (earlier ++ take (i + 1) ions) (drop (i + 1) ions)
stray_next qubits earlier ions i d within ok =
    let n : i + 1 ≡ suc i = omega arith in
    let x = get_or ions i d in
    ap (stray_behind qubits (earlier ++ take i ions)) (drop-cons ions i d within)
    ∙ ap (λ (b : Bool). if b then Some x else stray_behind qubits ((earlier ++ take i ions) ++ x ∷ []) (drop (suc i) ions)) ok
    ∙ ap₂ (λ (xs : List Ion) (j : ℕ). stray_behind qubits xs (drop j ions)) (front_next earlier ions i d within) (sym n)

-- one that is
pub stray_here : (qubits : ℕ) (earlier ions : List Ion) (i : ℕ) (d : Ion) → i < length ions → is_stray qubits (earlier ++ take i ions) (get_or ions i d) ≡ true
    → stray_behind qubits (earlier ++ take i ions) (drop i ions) ≡ Some (get_or ions i d)
stray_here qubits earlier ions i d within stray =
    let x = get_or ions i d in
    ap (stray_behind qubits (earlier ++ take i ions)) (drop-cons ions i d within)
    ∙ ap (λ (b : Bool). if b then Some x else stray_behind qubits ((earlier ++ take i ions) ++ x ∷ []) (drop (suc i) ions)) stray

-- chains one after another
pub stray_parts : (qubits : ℕ) (earlier a b : List Ion) → stray_behind qubits earlier (a ++ b) ≡ option_or (stray_behind qubits earlier a) (stray_behind qubits (earlier ++ a) b)
stray_parts qubits earlier [] b = ap (λ (xs : List Ion). stray_behind qubits xs b) (sym (append-nil earlier))
stray_parts qubits earlier (x ∷ a) b = by_test (is_stray qubits earlier x) (stray_parts qubits (earlier ++ x ∷ []) a b)
  where
    by_test : (t : Bool) → stray_behind qubits (earlier ++ x ∷ []) (a ++ b) ≡ option_or (stray_behind qubits (earlier ++ x ∷ []) a) (stray_behind qubits ((earlier ++ x ∷ []) ++ a) b)
        → (if t then Some x else stray_behind qubits (earlier ++ x ∷ []) (a ++ b)) ≡ option_or (if t then Some x else stray_behind qubits (earlier ++ x ∷ []) a) (stray_behind qubits (earlier ++ x ∷ a) b)
    by_test true rest = refl
    by_test false rest = rest ∙ ap (λ (xs : List Ion). option_or (stray_behind qubits (earlier ++ x ∷ []) a) (stray_behind qubits xs b)) (append_assoc earlier (x ∷ []) a)

ions_snoc : (chains : List (List Ion)) (x : List Ion) → ions_of (chains ++ x ∷ []) ≡ ions_of chains ++ x
ions_snoc chains x = flat_map-append (λ chain. chain) chains (x ∷ []) ∙ ap (λ (xs : List Ion). ions_of chains ++ xs) (append-nil x)

-- a chain and the others
chains_cut : (qubits : ℕ) (chains : List (List Ion)) (i : ℕ) (d : List Ion) → i < length chains
    → stray_behind qubits (ions_of (take i chains)) (ions_of (drop i chains))
    ≡ option_or (stray_behind qubits (ions_of (take i chains)) (get_or chains i d)) (stray_behind qubits (ions_of (take (i + 1) chains)) (ions_of (drop (i + 1) chains)))
chains_cut qubits chains i d within =
    let n : i + 1 ≡ suc i = omega arith in
    let x = get_or chains i d in
    ap (λ (cs : List (List Ion)). stray_behind qubits (ions_of (take i chains)) (ions_of cs)) (drop-cons chains i d within)
    ∙ stray_parts qubits (ions_of (take i chains)) x (ions_of (drop (suc i) chains))
    ∙ ap (option_or (stray_behind qubits (ions_of (take i chains)) x))
    (ap₂ (λ (xs : List Ion) (j : ℕ). stray_behind qubits xs (ions_of (drop j chains))) (sym (ions_snoc (take i chains) x) ∙ sym (ap ions_of (ap (λ (j : ℕ). take j chains) n ∙ take-suc chains i d within))) (sym n))

pub seen_next : (chains : List (List Ion)) (i : ℕ) (d : List Ion) (seen : List Bool) → i < length chains → AreSeen (ions_of (take i chains) ++ get_or chains i d) seen → AreSeen (ions_of (take (i + 1) chains)) seen
seen_next chains i d seen within are =
    let n : i + 1 ≡ suc i = omega arith in
    subst (λ (xs : List Ion). AreSeen xs seen) (sym (ions_snoc (take i chains) (get_or chains i d)) ∙ sym (ap ions_of (ap (λ (j : ℕ). take j chains) n ∙ take-suc chains i d within))) are

-- what is astray in a chain behind others is so in all
pub chain_stray : (qubits : ℕ) (chains : List (List Ion)) (i : ℕ) (d : List Ion) (found total : Option Ion) → i < length chains → found ≡ stray_behind qubits (ions_of (take i chains)) (get_or chains i d) → is_some found ≡ true
    → stray_behind qubits (ions_of (take i chains)) (ions_of (drop i chains)) ≡ total → found ≡ total
chain_stray qubits chains i d found total within is some so_far =
    some_first found (stray_behind qubits (ions_of (take (i + 1) chains)) (ions_of (drop (i + 1) chains))) some
    ∙ ap (λ o. option_or o (stray_behind qubits (ions_of (take (i + 1) chains)) (ions_of (drop (i + 1) chains)))) is ∙ sym (chains_cut qubits chains i d within) ∙ so_far
  where
    some_first : (a b : Option Ion) → is_some a ≡ true → a ≡ option_or a b
    some_first None b e = absurd (true_false (sym e))
    some_first (Some x) b e = refl

pub chain_clear : (qubits : ℕ) (chains : List (List Ion)) (i : ℕ) (d : List Ion) (found total : Option Ion) → i < length chains → found ≡ stray_behind qubits (ions_of (take i chains)) (get_or chains i d) → is_some found ≡ false
    → stray_behind qubits (ions_of (take i chains)) (ions_of (drop i chains)) ≡ total → stray_behind qubits (ions_of (take (i + 1) chains)) (ions_of (drop (i + 1) chains)) ≡ total
chain_clear qubits chains i d found total within is none so_far =
    none_first found (stray_behind qubits (ions_of (take (i + 1) chains)) (ions_of (drop (i + 1) chains))) none
    ∙ ap (λ o. option_or o (stray_behind qubits (ions_of (take (i + 1) chains)) (ions_of (drop (i + 1) chains)))) is ∙ sym (chains_cut qubits chains i d within) ∙ so_far
  where
    none_first : (a b : Option Ion) → is_some a ≡ false → b ≡ option_or a b
    none_first None b e = refl
    none_first (Some x) b e = absurd (true_false e)

pub when_none : {P : Type 0} (o : Option Ion) → is_some o ≡ false → IfNone o P → P
when_none None e p = p
when_none (Some x) e p = absurd (true_false e)

-- ---- the marks

own : (i : ℕ) → (i == i) ≡ true
own i = elim (eqb_tells i i) [ inl is ↦ is.0 | inr other ↦ absurd (other.1 refl) ]

pub seen_more : (front : List Ion) (seen : List Bool) (x : Ion) → x.0 < 256 → AreSeen front seen → AreSeen (front ++ x ∷ []) (set seen x.0 true)
seen_more front seen x below are = record {
  long = length-set seen x.0 true ∙ are.long;
  each = λ i small. elim (eqb_tells x.0 i) [
    | inl same ↦
        subst (λ (j : ℕ). get_or (set seen x.0 true) j false ≡ has_ion (front ++ x ∷ []) j) same.1
        (get_or-set_same seen x.0 true false (omega (arith, are.long, below)) ∙ sym (has_more front x x.0 ∙ ap (λ b. has_ion front x.0 || b) (own x.0) ∙ or_true (has_ion front x.0)))
    | inr apart ↦
        get_or-set_other seen x.0 i true false (λ e. apart.1 (sym e)) ∙ are.each i small ∙ sym (has_more front x i ∙ ap (λ b. has_ion front i || b) apart.0 ∙ or_false (has_ion front i))
  ];
}
  where
    or_true : (b : Bool) → (b || true) ≡ true
    or_true true = refl
    or_true false = refl

    or_false : (b : Bool) → (b || false) ≡ b
    or_false true = refl
    or_false false = refl

-- whether an ion is astray, by its mark
pub stray_by_mark : (front : List Ion) (seen : List Bool) (qubits : ℕ) (x : Ion) → qubits ≤ 256 → AreSeen front seen → nat_lt x.0 qubits ≡ true → is_stray qubits front x ≡ get_or seen x.0 false
stray_by_mark front seen qubits x few are below =
    ap (λ b. not b || has_ion front x.0) below ∙ sym (are.each x.0 (omega (arith, ltb-true x.0 qubits below, few)))

pub none_seen : (seen : List Bool) → length seen ≡ 256 → ((i : ℕ) → i < 256 → get_or seen i false ≡ false) → AreSeen [] seen
none_seen seen long unset = record { long = long; each = unset }

pub mark_next : (earlier ions : List Ion) (i : ℕ) (d : Ion) (seen : List Bool) (at : ℕ) → i < length ions → at ≡ (get_or ions i d).0 → (get_or ions i d).0 < 256 → AreSeen (earlier ++ take i ions) seen → AreSeen (earlier ++ take (i + 1) ions) (set seen at true)
mark_next earlier ions i d seen at within is below are =
    subst (λ (j : ℕ). AreSeen (earlier ++ take (i + 1) ions) (set seen j true)) (sym is)
    (subst (λ (xs : List Ion). AreSeen xs (set seen (get_or ions i d).0 true)) (front_next earlier ions i d within) (seen_more (earlier ++ take i ions) seen (get_or ions i d) below are))

-- ---- the least that is missing

seen_is : (t : Bool) (b : Bool) → t ≡ b → t ≡ true → not b ≡ false
seen_is t b same yes_seen = ap not (sym same ∙ yes_seen)

pub missing_here : (ions : List Ion) (seen : List Bool) (qubits k at : ℕ) → qubits ≤ 256 → AreSeen ions seen → k < qubits → at ≡ k → not (get_or seen at false) ≡ true → ((i : ℕ) → i < k → get_or seen i false ≡ true)
    → Some (ion k) ≡ missing_ion qubits ions
missing_here ions seen qubits k at few are below is unseen before =
    sym (ap (option_map {U = Ion} (λ n. record { 0 = n })) (one_passes (λ i. not (has_ion ions i)) 0 qubits k (omega arith) (omega (arith, below))
    (λ i low high. seen_is (get_or seen i false) (has_ion ions i) (are.each i (omega (arith, few, below, high))) (before i high))
    (ap not (sym (are.each k (omega (arith, few, below)))) ∙ subst (λ (j : ℕ). not (get_or seen j false) ≡ true) is unseen)))

pub missing_none : (ions : List Ion) (seen : List Bool) (qubits k : ℕ) → qubits ≤ 256 → AreSeen ions seen → qubits ≤ k → ((i : ℕ) → i < k → get_or seen i false ≡ true) → None ≡ missing_ion qubits ions
missing_none ions seen qubits k few are past before =
    sym (ap (option_map {U = Ion} (λ n. record { 0 = n })) (none_passes (λ i. not (has_ion ions i)) 0 qubits
    (λ i low high. seen_is (get_or seen i false) (has_ion ions i) (are.each i (omega (arith, few, high))) (before i (omega (arith, past, high))))))

-- ---- chains above their capacities

pub get_or_any : {X : Type 0} (xs : List X) (i : ℕ) (d e : X) → i < length xs → get_or xs i d ≡ get_or xs i e
get_or_any xs i d e within = same_Some _ _ (sym (slice_get-get_or xs i d within) ∙ slice_get-get_or xs i e within)

pub overfull_here : (m : MachineData) (chains : List (List Ion)) (t : ℕ) → t < length chains → get_or m.capacities t 0 < length (get_or chains t []) → ((i : ℕ) → i < t → nat_lt (get_or m.capacities i 0) (length (get_or chains i [])) ≡ false)
    → Some (trap t) ≡ overfull_trap m chains
overfull_here m chains t within above before =
    sym (ap (option_map {U = TrapId} (λ n. record { 0 = n })) (one_passes (λ k. nat_lt (get_or m.capacities k 0) (length (get_or chains k []))) 0 (length chains) t (omega arith) (omega (arith, within)) (λ i low high. before i high)
    (lt-ltb (get_or m.capacities t 0) (length (get_or chains t [])) above)))

pub overfull_none : (m : MachineData) (chains : List (List Ion)) (t : ℕ) → length chains ≤ t → ((i : ℕ) → i < t → nat_lt (get_or m.capacities i 0) (length (get_or chains i [])) ≡ false) → None ≡ overfull_trap m chains
overfull_none m chains t past before =
    sym (ap (option_map {U = TrapId} (λ n. record { 0 = n })) (none_passes (λ k. nat_lt (get_or m.capacities k 0) (length (get_or chains k []))) 0 (length chains) (λ i low high. before i (omega (arith, past, high)))))

pub overfull_next : (m : MachineData) (chains : List (List Ion)) (t : ℕ) → length (get_or chains t []) ≤ get_or m.capacities t 0 → ((i : ℕ) → i < t → nat_lt (get_or m.capacities i 0) (length (get_or chains i [])) ≡ false)
    → (i : ℕ) → i < t + 1 → nat_lt (get_or m.capacities i 0) (length (get_or chains i [])) ≡ false
overfull_next m chains t fits before i below = elim (eqb_tells i t) [
  | inl same ↦ subst (λ (j : ℕ). nat_lt (get_or m.capacities j 0) (length (get_or chains j [])) ≡ false) (sym same.1) (from_le (get_or m.capacities t 0) (length (get_or chains t [])) fits)
  | inr apart ↦ before i (next_below i t below apart.1)
]
  where
    next_below : (i t : ℕ) → i < t + 1 → (i ≡ t → ⊥) → i < t
    next_below i t below apart = grind arith
