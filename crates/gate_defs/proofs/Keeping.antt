-- What is kept beside the definitions, with one more.
use Rattle.std.proofs.Common.{◌≡◌, ℕ, suc, ◌+◌, ◌<◌, get_or, Bool, true, false, cond, List, [], ◌∷◌, ◌++◌, length, Option, None, Some, refl, sym, ap, subst, ◌∙◌, arith}
use Rattle.std.specs.Str.{bytes_eq}
use Rattle.std.proofs.lemmas.Bool.{cond-false, false≢true}
use Rattle.std.proofs.lemmas.Option.{none-some}
use Rattle.std.proofs.lemmas.Slice.Eq.{bytes_eq-Decides}
use Rattle.gate_defs.specs.declared.kinds.Def.{Def}
use Rattle.gate_defs.specs.declared.measures.Measures.{Measures}
use Rattle.gate_defs.specs.declared.numbers.Numbers.{Numbers}
use Rattle.gate_defs.specs.Kept.{AreMeasures, AreMeasuresOf, IsKept, counts_in, depths_in, number_of, weights_in, with_number}
use Rattle.gate_defs.specs.Measures.{count, count_over, counts, depth, depth_over, depths, weight, weight_over, weights}
use Rattle.gate_defs.specs.Rule.{AreDefs, none, next, IsNext, found, found_from}
use Rattle.gate_defs.proofs.Measuring.{as_many, count_at_most, depth_most, kept_at, measures_more, weight_most}

found_more : (n : ℕ) (ds : List Def) (d : Def) (name : List ℕ) → found_from n ds d.name ≡ None
    → found_from n (ds ++ d ∷ []) name ≡ cond (bytes_eq name d.name) (Some (n + length ds)) (found_from n ds name)
found_more n [] d name new = by_name (bytes_eq name d.name)
  where
    by_name : (b : Bool) → elim b as (λ _. Option ℕ) [ true ↦ Some n | false ↦ None ] ≡ cond b (Some (n + 0)) None
    by_name true = ap (λ (k : ℕ). Some k) (omega arith)
    by_name false = refl
found_more n (e ∷ ds) d name new =
    by_names (bytes_eq name e.name) (bytes_eq d.name e.name) refl refl new (λ later. found_more (suc n) ds d name later)
  where
    both : (here is : Bool) → bytes_eq name e.name ≡ true → bytes_eq d.name e.name ≡ false → bytes_eq name d.name ≡ is → is ≡ false
    both here true here_is apart is = absurd (false≢true (sym apart ∙ (bytes_eq-Decides d.name e.name).1 (sym ((bytes_eq-Decides name d.name).0 is) ∙ (bytes_eq-Decides name e.name).0 here_is)))
    both here false here_is apart is = refl

    by_names :
        (here other : Bool) → bytes_eq name e.name ≡ here → bytes_eq d.name e.name ≡ other
        → elim other as (λ _. Option ℕ) [ true ↦ Some n | false ↦ found_from (suc n) ds d.name ] ≡ None
        → (found_from (suc n) ds d.name ≡ None → found_from (suc n) (ds ++ d ∷ []) name ≡ cond (bytes_eq name d.name) (Some (suc n + length ds)) (found_from (suc n) ds name))
        → elim here as (λ _. Option ℕ) [ true ↦ Some n | false ↦ found_from (suc n) (ds ++ d ∷ []) name ]
        ≡ cond (bytes_eq name d.name) (Some (n + suc (length ds))) (elim here as (λ _. Option ℕ) [ true ↦ Some n | false ↦ found_from (suc n) ds name ])
    by_names here true here_is other_is is later = absurd (none-some n (sym is))
    by_names true false here_is other_is is later = sym (cond-false (bytes_eq name d.name) _ _ (both true (bytes_eq name d.name) here_is other_is refl))
    by_names false false here_is other_is is later =
        later is ∙ ap (λ (k : ℕ). cond (bytes_eq name d.name) (Some k) (found_from (suc n) ds name)) (omega arith)

found_next : (ds : List Def) (d : Def) (name : List ℕ) → found ds d.name ≡ None → found (ds ++ d ∷ []) name ≡ cond (bytes_eq name d.name) (Some (length ds)) (found ds name)
found_next ds d name new =
    found_more 0 ds d name new ∙ ap (λ (n : ℕ). cond (bytes_eq name d.name) (Some n) (found ds name)) (omega arith)

-- nothing changed
pub kept_same :
    (defs ds : List Def) (all ms : List Measures) (numbers ns : Numbers) → IsKept defs all numbers → ds ≡ defs → ms ≡ all → number_of ns ≡ number_of numbers
    → IsKept ds ms ns
kept_same defs ds all ms numbers ns kept defs_are all_are numbers_are =
    record {
      are_defs = subst AreDefs (sym defs_are) kept.are_defs;
      are_measures = subst (λ (l : List Def). AreMeasures l ms) (sym defs_are) (subst (AreMeasures defs) (sym all_are) kept.are_measures);
      are_numbers =
          λ name. ap (λ (f : List ℕ → Option ℕ). f name) numbers_are ∙ kept.are_numbers name ∙ ap (λ (l : List Def). found l name) (sym defs_are);
    }

-- one definition more
pub kept_more :
    (defs ds : List Def) (all ms : List Measures) (numbers ns : Numbers) (d : Def) (m : Measures) → IsKept defs all numbers → IsNext defs d
    → ds ≡ defs ++ d ∷ [] → ms ≡ all ++ m ∷ [] → m.depth ≡ depth_over (depths_in all) d → m.weight ≡ weight_over (weights_in all) d
    → m.items ≡ count_over (counts_in all) d → number_of ns ≡ with_number d.name (length defs) (number_of numbers) → IsKept ds ms ns
kept_more defs ds all ms numbers ns d m kept rule defs_are all_are depth weight items numbers_are =
    let more : AreMeasures (defs ++ d ∷ []) (all ++ m ∷ []) = measures_more defs all d m kept.are_measures depth weight items in
    record {
      are_defs = subst AreDefs (sym defs_are) (next d kept.are_defs rule);
      are_measures = subst (λ (l : List Def). AreMeasures l ms) (sym defs_are) (subst (AreMeasures (defs ++ d ∷ [])) (sym all_are) more);
      are_numbers =
          λ name. ap (λ (f : List ℕ → Option ℕ). f name) numbers_are
          ∙ ap (λ (o : Option ℕ). cond (bytes_eq name d.name) (Some (length defs)) o) (kept.are_numbers name)
          ∙ sym (found_next defs d name rule.new_name)
          ∙ ap (λ (l : List Def). found l name) (sym defs_are);
    }

-- none
pub kept_none : (ds : List Def) (ms : List Measures) (ns : Numbers) → ds ≡ [] → ms ≡ [] → number_of ns ≡ (λ _. None) → IsKept ds ms ns
kept_none ds ms ns defs_are all_are numbers_are =
    record {
      are_defs = subst AreDefs (sym defs_are) none;
      are_measures =
          subst (λ (l : List Def). AreMeasures l ms) (sym defs_are) (subst (AreMeasures []) (sym all_are) (record { depths = refl; weights = refl; counts = refl }));
      are_numbers = λ name. ap (λ (f : List ℕ → Option ℕ). f name) numbers_are ∙ ap (λ (l : List Def). found l name) (sym defs_are);
    }

-- what is kept of one
pub measured_at :
    (defs : List Def) (all : List Measures) (numbers : Numbers) (id : ℕ) (m : Measures) → IsKept defs all numbers → m ≡ get_or all id m → id < length defs
    → AreMeasuresOf defs id m
measured_at defs all numbers id m kept is below =
    let are = kept.are_measures in
    let there : id < length all = omega (arith, below, as_many defs all are) in
    let is_depth : m.depth ≡ depth defs id = kept_at (λ (x : Measures). x.depth) all (depths defs) id m are.depths is there in
    let is_weight : m.weight ≡ weight defs id = kept_at (λ (x : Measures). x.weight) all (weights defs) id m are.weights is there in
    let is_count : m.items ≡ count defs id = kept_at (λ (x : Measures). x.items) all (counts defs) id m are.counts is there in
    record {
      is_depth = is_depth;
      is_weight = is_weight;
      is_count = is_count;
      deep = omega (arith, is_depth, depth_most kept.are_defs id);
      heavy = omega (arith, is_weight, weight_most kept.are_defs id);
      many = omega (arith, is_count, count_at_most defs id, weight_most kept.are_defs id);
    }
