-- The measures of steps and of definitions, one more at a time.
use Rattle.std.proofs.Common.{◌≡◌, ℕ, zero, suc, ◌+◌, ◌<◌, ◌≤◌, List, [], ◌∷◌, ◌++◌, length, map, take, get_or, All, Option, None, Some, refl, sym, ap, ap₂, subst, ◌∙◌, arith, max}
use Rattle.std.specs.List.{AllByRecursion}
use Rattle.std.proofs.lemmas.List.Elements.{All-from_recursion}
use Rattle.std.proofs.lemmas.List.Sums.{sum_by-cons}
use Rattle.std.proofs.lemmas.List.{get_or-map, length-map, map-append, map_more}
use Rattle.qccd_base.specs.Greatest.{greatest}
use Rattle.gate_defs.specs.declared.kinds.BodyStep.{BodyStep}
use Rattle.gate_defs.specs.declared.kinds.Callee.{Callee}
use Rattle.gate_defs.specs.declared.kinds.Callee.TheVariants.{Plain, Ccx, Cswap, Defined, Barrier}
use Rattle.gate_defs.specs.declared.kinds.Def.{Def}
use Rattle.gate_defs.specs.declared.measures.Measures.{Measures}
use Rattle.gate_defs.specs.Kept.{AreMeasures, IsThere, counts_in, depths_in, weights_in}
use Rattle.gate_defs.specs.Meaning.{each_from, steps_in}
use Rattle.gate_defs.specs.Measures.{count, count_over, counts, depth, depth_over, depths, size_all, size_of, weight, weight_over, weights}
use Rattle.gate_defs.specs.Rule.{AreDefs, none, next, IsBody, IsCalled, IsStep}
use Rattle.gate_defs.proofs.EachFrom.{long}
use Rattle.qccd_circuit.proofs.MarkLemmas.{greatest-append}

-- ---- a value for each in turn, with one more

pub each_more : {A B : Type 0} (f : List A → B → A) (done : List A) (ds : List B) (d : B)
    → each_from f done (ds ++ d ∷ []) ≡ each_from f done ds ++ f (each_from f done ds) d ∷ []
each_more f done [] d = refl
each_more f done (e ∷ ds) d = each_more f (done ++ f done e ∷ []) ds d

one_more :
    {A : Type 0} (f : List ℕ → Def → ℕ) (g : A → ℕ) (defs : List Def) (all : List A) (d : Def) (m : A) → map g all ≡ each_from f [] defs
    → g m ≡ f (map g all) d → map g (all ++ m ∷ []) ≡ each_from f [] (defs ++ d ∷ [])
one_more f g defs all d m are is =
    map-append g all (m ∷ [])
    ∙ ap₂ (λ (l : List ℕ) (n : ℕ). l ++ n ∷ []) are (is ∙ ap (λ (l : List ℕ). f l d) are)
    ∙ sym (each_more f [] defs d)

pub measures_more :
    (defs : List Def) (all : List Measures) (d : Def) (m : Measures) → AreMeasures defs all → m.depth ≡ depth_over (depths_in all) d
    → m.weight ≡ weight_over (weights_in all) d → m.items ≡ count_over (counts_in all) d → AreMeasures (defs ++ d ∷ []) (all ++ m ∷ [])
measures_more defs all d m are depth weight items =
    record {
      depths = one_more depth_over (λ (x : Measures). x.depth) defs all d m are.depths depth;
      weights = one_more weight_over (λ (x : Measures). x.weight) defs all d m are.weights weight;
      counts = one_more count_over (λ (x : Measures). x.items) defs all d m are.counts items;
    }

-- ---- the greatest of a list, with one more

pub greatest_next : {X : Type 0} (f : X → ℕ) (xs : List X) (i : ℕ) (d : X) → i < length xs → greatest (map f (take (i + 1) xs)) ≡ max (f (get_or xs i d)) (greatest (map f (take i xs)))
greatest_next f xs i d within = ap greatest (map_more f xs i d within) ∙ greatest-append (map f (take i xs)) (f (get_or xs i d) ∷ []) ∙ omega arith

-- ---- as many measures as definitions

pub as_many : (defs : List Def) (all : List Measures) → AreMeasures defs all → length all ≡ length defs
as_many defs all are =
    let mapped : length (depths_in all) ≡ length (depths defs) = ap length are.depths in
    omega (arith, mapped, long depth_over [] defs, length-map all (λ (m : Measures). m.depth))

-- the callees of a body are there
called_there : (defs : List Def) (c : Callee) (a q : ℕ) → IsCalled defs c a q → IsThere (length defs) c
called_there defs (Plain name) a q is = tt
called_there defs Ccx a q is = tt
called_there defs Cswap a q is = tt
called_there defs (Defined id) a q is = is.0
called_there defs Barrier a q is = tt

pub steps_there : (defs : List Def) (n : ℕ) (d : Def) (body : Option (List BodyStep)) → IsBody defs d body → n ≡ length defs → All (λ s. IsThere n s.callee) (steps_in body)
steps_there defs n d body is same =
    subst (λ (k : ℕ). All (λ s. IsThere k s.callee) (steps_in body)) (sym same)
    (All-from_recursion (λ (s : BodyStep). IsThere (length defs) s.callee) (steps_in body) (in_body body is))
  where
    each : (steps : List BodyStep) → AllByRecursion (IsStep defs d.params d.qubits) steps → AllByRecursion (λ (s : BodyStep). IsThere (length defs) s.callee) steps
    each [] all = tt
    each (s ∷ steps) all = (called_there defs s.callee _ _ all.0.called, each steps all.1)

    in_body : (b : Option (List BodyStep)) → IsBody defs d b → AllByRecursion (λ (s : BodyStep). IsThere (length defs) s.callee) (steps_in b)
    in_body None is = tt
    in_body (Some steps) is = each steps is

-- ---- an application is no more items than it weighs

-- each number of a list is at most that of another at its place
abbrev pub AreAtMost : List ℕ → List ℕ → Type 0
AreAtMost [] [] = Unit {0}
AreAtMost [] (b ∷ ys) = ⊥
AreAtMost (a ∷ xs) [] = ⊥
AreAtMost (a ∷ xs) (b ∷ ys) = (a ≤ b) × AreAtMost xs ys

more_at_most : (xs ys : List ℕ) (a b : ℕ) → AreAtMost xs ys → a ≤ b → AreAtMost (xs ++ a ∷ []) (ys ++ b ∷ [])
more_at_most [] [] a b all most = (most, tt)
more_at_most [] (b' ∷ ys) a b all most = absurd all
more_at_most (a' ∷ xs) [] a b all most = absurd all
more_at_most (a' ∷ xs) (b' ∷ ys) a b all most = (all.0, more_at_most xs ys a b all.1 most)

at_most_at : (xs ys : List ℕ) (id : ℕ) → AreAtMost xs ys → get_or xs id 0 ≤ get_or ys id 0
at_most_at [] [] id all = omega arith
at_most_at [] (b' ∷ ys) id all = absurd all
at_most_at (a' ∷ xs) [] id all = absurd all
at_most_at (a' ∷ xs) (b' ∷ ys) zero all = all.0
at_most_at (a' ∷ xs) (b' ∷ ys) (suc id) all = at_most_at xs ys id all.1

size_at_most : (xs ys : List ℕ) (c : Callee) → AreAtMost xs ys → size_of xs c ≤ size_of ys c
size_at_most xs ys (Plain name) all = omega arith
size_at_most xs ys Ccx all = omega arith
size_at_most xs ys Cswap all = omega arith
size_at_most xs ys (Defined id) all = at_most_at xs ys id all
size_at_most xs ys Barrier all = omega arith

pub sizes_at_most : (xs ys : List ℕ) (steps : List BodyStep) → AreAtMost xs ys → size_all xs steps ≤ size_all ys steps
sizes_at_most xs ys [] all = omega arith
sizes_at_most xs ys (s ∷ steps) all =
    omega (
      arith,
      sum_by-cons (λ (t : BodyStep). size_of xs t.callee) s steps,
      sum_by-cons (λ (t : BodyStep). size_of ys t.callee) s steps,
      size_at_most xs ys s.callee all,
      sizes_at_most xs ys steps all,
    )

over_at_most : (cs ws : List ℕ) (d : Def) → AreAtMost cs ws → count_over cs d ≤ weight_over ws d
over_at_most cs ws d all = in_body d.body
  where
    in_body : (b : Option (List BodyStep)) → count_over cs (record d { body = b }) ≤ weight_over ws (record d { body = b })
    in_body None = omega arith
    in_body (Some steps) = omega (arith, sizes_at_most cs ws steps all)

each_at_most : (cs ws : List ℕ) (ds : List Def) → AreAtMost cs ws → AreAtMost (each_from count_over cs ds) (each_from weight_over ws ds)
each_at_most cs ws [] all = all
each_at_most cs ws (d ∷ ds) all =
    each_at_most (cs ++ count_over cs d ∷ []) (ws ++ weight_over ws d ∷ []) ds (more_at_most cs ws (count_over cs d) (weight_over ws d) all (over_at_most cs ws d all))

pub count_at_most : (defs : List Def) (id : ℕ) → count defs id ≤ weight defs id
count_at_most defs id = at_most_at (counts defs) (weights defs) id (each_at_most [] [] defs tt)

pub next_at_most : (defs : List Def) (d : Def) → count_over (counts defs) d ≤ weight_over (weights defs) d
next_at_most defs d = over_at_most (counts defs) (weights defs) d (each_at_most [] [] defs tt)

-- ---- none is past its limit

bounded_more : (k : ℕ) (ns : List ℕ) (n : ℕ) → AllByRecursion (λ (m : ℕ). m ≤ k) ns → n ≤ k → AllByRecursion (λ (m : ℕ). m ≤ k) (ns ++ n ∷ [])
bounded_more k [] n all few = (few, tt)
bounded_more k (m ∷ ns) n all few = (all.0, bounded_more k ns n all.1 few)

bounded_at : (k : ℕ) (ns : List ℕ) (id : ℕ) → AllByRecursion (λ (m : ℕ). m ≤ k) ns → get_or ns id 0 ≤ k
bounded_at k [] id all = omega arith
bounded_at k (n ∷ ns) zero all = all.0
bounded_at k (n ∷ ns) (suc id) all = bounded_at k ns id all.1

all_deep : {defs : List Def} → AreDefs defs → AllByRecursion (λ (m : ℕ). m ≤ 64) (depths defs)
all_deep none = tt
all_deep (next {defs = defs} d are rule) =
    subst (AllByRecursion (λ (m : ℕ). m ≤ 64)) (sym (each_more depth_over [] defs d)) (bounded_more 64 (depths defs) (depth_over (depths defs) d) (all_deep are) rule.deep)

pub depth_most : {defs : List Def} → AreDefs defs → (id : ℕ) → depth defs id ≤ 64
depth_most {defs = defs} are id = bounded_at 64 (depths defs) id (all_deep are)

all_heavy : {defs : List Def} → AreDefs defs → AllByRecursion (λ (m : ℕ). m ≤ 65536) (weights defs)
all_heavy none = tt
all_heavy (next {defs = defs} d are rule) =
    subst (AllByRecursion (λ (m : ℕ). m ≤ 65536)) (sym (each_more weight_over [] defs d)) (bounded_more 65536 (weights defs) (weight_over (weights defs) d) (all_heavy are) rule.heavy)

pub weight_most : {defs : List Def} → AreDefs defs → (id : ℕ) → weight defs id ≤ 65536
weight_most {defs = defs} are id = bounded_at 65536 (weights defs) id (all_heavy are)

-- ---- what is kept of one of them

pub kept_at : {A : Type 0} (g : A → ℕ) (all : List A) (values : List ℕ) (id : ℕ) (m : A) → map g all ≡ values → m ≡ get_or all id m → id < length all → g m ≡ get_or values id 0
kept_at {A = A} g all values id m are is there =
    ap g is ∙ sym (get_or-map g all id m 0 there) ∙ ap (λ (l : List ℕ). get_or l id 0) are
