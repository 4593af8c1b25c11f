-- A gate is found among those whose names are of the class of its name.
use Rattle.std.proofs.Common.{◌≡◌, ℕ, Bool, true, false, cond, eqb, List, [], ◌∷◌, Option, Some, refl, sym, ap, ◌∙◌}
use Rattle.std.specs.List.{filter}
use Rattle.std.specs.Str.{bytes_eq}
use Rattle.std.proofs.lemmas.Bool.{eq-eqb, false≢true}
use Rattle.std.proofs.lemmas.Slice.Eq.{bytes_eq-Decides}
use Rattle.gate_defs.specs.Gates.{Gate, gate_in}

pub in_class :
    (class : List ℕ → ℕ) (gs : List Gate) (name : List ℕ) → gate_in gs name ≡ gate_in (filter (λ g. eqb (class g.name) (class name)) gs) name
in_class class [] name = refl
in_class class (g ∷ gs) name = by_name (bytes_eq name g.name) (eqb (class g.name) (class name)) refl refl (in_class class gs name)
  where
    among : List Gate
    among = filter (λ h. eqb (class h.name) (class name)) gs

    by_name :
        (here same : Bool) → bytes_eq name g.name ≡ here → eqb (class g.name) (class name) ≡ same → gate_in gs name ≡ gate_in among name
        → elim here as (λ _. Option Gate) [ true ↦ Some g | false ↦ gate_in gs name ] ≡ gate_in (cond same (g ∷ among) among) name
    by_name true true is also more = ap (λ (b : Bool). elim b as (λ _. Option Gate) [ true ↦ Some g | false ↦ gate_in among name ]) (sym is)
    by_name true false is also more = absurd (false≢true (sym also ∙ eq-eqb _ _ (ap class (sym ((bytes_eq-Decides name g.name).0 is)))))
    by_name false true is also more = more ∙ ap (λ (b : Bool). elim b as (λ _. Option Gate) [ true ↦ Some g | false ↦ gate_in among name ]) (sym is)
    by_name false false is also more = more
