-- What is known to hold or not to hold, and what is built from it.
use Rattle.std.proofs.Common.{◌≡◌, ℕ, zero, suc, ◌<◌, ◌⊎◌, inl, inr, List, Some, sym, ◌∙◌, ap, subst, arith}
use Rattle.std.specs.Prelude.{slice_get}
use Rattle.std.proofs.lemmas.Bool.{cases_Bool, cases_lt, false≢true}
use Rattle.std.proofs.lemmas.Option.{none-some, same_Some, slice_get_cases}
use Rattle.qccd_base.specs.Resource.{same_res}
use Rattle.qccd_base.proofs.Resources.{same_res-own, same_res-true}
use Rattle.qccd_base.specs.declared.names.Res.{Res}
use Rattle.qccd_machine.specs.declared.place.Place.{Place}
use Rattle.qccd_machine.specs.declared.place.Place.TheVariants.{TrapEnd, Junction}
use Rattle.qccd_machine.specs.Machine.{same_place}
use Rattle.qccd_machine.specs.Fault.{TakesEnd}
use Rattle.qccd_machine.proofs.SamePlace.{same_place-refl, same_place-true}

-- it holds, or it doesn't
abbrev pub Decided : Type 0 → Type 0
Decided P = P ⊎ (P → ⊥)

pub decided_both : (P Q : Type 0) → Decided P → Decided Q → Decided (P × Q)
decided_both P Q first second = elim first [
  | inl p ↦ elim second [ inl q ↦ inl (p, q) | inr missing ↦ inr (λ both. missing both.1) ]
  | inr missing ↦ inr (λ both. missing both.0)
]

pub decided_one : (P Q : Type 0) → Decided P → Decided Q → Decided (P ⊎ Q)
decided_one P Q first second = elim first [
  | inl p ↦ inl (inl p)
  | inr p_missing ↦ elim second [ inl q ↦ inl (inr q) | inr q_missing ↦ inr (λ one. elim one [ inl p ↦ p_missing p | inr q ↦ q_missing q ]) ]
]

pub decided_less : (a b : ℕ) → Decided (a < b)
decided_less a b = elim (cases_lt a b) [ inl less ↦ inl less | inr more ↦ inr (λ less. omega arith) ]

-- of some number below n
pub decided_below : (P : ℕ → Type 0) → ((k : ℕ) → Decided (P k)) → (n : ℕ) → Decided ((k : ℕ) × (k < n) × P k)
decided_below P each zero = inr (λ (k, early, p). omega arith)
decided_below P each (suc n) = elim (each n) [
  | inl last ↦ inl (n, omega arith, last)
  | inr not_last ↦ elim (decided_below P each n) [
    | inl (k, early, p) ↦ inl (k, omega arith, p)
    | inr none ↦ inr (λ (k, early, p). elim (cases_lt k n) [ inl before ↦ none (k, before, p) | inr after ↦ not_last (subst P (omega arith) p) ])
  ]
]

-- of what stands at a place of a list, if there is something
pub decided_at : {A : Type 0} (xs : List A) (k : ℕ) (P : A → Type 0) → ((x : A) → Decided (P x)) → Decided ((x : A) × (slice_get xs k ≡ Some x) × P x)
decided_at xs k P each = elim (slice_get_cases xs k).1 [
  | inl (x, within, is, read) ↦ elim (each x) [
    | inl p ↦ inl (x, is, p)
    | inr missing ↦ inr (λ (y, found, p). missing (subst P (same_Some y x (sym found ∙ is)) p))
  ]
  | inr (past, is) ↦ inr (λ (y, found, p). none-some y (sym is ∙ found))
]

-- ---- resources

pub decided_same : (a b : Res) → Decided (a ≡ b)
decided_same a b = elim (cases_Bool (same_res a b)) [
  | inl h ↦ inl (same_res-true a b h)
  | inr h ↦ inr (λ same. false≢true (sym h ∙ ap (same_res a) (sym same) ∙ same_res-own a))
]

-- ---- ends of segments

decided_place : (p q : Place) → Decided (p ≡ q)
decided_place p q = elim (cases_Bool (same_place p q)) [
  | inl h ↦ inl (same_place-true p q h)
  | inr h ↦ inr (λ same. false≢true (sym h ∙ ap (same_place p) (sym same) ∙ same_place-refl p))
]

pub decided_takes : (ends : Place × Place) (place : Place) → Decided (TakesEnd ends place)
decided_takes ends (TrapEnd t end) = decided_one (ends.0 ≡ TrapEnd t end) (ends.1 ≡ TrapEnd t end) (decided_place ends.0 (TrapEnd t end)) (decided_place ends.1 (TrapEnd t end))
decided_takes ends (Junction j) = inr (λ taken. taken)
