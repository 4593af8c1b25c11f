-- The test whether two places are one.
use Rattle.std.proofs.Common.{◌≡◌, ℕ, Bool, true, ◌&&◌, eqb, refl, ◌∙◌, ap}
use Rattle.std.proofs.lemmas.Bool.{and_parts, false≢true}
use Rattle.std.proofs.lemmas.Bool.Decides.{Decides-eqb}
use Rattle.qccd_base.specs.Names.{trap, junction}
use Rattle.qccd_base.specs.declared.names.End.{End}
use Rattle.qccd_base.specs.declared.names.End.TheVariants.{Left, Right}
use Rattle.qccd_machine.specs.declared.place.Place.{Place}
use Rattle.qccd_machine.specs.declared.place.Place.TheVariants.{TrapEnd, Junction}
use Rattle.qccd_machine.specs.Machine.{same_end, same_place}

same_end-true : (e f : End) → same_end e f ≡ true → e ≡ f
same_end-true Left Left h = refl
same_end-true Left Right h = absurd (false≢true h)
same_end-true Right Left h = absurd (false≢true h)
same_end-true Right Right h = refl

same_end-refl : (e : End) → same_end e e ≡ true
same_end-refl Left = refl
same_end-refl Right = refl

pub same_place-true : (p q : Place) → same_place p q ≡ true → p ≡ q
same_place-true (TrapEnd t e) (TrapEnd u f) h =
    let parts : (eqb t.0 u.0 ≡ true) × (same_end e f ≡ true) = and_parts (eqb t.0 u.0) (same_end e f) h in
    ap (λ (n : ℕ). TrapEnd (trap n) e) ((Decides-eqb t.0 u.0).0 parts.0) ∙ ap (TrapEnd u) (same_end-true e f parts.1)
same_place-true (TrapEnd t e) (Junction j) h = absurd (false≢true h)
same_place-true (Junction j) (TrapEnd t e) h = absurd (false≢true h)
same_place-true (Junction i) (Junction j) h = ap (λ (n : ℕ). Junction (junction n)) ((Decides-eqb i.0 j.0).0 h)

pub same_place-refl : (p : Place) → same_place p p ≡ true
same_place-refl (TrapEnd t e) = ap (λ (b : Bool). b && same_end e e) ((Decides-eqb t.0 t.0).1 refl) ∙ same_end-refl e
same_place-refl (Junction j) = (Decides-eqb j.0 j.0).1 refl
