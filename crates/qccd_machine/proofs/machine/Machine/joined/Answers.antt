use Rattle.std.proofs.Common.{◌≡◌, ◌∙◌, ℕ, List, ap, sym, subst, position, Option, Some}
use Rattle.qccd_machine.specs.Machine.{MachineData, IsValid}
use Rattle.qccd_machine.specs.declared.place.Place.{Place}
use Rattle.qccd_machine.specs.declared.place.Place.TheVariants.{TrapEnd}
use Rattle.qccd_machine.proofs.Joined.{touches, joined_first, joined_none, joined-unique}
use Rattle.qccd_machine.proofs.machine.Machine.joined.Goals as goal

-- what was found among the fields was found in the machine
in_machine : (p : Place) (fields m : MachineData) (segments : List (Place × Place)) (found answer : Option ℕ) → fields ≡ m → segments ≡ fields.segments
    → found ≡ position (touches p) segments → found ≡ answer → position (touches p) m.segments ≡ answer
in_machine p fields m segments found answer view items first was =
    ap (position (touches p)) (sym (ap (λ (d : MachineData). d.segments) view) ∙ sym items) ∙ sym first ∙ was

pub returns-in_err-number-clause-none : goal.returns-in_err-number-clause-none
returns-in_err-number-clause-none c =
    let none = in_machine (TrapEnd c.args.t c.args.e) _ _ _ _ _ c.self.view_is c.as_slice.ensures.value c.first_at.ensures c.in_err-number.was in
    rw c.from_residual.ensures (joined_none _ (TrapEnd c.args.t c.args.e) none)

pub returns-in_err-number-clause-only : goal.returns-in_err-number-clause-only
returns-in_err-number-clause-only c =
    let none = in_machine (TrapEnd c.args.t c.args.e) _ _ _ _ _ c.self.view_is c.as_slice.ensures.value c.first_at.ensures c.in_err-number.was in
    λ s joined. absurd (joined_none _ (TrapEnd c.args.t c.args.e) none s.0 joined)

pub returns-clause-some : goal.returns-clause-some
returns-clause-some c =
    joined_first _ (TrapEnd c.args.t c.args.e) _ (in_machine (TrapEnd c.args.t c.args.e) _ _ _ _ _ c.self.view_is c.as_slice.ensures.value c.first_at.ensures c.in_ok-number.was)

pub returns-clause-only : goal.returns-clause-only
returns-clause-only c =
    let found = in_machine (TrapEnd c.args.t c.args.e) _ _ _ _ _ c.self.view_is c.as_slice.ensures.value c.first_at.ensures c.in_ok-number.was in
    let valid = subst IsValid c.self.view_is c.self.invariant in
    λ s joined. ap (λ n. Some (record { 0 = n })) (joined-unique _ (TrapEnd c.args.t c.args.e) _ s.0 (valid.ends_free c.args.t c.args.e) (joined_first _ (TrapEnd c.args.t c.args.e) _ found) joined)
