-- A segment that is gone along: it is there, and so are both its ends.
use Rattle.std.proofs.Common.{◌≡◌, ℕ, ◌<◌, ◌≤◌, true, length, subst, sym, ◌∙◌, ap, Some, None, inl, inr, arith}
use Rattle.std.specs.Prelude.{slice_get}
use Rattle.std.proofs.lemmas.Bool.{cases_Bool}
use Rattle.std.proofs.lemmas.Option.{slice_get_cases, same_Some, none-some}
use Rattle.qccd_base.specs.Resource.{same_res}
use Rattle.qccd_base.specs.declared.names.Res.{Res}
use Rattle.qccd_machine.specs.declared.place.Place.{Place}
use Rattle.qccd_machine.specs.declared.place.Place.TheVariants.{TrapEnd, Junction}
use Rattle.qccd_machine.specs.Machine.{MachineData, IsValid, IsThere, site}
use Rattle.router.specs.Wiring.{WiringData, wiring_of, IsWiring}
use Rattle.router.specs.Paths.{turned, way_along}
use Rattle.router.specs.Steps.{HasCount}

-- the place is at a trap or a junction that is there
abbrev pub IsPart : WiringData → Place → Type 0
IsPart w (TrapEnd t e) = t.0 < w.traps
IsPart w (Junction j) = j.0 < w.junctions

-- what holds of each segment of a valid machine
pub record Sound (w : WiringData) (ends : Place × Place) : Type 0 where
  pub near_there : IsPart w ends.0
  pub far_there : IsPart w ends.1
  pub two_sites : site ends.0 ≡ site ends.1 → ⊥

is_part : (m : MachineData) (p : Place) → IsThere m p → IsPart (wiring_of m) p
is_part m (TrapEnd t e) there = there
is_part m (Junction j) there = there

sound_in : (m : MachineData) (g : ℕ) (ends : Place × Place) → IsValid m → slice_get m.segments g ≡ Some ends → Sound (wiring_of m) ends
sound_in m g ends valid is = elim (slice_get_cases m.segments g).1 [
  | inl (own, within, own_is, read) ↦
      let same : own ≡ ends = same_Some own ends (sym own_is ∙ is) in
      subst (Sound (wiring_of m)) same (record {
        near_there = is_part m own.0 (subst (λ (x : Place × Place). IsThere m x.0 × IsThere m x.1) read (valid.ends_there g own within)).0;
        far_there = is_part m own.1 (subst (λ (x : Place × Place). IsThere m x.0 × IsThere m x.1) read (valid.ends_there g own within)).1;
        two_sites = subst (λ (x : Place × Place). site x.0 ≡ site x.1 → ⊥) read (valid.two_sites g own within);
      })
  | inr (past, none) ↦ absurd (none-some ends (sym none ∙ is))
]

pub sound : (w : WiringData) (g : ℕ) (ends : Place × Place) → IsWiring w → slice_get w.segments g ≡ Some ends → Sound w ends
sound w g ends wiring is =
    subst (λ (x : WiringData). slice_get x.segments g ≡ Some ends → Sound x ends) wiring.is (sound_in wiring.machine g ends wiring.valid) is

-- a segment as it is gone along: it is there, and so are both its ends
pub record Goes (w : WiringData) (from : Res) (g : ℕ) (ends : Place × Place) : Type 0 where
  pub there : g < length w.segments
  pub near_there : IsPart w ends.0
  pub far_there : IsPart w ends.1
  pub from_near : same_res (site ends.0) from ≡ true

goes_by : (w : WiringData) (from : Res) (g : ℕ) (own ends : Place × Place) → g < length w.segments → Sound w own → turned from (Some own) ≡ Some ends → Goes w from g ends
goes_by w from g own ends within all turns = elim (cases_Bool (same_res (site own.0) from)) [
  | inl forth ↦
      let same : own ≡ ends = same_Some own ends (rw forth at turns) in
      subst (Goes w from g) same (record { there = within; near_there = all.near_there; far_there = all.far_there; from_near = forth })
  | inr not_forth ↦ elim (cases_Bool (same_res (site own.1) from)) [
    | inl back ↦
        let same : (own.1, own.0) ≡ ends = same_Some (own.1, own.0) ends (rw (not_forth, back) at turns) in
        subst (Goes w from g) same (record { there = within; near_there = all.far_there; far_there = all.near_there; from_near = back })
    | inr not_back ↦ absurd (let bad : None ≡ Some ends = rw (not_forth, not_back) at turns in cc)
  ]
]

pub goes : (w : WiringData) (from : Res) (g : ℕ) (ends : Place × Place) → IsWiring w → way_along w from g ≡ Some ends → Goes w from g ends
goes w from g ends wiring way = elim (slice_get_cases w.segments g).1 [
  | inl (own, within, is, read) ↦ goes_by w from g own ends within (sound w g own wiring is) (ap (turned from) (sym is) ∙ way)
  | inr (past, is) ↦ absurd (let bad : None ≡ Some ends = rw is at way in cc)
]

-- a segment that can be gone along is there
pub way_there : (w : WiringData) (from : Res) (g : ℕ) (ends : Place × Place) → way_along w from g ≡ Some ends → g < length w.segments
way_there w from g ends way = elim (slice_get_cases w.segments g).1 [
  | inl (own, within, is, read) ↦ within
  | inr (past, is) ↦ absurd (let bad : None ≡ Some ends = rw is at way in cc)
]

-- there are counts for all parts of a machine
pub few_parts : (w : WiringData) → IsWiring w → (w.traps ≤ 32) × (w.junctions ≤ 64) × (length w.segments ≤ 128)
few_parts w wiring = subst (λ (x : WiringData). (x.traps ≤ 32) × (x.junctions ≤ 64) × (length x.segments ≤ 128)) wiring.is (wiring.valid.few_traps, wiring.valid.few_junctions, wiring.valid.few_segments)

pub counted : (w : WiringData) (p : Place) → IsWiring w → IsPart w p → HasCount p
counted w (TrapEnd t e) wiring there = omega (arith, there, (few_parts w wiring).0)
counted w (Junction j) wiring there = omega (arith, there, (few_parts w wiring).1)
