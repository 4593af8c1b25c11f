use Rattle.std.proofs.Common.{ℕ, List, [], ◌∷◌, refl, inl, inr, ap, arith}
use Rattle.qccd_base.specs.declared.names.Res.TheVariants as res
use Rattle.qccd_base.specs.Resource.{number_of}
use Rattle.qccd_machine.specs.Faulty.{two_traps}
use Rattle.qccd_machine.specs.Preset.{at_junction, at_left, at_right}
use Rattle.qccd_machine.specs.Machine.{Leads, first_trap}
use Rattle.qccd_machine.proofs.worked.paths.Goals as goal

pub returns-clause-over : goal.returns-clause-over
returns-clause-over c = (
  0 ∷ 1 ∷ [],
  (res.Junc (record { 0 = 0 }), ((at_right 0, at_junction 0), refl, inl (refl, refl)), (res.Trap (record { 0 = 1 }), ((at_left 1, at_junction 0), refl, inr (refl, refl)), refl)),
)

nowhere : (path : List ℕ) → Leads (two_traps 0 []) first_trap path (res.Trap (record { 0 = 1 })) → ⊥
nowhere [] leads = omega (arith, ap number_of leads)
nowhere (s ∷ path) (mid, (ends, is, sites), rest) = cc

pub returns-clause-none : goal.returns-clause-none
returns-clause-none c = (omega arith, λ reached. nowhere reached.0 reached.1)
