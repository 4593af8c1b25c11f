-- The operations run wherever the qubit stands, whatever is on the way elsewhere.
use Rattle.std.proofs.Common.{arith, ◌≡◌, ℕ, zero, suc, ◌+◌, ◌-◌, ◌<◌, ◌==◌, inl, inr, Bool, true, false, [], ◌∷◌, refl, sym, ◌∙◌, ap, None, if◌then◌else◌}
use Rattle.std.proofs.lemmas.Bool.{cases_eq, eq-eqb, lt-ltb, ne_eqb}
use Rattle.qccd_base.specs.Names.{trap}
use Rattle.qccd_base.specs.declared.names.End.TheVariants.{Left, Right}
use Rattle.qccd_base.specs.declared.names.Mode.TheVariants.{GateSwap}
use Rattle.qccd_machine.specs.Machine.{MachineData}
use Rattle.op_table.specs.declared.kinds.OpKind.TheVariants.{Rot, GSwap}
use Rattle.op_table.specs.State.{IonPlace, InTrap, OnSegment, InJunction, Stand, State, ions_in, is_in_trap}
use Rattle.op_table.specs.Step.{why, effect, has_trap, rotated}
use Rattle.op_table.specs.Run.{IsRun}
use Rattle.op_table.proofs.Counts.{count_by-map, count_same}
use Rattle.chain_reorder.specs.Reorder.{rots_down, rots_up, swap_ops, to_end}

either_in : (u : ℕ) (b : Bool) (x y : IonPlace) (z : Bool) → is_in_trap u x ≡ z → is_in_trap u y ≡ z → is_in_trap u (if b then x else y) ≡ z
either_in u true x y z p q = p
either_in u false x y z p q = q

rot_in : (t a b u : ℕ) (place : IonPlace) → is_in_trap u (rotated t a b place) ≡ is_in_trap u place
rot_in t a b u (InTrap v k) = either_in u (v == t) (InTrap v _) (InTrap v k) (v == u) refl refl
rot_in t a b u (OnSegment g e h) = refl
rot_in t a b u (InJunction j h) = refl

ions_rotated : (m : MachineData) (s : State) (t k u : ℕ) → ions_in (effect m s (Rot (trap t) k)) u ≡ ions_in s u
ions_rotated m s t k u =
    count_by-map (λ (w : Stand). is_in_trap u w.place) (λ (w : Stand). record w { place = rotated t k (k + 1) w.place }) s.ions
    ∙ count_same (λ (w : Stand). is_in_trap u (rotated t k (k + 1) w.place)) (λ (w : Stand). is_in_trap u w.place) s.ions (λ w. rot_in t k (k + 1) u w.place)

rot_legal : (m : MachineData) (s : State) (t k : ℕ) → has_trap m t ≡ true → k + 1 < ions_in s t → why m s (Rot (trap t) k) ≡ None
rot_legal m s t k there less = rw (there, lt-ltb (k + 1) (ions_in s t) less) refl

pub runs_down : (m : MachineData) (s : State) (t p : ℕ) → has_trap m t ≡ true → p < ions_in s t → IsRun m s (rots_down t p)
runs_down m s t zero there less = tt
runs_down m s t (suc p) there less =
    (rot_legal m s t p there (omega (arith, less)), runs_down m (effect m s (Rot (trap t) p)) t p there (let same = ions_rotated m s t p t in omega (arith, same, less)))

pub runs_up : (m : MachineData) (s : State) (t p n : ℕ) → has_trap m t ≡ true → p + n < ions_in s t → IsRun m s (rots_up t p n)
runs_up m s t p zero there less = tt
runs_up m s t p (suc n) there less =
    (rot_legal m s t p there (omega (arith, less)), runs_up m (effect m s (Rot (trap t) p)) t (p + 1) n there (let same = ions_rotated m s t p t in omega (arith, same, less)))

pub runs_swap : (m : MachineData) (s : State) (t low high : ℕ) → has_trap m t ≡ true → high < ions_in s t → IsRun m s (swap_ops t low high)
runs_swap m s t low high there less = by_test (low == high)
  where
    by_test : (b : Bool) → IsRun m s (if b then [] else GSwap (trap t) low high ∷ [])
    by_test true = tt
    by_test false = (rw (there, lt-ltb high (ions_in s t) less) refl, tt)

-- the exchange is that of the qubit with the one at the end
pub swap_left : (t n p : ℕ) → swap_ops t 0 p ≡ to_end t n p Left GateSwap
swap_left t n p = elim (cases_eq p 0) [
  | inl same ↦ ap (λ (b : Bool). if b then [] else GSwap (trap t) 0 p ∷ []) (eq-eqb 0 p (sym same) ∙ sym (eq-eqb p 0 same))
  | inr other ↦ ap (λ (b : Bool). if b then [] else GSwap (trap t) 0 p ∷ []) (ne_eqb 0 p (λ e. other (sym e)) ∙ sym (ne_eqb p 0 other))
]

pub swap_right : (t n p : ℕ) → p < n → swap_ops t p (n - 1) ≡ to_end t n p Right GateSwap
swap_right t n p less = elim (cases_eq (p + 1) n) [
  | inl same ↦ ap (λ (b : Bool). if b then [] else GSwap (trap t) p (n - 1) ∷ []) (eq-eqb p (n - 1) (omega (arith, same)) ∙ sym (eq-eqb (p + 1) n same))
  | inr other ↦ ap (λ (b : Bool). if b then [] else GSwap (trap t) p (n - 1) ∷ []) (ne_eqb p (n - 1) (λ e. other (omega (arith, e, less))) ∙ sym (ne_eqb (p + 1) n other))
]

pub down_one : (t n k : ℕ) → n ≡ suc k → rots_down t n ≡ Rot (trap t) k ∷ rots_down t k
down_one t n k is = ap (rots_down t) is

pub up_one : (t p n k : ℕ) → n ≡ suc k → rots_up t p n ≡ Rot (trap t) p ∷ rots_up t (p + 1) k
up_one t p n k is = ap (rots_up t p) is
