-- The operations of a hop, each legal where the layout says so, and the layout that it leaves.
use Rattle.std.proofs.Common.{◌≡◌, ℕ, suc, ◌<◌, Bool, true, eqb, ltb, List, [], ◌∷◌, ◌++◌, map, length, get_or, refl, ◌∙◌, ap, arith, Option, Some, None, inl, inr, subst}
use Rattle.std.specs.Prelude.{find, slice_get, option_map, is_some, unwrap_or}
use Rattle.std.proofs.lemmas.Bool.{cases_Bool, lt-ltb}
use Rattle.qccd_base.specs.Names.{segment}
use Rattle.qccd_base.specs.declared.names.Qubit.{Qubit}
use Rattle.qccd_base.specs.declared.names.TrapId.{TrapId}
use Rattle.qccd_base.specs.declared.names.JuncId.{JuncId}
use Rattle.qccd_base.specs.declared.names.SegEnd.{SegEnd}
use Rattle.qccd_base.specs.declared.names.SegEnd.TheVariants.{A, B}
use Rattle.qccd_base.specs.declared.names.End.{End}
use Rattle.qccd_base.specs.declared.names.End.TheVariants.{Left, Right}
use Rattle.qccd_machine.specs.declared.place.Place.TheVariants.{TrapEnd, Junction}
use Rattle.qccd_machine.specs.Machine.{MachineData}
use Rattle.time_heat.specs.Heat.{split_ion_heat}
use Rattle.op_table.specs.declared.kinds.OpKind.TheVariants.{Split, Move, Enter, Leave, Merge}
use Rattle.op_table.specs.State.{IonPlace, InTrap, OnSegment, InJunction, Stand, State, is_on_segment, is_in_junction, ions_in, ion_on_segment, ion_in_junction, heat_of}
use Rattle.op_table.specs.Step.{why, effect, end_at, has_trap, has_segment, has_junction, rider_stands, same_seg_end, other_end, split_place}
use Rattle.chain_reorder.specs.Layout.{Layout, Lies, listed, with_at, riding, end_on, joined, settled, on_segment, in_junction}
use Rattle.chain_reorder.proofs.Lists.{found}
use Rattle.chain_reorder.proofs.Steps.{at_own, eqb_same}
use Rattle.chain_reorder.proofs.Paths.{replaced, lies_moved}
use Rattle.chain_reorder.proofs.Crossing.{exit_place, lies_entered, lies_exited}
use Rattle.chain_reorder.proofs.Ends.{lies_split_off}
use Rattle.chain_reorder.proofs.Merging.{lies_merged_onto}

-- a state lies as any layout that agrees
pub lies_as : (s : State) (l k : Layout) → Lies s l → ((t : ℕ) → l.chains t ≡ k.chains t) → ((g : ℕ) → l.riders g ≡ k.riders g) → ((j : ℕ) → l.carries j ≡ k.carries j) → Lies s k
lies_as s l k lies chains riders carries = record {
  counts = λ t. lies.counts t ∙ ap length (chains t);
  chains = λ t i. lies.chains t i ∙ ap (λ c. listed (slice_get c i)) (chains t);
  riders = λ g. lies.riders g ∙ ap listed (riders g);
  carries = λ j. lies.carries j ∙ ap listed (carries j);
}

pub again : {X : Type 0} (n : ℕ) (x y : X) (f : ℕ → X) (k : ℕ) → with_at n x (with_at n y f) k ≡ with_at n x f k
again n x y f k = elim (cases_Bool (eqb k n)) [ inl own ↦ simp own | inr other ↦ simp other ]

pub emptied : {X : Type 0} (n : ℕ) (x y : X) (k : ℕ) → with_at n x (with_at n y (λ _. x)) k ≡ x
emptied n x y k = elim (cases_Bool (eqb k n)) [ inl own ↦ simp own | inr other ↦ simp other ]

none_mapped : {X Y : Type 0} (v : X → Y) (o : Option X) → option_map v o ≡ None → o ≡ None
none_mapped v None h = refl
none_mapped v (Some x) h = cc

find_passes : {X : Type 0} (p : X → Bool) (xs : List X) (x : X) → find p xs ≡ Some x → p x ≡ true
find_passes p [] x h = cc
find_passes p (y ∷ ys) x h = elim (cases_Bool (p y)) [
  | inl is ↦ let first : Some y ≡ Some x = rw is at h in let same : y ≡ x = cc in subst (λ z. p z ≡ true) same is
  | inr not_y ↦ find_passes p ys x (rw not_y at h)
]

pub no_rider : (s : State) (l : Layout) (g : ℕ) → Lies s l → l.riders g ≡ None → ion_on_segment s g ≡ None
no_rider s l g lies free = none_mapped riding (ion_on_segment s g) (found riding (λ (w : Stand). is_on_segment g w.place) s.ions None (lies.riders g ∙ ap listed free))

pub no_carry : (s : State) (l : Layout) (j : ℕ) → Lies s l → l.carries j ≡ None → ion_in_junction s j ≡ None
no_carry s l j lies free = none_mapped (λ (w : Stand). w.qubit) (ion_in_junction s j) (found (λ (w : Stand). w.qubit) (λ (w : Stand). is_in_junction j w.place) s.ions None (lies.carries j ∙ ap listed free))

same_end_own : (e : SegEnd) → same_seg_end e e ≡ true
same_end_own A = refl
same_end_own B = refl

stands : (g : ℕ) (e : SegEnd) (q : Qubit) (o : Option Stand) → ((w : Stand) → o ≡ Some w → is_on_segment g w.place ≡ true) → option_map riding o ≡ Some (e, q) → (is_some o ≡ true) × (rider_stands (Some e) o ≡ true)
stands g e q None passes h = cc
stands g e q (Some w) passes h = (refl, stands_place w.place (passes w refl) (let r : (end_on w.place, w.qubit) ≡ (e, q) = cc in ap (λ (x : SegEnd × Qubit). x.0) r))
  where
    stands_place : (place : IonPlace) → is_on_segment g place ≡ true → end_on place ≡ e → rider_stands (Some e) (Some (record { place = place; qubit = q })) ≡ true
    stands_place (InTrap t k) on end = cc
    stands_place (OnSegment s f h) on end = subst (λ x. same_seg_end x f ≡ true) end (same_end_own f)
    stands_place (InJunction j h) on end = cc

rider : (s : State) (l : Layout) (g : ℕ) (e : SegEnd) (q : Qubit) → Lies s l → l.riders g ≡ Some (e, q) → (is_some (ion_on_segment s g) ≡ true) × (rider_stands (Some e) (ion_on_segment s g) ≡ true)
rider s l g e q lies on = stands g e q (ion_on_segment s g) (find_passes (λ (w : Stand). is_on_segment g w.place) s.ions) (found riding (λ (w : Stand). is_on_segment g w.place) s.ions (Some (e, q)) (lies.riders g ∙ ap listed on))

some_mapped : {X Y : Type 0} (v : X → Y) (o : Option X) (y : Y) → option_map v o ≡ Some y → is_some o ≡ true
some_mapped v None y h = cc
some_mapped v (Some x) y h = refl

carried : (s : State) (l : Layout) (j : ℕ) (q : Qubit) → Lies s l → l.carries j ≡ Some q → is_some (ion_in_junction s j) ≡ true
carried s l j q lies held = some_mapped (λ (w : Stand). w.qubit) (ion_in_junction s j) q (found (λ (w : Stand). w.qubit) (λ (w : Stand). is_in_junction j w.place) s.ions (Some q) (lies.carries j ∙ ap listed held))

-- ---- the five operations

pub off_junction : (m : MachineData) (s : State) (cs : ℕ → List Qubit) (j : JuncId) (g : ℕ) (e : SegEnd) (q : Qubit) → has_segment m g ≡ true → has_junction m j.0 ≡ true → end_at m g (Junction j) ≡ Some e
    → Lies s (in_junction cs j.0 q) → (why m s (Leave j (segment g)) ≡ None) × Lies (effect m s (Leave j (segment g))) (on_segment cs g e q)
off_junction m s cs j g e q there junction_there end lies =
    let l : Layout = in_junction cs j.0 q in
    let held : l.carries j.0 ≡ Some q = at_own j.0 j.0 (Some q) (λ _. None) (eqb_same j.0) in
    let free : ion_on_segment s g ≡ None = no_rider s l g lies refl in
    let has : is_some (ion_in_junction s j.0) ≡ true = carried s l j.0 q lies held in (
      rw (there, junction_there, has, free, end) refl,
      lies_as (effect m s (Leave j (segment g))) (record l { riders = with_at g (Some (e, q)) l.riders; carries = with_at j.0 None l.carries }) (on_segment cs g e q)
          (lies_exited s (effect m s (Leave j (segment g))) l g j.0 e q (ap (λ o. map (replaced (exit_place g j.0 (unwrap_or o A))) s.ions) end) lies held refl)
          (λ t. refl) (λ h. refl) (λ i. emptied j.0 None (Some q) i),
    )

pub off_trap : (m : MachineData) (s : State) (cs : ℕ → List Qubit) (t : TrapId) (g : ℕ) (e : SegEnd) (end : End) (q : Qubit) (rest : List Qubit) → has_segment m g ≡ true → has_trap m t.0 ≡ true → end_at m g (TrapEnd t end) ≡ Some e
    → cs t.0 ≡ joined end q rest
    → Lies s (settled cs) → (why m s (Split t end (segment g)) ≡ None) × Lies (effect m s (Split t end (segment g))) (on_segment (with_at t.0 rest cs) g e q)
off_trap m s cs t g e end q rest there trap_there is_end chain lies =
    let free : ion_on_segment s g ≡ None = no_rider s (settled cs) g lies refl in
    let some : ltb 0 (ions_in s t.0) ≡ true = rw (lies.counts t.0, chain) (some_joined end q rest) in (
      rw (there, trap_there, some, free, is_end) refl,
      lies_split_off s (effect m s (Split t end (segment g))) (settled cs) t.0 g (split_ion_heat (heat_of s t.0) (ions_in s t.0)) e end q rest
          (ap (λ o. map (replaced (split_place t.0 (ions_in s t.0) end (OnSegment g (unwrap_or o A) (split_ion_heat (heat_of s t.0) (ions_in s t.0))))) s.ions) is_end) lies chain refl,
    )
  where
    some_joined : (end : End) (q : Qubit) (rest : List Qubit) → ltb 0 (length (joined end q rest)) ≡ true
    some_joined Left q rest = lt-ltb 0 (suc (length rest)) (omega arith)
    some_joined Right q [] = refl
    some_joined Right q (x ∷ xs) = lt-ltb 0 (suc (length (xs ++ q ∷ []))) (omega arith)

pub over_segment : (m : MachineData) (s : State) (cs : ℕ → List Qubit) (g : ℕ) (e : SegEnd) (q : Qubit) → has_segment m g ≡ true
    → Lies s (on_segment cs g e q) → (why m s (Move (segment g)) ≡ None) × Lies (effect m s (Move (segment g))) (on_segment cs g (other_end e) q)
over_segment m s cs g e q there lies =
    let l : Layout = on_segment cs g e q in
    let on : l.riders g ≡ Some (e, q) = at_own g g (Some (e, q)) (λ _. None) (eqb_same g) in
    let has : is_some (ion_on_segment s g) ≡ true = (rider s l g e q lies on).0 in (
      rw (there, has) refl,
      lies_as (effect m s (Move (segment g))) (record l { riders = with_at g (Some (other_end e, q)) l.riders }) (on_segment cs g (other_end e) q)
          (lies_moved s (effect m s (Move (segment g))) l g e q refl lies on) (λ t. refl) (λ h. again g (Some (other_end e, q)) (Some (e, q)) (λ _. None) h) (λ i. refl),
    )

pub into_trap : (m : MachineData) (s : State) (cs : ℕ → List Qubit) (t : TrapId) (g : ℕ) (e : SegEnd) (end : End) (q : Qubit) → has_segment m g ≡ true → has_trap m t.0 ≡ true → end_at m g (TrapEnd t end) ≡ Some e
    → length (cs t.0) < get_or m.capacities t.0 0
    → Lies s (on_segment cs g e q) → (why m s (Merge (segment g) t end) ≡ None) × Lies (effect m s (Merge (segment g) t end)) (settled (with_at t.0 (joined end q (cs t.0)) cs))
into_trap m s cs t g e end q there trap_there is_end room lies =
    let l : Layout = on_segment cs g e q in
    let on : l.riders g ≡ Some (e, q) = at_own g g (Some (e, q)) (λ _. None) (eqb_same g) in
    let r : (is_some (ion_on_segment s g) ≡ true) × (rider_stands (Some e) (ion_on_segment s g) ≡ true) = rider s l g e q lies on in
    let free : ltb (ions_in s t.0) (get_or m.capacities t.0 0) ≡ true = lt-ltb (ions_in s t.0) (get_or m.capacities t.0 0) (omega (arith, lies.counts t.0)) in (
      rw (there, trap_there, r.0, free, is_end, r.1) refl,
      lies_as (effect m s (Merge (segment g) t end)) (record l { chains = with_at t.0 (joined end q (cs t.0)) cs; riders = with_at g None l.riders }) (settled (with_at t.0 (joined end q (cs t.0)) cs))
          (lies_merged_onto s (effect m s (Merge (segment g) t end)) l t.0 g e end q refl lies on) (λ t. refl) (λ h. emptied g None (Some (e, q)) h) (λ i. refl),
    )

pub into_junction : (m : MachineData) (s : State) (cs : ℕ → List Qubit) (j : JuncId) (g : ℕ) (e : SegEnd) (q : Qubit) → has_segment m g ≡ true → has_junction m j.0 ≡ true → end_at m g (Junction j) ≡ Some e
    → Lies s (on_segment cs g e q) → (why m s (Enter (segment g) j) ≡ None) × Lies (effect m s (Enter (segment g) j)) (in_junction cs j.0 q)
into_junction m s cs j g e q there junction_there is_end lies =
    let l : Layout = on_segment cs g e q in
    let on : l.riders g ≡ Some (e, q) = at_own g g (Some (e, q)) (λ _. None) (eqb_same g) in
    let r : (is_some (ion_on_segment s g) ≡ true) × (rider_stands (Some e) (ion_on_segment s g) ≡ true) = rider s l g e q lies on in
    let free : ion_in_junction s j.0 ≡ None = no_carry s l j.0 lies refl in (
      rw (there, junction_there, r.0, free, is_end, r.1) refl,
      lies_as (effect m s (Enter (segment g) j)) (record l { riders = with_at g None l.riders; carries = with_at j.0 (Some q) l.carries }) (in_junction cs j.0 q)
          (lies_entered s (effect m s (Enter (segment g) j)) l g j.0 e q refl lies on refl) (λ t. refl) (λ h. emptied g None (Some (e, q)) h) (λ i. refl),
    )
