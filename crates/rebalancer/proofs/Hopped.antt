-- A hop of a qubit to a neighbour.
use Rattle.std.proofs.Common.{◌≡◌, ℕ, suc, ◌+◌, ◌-◌, ◌*◌, ◌<◌, ◌≤◌, Bool, true, false, eqb, List, [], ◌∷◌, map, length, get_or, refl, sym, ◌∙◌, ap, arith, Option, Some, None, inl, inr, subst, length-append}
use Rattle.std.specs.Prelude.{◌==◌, count_by, filter, find, slice_get, option_map}
use Rattle.std.proofs.lemmas.Bool.{cases_Bool, and_parts, eqb-true}
use Rattle.qccd_base.specs.Names.{trap, segment}
use Rattle.qccd_base.specs.declared.names.Res.{Res}
use Rattle.qccd_base.specs.declared.names.Res.TheVariants as res
use Rattle.qccd_base.specs.declared.names.Qubit.{Qubit}
use Rattle.qccd_base.specs.declared.names.End.{End}
use Rattle.qccd_base.specs.declared.names.Mode.{Mode}
use Rattle.qccd_machine.specs.declared.place.Place.{Place}
use Rattle.qccd_machine.specs.declared.place.Place.TheVariants.{TrapEnd, Junction}
use Rattle.qccd_machine.specs.Machine.{MachineData, IsValid, site}
use Rattle.op_table.specs.declared.kinds.OpKind.{OpKind}
use Rattle.op_table.specs.declared.kinds.OpKind.TheVariants.{Split, Move}
use Rattle.op_table.specs.State.{IonPlace, InTrap, OnSegment, InJunction, Stand, State, is_at, ions_in}
use Rattle.op_table.specs.Step.{why, effect, end_at, has_trap}
use Rattle.op_table.specs.Run.{IsRun, after}
use Rattle.chain_reorder.specs.Layout.{Layout, Lies, with_at, joined, settled, on_segment, listed}
use Rattle.router.specs.Paths.{way_along, goes_on, is_last, is_path}
use Rattle.rebalancer.specs.Hop.{leave_by, arrive_by, along_way, along, leaving_end, near_end, end_of_way, hop_along}
use Rattle.op_plan.specs.Place.{trap_of, position_of, ion_place, trap_in, position_in}
use Rattle.chain_reorder.specs.Reorder.{to_end, reorder_ops}
use Rattle.chain_reorder.proofs.Lists.{count_by-cons}
use Rattle.std.specs.List.{list_all}
use Rattle.rebalancer.proofs.Plain.{Plain, plain_append, to_end_plain, along_is_plain}
use Rattle.chain_reorder.proofs.Carried.{Carried, carriers, no_swap, ops_carried}
use Rattle.chain_reorder.proofs.Steps.{at_own, at_other, eqb_same}
use Rattle.chain_reorder.proofs.Legs.{off_trap, lies_as, again}
use Rattle.rebalancer.proofs.Along.{Goes, goes, Reaches, from_segment, from_junction, near_trap}
use Rattle.chain_reorder.proofs.Reorder.{onto, Stands, Ends, times_in, to_end_ends, to_end_short}
use Rattle.router.specs.Wiring.{wiring_of}
use Rattle.op_plan.proofs.Runs.{after_append, run_append}

-- ---- where a qubit stands

counted_some : {X : Type 0} (p r : X → Bool) (xs ys : List X) (x : X) → filter r xs ≡ x ∷ ys → p x ≡ true → 1 ≤ count_by p xs
counted_some p r [] ys x is passes = cc
counted_some p r (z ∷ xs) ys x is passes = elim (cases_Bool (r z)) [
  | inl here ↦
      let same : z ≡ x = (let e : z ∷ filter r xs ≡ x ∷ ys = rw here at is in cc) in
      let one : count_by p (z ∷ xs) ≡ 1 + count_by p xs = count_by-cons p z xs ∙ rw (subst (λ w. p w ≡ true) (sym same) passes) refl in
      omega arith
  | inr not_here ↦
      let is' : filter r xs ≡ x ∷ ys = rw not_here at is in
      omega (arith, count_by-cons p z xs, counted_some p r xs ys x is' passes)
]

found_later : {X : Type 0} (p r : X → Bool) (z : X) (xs : List X) → p z ≡ false → (y : X) × (find p xs ≡ Some y) × (r y ≡ true) → (y : X) × (find p (z ∷ xs) ≡ Some y) × (r y ≡ true)
found_later p r z xs not_first (y, is, passes) = (y, rw not_first is, passes)

-- where one element passes p, and it passes r as well, the one that is found by p passes r
find_both : {X : Type 0} (p r : X → Bool) (xs ys : List X) (x : X) → count_by p xs ≤ 1 → filter r xs ≡ x ∷ ys → p x ≡ true → (y : X) × (find p xs ≡ Some y) × (r y ≡ true)
find_both p r [] ys x few is passes = cc
find_both {X = X} p r (z ∷ xs) ys x few is passes = elim (cases_Bool (r z)) [
  | inl here ↦
      let same : z ≡ x = (let e : z ∷ filter r xs ≡ x ∷ ys = rw here at is in cc) in
      let passes_z : p z ≡ true = subst (λ w. p w ≡ true) (sym same) passes in
      (z, rw passes_z refl, here)
  | inr not_here ↦
      let is' : filter r xs ≡ x ∷ ys = rw not_here at is in
      elim (cases_Bool (p z)) [
        | inl first ↦
            let one : count_by p (z ∷ xs) ≡ 1 + count_by p xs = count_by-cons p z xs ∙ rw first refl in
            let some : 1 ≤ count_by p xs = counted_some p r xs ys x is' passes in
            absurd (omega arith)
        | inr not_first ↦
            let fewer : count_by p (z ∷ xs) ≡ 0 + count_by p xs = count_by-cons p z xs ∙ rw not_first refl in
            let rest : (y : X) × (find p xs ≡ Some y) × (r y ≡ true) = find_both p r xs ys x (omega arith) is' passes in
            found_later p r z xs not_first rest
      ]
]

place_at : (t k : ℕ) (place : IonPlace) → is_at t k place ≡ true → place ≡ InTrap t k
place_at t k (InTrap v n) at =
    let own : (eqb v t ≡ true) × (eqb n k ≡ true) = and_parts (eqb v t) (eqb n k) at in
    ap (λ u. InTrap u n) (eqb-true v t own.0) ∙ ap (InTrap t) (eqb-true n k own.1)
place_at t k (OnSegment g e h) at = cc
place_at t k (InJunction j h) at = cc

pub first_viewed : {X Y : Type 0} (v : X → Y) (xs : List X) (y : Y) → map v xs ≡ y ∷ [] → (x : X) × (ys : List X) × (xs ≡ x ∷ ys) × (v x ≡ y)
first_viewed v [] y is = cc
first_viewed v (x ∷ xs) y is = (x, xs, refl, (let e : v x ∷ map v xs ≡ y ∷ [] = is in cc))

-- each qubit is carried by one ion at most
abbrev pub Once : State → Type 0
Once s = (n : ℕ) → count_by (λ (w : Stand). w.qubit.0 == n) s.ions ≤ 1

pub stands_at : (s : State) (l : Layout) (t k : ℕ) (q : Qubit) → Once s → Lies s l → slice_get (l.chains t) k ≡ Some q → ion_place s q ≡ Some (InTrap t k)
stands_at s l t k q once lies there =
    let one : (x : Stand) × (ys : List Stand) × (filter (λ (w : Stand). is_at t k w.place) s.ions ≡ x ∷ ys) × (x.qubit ≡ q) = first_viewed (λ (w : Stand). w.qubit) (filter (λ (w : Stand). is_at t k w.place) s.ions) q (lies.chains t k ∙ ap listed there) in
    let passes : eqb one.0.qubit.0 q.0 ≡ true = rw one.3 (eqb_same q.0) in
    let found : (y : Stand) × (find (λ (w : Stand). w.qubit.0 == q.0) s.ions ≡ Some y) × (is_at t k y.place ≡ true) =
    find_both (λ (w : Stand). w.qubit.0 == q.0) (λ (w : Stand). is_at t k w.place) s.ions one.1 one.0 (once q.0) one.2 passes in
    ap (option_map (λ (w : Stand). w.place)) found.1 ∙ ap (λ (p : IonPlace). Some p) (place_at t k found.0.place found.2)

pub stands_in : (s : State) (l : Layout) (t k : ℕ) (q : Qubit) → Once s → Lies s l → slice_get (l.chains t) k ≡ Some q → (trap_of s q ≡ t) × (position_of s q ≡ k)
stands_in s l t k q once lies there =
    let place : ion_place s q ≡ Some (InTrap t k) = stands_at s l t k q once lies there in
    (ap trap_in place, ap position_in place)

-- ---- from a trap

pub from_trap : (m : MachineData) (cs : ℕ → List Qubit) (t u : ℕ) (q : Qubit) (rest : List Qubit) (path : List ℕ) (s : State) → IsValid m → has_trap m t ≡ true → eqb u t ≡ false → length (cs u) < get_or m.capacities u 0
    → is_path (wiring_of m) u path (res.Trap (trap t)) ≡ true → cs t ≡ joined (leaving_end m t path) q rest → Lies s (settled cs)
    → Reaches m s (along m path (res.Trap (trap t))) (with_at t rest cs) u q
from_trap m cs t u q rest [] s valid there apart room leads_on chain lies = cc
from_trap m cs t u q rest (g ∷ path) s valid there apart room leads_on chain lies = by_way (way_along (wiring_of m) (res.Trap (trap t)) g) refl leads_on
  where
    room_after : length (with_at t rest cs u) < get_or m.capacities u 0
    room_after = rw (at_other t u rest cs apart) room

    by_way : (way : Option (Place × Place)) → way_along (wiring_of m) (res.Trap (trap t)) g ≡ way → goes_on u way (is_last path) (is_path (wiring_of m) u path) ≡ true → Reaches m s (along_way g way (along m path)) (with_at t rest cs) u q
    by_way None is on = cc
    by_way (Some ends) is on =
        let way : Goes m (res.Trap (trap t)) g ends = goes m (res.Trap (trap t)) g ends valid is in
        let near : (e : End) × (ends.0 ≡ TrapEnd (trap t) e) = near_trap (trap t) ends.0 way.from_near in
        let leaves : leaving_end m t (g ∷ path) ≡ near.0 = ap end_of_way is ∙ ap (λ (p : Place). near_end (p, ends.1)) near.1 in
        let off : (why m s (Split (trap t) near.0 (segment g)) ≡ None) × Lies (effect m s (Split (trap t) near.0 (segment g))) (on_segment (with_at t rest cs) g way.end q) =
        off_trap m s cs (trap t) g way.end near.0 q rest way.there there (ap (end_at m g) (sym near.1) ∙ way.near_end) (chain ∙ ap (λ e. joined e q rest) leaves) lies in
        let r : Reaches m (effect m s (Split (trap t) near.0 (segment g))) (Move (segment g) ∷ arrive_by g ends.1 ∷ along m path (site ends.1)) (with_at t rest cs) u q =
        from_segment m (with_at t rest cs) u q (res.Trap (trap t)) g ends.0 ends.1 path room_after way
        (λ k z. from_junction m (with_at t rest cs) u q valid room_after path k z) (effect m s (Split (trap t) near.0 (segment g))) on off.1 in
        subst (λ (p : Place). Reaches m s (leave_by g p ∷ Move (segment g) ∷ arrive_by g ends.1 ∷ along m path (site ends.1)) (with_at t rest cs) u q) (sym near.1)
        (record { run = (off.0, r.run); end = r.end; lies = r.lies })

along_short : (m : MachineData) (path : List ℕ) (from : Res) → length (along m path from) ≤ 3 * length path
along_short m [] from = omega arith
along_short m (g ∷ path) from = by_way (way_along (wiring_of m) from g) (λ next. along_short m path next)
  where
    by_way : (way : Option (Place × Place)) → ((next : Res) → length (along m path next) ≤ 3 * length path) → length (along_way g way (along m path)) ≤ 3 * length (g ∷ path)
    by_way None short = omega arith
    by_way (Some ends) short = omega (arith, short (site ends.1))

-- ---- the whole hop

-- the operations run, and take qubit q from trap t to an end of trap u's chain; the others stay, those of trap t in some order
pub record Hopped (m : MachineData) (s : State) (cs : ℕ → List Qubit) (t u : ℕ) (q : Qubit) (ops : List OpKind) (others : List Qubit) : Type 0 where
  pub run : IsRun m s ops
  pub rest : List Qubit
  pub end : End
  pub lies : Lies (after m s ops) (settled (with_at u (joined end q (cs u)) (with_at t rest cs)))
  pub long : length rest ≡ length others
  pub same : (n : ℕ) → times_in rest n ≡ times_in others n
  pub carried : Carried s (after m s ops)

-- a hop takes fewer operations than there are ions in the trap, and three for each segment
pub hop_short : (m : MachineData) (s : State) (cs : ℕ → List Qubit) (t n : ℕ) (q : Qubit) (k : ℕ) (mode : Mode) (path : List ℕ) → Once s → Lies s (settled cs) → slice_get (cs t) k ≡ Some q → length (cs t) ≡ n → k < n
    → length (hop_along m s q mode t path) ≤ n - 1 + 3 * length path
hop_short m s cs t n q k mode path once lies there long within =
    let end : End = leaving_end m t path in
    let place : (trap_of s q ≡ t) × (position_of s q ≡ k) = stands_in s (settled cs) t k q once lies there in
    let count : ions_in s (trap_of s q) ≡ n = ap (ions_in s) place.0 ∙ lies.counts t ∙ long in
    let reordered : reorder_ops s q end mode ≡ to_end t n k end mode = ap (λ u. to_end u (ions_in s (trap_of s q)) (position_of s q) end mode) place.0 ∙ ap (λ i. to_end t i (position_of s q) end mode) count ∙ ap (λ i. to_end t n i end mode) place.1 in
    omega (arith, length-append (reorder_ops s q end mode) (along m path (res.Trap (trap t))), along_short m path (res.Trap (trap t)), to_end_short t n k end mode within, ap length reordered)

pub hop_plain : (m : MachineData) (s : State) (cs : ℕ → List Qubit) (t n : ℕ) (q : Qubit) (k : ℕ) (mode : Mode) (path : List ℕ) → Once s → Lies s (settled cs) → slice_get (cs t) k ≡ Some q → length (cs t) ≡ n → k < n
    → Plain (hop_along m s q mode t path)
hop_plain m s cs t n q k mode path once lies there long within =
    let end : End = leaving_end m t path in
    let place : (trap_of s q ≡ t) × (position_of s q ≡ k) = stands_in s (settled cs) t k q once lies there in
    let count : ions_in s (trap_of s q) ≡ n = ap (ions_in s) place.0 ∙ lies.counts t ∙ long in
    plain_append (reorder_ops s q end mode) (along m path (res.Trap (trap t))) (to_end_plain (trap_of s q) (ions_in s (trap_of s q)) (position_of s q) end mode (omega (arith, place.1))) (along_is_plain m path (res.Trap (trap t)))

along_plain : (m : MachineData) (path : List ℕ) (from : Res) → list_all no_swap (along m path from) ≡ true
along_plain m [] from = refl
along_plain m (g ∷ path) from = by_way (way_along (wiring_of m) from g) (λ next. along_plain m path next)
  where
    by_way : (way : Option (Place × Place)) → ((next : Res) → list_all no_swap (along m path next) ≡ true) → list_all no_swap (along_way g way (along m path)) ≡ true
    by_way None plain = refl
    by_way (Some (TrapEnd t e, TrapEnd u f)) plain = plain (site (TrapEnd u f))
    by_way (Some (TrapEnd t e, Junction k)) plain = plain (site (Junction k))
    by_way (Some (Junction j, TrapEnd u f)) plain = plain (site (TrapEnd u f))
    by_way (Some (Junction j, Junction k)) plain = plain (site (Junction k))

pub hops : (m : MachineData) (s : State) (cs : ℕ → List Qubit) (t u : ℕ) (q : Qubit) (ra c : List Qubit) (mode : Mode) (path : List ℕ) → IsValid m → has_trap m t ≡ true → eqb u t ≡ false → Once s → Lies s (settled cs)
    → cs t ≡ onto ra (q ∷ c) → length (cs u) < get_or m.capacities u 0 → is_path (wiring_of m) u path (res.Trap (trap t)) ≡ true
    → Hopped m s cs t u q (hop_along m s q mode t path) (onto ra c)
hops m s cs t u q ra c mode path valid there apart once lies chain room leads_on =
    let end : End = leaving_end m t path in
    let place : (trap_of s q ≡ t) × (position_of s q ≡ length ra) = stands_in s (settled cs) t (length ra) q once lies (ap (λ d. slice_get d (length ra)) chain ∙ reads_onto ra c) in
    let count : ions_in s (trap_of s q) ≡ length ra + 1 + length c = ap (ions_in s) place.0 ∙ lies.counts t ∙ ap length chain ∙ long_onto ra c in
    let reordered : reorder_ops s q end mode ≡ to_end t (ions_in s (trap_of s q)) (position_of s q) end mode = ap (λ n. to_end n (ions_in s (trap_of s q)) (position_of s q) end mode) place.0 in
    let stands : Stands s cs t (onto ra (q ∷ c)) = lies_as s (settled cs) (settled (with_at t (onto ra (q ∷ c)) cs)) lies (λ v. unchanged t (onto ra (q ∷ c)) cs chain v) (λ g. refl) (λ j. refl) in
    let ends : Ends m s cs t end q (reorder_ops s q end mode) (onto ra c) =
    subst (λ ops. Ends m s cs t end q ops (onto ra c)) (sym reordered) (to_end_ends m s cs t end mode q ra c (position_of s q) (ions_in s (trap_of s q)) there place.1 count stands) in
    let z : State = after m s (reorder_ops s q end mode) in
    let r : Reaches m z (along m path (res.Trap (trap t))) (with_at t ends.rest (with_at t (joined end q ends.rest) cs)) u q =
    from_trap m (with_at t (joined end q ends.rest) cs) t u q ends.rest path z valid there apart (rw (at_other t u (joined end q ends.rest) cs apart) room) leads_on (at_own t t (joined end q ends.rest) cs (eqb_same t)) ends.lies in
    record {
      run = run_append m s (reorder_ops s q end mode) (along m path (res.Trap (trap t))) ends.run r.run;
      rest = ends.rest;
      end = r.end;
      lies = subst (λ y. Lies y (settled (with_at u (joined r.end q (cs u)) (with_at t ends.rest cs)))) (sym (after_append m s (reorder_ops s q end mode) (along m path (res.Trap (trap t)))))
          (lies_as (after m z (along m path (res.Trap (trap t)))) (settled (with_at u (joined r.end q (with_at t ends.rest (with_at t (joined end q ends.rest) cs) u)) (with_at t ends.rest (with_at t (joined end q ends.rest) cs))))
          (settled (with_at u (joined r.end q (cs u)) (with_at t ends.rest cs))) r.lies
          (λ v. same_chains t u q r.end ends.rest (joined end q ends.rest) cs apart v) (λ g. refl) (λ j. refl));
      long = ends.long;
      same = ends.same;
      carried = λ n. ap (λ (y : State). carriers y.ions n) (after_append m s (reorder_ops s q end mode) (along m path (res.Trap (trap t))))
          ∙ ops_carried m z (along m path (res.Trap (trap t))) (along_plain m path (res.Trap (trap t))) n ∙ ends.carried n;
    }
  where
    reads_onto : (ra c : List Qubit) → slice_get (onto ra (q ∷ c)) (length ra) ≡ Some q
    reads_onto ra c = reads ra (q ∷ c) 0 (length ra) (omega arith)
      where
        reads : (ra ys : List Qubit) (k n : ℕ) → n ≡ length ra + k → slice_get (onto ra ys) n ≡ slice_get ys k
        reads [] ys k n is = let same : n ≡ k = omega arith in rw same refl
        reads (x ∷ ra) ys k n is = reads ra (x ∷ ys) (suc k) n (omega arith)

    long_onto : (ra c : List Qubit) → length (onto ra (q ∷ c)) ≡ length ra + 1 + length c
    long_onto ra c = longer ra (q ∷ c) ∙ sum (length ra) (length c)
      where
        longer : (ra ys : List Qubit) → length (onto ra ys) ≡ length ra + length ys
        longer [] ys = omega arith
        longer (x ∷ ra) ys = omega (arith, longer ra (x ∷ ys))

        sum : (a b : ℕ) → a + suc b ≡ a + 1 + b
        sum a b = omega arith

    unchanged : (t : ℕ) (chain : List Qubit) (cs : ℕ → List Qubit) → cs t ≡ chain → (v : ℕ) → cs v ≡ with_at t chain cs v
    unchanged t chain cs is v = elim (cases_Bool (eqb v t)) [
      | inl own ↦ ap cs (eqb-true v t own) ∙ is ∙ sym (at_own t v chain cs own)
      | inr other ↦ sym (at_other t v chain cs other)
    ]

    same_chains : (t u : ℕ) (q : Qubit) (e : End) (rest whole : List Qubit) (cs : ℕ → List Qubit) → eqb u t ≡ false → (v : ℕ)
        → with_at u (joined e q (with_at t rest (with_at t whole cs) u)) (with_at t rest (with_at t whole cs)) v ≡ with_at u (joined e q (cs u)) (with_at t rest cs) v
    same_chains t u q e rest whole cs apart v = elim (cases_Bool (eqb v u)) [
      | inl own ↦ at_own u v (joined e q (with_at t rest (with_at t whole cs) u)) (with_at t rest (with_at t whole cs)) own
          ∙ ap (joined e q) (at_other t u rest (with_at t whole cs) apart ∙ at_other t u whole cs apart) ∙ sym (at_own u v (joined e q (cs u)) (with_at t rest cs) own)
      | inr other ↦ at_other u v (joined e q (with_at t rest (with_at t whole cs) u)) (with_at t rest (with_at t whole cs)) other ∙ again t rest whole cs v ∙ sym (at_other u v (joined e q (cs u)) (with_at t rest cs) other)
    ]
