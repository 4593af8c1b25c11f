-- A hop: along segments and through junctions to the next trap.
use Rattle.std.proofs.Common.{◌≡◌, ℕ, ◌<◌, true, false, eqb, List, [], ◌∷◌, length, get_or, refl, sym, ◌∙◌, ap, Option, Some, None, inl, inr, subst}
use Rattle.std.specs.Prelude.{slice_get, ◌≢◌}
use Rattle.std.proofs.lemmas.Bool.{cases_Bool, eqb-true, lt-ltb, and_parts, false_from_ne_true}
use Rattle.std.proofs.lemmas.Option.{slice_get_cases, same_Some}
use Rattle.qccd_base.specs.Names.{segment}
use Rattle.qccd_base.specs.Resource.{same_res}
use Rattle.qccd_base.specs.declared.names.Res.{Res}
use Rattle.qccd_base.specs.declared.names.Res.TheVariants as res
use Rattle.qccd_base.specs.declared.names.Qubit.{Qubit}
use Rattle.qccd_base.specs.declared.names.TrapId.{TrapId}
use Rattle.qccd_base.specs.declared.names.JuncId.{JuncId}
use Rattle.qccd_base.specs.declared.names.SegEnd.{SegEnd}
use Rattle.qccd_base.specs.declared.names.SegEnd.TheVariants.{A, B}
use Rattle.qccd_base.specs.declared.names.End.{End}
use Rattle.qccd_machine.specs.declared.place.Place.{Place}
use Rattle.qccd_machine.specs.declared.place.Place.TheVariants.{TrapEnd, Junction}
use Rattle.qccd_machine.specs.Machine.{MachineData, IsValid, IsThere, site, same_place}
use Rattle.qccd_machine.proofs.SamePlace.{same_place-true, same_place-refl}
use Rattle.op_table.specs.declared.kinds.OpKind.{OpKind}
use Rattle.op_table.specs.declared.kinds.OpKind.TheVariants.{Move, Enter, Leave, Merge}
use Rattle.op_table.specs.State.{State}
use Rattle.op_table.specs.Step.{why, effect, end_at, has_segment, other_end}
use Rattle.op_table.specs.Run.{IsRun, after}
use Rattle.chain_reorder.specs.Layout.{Lies, with_at, joined, settled, on_segment, in_junction}
use Rattle.router.specs.Paths.{turned, way_along, goes_on, is_last, is_path}
use Rattle.rebalancer.specs.Hop.{leave_by, arrive_by, along_way, along}
use Rattle.chain_reorder.proofs.Legs.{off_junction, over_segment, into_trap, into_junction}
use Rattle.router.specs.Wiring.{wiring_of}

-- a segment as it is gone along: it is there, and so are both its ends, which the machine tells apart
pub record Goes (m : MachineData) (from : Res) (g : ℕ) (ends : Place × Place) : Type 0 where
  pub there : has_segment m g ≡ true
  pub near_there : IsThere m ends.0
  pub far_there : IsThere m ends.1
  pub from_near : same_res (site ends.0) from ≡ true
  pub end : SegEnd
  pub near_end : end_at m g ends.0 ≡ Some end
  pub far_end : end_at m g ends.1 ≡ Some (other_end end)

other_twice : (e : SegEnd) → other_end (other_end e) ≡ e
other_twice A = refl
other_twice B = refl

apart_places : (p q : Place) → site p ≢ site q → same_place p q ≡ false
apart_places p q apart = false_from_ne_true (same_place p q) (λ same. apart (ap site (same_place-true p q same)))

goes_by : (m : MachineData) (from : Res) (g : ℕ) (own ends : Place × Place) → g < length m.segments → slice_get m.segments g ≡ Some own → IsThere m own.0 × IsThere m own.1 → site own.0 ≢ site own.1
    → turned from (Some own) ≡ Some ends → Goes m from g ends
goes_by m from g own ends within is there apart turns = elim (cases_Bool (same_res (site own.0) from)) [
  | inl forth ↦
      let same : own ≡ ends = same_Some own ends (rw forth at turns) in
      subst (Goes m from g) same (record {
        there = lt-ltb g (length m.segments) within;
        near_there = there.0;
        far_there = there.1;
        from_near = forth;
        end = A;
        near_end = rw (is, same_place-refl own.0) refl;
        far_end = rw (is, apart_places own.1 own.0 (λ e. apart (sym e)), same_place-refl own.1) refl;
      })
  | inr not_forth ↦ elim (cases_Bool (same_res (site own.1) from)) [
    | inl back ↦
        let same : (own.1, own.0) ≡ ends = same_Some (own.1, own.0) ends (rw (not_forth, back) at turns) in
        subst (Goes m from g) same (record {
          there = lt-ltb g (length m.segments) within;
          near_there = there.1;
          far_there = there.0;
          from_near = back;
          end = B;
          near_end = rw (is, apart_places own.1 own.0 (λ e. apart (sym e)), same_place-refl own.1) refl;
          far_end = rw (is, same_place-refl own.0) refl;
        })
    | inr not_back ↦ absurd (let bad : None ≡ Some ends = rw (not_forth, not_back) at turns in cc)
  ]
]

pub goes : (m : MachineData) (from : Res) (g : ℕ) (ends : Place × Place) → IsValid m → way_along (wiring_of m) from g ≡ Some ends → Goes m from g ends
goes m from g ends valid way = elim (slice_get_cases m.segments g).1 [
  | inl (own, within, is, read) ↦ goes_by m from g own ends within is
      (subst (λ (x : Place × Place). IsThere m x.0 × IsThere m x.1) read (valid.ends_there g own within))
      (subst (λ (x : Place × Place). site x.0 ≡ site x.1 → ⊥) read (valid.two_sites g own within)) (ap (turned from) (sym is) ∙ way)
  | inr (past, is) ↦ absurd (let bad : None ≡ Some ends = rw is at way in cc)
]

-- a run that brings qubit q to an end of trap t's chain, where nothing is outside the traps then
pub record Reaches (m : MachineData) (s : State) (ops : List OpKind) (cs : ℕ → List Qubit) (t : ℕ) (q : Qubit) : Type 0 where
  pub run : IsRun m s ops
  pub end : End
  pub lies : Lies (after m s ops) (settled (with_at t (joined end q (cs t)) cs))

-- an operation before the others
before : (m : MachineData) (s : State) (op : OpKind) (ops : List OpKind) (cs : ℕ → List Qubit) (t : ℕ) (q : Qubit) → why m s op ≡ None → Reaches m (effect m s op) ops cs t q → Reaches m s (op ∷ ops) cs t q
before m s op ops cs t q legal r = record { run = (legal, r.run); end = r.end; lies = r.lies }

-- from a segment's near end on, where the rest is known from a junction
pub from_segment : (m : MachineData) (cs : ℕ → List Qubit) (t : ℕ) (q : Qubit) (from : Res) (g : ℕ) (near far : Place) (path : List ℕ) → length (cs t) < get_or m.capacities t 0 → (way : Goes m from g (near, far))
    → ((k : JuncId) (z : State) → k.0 < m.junctions → is_path (wiring_of m) t path (res.Junc k) ≡ true → Lies z (in_junction cs k.0 q) → Reaches m z (along m path (res.Junc k)) cs t q)
    → (s : State) → goes_on t (Some (near, far)) (is_last path) (is_path (wiring_of m) t path) ≡ true → Lies s (on_segment cs g way.end q)
    → Reaches m s (Move (segment g) ∷ arrive_by g far ∷ along m path (site far)) cs t q
from_segment m cs t q from g near (TrapEnd u f) path room way more s leads_on lies =
    let parts : (is_last path ≡ true) × (eqb u.0 t ≡ true) = and_parts (is_last path) (eqb u.0 t) leads_on in
    let over : (why m s (Move (segment g)) ≡ None) × Lies (effect m s (Move (segment g))) (on_segment cs g (other_end way.end) q) = over_segment m s cs g way.end q way.there lies in
    let same : u.0 ≡ t = eqb-true u.0 t parts.1 in
    let z : State = effect m s (Move (segment g)) in
    let into : (why m z (Merge (segment g) u f) ≡ None) × Lies (effect m z (Merge (segment g) u f)) (settled (with_at u.0 (joined f q (cs u.0)) cs)) =
    into_trap m z cs u g (other_end way.end) f q way.there (lt-ltb u.0 (length m.capacities) way.far_there) way.far_end (rw same room) over.1 in
    before m s (Move (segment g)) (Merge (segment g) u f ∷ along m path (site (TrapEnd u f))) cs t q over.0
    (before m z (Merge (segment g) u f) (along m path (site (TrapEnd u f))) cs t q into.0 (done path parts.0 (effect m z (Merge (segment g) u f)) (subst (λ (n : ℕ). Lies (effect m z (Merge (segment g) u f)) (settled (with_at n (joined f q (cs n)) cs))) same into.1)))
  where
    done : (path : List ℕ) → is_last path ≡ true → (z : State) → Lies z (settled (with_at t (joined f q (cs t)) cs)) → Reaches m z (along m path (site (TrapEnd u f))) cs t q
    done [] last z lies = record { run = tt; end = f; lies = lies }
    done (h ∷ path) last z lies = cc
from_segment m cs t q from g near (Junction k) path room way more s leads_on lies =
    let over : (why m s (Move (segment g)) ≡ None) × Lies (effect m s (Move (segment g))) (on_segment cs g (other_end way.end) q) = over_segment m s cs g way.end q way.there lies in
    let z : State = effect m s (Move (segment g)) in
    let into : (why m z (Enter (segment g) k) ≡ None) × Lies (effect m z (Enter (segment g) k)) (in_junction cs k.0 q) =
    into_junction m z cs k g (other_end way.end) q way.there (lt-ltb k.0 m.junctions way.far_there) way.far_end over.1 in
    before m s (Move (segment g)) (Enter (segment g) k ∷ along m path (res.Junc k)) cs t q over.0
    (before m z (Enter (segment g) k) (along m path (res.Junc k)) cs t q into.0 (more k (effect m z (Enter (segment g) k)) way.far_there leads_on into.1))

-- the near end of a segment that is gone along from a junction is there
near_junction : (j : JuncId) (p : Place) → same_res (site p) (res.Junc j) ≡ true → p ≡ Junction j
near_junction j (TrapEnd t e) same = cc
near_junction j (Junction k) same =
    let number : k.0 ≡ j.0 = eqb-true k.0 j.0 (and_parts true (eqb k.0 j.0) same).1 in
    ap (λ (n : ℕ). Junction (record { 0 = n })) number

by_way : (m : MachineData) (cs : ℕ → List Qubit) (t : ℕ) (q : Qubit) → IsValid m → length (cs t) < get_or m.capacities t 0 → (g : ℕ) (path : List ℕ) (j : JuncId) (s : State) → j.0 < m.junctions → Lies s (in_junction cs j.0 q)
    → ((k : JuncId) (z : State) → k.0 < m.junctions → is_path (wiring_of m) t path (res.Junc k) ≡ true → Lies z (in_junction cs k.0 q) → Reaches m z (along m path (res.Junc k)) cs t q)
    → (way : Option (Place × Place)) → way_along (wiring_of m) (res.Junc j) g ≡ way → goes_on t way (is_last path) (is_path (wiring_of m) t path) ≡ true → Reaches m s (along_way g way (along m path)) cs t q
by_way m cs t q valid room g path j s there lies more None is on = cc
by_way m cs t q valid room g path j s there lies more (Some ends) is on =
    let way : Goes m (res.Junc j) g ends = goes m (res.Junc j) g ends valid is in
    let near : ends.0 ≡ Junction j = near_junction j ends.0 way.from_near in
    let off : (why m s (Leave j (segment g)) ≡ None) × Lies (effect m s (Leave j (segment g))) (on_segment cs g way.end q) =
    off_junction m s cs j g way.end q way.there (lt-ltb j.0 m.junctions there) (ap (end_at m g) (sym near) ∙ way.near_end) lies in
    subst (λ (p : Place). Reaches m s (leave_by g p ∷ Move (segment g) ∷ arrive_by g ends.1 ∷ along m path (site ends.1)) cs t q) (sym near)
    (before m s (Leave j (segment g)) (Move (segment g) ∷ arrive_by g ends.1 ∷ along m path (site ends.1)) cs t q off.0
    (from_segment m cs t q (res.Junc j) g ends.0 ends.1 path room way more (effect m s (Leave j (segment g))) on off.1))

pub from_junction : (m : MachineData) (cs : ℕ → List Qubit) (t : ℕ) (q : Qubit) → IsValid m → length (cs t) < get_or m.capacities t 0
    → (path : List ℕ) (j : JuncId) (s : State) → j.0 < m.junctions → is_path (wiring_of m) t path (res.Junc j) ≡ true → Lies s (in_junction cs j.0 q) → Reaches m s (along m path (res.Junc j)) cs t q
from_junction m cs t q valid room [] j s there leads_on lies = cc
from_junction m cs t q valid room (g ∷ path) j s there leads_on lies =
    by_way m cs t q valid room g path j s there lies (λ k z. from_junction m cs t q valid room path k z) (way_along (wiring_of m) (res.Junc j) g) refl leads_on

-- the near end of a segment that is gone along from a trap
pub near_trap : (t : TrapId) (p : Place) → same_res (site p) (res.Trap t) ≡ true → (e : End) × (p ≡ TrapEnd t e)
near_trap t (TrapEnd u e) same =
    let number : u.0 ≡ t.0 = eqb-true u.0 t.0 (and_parts true (eqb u.0 t.0) same).1 in
    (e, ap (λ (n : ℕ). TrapEnd (record { 0 = n }) e) number)
near_trap t (Junction k) same = cc
