-- Where a qubit stands that has a trap: it is found in the chain of that trap alone.
use Rattle.std.proofs.Common.{arith, ◌≡◌, ℕ, ◌<◌, ◌≤◌, ◌==◌, inl, inr, cond, Bool, true, false, List, length, get_or, refl, sym, ◌∙◌, ap, subst, Option, Some, None, option_map, position, slice_get, count_by}
use Rattle.std.specs.List.{position_or_len}
use Rattle.std.proofs.lemmas.List.Sums.{fails_before_first}
use Rattle.std.proofs.lemmas.Bool.{and_parts, cases_lt, eq-eqb, eqb-true, false≢true, lt-ltb}
use Rattle.std.proofs.lemmas.List.Quantifiers.{position-Some}
use Rattle.std.proofs.lemmas.Option.{same_Some, none-some, get_or_from_slice_get, slice_get-get_or, slice_get_within}
use Rattle.qccd_base.specs.Names.{trap}
use Rattle.qccd_base.specs.declared.names.Qubit.{Qubit}
use Rattle.qccd_base.specs.declared.names.TrapId.{TrapId}
use Rattle.qccd_machine.specs.Machine.{MachineData}
use Rattle.op_table.specs.declared.contents.Entry.{Entry}
use Rattle.op_table.specs.Contents.{chain, entry_of}
use Rattle.op_table.specs.State.{IonPlace, InTrap, OnSegment, InJunction, Stand, State, is_at, ions_in, IsSafe}
use Rattle.op_table.proofs.Chains.{length-chain}
use Rattle.op_table.proofs.Found.{at_own, chain_stand, seek_unique, stand_chain}
use Rattle.op_plan.specs.Place.{ion_place, trap_and_position, stands_in, home}
use Rattle.op_plan.proofs.Homes.{carrier, carrier_there, home_is, home_in, trap_at}

none_passes : {X : Type 0} (p : X → Bool) (xs : List X) (k : ℕ) (x : X) → slice_get xs k ≡ Some x → p x ≡ true → position p xs ≡ None → ⊥
none_passes p xs k x at passes none =
    let n : ℕ = position_or_len p xs in
    elim (cases_lt n (length xs)) [
      | inl less ↦ none-some n (sym none ∙ ap (λ (b : Bool). cond b (Some n) None) (lt-ltb n (length xs) less))
      | inr past ↦
          let within : k < length xs = slice_get_within xs k x at in
          let fails : p (get_or xs k x) ≡ false = fails_before_first p xs k x (omega (arith, past, within)) in
          false≢true (sym fails ∙ ap p (get_or_from_slice_get xs k x x at) ∙ passes)
    ]

-- in a list in which one place passes the test, it is the first that does
first_is : {X : Type 0} (p : X → Bool) (xs : List X) (k : ℕ) (x : X) → slice_get xs k ≡ Some x → p x ≡ true → ((j : ℕ) (y : X) → slice_get xs j ≡ Some y → p y ≡ true → j ≡ k) → position p xs ≡ Some k
first_is {X} p xs k x at passes only = by_found (position p xs) refl
  where
    by_found : (o : Option ℕ) → position p xs ≡ o → position p xs ≡ Some k
    by_found None none = absurd (none_passes p xs k x at passes none)
    by_found (Some i) some =
        let found = position-Some p xs i x some in
        some ∙ ap (λ (n : ℕ). Some n) (only i (get_or xs i x) (slice_get-get_or xs i x found.0) found.1)

-- a qubit that stands at this position, and once at most, is found there
pub seated : (q : Qubit) (es : List Entry) (k : ℕ) (d : Entry) → k < length es → (get_or es k d).qubit.0 ≡ q.0
    → ((i j : ℕ) (x y : Entry) → slice_get es i ≡ Some x → slice_get es j ≡ Some y → (x.qubit.0 == q.0) ≡ true → (y.qubit.0 == q.0) ≡ true → i ≡ j) → Some k ≡ position (λ (e : Entry). e.qubit.0 == q.0) es
seated q es k d within is once =
    let own : Entry = get_or es k d in
    let here : slice_get es k ≡ Some own = slice_get-get_or es k d within in
    let passes : (own.qubit.0 == q.0) ≡ true = eq-eqb own.qubit.0 q.0 is in
    sym (first_is (λ (e : Entry). e.qubit.0 == q.0) es k own here passes (λ j y other found. once j k y own other here found passes))

-- the place of a qubit that has a trap
place_is : (s : State) (q : Qubit) (w : Stand) (t : TrapId) → carrier s q ≡ Some w → home s q ≡ Some t → (k : ℕ) × (w.place ≡ InTrap t.0 k)
place_is s q w t is at = by_place w.place refl (sym (ap home_in is) ∙ sym (home_is s q) ∙ at)
  where
    by_place : (place : IonPlace) → w.place ≡ place → trap_at w.place ≡ Some t → (k : ℕ) × (w.place ≡ InTrap t.0 k)
    by_place (InTrap u k) here own = (k, here ∙ ap (λ (v : TrapId). InTrap v.0 k) (same_Some (trap u) t (sym (ap trap_at here) ∙ own)))
    by_place (OnSegment g e h) here own = absurd (none-some t (sym (ap trap_at here) ∙ own))
    by_place (InJunction j h) here own = absurd (none-some t (sym (ap trap_at here) ∙ own))

-- it stands there, and is found in the chain
pub record Found (s : State) (q : Qubit) (t : TrapId) : Type 0 where
  pub index : ℕ
  pub place : ion_place s q ≡ Some (InTrap t.0 index)
  pub within : index < ions_in s t.0
  pub first : position (λ (e : Entry). e.qubit.0 == q.0) (chain s t.0) ≡ Some index
  pub only : (j : ℕ) (y : Entry) → slice_get (chain s t.0) j ≡ Some y → (y.qubit.0 == q.0) ≡ true → j ≡ index

pub found_in : (m : MachineData) (s : State) (q : Qubit) (t : TrapId) → IsSafe m s → q.0 < length s.ions → home s q ≡ Some t → Found s q t
found_in m s q t safe below at =
    let who = carrier_there m s q safe below in
    let here = place_is s q who.1 t who.4 at in
    let k : ℕ = here.0 in
    let stands : slice_get (chain s t.0) k ≡ Some (entry_of (who.0, who.1)) = stand_chain m s t.0 k who.0 who.1 safe who.2 (ap (is_at t.0 k) here.1 ∙ at_own t.0 k) in
    record {
      index = k;
      place = ap (option_map (λ (v : Stand). v.place)) who.4 ∙ ap (λ (x : IonPlace). Some x) here.1;
      within = subst (λ (n : ℕ). k < n) (length-chain m s t.0 safe) (slice_get_within (chain s t.0) k (entry_of (who.0, who.1)) stands);
      first = first_is (λ (e : Entry). e.qubit.0 == q.0) (chain s t.0) k (entry_of (who.0, who.1)) stands who.3 (λ j y other passes. one_place who.0 who.1 k here.1 who.2 who.3 j y other passes);
      only = λ j y other passes. one_place who.0 who.1 k here.1 who.2 who.3 j y other passes;
    }
  where
    one_place : (i : ℕ) (w : Stand) (k : ℕ) → w.place ≡ InTrap t.0 k → slice_get s.ions i ≡ Some w → (w.qubit.0 == q.0) ≡ true → (j : ℕ) (y : Entry) → slice_get (chain s t.0) j ≡ Some y → (y.qubit.0 == q.0) ≡ true → j ≡ k
    one_place i w k place is carries j y other passes =
        let found = chain_stand m s t.0 j y safe other in
        let one : count_by (λ (v : Stand). v.qubit.0 == q.0) s.ions ≤ 1 = omega (arith, safe.qubits q.0 below) in
        let mine = seek_unique (λ (v : Stand). v.qubit.0 == q.0) s.ions i w one is carries in
        let theirs = seek_unique (λ (v : Stand). v.qubit.0 == q.0) s.ions found.0.0 found.0.1 one found.1 (ap (λ (e : Entry). e.qubit.0 == q.0) found.3 ∙ passes) in
        let same : found.0 ≡ (i, w) = same_Some found.0 (i, w) (sym theirs ∙ mine) in
        let at_j : is_at t.0 j (InTrap t.0 k) ≡ true = sym (ap (is_at t.0 j) (ap (λ (x : ℕ × Stand). x.1.place) same ∙ place)) ∙ found.2 in
        sym (eqb-true k j (and_parts (t.0 == t.0) (k == j) at_j).1)

-- with no trap it stands in none
no_place : (o : Option Stand) → home_in o ≡ None → trap_and_position (option_map (λ (w : Stand). w.place) o) ≡ None
no_place None at = refl
no_place (Some w) at = by_place w.place refl
  where
    by_place : (place : IonPlace) → w.place ≡ place → trap_and_position (Some w.place) ≡ None
    by_place (InTrap u k) here = absurd (none-some (trap u) (sym at ∙ ap trap_at here))
    by_place (OnSegment g e h) here = ap (λ (x : IonPlace). trap_and_position (Some x)) here
    by_place (InJunction j h) here = ap (λ (x : IonPlace). trap_and_position (Some x)) here

pub nowhere : (s : State) (q : Qubit) → home s q ≡ None → stands_in s q ≡ None
nowhere s q at = no_place (carrier s q) (sym (home_is s q) ∙ at)
