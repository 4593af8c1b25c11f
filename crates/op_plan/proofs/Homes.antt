-- In which trap each qubit stands after an operation: only a split and a merge change it, of one qubit.
use Rattle.std.proofs.Common.{arith, ◌≡◌, ◌≢◌, ℕ, ◌+◌, ◌-◌, ◌≤◌, ◌<◌, ◌==◌, inl, inr, ◌∙◌, ap, ap₂, sym, subst, refl, Bool, true, false, if◌then◌else◌, List, length, map, Option, Some, None, option_map, unwrap_or, find, set, nat_lt, count_by, slice_get}
use Rattle.std.proofs.lemmas.Bool.{cases_Bool, eqb-true, eq-eqb, and_parts, false≢true}
use Rattle.std.proofs.lemmas.List.{length-map}
use Rattle.std.proofs.lemmas.Option.{same_Some, none-some, slice_get-map}
use Rattle.qccd_base.specs.declared.names.JuncId.{JuncId}
use Rattle.op_table.proofs.Exchanges.{Pair, new_qubit}
use Rattle.qccd_base.specs.Names.{trap}
use Rattle.qccd_base.specs.declared.names.Qubit.{Qubit}
use Rattle.qccd_base.specs.declared.names.TrapId.{TrapId}
use Rattle.qccd_base.specs.declared.names.End.{End}
use Rattle.qccd_base.specs.declared.names.End.TheVariants.{Left, Right}
use Rattle.qccd_base.specs.declared.names.SegEnd.{SegEnd}
use Rattle.qccd_base.specs.declared.names.SegEnd.TheVariants.{A}
use Rattle.qccd_machine.specs.Machine.{MachineData}
use Rattle.op_table.specs.declared.kinds.OpKind.TheVariants.{Split, Move, Enter, Leave, Merge, Rot, GSwap}
use Rattle.op_table.specs.State.{IonPlace, InTrap, OnSegment, InJunction, Stand, State, is_at, is_on_segment, ions_in, qubit_at, heat_of, ion_on_segment, IsSafe}
use Rattle.time_heat.specs.Heat.{moved_heat, entered_heat}
use Rattle.op_table.specs.declared.contents.Entry.{Entry}
use Rattle.op_table.specs.declared.contents.Rider.{Rider}
use Rattle.op_table.specs.Contents.{seek, entry_of, rider_of, chain, rider}
use Rattle.qccd_base.specs.declared.names.SegId.{SegId}
use Rattle.qccd_machine.specs.declared.place.Place.TheVariants.{TrapEnd, Junction}
use Rattle.time_heat.specs.Heat.{split_ion_heat, split_trap_heat, merged_heat, rotated_heat}
use Rattle.op_table.specs.Step.{end_at, rider_heat, other_end, effect, swapped, exchanged, rotated, shifted_down, shifted_up, split_place, merge_place, move_place, enter_place, leave_place}
use Rattle.op_table.proofs.Counts.{find-map}
use Rattle.op_table.proofs.Seeking.{stand_in, seek-find}
use Rattle.op_table.proofs.Chains.{seek_some}
use Rattle.op_table.proofs.Found.{seek_unique, seek_stands, chain_stand, stand_chain}
use Rattle.op_plan.specs.Place.{trap_and_position, home}

-- the trap of a place
abbrev pub trap_at : IonPlace → Option TrapId
trap_at (InTrap t k) = Some (trap t)
trap_at (OnSegment g e h) = None
trap_at (InJunction j h) = None

abbrev pub carrier : State → Qubit → Option Stand
carrier s q = find (λ (w : Stand). w.qubit.0 == q.0) s.ions

abbrev pub home_in : Option Stand → Option TrapId
home_in None = None
home_in (Some w) = trap_at w.place

pub home_is : (s : State) (q : Qubit) → home s q ≡ home_in (carrier s q)
home_is s q = by_stand (carrier s q)
  where
    by_place : (place : IonPlace) → option_map (λ (p : TrapId × ℕ). p.0) (trap_and_position (Some place)) ≡ trap_at place
    by_place (InTrap t k) = refl
    by_place (OnSegment g e h) = refl
    by_place (InJunction j h) = refl

    by_stand : (o : Option Stand) → option_map (λ (p : TrapId × ℕ). p.0) (trap_and_position (option_map (λ (w : Stand). w.place) o)) ≡ home_in o
    by_stand None = refl
    by_stand (Some w) = by_place w.place

-- places change, qubits stay with their ions
placed_home : (f : IonPlace → IonPlace) (heats : List ℕ) (s : State) (q : Qubit)
    → home_in (carrier (record s { ions = map (λ (w : Stand). record w { place = f w.place }) s.ions; heats = heats }) q) ≡ home_in (option_map (λ (w : Stand). record w { place = f w.place }) (carrier s q))
placed_home f heats s q = ap home_in (find-map (λ (w : Stand). w.qubit.0 == q.0) (λ (w : Stand). record w { place = f w.place }) s.ions)

-- where no place changes its trap, no qubit does
same_home : (f : IonPlace → IonPlace) (heats : List ℕ) (s : State) (q : Qubit) → ((place : IonPlace) → trap_at (f place) ≡ trap_at place)
    → home (record s { ions = map (λ (w : Stand). record w { place = f w.place }) s.ions; heats = heats }) q ≡ home s q
same_home f heats s q same =
    home_is (record s { ions = map (λ (w : Stand). record w { place = f w.place }) s.ions; heats = heats }) q ∙ placed_home f heats s q ∙ by_stand (carrier s q) ∙ sym (home_is s q)
  where
    by_stand : (o : Option Stand) → home_in (option_map (λ (w : Stand). record w { place = f w.place }) o) ≡ home_in o
    by_stand None = refl
    by_stand (Some w) = same w.place

either_trap : (b : Bool) (x y : IonPlace) (t : Option TrapId) → trap_at x ≡ t → trap_at y ≡ t → trap_at (if b then x else y) ≡ t
either_trap true x y t p q = p
either_trap false x y t p q = q

rotated_trap : (t a b : ℕ) (place : IonPlace) → trap_at (rotated t a b place) ≡ trap_at place
rotated_trap t a b (InTrap u k) = either_trap (u == t) (InTrap u (exchanged a b k)) (InTrap u k) (Some (trap u)) refl refl
rotated_trap t a b (OnSegment g e h) = refl
rotated_trap t a b (InJunction j h) = refl

moved_trap : (g : ℕ) (place : IonPlace) → trap_at (move_place g place) ≡ trap_at place
moved_trap g (InTrap u k) = refl
moved_trap g (OnSegment s e h) = either_trap (s == g) (OnSegment s (other_end e) (moved_heat h)) (OnSegment s e h) None refl refl
moved_trap g (InJunction j h) = refl

entered_trap : (g j : ℕ) (place : IonPlace) → trap_at (enter_place g j place) ≡ trap_at place
entered_trap g j (InTrap u k) = refl
entered_trap g j (OnSegment s e h) = either_trap (s == g) (InJunction j (entered_heat h)) (OnSegment s e h) None refl refl
entered_trap g j (InJunction i h) = refl

left_trap : (g j : ℕ) (end : SegEnd) (place : IonPlace) → trap_at (leave_place g j end place) ≡ trap_at place
left_trap g j end (InTrap u k) = refl
left_trap g j end (OnSegment s e h) = refl
left_trap g j end (InJunction i h) = either_trap (i == j) (OnSegment g end h) (InJunction i h) None refl refl

down_trap : (t : ℕ) (place : IonPlace) → trap_at (shifted_down t place) ≡ trap_at place
down_trap t (InTrap u k) = either_trap (u == t) (InTrap u (k - 1)) (InTrap u k) (Some (trap u)) refl refl
down_trap t (OnSegment g e h) = refl
down_trap t (InJunction j h) = refl

up_trap : (t : ℕ) (place : IonPlace) → trap_at (shifted_up t place) ≡ trap_at place
up_trap t (InTrap u k) = either_trap (u == t) (InTrap u (k + 1)) (InTrap u k) (Some (trap u)) refl refl
up_trap t (OnSegment g e h) = refl
up_trap t (InJunction j h) = refl

-- ---- who carries a qubit

-- the one ion that carries it is found
pub carrier_is : (m : MachineData) (s : State) (i : ℕ) (w : Stand) (q : Qubit) → IsSafe m s → q.0 < length s.ions → slice_get s.ions i ≡ Some w → (w.qubit.0 == q.0) ≡ true → carrier s q ≡ Some w
carrier_is m s i w q safe below is carries =
    let one : count_by (λ (v : Stand). v.qubit.0 == q.0) s.ions ≤ 1 = omega (arith, safe.qubits q.0 below) in
    sym (seek-find (λ (v : Stand). v.qubit.0 == q.0) s.ions) ∙ ap stand_in (seek_unique (λ (v : Stand). v.qubit.0 == q.0) s.ions i w one is carries)

pub carrier_there : (m : MachineData) (s : State) (q : Qubit) → IsSafe m s → q.0 < length s.ions
    → (i : ℕ) × (w : Stand) × (slice_get s.ions i ≡ Some w) × ((w.qubit.0 == q.0) ≡ true) × (carrier s q ≡ Some w)
carrier_there m s q safe below =
    let one : 1 ≤ count_by (λ (v : Stand). v.qubit.0 == q.0) s.ions = omega (arith, safe.qubits q.0 below) in
    let found = seek_some (λ (v : Stand). v.qubit.0 == q.0) s.ions one in
    let stands = seek_stands (λ (v : Stand). v.qubit.0 == q.0) s.ions found.0 found.1 in
    (found.0.0, found.0.1, stands.0, stands.1, sym (seek-find (λ (v : Stand). v.qubit.0 == q.0) s.ions) ∙ ap stand_in found.1)

-- its home after a change of places is that of the changed place
placed_of : (f : IonPlace → IonPlace) (heats : List ℕ) (s : State) (q : Qubit) (w : Stand) → carrier s q ≡ Some w
    → home (record s { ions = map (λ (v : Stand). record v { place = f v.place }) s.ions; heats = heats }) q ≡ trap_at (f w.place)
placed_of f heats s q w is =
    home_is (record s { ions = map (λ (v : Stand). record v { place = f v.place }) s.ions; heats = heats }) q
    ∙ placed_home f heats s q ∙ ap (λ (o : Option Stand). home_in (option_map (λ (v : Stand). record v { place = f v.place }) o)) is

pub home_of : (s : State) (q : Qubit) (w : Stand) → carrier s q ≡ Some w → home s q ≡ trap_at w.place
home_of s q w is = home_is s q ∙ ap home_in is

-- ---- a split

-- the qubit at that end leaves, and no other changes its trap
abbrev pub end_position : ℕ → End → ℕ
end_position n Left = 0
end_position n Right = n - 1

split_trap : (t n : ℕ) (e : End) (onto place : IonPlace) → is_at t (end_position n e) place ≡ false → trap_at (split_place t n e onto place) ≡ trap_at place
split_trap t n Left onto place off = ap (λ (b : Bool). trap_at (if b then onto else shifted_down t place)) off ∙ down_trap t place
split_trap t n Right onto place off = ap (λ (b : Bool). trap_at (if b then onto else place)) off

split_onto : (t n : ℕ) (e : End) (onto place : IonPlace) → is_at t (end_position n e) place ≡ true → split_place t n e onto place ≡ onto
split_onto t n Left onto place at = ap (λ (b : Bool). if b then onto else shifted_down t place) at
split_onto t n Right onto place at = ap (λ (b : Bool). if b then onto else place) at

pub split_home : (m : MachineData) (s : State) (t : TrapId) (e : End) (g : SegId) (x : Entry) → IsSafe m s
    → slice_get (chain s t.0) (end_position (ions_in s t.0) e) ≡ Some x → x.qubit.0 < length s.ions → home (effect m s (Split t e g)) x.qubit ≡ None
split_home m s t e g x safe at below =
    let n : ℕ = ions_in s t.0 in
    let onto : IonPlace = OnSegment g.0 (unwrap_or (end_at m g.0 (TrapEnd t e)) A) (split_ion_heat (heat_of s t.0) n) in
    let found = chain_stand m s t.0 (end_position n e) x safe at in
    let own : carrier s x.qubit ≡ Some found.0.1 = carrier_is m s found.0.0 found.0.1 x.qubit safe below found.1 (ap (λ (y : Entry). y.qubit.0 == x.qubit.0) found.3 ∙ eq-eqb x.qubit.0 x.qubit.0 refl) in
    placed_of (split_place t.0 n e onto) (set s.heats t.0 (split_trap_heat (heat_of s t.0) n)) s x.qubit found.0.1 own
    ∙ ap trap_at (split_onto t.0 n e onto found.0.1.place found.2)

pub split_others : (m : MachineData) (s : State) (t : TrapId) (e : End) (g : SegId) (x : Entry) (q : Qubit) → IsSafe m s
    → slice_get (chain s t.0) (end_position (ions_in s t.0) e) ≡ Some x → q.0 < length s.ions → q.0 ≢ x.qubit.0 → home (effect m s (Split t e g)) q ≡ home s q
split_others m s t e g x q safe at below other =
    let n : ℕ = ions_in s t.0 in
    let onto : IonPlace = OnSegment g.0 (unwrap_or (end_at m g.0 (TrapEnd t e)) A) (split_ion_heat (heat_of s t.0) n) in
    let who = carrier_there m s q safe below in
    let off : is_at t.0 (end_position n e) who.1.place ≡ false = elim (cases_Bool (is_at t.0 (end_position n e) who.1.place)) [
      | inl h ↦
          let same : Some x ≡ Some (entry_of (who.0, who.1)) = sym at ∙ stand_chain m s t.0 (end_position n e) who.0 who.1 safe who.2 h in
          absurd (other (sym (eqb-true who.1.qubit.0 q.0 who.3) ∙ ap (λ (y : Entry). y.qubit.0) (sym (same_Some x (entry_of (who.0, who.1)) same))))
      | inr h ↦ h
    ] in
    placed_of (split_place t.0 n e onto) (set s.heats t.0 (split_trap_heat (heat_of s t.0) n)) s q who.1 who.4
    ∙ split_trap t.0 n e onto who.1.place off ∙ sym (home_of s q who.1 who.4)

-- ---- a merge

merge_trap : (g t n : ℕ) (e : End) (place : IonPlace) → is_on_segment g place ≡ false → trap_at (merge_place g t n e place) ≡ trap_at place
merge_trap g t n Left place off = ap (λ (b : Bool). trap_at (if b then InTrap t 0 else shifted_up t place)) off ∙ up_trap t place
merge_trap g t n Right place off = ap (λ (b : Bool). trap_at (if b then InTrap t n else place)) off

merge_into : (g t n : ℕ) (e : End) (place : IonPlace) → is_on_segment g place ≡ true → trap_at (merge_place g t n e place) ≡ Some (trap t)
merge_into g t n Left place on = ap (λ (b : Bool). trap_at (if b then InTrap t 0 else shifted_up t place)) on
merge_into g t n Right place on = ap (λ (b : Bool). trap_at (if b then InTrap t n else place)) on

-- the ion on a segment stands there, alone
pub rider_stand : (s : State) (g : ℕ) (x : Rider) → rider s g ≡ Some x → (y : ℕ × Stand) × (slice_get s.ions y.0 ≡ Some y.1) × (is_on_segment g y.1.place ≡ true) × (rider_of y ≡ x)
rider_stand s g x is = by_sought (seek (λ (w : Stand). is_on_segment g w.place) s.ions) refl is
  where
    by_sought : (o : Option (ℕ × Stand)) → seek (λ (w : Stand). is_on_segment g w.place) s.ions ≡ o → option_map rider_of o ≡ Some x → (y : ℕ × Stand) × (slice_get s.ions y.0 ≡ Some y.1) × (is_on_segment g y.1.place ≡ true) × (rider_of y ≡ x)
    by_sought None found e = absurd (none-some x e)
    by_sought (Some y) found e = let stands = seek_stands (λ (w : Stand). is_on_segment g w.place) s.ions y found in (y, stands.0, stands.1, same_Some (rider_of y) x e)

pub merge_home : (m : MachineData) (s : State) (g : SegId) (t : TrapId) (e : End) (x : Rider) → IsSafe m s
    → rider s g.0 ≡ Some x → x.entry.qubit.0 < length s.ions → home (effect m s (Merge g t e)) x.entry.qubit ≡ Some t
merge_home m s g t e x safe is below =
    let found = rider_stand s g.0 x is in
    let own : carrier s x.entry.qubit ≡ Some found.0.1 = carrier_is m s found.0.0 found.0.1 x.entry.qubit safe below found.1 (ap (λ (y : Rider). y.entry.qubit.0 == x.entry.qubit.0) found.3 ∙ eq-eqb x.entry.qubit.0 x.entry.qubit.0 refl) in
    placed_of (merge_place g.0 t.0 (ions_in s t.0) e) (set s.heats t.0 (merged_heat (heat_of s t.0) (rider_heat (ion_on_segment s g.0)))) s x.entry.qubit found.0.1 own
    ∙ merge_into g.0 t.0 (ions_in s t.0) e found.0.1.place found.2

pub merge_others : (m : MachineData) (s : State) (g : SegId) (t : TrapId) (e : End) (x : Rider) (q : Qubit) → IsSafe m s
    → rider s g.0 ≡ Some x → q.0 < length s.ions → q.0 ≢ x.entry.qubit.0 → home (effect m s (Merge g t e)) q ≡ home s q
merge_others m s g t e x q safe is below other =
    let who = carrier_there m s q safe below in
    let few : count_by (λ (w : Stand). is_on_segment g.0 w.place) s.ions ≤ 1 = at_most (nat_lt g.0 (length m.segments)) (safe.segments g.0) in
    let off : is_on_segment g.0 who.1.place ≡ false = elim (cases_Bool (is_on_segment g.0 who.1.place)) [
      | inl h ↦
          let same : Some x ≡ Some (rider_of (who.0, who.1)) = sym is ∙ ap (option_map rider_of) (seek_unique (λ (w : Stand). is_on_segment g.0 w.place) s.ions who.0 who.1 few who.2 h) in
          absurd (other (sym (eqb-true who.1.qubit.0 q.0 who.3) ∙ ap (λ (y : Rider). y.entry.qubit.0) (sym (same_Some x (rider_of (who.0, who.1)) same))))
      | inr h ↦ h
    ] in
    placed_of (merge_place g.0 t.0 (ions_in s t.0) e) (set s.heats t.0 (merged_heat (heat_of s t.0) (rider_heat (ion_on_segment s g.0)))) s q who.1 who.4
    ∙ merge_trap g.0 t.0 (ions_in s t.0) e who.1.place off ∙ sym (home_of s q who.1 who.4)
  where
    at_most : (b : Bool) {n : ℕ} → n ≤ (if b then 1 else 0) → n ≤ 1
    at_most true h = h
    at_most false h = omega (arith, h)

-- ---- an exchange of qubits

at_trap : (t k : ℕ) (place : IonPlace) → is_at t k place ≡ true → trap_at place ≡ Some (trap t)
at_trap t k (InTrap u i) h = ap (λ (v : ℕ). Some (trap v)) (eqb-true u t (and_parts (u == t) (i == k) h).0)
at_trap t k (OnSegment g e d) h = absurd (false≢true h)
at_trap t k (InJunction j d) h = absurd (false≢true h)

-- the two ions, and which qubit each carries afterwards
the_pair : (m : MachineData) (s : State) (t low high : ℕ) → IsSafe m s → low < high → high < ions_in s t → Pair s t low high
the_pair m s t low high safe order within =
    let one : count_by (λ w. is_at t low w.place) s.ions ≡ 1 = safe.indexes t low (omega (arith, order, within)) in
    let two : count_by (λ w. is_at t high w.place) s.ions ≡ 1 = safe.indexes t high within in
    let x = seek_some (λ w. is_at t low w.place) s.ions (omega (arith, one)) in
    let y = seek_some (λ w. is_at t high w.place) s.ions (omega (arith, two)) in
    record { a = x.0; b = y.0; at_low = x.1; at_high = y.1; first_at = x.2; second_at = y.2; once_low = one; once_high = two; differ = λ e. omega (arith, e, order) }

at_qubit : (s : State) (t k : ℕ) (x : ℕ × Stand) → seek (λ w. is_at t k w.place) s.ions ≡ Some x → qubit_at s t k ≡ Some x.1.qubit
at_qubit s t k x is = ap (option_map (λ (w : Stand). w.qubit)) (sym (seek-find (λ w. is_at t k w.place) s.ions) ∙ ap stand_in is)

swapped_is : (s : State) (t low high : ℕ) (p : Pair s t low high) (w : Stand) → swapped s t low high w ≡ new_qubit s t low high p w
swapped_is s t low high p w =
    ap₂ (λ (x y : Option Qubit). if is_at t low w.place then unwrap_or x w.qubit else (if is_at t high w.place then unwrap_or y w.qubit else w.qubit))
    (at_qubit s t high p.b p.at_high) (at_qubit s t low p.a p.at_low)

-- the ion at index i carries the qubit afterwards
swapped_carrier : (m : MachineData) (s : State) (t : TrapId) (low high i : ℕ) (w : Stand) (q : Qubit) → IsSafe m (effect m s (GSwap t low high)) → q.0 < length s.ions
    → slice_get s.ions i ≡ Some w → ((swapped s t.0 low high w).0 == q.0) ≡ true → home (effect m s (GSwap t low high)) q ≡ trap_at w.place
swapped_carrier m s t low high i w q safe below is carries =
    let g : Stand → Stand = λ (v : Stand). record v { qubit = swapped s t.0 low high v } in
    let z : State = effect m s (GSwap t low high) in
    home_of z q (g w) (carrier_is m z i (g w) q safe (subst (λ (n : ℕ). q.0 < n) (sym (length-map s.ions g)) below) (slice_get-map g s.ions i ∙ ap (option_map g) is) carries)

pub gswap_home : (m : MachineData) (s : State) (t : TrapId) (low high : ℕ) (q : Qubit) → IsSafe m s → IsSafe m (effect m s (GSwap t low high))
    → low < high → high < ions_in s t.0 → q.0 < length s.ions → home (effect m s (GSwap t low high)) q ≡ home s q
gswap_home m s t low high q safe after order within below =
    let p : Pair s t.0 low high = the_pair m s t.0 low high safe order within in
    let who = carrier_there m s q safe below in
    let a_stands = seek_stands (λ (w : Stand). is_at t.0 low w.place) s.ions p.a p.at_low in
    let b_stands = seek_stands (λ (w : Stand). is_at t.0 high w.place) s.ions p.b p.at_high in
    elim (cases_Bool (is_at t.0 low who.1.place)) [
      | inl h ↦
          let mine : Some p.a ≡ Some (who.0, who.1) = sym p.at_low ∙ seek_unique (λ (w : Stand). is_at t.0 low w.place) s.ions who.0 who.1 (omega (arith, p.once_low)) who.2 h in
          let not_low : is_at t.0 low p.b.1.place ≡ false = one_place t.0 low high p.b.1.place p.differ p.second_at in
          let carries : ((swapped s t.0 low high p.b.1).0 == q.0) ≡ true =
          ap (λ (r : Qubit). r.0 == q.0) (swapped_is s t.0 low high p p.b.1 ∙ ap₂ (λ (x y : Bool). if x then p.b.1.qubit else (if y then p.a.1.qubit else p.b.1.qubit)) not_low p.second_at)
          ∙ ap (λ (x : ℕ × Stand). x.1.qubit.0 == q.0) (same_Some p.a (who.0, who.1) mine) ∙ who.3 in
          swapped_carrier m s t low high p.b.0 p.b.1 q after below b_stands.0 carries ∙ at_trap t.0 high p.b.1.place p.second_at
          ∙ sym (at_trap t.0 low who.1.place h) ∙ sym (home_of s q who.1 who.4)
      | inr off ↦ elim (cases_Bool (is_at t.0 high who.1.place)) [
        | inl h ↦
            let mine : Some p.b ≡ Some (who.0, who.1) = sym p.at_high ∙ seek_unique (λ (w : Stand). is_at t.0 high w.place) s.ions who.0 who.1 (omega (arith, p.once_high)) who.2 h in
            let carries : ((swapped s t.0 low high p.a.1).0 == q.0) ≡ true =
            ap (λ (r : Qubit). r.0 == q.0) (swapped_is s t.0 low high p p.a.1 ∙ ap (λ (x : Bool). if x then p.b.1.qubit else (if is_at t.0 high p.a.1.place then p.a.1.qubit else p.a.1.qubit)) p.first_at)
            ∙ ap (λ (x : ℕ × Stand). x.1.qubit.0 == q.0) (same_Some p.b (who.0, who.1) mine) ∙ who.3 in
            swapped_carrier m s t low high p.a.0 p.a.1 q after below a_stands.0 carries ∙ at_trap t.0 low p.a.1.place p.first_at
            ∙ sym (at_trap t.0 high who.1.place h) ∙ sym (home_of s q who.1 who.4)
        | inr past ↦
            let carries : ((swapped s t.0 low high who.1).0 == q.0) ≡ true =
            ap (λ (r : Qubit). r.0 == q.0) (swapped_is s t.0 low high p who.1 ∙ ap₂ (λ (x y : Bool). if x then p.b.1.qubit else (if y then p.a.1.qubit else who.1.qubit)) off past) ∙ who.3 in
            swapped_carrier m s t low high who.0 who.1 q after below who.2 carries ∙ sym (home_of s q who.1 who.4)
      ]
    ]
  where
    one_place : (t low high : ℕ) (place : IonPlace) → low ≢ high → is_at t high place ≡ true → is_at t low place ≡ false
    one_place t low high (InTrap u k) differ h = elim (cases_Bool (is_at t low (InTrap u k))) [
      | inl e ↦ absurd (differ (sym (eqb-true k low (and_parts (u == t) (k == low) e).1) ∙ eqb-true k high (and_parts (u == t) (k == high) h).1))
      | inr e ↦ e
    ]
    one_place t low high (OnSegment g e d) differ h = refl
    one_place t low high (InJunction j d) differ h = refl

-- ---- the others leave every qubit in its trap

pub move_home : (m : MachineData) (s : State) (g : SegId) (q : Qubit) → home (effect m s (Move g)) q ≡ home s q
move_home m s g q = same_home (move_place g.0) s.heats s q (moved_trap g.0)

pub enter_home : (m : MachineData) (s : State) (g : SegId) (j : JuncId) (q : Qubit) → home (effect m s (Enter g j)) q ≡ home s q
enter_home m s g j q = same_home (enter_place g.0 j.0) s.heats s q (entered_trap g.0 j.0)

pub leave_home : (m : MachineData) (s : State) (g : SegId) (j : JuncId) (q : Qubit) → home (effect m s (Leave j g)) q ≡ home s q
leave_home m s g j q = let end : SegEnd = unwrap_or (end_at m g.0 (Junction j)) A in same_home (leave_place g.0 j.0 end) s.heats s q (left_trap g.0 j.0 end)

pub rot_home : (m : MachineData) (s : State) (t : TrapId) (p : ℕ) (q : Qubit) → home (effect m s (Rot t p)) q ≡ home s q
rot_home m s t p q = same_home (rotated t.0 p (p + 1)) (set s.heats t.0 (rotated_heat (heat_of s t.0))) s q (rotated_trap t.0 p (p + 1))
