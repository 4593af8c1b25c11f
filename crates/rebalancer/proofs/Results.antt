-- Hops and making room, from any safe state with nothing outside the traps.
use Rattle.std.proofs.Common.{◌≡◌, ◌≢◌, ℕ, ◌-◌, ◌*◌, ◌<◌, ◌≤◌, true, cond, eqb, List, length, get_or, refl, sym, ◌∙◌, ap, arith, Some, inl, inr, subst}
use Rattle.std.specs.Prelude.{option_map, is_some}
use Rattle.std.proofs.lemmas.Bool.{cases_lt, eq-eqb, lt-ltb, ltb-true, ne_eqb}
use Rattle.std.proofs.lemmas.List.{get_or_past}
use Rattle.qccd_base.specs.Names.{trap}
use Rattle.qccd_base.specs.declared.names.Qubit.{Qubit}
use Rattle.qccd_base.specs.declared.names.TrapId.{TrapId}
use Rattle.qccd_base.specs.declared.names.Mode.{Mode}
use Rattle.qccd_machine.specs.Machine.{MachineData, IsValid, hop_bound}
use Rattle.op_table.specs.declared.kinds.OpKind.{OpKind}
use Rattle.op_table.specs.State.{State, IsSafe, ions_in}
use Rattle.op_table.specs.Run.{after}
use Rattle.op_plan.specs.Place.{home, qubits_in, trap_of, trap_and_position}
use Rattle.chain_reorder.specs.Layout.{settled}
use Rattle.chain_reorder.proofs.Reorder.{times_in}
use Rattle.router.specs.Hops.{are_neighbours}
use Rattle.router.specs.Wiring.{wiring_of}
use Rattle.rebalancer.specs.Hop.{hop_ops}
use Rattle.rebalancer.specs.Moves.{Moves, MakesRoom}
use Rattle.rebalancer.specs.Outside.{NothingOutside}
use Rattle.rebalancer.specs.Room.{handed, has_room, room_ops}
use Rattle.rebalancer.proofs.Hopped.{stands_at}
use Rattle.rebalancer.proofs.Nearest.{Made, room_made}
use Rattle.rebalancer.proofs.Room.{Apart, Moved, Rests, handed_there, hop_moves, moves_times}
use Rattle.rebalancer.proofs.Settled.{nothing_outside, rests_own}
use Rattle.rebalancer.proofs.Standing.{At, Somewhere, among_at, apart_from, at_times, somewhere, stands_where}

-- a trap with a free slot is there
pub room_there : (m : MachineData) (s : State) (t : ℕ) → has_room m s t ≡ true → t < length m.capacities
room_there m s t room = elim (cases_lt t (length m.capacities)) [
  | inl less ↦ less
  | inr past ↦ absurd (let none : get_or m.capacities t 0 ≡ 0 = get_or_past m.capacities t 0 past in omega (arith, ltb-true (ions_in s t) (get_or m.capacities t 0) room))
]

-- the trap in whose chain a qubit stands is its home
pub home_is : (m : MachineData) (s : State) (cs : ℕ → List Qubit) (t : ℕ) (q : Qubit) → Rests m s cs → 1 ≤ times_in (cs t) q.0 → home s q ≡ Some (trap t)
home_is m s cs t q rests some =
    let at : At (cs t) q.0 = at_times (cs t) q.0 some in
    ap (λ p. option_map (λ (x : TrapId × ℕ). x.0) (trap_and_position p)) (stands_at s (settled cs) t at.index q rests.once rests.lies (at.there ∙ ap (λ (n : ℕ). Some (record { 0 = n })) at.is))

-- and back
pub stands_home : (m : MachineData) (s : State) (cs : ℕ → List Qubit) (q : Qubit) → Rests m s cs → q.0 < length s.ions → (home s q ≡ Some (trap (trap_of s q))) × (1 ≤ times_in (cs (trap_of s q)) q.0) × (trap_of s q < length m.capacities)
stands_home m s cs q rests less =
    let at : Somewhere m cs q.0 = somewhere m s cs q.0 rests less in
    let place : trap_of s q ≡ at.trap = stands_where m s cs at.trap q rests at.stands in
    (home_is m s cs at.trap q rests at.stands ∙ ap (λ t. Some (trap t)) (sym place), subst (λ t. 1 ≤ times_in (cs t) q.0) (sym place) at.stands, subst (λ t. t < length m.capacities) (sym place) at.there)

-- a qubit that stands as often in each chain as before has the same home
pub same_home : (m : MachineData) (s z : State) (cs ds : ℕ → List Qubit) (q : Qubit) → Rests m s cs → Rests m z ds → q.0 < length s.ions → ((t : ℕ) → times_in (ds t) q.0 ≡ times_in (cs t) q.0) → home z q ≡ home s q
same_home m s z cs ds q before later less same =
    let at = stands_home m s cs q before less in
    home_is m z ds (trap_of s q) q later (omega (arith, same (trap_of s q), at.1)) ∙ sym at.0

pub hop_done : (m : MachineData) (s : State) (q : Qubit) (to : ℕ) (mode : Mode) → IsValid m → IsSafe m s → NothingOutside s → q.0 < length s.ions → are_neighbours (wiring_of m) (trap_of s q) to ≡ true → has_room m s to ≡ true
    → Moves m s q to (hop_ops m s q to mode) × (length (hop_ops m s q to mode) ≤ hop_bound m)
hop_done m s q to mode valid safe nothing less neighbours room =
    let cs : ℕ → List Qubit = qubits_in s in
    let ops : List OpKind = hop_ops m s q to mode in
    let rests : Rests m s cs = rests_own m s safe nothing in
    let at = stands_home m s cs q rests less in
    let moved : Moved m s cs (trap_of s q) to q ops = hop_moves m s cs (trap_of s q) to q mode valid (lt-ltb (trap_of s q) (length m.capacities) at.2) rests (among_at (cs (trap_of s q)) q (at_times (cs (trap_of s q)) q.0 at.1)) neighbours
    (omega (arith, rests.lies.counts to, ltb-true (ions_in s to) (get_or m.capacities to 0) room)) in (
      record {
        run = moved.run;
        outside = nothing_outside m (after m s ops) moved.chains moved.rests;
        there = home_is m (after m s ops) moved.chains to q moved.rests (omega (arith, moved.to q.0, one q));
        others = λ r r_less apart. same_home m s (after m s ops) cs moved.chains r rests moved.rests r_less
            (λ t. moves_times m s cs (trap_of s q) to q ops moved r.0 t (ne_eqb q.0 r.0 (λ same. apart (sym same))));
      },
      moved.short,
    )
  where
    one : (q : Qubit) → cond {A = ℕ} (eqb q.0 q.0) 1 0 ≡ 1
    one q = ap (λ b. cond b 1 0) (eq-eqb q.0 q.0 refl)

-- qubits of two homes stand in two traps
pub two_traps : (m : MachineData) (s : State) (a b : Qubit) → IsSafe m s → NothingOutside s → a.0 < length s.ions → b.0 < length s.ions → home s a ≢ home s b → Apart (qubits_in s) (a, b)
two_traps m s a b safe nothing a_less b_less apart =
    let rests : Rests m s (qubits_in s) = rests_own m s safe nothing in
    apart_from m s (qubits_in s) a b rests (λ same. apart ((stands_home m s (qubits_in s) a rests a_less).0 ∙ ap (λ t. Some (trap t)) same ∙ sym (stands_home m s (qubits_in s) b rests b_less).0))

pub room_done : (m : MachineData) (s : State) (t free : ℕ) (keep : Qubit × Qubit) (mode : Mode) → IsValid m → IsSafe m s → NothingOutside s → t < length m.capacities → has_room m s free ≡ true → keep.0.0 < length s.ions → keep.1.0 < length s.ions → home s keep.0 ≢ home s keep.1
    → MakesRoom m s t keep (room_ops m s t keep mode) × (length (room_ops m s t keep mode) ≤ (length m.capacities - 1) * hop_bound m)
room_done m s t free keep mode valid safe nothing there room first second apart =
    let cs : ℕ → List Qubit = qubits_in s in
    let ops : List OpKind = room_ops m s t keep mode in
    let rests : Rests m s cs = rests_own m s safe nothing in
    let made : Made m s cs t keep ops = room_made m s cs t free keep mode valid there (room_there m s free room) room rests (two_traps m s keep.0 keep.1 safe nothing first second apart) in (
      record {
        run = made.run;
        outside = nothing_outside m (after m s ops) made.chains made.rests;
        room = lt-ltb (ions_in (after m s ops) t) (get_or m.capacities t 0) (omega (arith, made.rests.lies.counts t, made.room));
        first = same_home m s (after m s ops) cs made.chains keep.0 rests made.rests first (λ v. (made.keeps v).0);
        second = same_home m s (after m s ops) cs made.chains keep.1 rests made.rests second (λ v. (made.keeps v).1);
      },
      made.short,
    )

-- a trap with two ions or more has one to hand on
pub one_to_hand : (m : MachineData) (s : State) (t u : ℕ) (keep : Qubit × Qubit) → IsSafe m s → NothingOutside s → keep.0.0 < length s.ions → keep.1.0 < length s.ions → home s keep.0 ≢ home s keep.1 → 2 ≤ ions_in s t → is_some (handed m s t u keep) ≡ true
one_to_hand m s t u keep safe nothing first second apart two =
    let rests : Rests m s (qubits_in s) = rests_own m s safe nothing in
    handed_there m s (qubits_in s) t u keep rests.lies (two_traps m s keep.0 keep.1 safe nothing first second apart) (omega (arith, rests.lies.counts t))
