-- A cold state holds what the state holds, cooled, and is safe where the state is.
use Rattle.std.proofs.Common.{◌≡◌, ℕ, zero, suc, ◌+◌, swap, unwrap_or, slice_get, ◌≤◌, ◌<◌, ◌==◌, ◌∙◌, ap, ap₂, ◌||◌, ◌&&◌, is_some, is_none, sym, subst, refl, nat_lt, if◌then◌else◌, Bool, List, [], ◌∷◌, length, map, Option, Some, None, option_map, get_or, count_by}
use Rattle.std.specs.List.{list_any, list_all}
use Rattle.std.proofs.lemmas.List.{length-map}
use Rattle.qccd_base.specs.declared.names.Res.{Res}
use Rattle.qccd_base.specs.declared.names.Res.TheVariants as res
use Rattle.qccd_machine.specs.Machine.{MachineData}
use Rattle.op_table.specs.declared.contents.Entry.{Entry}
use Rattle.op_table.specs.declared.contents.Content.{Content}
use Rattle.op_table.specs.declared.contents.Content.TheVariants as holds
use Rattle.op_table.specs.declared.kinds.OpKind.{OpKind}
use Rattle.op_table.specs.declared.kinds.OpKind.TheVariants.{Split, Move, Enter, Leave, Merge, Rot, GSwap, Item, Fence}
use Rattle.op_table.specs.State.{IonPlace, InTrap, OnSegment, InJunction, Stand, State, is_in_trap, is_at, is_on_segment, is_in_junction, IsSafe}
use Rattle.qccd_base.specs.declared.names.SegEnd.{SegEnd}
use Rattle.qccd_base.specs.declared.names.SegEnd.TheVariants.{A}
use Rattle.qccd_base.specs.declared.names.End.{End}
use Rattle.qccd_base.specs.declared.names.End.TheVariants.{Left, Right}
use Rattle.op_table.specs.declared.contents.Carry.{Carry}
use Rattle.time_heat.specs.Heat.{split_ion_heat}
use Rattle.op_table.specs.Step.{place_heat}
use Rattle.op_table.specs.Contents.{place_end, seek, entry_of, chain, rider, rider_of, carry, carry_of, content}
use Rattle.qccd_base.specs.declared.names.Qubit.{Qubit}
use Rattle.qccd_machine.specs.declared.place.Place.TheVariants.{TrapEnd, Junction}
use Rattle.op_table.specs.declared.contents.Rider.{Rider}
use Rattle.op_table.specs.Step.{end_at}
use Rattle.op_table.specs.Act.{acted, why_on, chain_in, rider_in, carry_in, first, second, rides_at, chain_holds, heat_in, riding, moved_rider, entered_rider, left_carry, with_end, without_end, end_index, qubits_swapped}
use Rattle.op_table.proofs.Counts.{count_by-map, count_same}
use Rattle.op_table.proofs.Seeking.{moved_by, seek-map, seek_same}
use Rattle.op_table.proofs.Local.{chain_same}
use Rattle.op_table.proofs.Shared.{entry_placed}
use Rattle.op_cells.specs.Cold.{cold_rider, cold_carry, cooled}
use Rattle.op_plan.specs.Cold.{cold_place, cold}

-- ---- no test of places sees a heat

in_cold : (t : ℕ) (place : IonPlace) → is_in_trap t (cold_place place) ≡ is_in_trap t place
in_cold t (InTrap u k) = refl
in_cold t (OnSegment g e h) = refl
in_cold t (InJunction j h) = refl

at_cold : (t k : ℕ) (place : IonPlace) → is_at t k (cold_place place) ≡ is_at t k place
at_cold t k (InTrap u i) = refl
at_cold t k (OnSegment g e h) = refl
at_cold t k (InJunction j h) = refl

on_cold : (g : ℕ) (place : IonPlace) → is_on_segment g (cold_place place) ≡ is_on_segment g place
on_cold g (InTrap u k) = refl
on_cold g (OnSegment s e h) = refl
on_cold g (InJunction j h) = refl

within_cold : (j : ℕ) (place : IonPlace) → is_in_junction j (cold_place place) ≡ is_in_junction j place
within_cold j (InTrap u k) = refl
within_cold j (OnSegment g e h) = refl
within_cold j (InJunction i h) = refl

chilled : Stand → Stand
chilled w = record w { place = cold_place w.place }

count_cold : (p : IonPlace → Bool) (ions : List Stand) → ((place : IonPlace) → p (cold_place place) ≡ p place)
    → count_by (λ (w : Stand). p w.place) (map (λ (w : Stand). record w { place = cold_place w.place }) ions) ≡ count_by (λ (w : Stand). p w.place) ions
count_cold p ions same =
    count_by-map (λ (w : Stand). p w.place) (λ (w : Stand). record w { place = cold_place w.place }) ions
    ∙ count_same (λ (w : Stand). p (cold_place w.place)) (λ (w : Stand). p w.place) ions (λ w. same w.place)

-- ---- what each resource holds

heat_cold : (hs : List ℕ) (t : ℕ) → ◌≡◌ {A = ℕ} (get_or (map (λ (h : ℕ). 0) hs) t 0) 0
heat_cold [] t = refl
heat_cold (h ∷ hs) zero = refl
heat_cold (h ∷ hs) (suc t) = heat_cold hs t

pub chain_cold : (s : State) (t : ℕ) → chain (cold s) t ≡ chain s t
chain_cold s t = chain_same s (cold s) t t (count_cold (is_in_trap t) s.ions (in_cold t)) (λ k. entry_placed cold_place (map (λ (h : ℕ). 0) s.heats) s t k t k (at_cold t k))

sought : (p : IonPlace → Bool) (ions : List Stand) → ((place : IonPlace) → p (cold_place place) ≡ p place)
    → seek (λ (w : Stand). p w.place) (map (λ (w : Stand). record w { place = cold_place w.place }) ions) ≡ option_map (moved_by (λ (w : Stand). record w { place = cold_place w.place })) (seek (λ (w : Stand). p w.place) ions)
sought p ions same =
    let g : Stand → Stand = λ (w : Stand). record w { place = cold_place w.place } in
    seek-map (λ (w : Stand). p w.place) g ions ∙ ap (option_map (moved_by g)) (seek_same (λ (w : Stand). p (cold_place w.place)) (λ (w : Stand). p w.place) ions (λ w. same w.place))

end_cold : (place : IonPlace) → place_end (cold_place place) ≡ place_end place
end_cold (InTrap t k) = refl
end_cold (OnSegment g e h) = refl
end_cold (InJunction j h) = refl

no_heat : (place : IonPlace) → place_heat (cold_place place) ≡ 0
no_heat (InTrap t k) = refl
no_heat (OnSegment g e h) = refl
no_heat (InJunction j h) = refl

rider_moved : (o : Option (ℕ × Stand)) → option_map rider_of (option_map (moved_by (λ (w : Stand). record w { place = cold_place w.place })) o) ≡ option_map cold_rider (option_map rider_of o)
rider_moved None = refl
rider_moved (Some e) = ap₂ (λ (f : SegEnd) (h : ℕ). Some (record { entry = entry_of e; end = f; heat = h })) (end_cold e.1.place) (no_heat e.1.place)

carry_moved : (o : Option (ℕ × Stand)) → option_map carry_of (option_map (moved_by (λ (w : Stand). record w { place = cold_place w.place })) o) ≡ option_map cold_carry (option_map carry_of o)
carry_moved None = refl
carry_moved (Some e) = ap (λ (h : ℕ). Some (record { entry = entry_of e; heat = h })) (no_heat e.1.place)

pub rider_cold : (s : State) (g : ℕ) → rider (cold s) g ≡ option_map cold_rider (rider s g)
rider_cold s g = ap (option_map rider_of) (sought (is_on_segment g) s.ions (on_cold g)) ∙ rider_moved (seek (λ (w : Stand). is_on_segment g w.place) s.ions)

pub content_cold : (s : State) (r : Res) → content (cold s) r ≡ cooled (content s r)
content_cold s (res.Trap t) = ap₂ (λ (es : List Entry) (h : ℕ). holds.Trap (record { items = es }) h) (chain_cold s t.0) (heat_cold s.heats t.0)
content_cold s (res.Seg g) = ap holds.Seg (rider_cold s g.0)
content_cold s (res.Junc j) = ap holds.Junc (ap (option_map carry_of) (sought (is_in_junction j.0) s.ions (within_cold j.0)) ∙ carry_moved (seek (λ (w : Stand). is_in_junction j.0 w.place) s.ions))
content_cold s (res.Bit b) = refl

-- ---- a cold state is safe where the state is

pub safe_cold : (m : MachineData) (s : State) → IsSafe m s → IsSafe m (cold s)
safe_cold m s safe = record {
  heats = length-map s.heats (λ (h : ℕ). 0) ∙ safe.heats;
  capacities = λ t. subst (λ (n : ℕ). n ≤ get_or m.capacities t 0) (sym (count_cold (is_in_trap t) s.ions (in_cold t))) (safe.capacities t);
  indexes = λ t k below. count_cold (is_at t k) s.ions (at_cold t k) ∙ safe.indexes t k (subst (λ (n : ℕ). k < n) (count_cold (is_in_trap t) s.ions (in_cold t)) below);
  segments = λ g. subst (λ (n : ℕ). n ≤ (if nat_lt g (length m.segments) then 1 else 0)) (sym (count_cold (is_on_segment g) s.ions (on_cold g))) (safe.segments g);
  junctions = λ j. subst (λ (n : ℕ). n ≤ (if nat_lt j m.junctions then 1 else 0)) (sym (count_cold (is_in_junction j) s.ions (within_cold j))) (safe.junctions j);
  qubits = λ q below. count_by-map (λ (w : Stand). w.qubit.0 == q) (λ (w : Stand). record w { place = cold_place w.place }) s.ions ∙ safe.qubits q (subst (λ (n : ℕ). q < n) (length-map s.ions (λ (w : Stand). record w { place = cold_place w.place })) below);
}

-- ---- what an operation needs and leaves

chain_cooled : (x : Content) → chain_in (cooled x) ≡ chain_in x
chain_cooled (holds.Trap chain heat) = refl
chain_cooled (holds.Seg rider) = refl
chain_cooled (holds.Junc carry) = refl
chain_cooled holds.Bit = refl

rider_cooled : (x : Content) → rider_in (cooled x) ≡ option_map cold_rider (rider_in x)
rider_cooled (holds.Trap chain heat) = refl
rider_cooled (holds.Seg rider) = refl
rider_cooled (holds.Junc carry) = refl
rider_cooled holds.Bit = refl

carry_cooled : (x : Content) → carry_in (cooled x) ≡ option_map cold_carry (carry_in x)
carry_cooled (holds.Trap chain heat) = refl
carry_cooled (holds.Seg rider) = refl
carry_cooled (holds.Junc carry) = refl
carry_cooled holds.Bit = refl

first_cooled : (cs : List Content) → first (map cooled cs) ≡ cooled (first cs)
first_cooled [] = refl
first_cooled (c ∷ cs) = refl

second_cooled : (cs : List Content) → second (map cooled cs) ≡ cooled (second cs)
second_cooled [] = refl
second_cooled (c ∷ cs) = first_cooled cs

chain_first : (cs : List Content) → chain_in (first (map cooled cs)) ≡ chain_in (first cs)
chain_first cs = ap chain_in (first_cooled cs) ∙ chain_cooled (first cs)

rider_first : (cs : List Content) → rider_in (first (map cooled cs)) ≡ option_map cold_rider (rider_in (first cs))
rider_first cs = ap rider_in (first_cooled cs) ∙ rider_cooled (first cs)

rider_second : (cs : List Content) → rider_in (second (map cooled cs)) ≡ option_map cold_rider (rider_in (second cs))
rider_second cs = ap rider_in (second_cooled cs) ∙ rider_cooled (second cs)

carry_second : (cs : List Content) → carry_in (second (map cooled cs)) ≡ option_map cold_carry (carry_in (second cs))
carry_second cs = ap carry_in (second_cooled cs) ∙ carry_cooled (second cs)

-- ---- each test reads chains, ends, and whether an ion is there

is_some_cold : {X Y : Type 0} (f : X → Y) (o : Option X) → is_some (option_map f o) ≡ is_some o
is_some_cold f None = refl
is_some_cold f (Some x) = refl

is_none_cold : {X Y : Type 0} (f : X → Y) (o : Option X) → is_none (option_map f o) ≡ is_none o
is_none_cold f None = refl
is_none_cold f (Some x) = refl

rides_cold : (e : Option SegEnd) (r : Option Rider) → rides_at e (option_map cold_rider r) ≡ rides_at e r
rides_cold None r = refl
rides_cold (Some e) None = refl
rides_cold (Some e) (Some r) = refl

holds_cold : (x : Content) (q : Qubit) → chain_holds (cooled x) q ≡ chain_holds x q
holds_cold x q = ap (list_any (λ (e : Entry). e.qubit.0 == q.0)) (chain_cooled x)

any_holds : (q : Qubit) (cs : List Content) → list_any (λ x. chain_holds x q) (map cooled cs) ≡ list_any (λ x. chain_holds x q) cs
any_holds q [] = refl
any_holds q (c ∷ cs) = ap₂ (λ (a b : Bool). a || b) (holds_cold c q) (any_holds q cs)

any_held : (x : Content) (qs : List Qubit) → list_any (chain_holds (cooled x)) qs ≡ list_any (chain_holds x) qs
any_held x [] = refl
any_held x (q ∷ qs) = ap₂ (λ (a b : Bool). a || b) (holds_cold x q) (any_held x qs)

all_held : (qs : List Qubit) (cs : List Content) → list_all (λ q. list_any (λ x. chain_holds x q) (map cooled cs)) qs ≡ list_all (λ q. list_any (λ x. chain_holds x q) cs) qs
all_held [] cs = refl
all_held (q ∷ qs) cs = ap₂ (λ (a b : Bool). a && b) (any_holds q cs) (all_held qs cs)

all_hold : (qs : List Qubit) (cs : List Content) → list_all (λ x. list_any (chain_holds x) qs) (map cooled cs) ≡ list_all (λ x. list_any (chain_holds x) qs) cs
all_hold qs [] = refl
all_hold qs (c ∷ cs) = ap₂ (λ (a b : Bool). a && b) (any_held c qs) (all_hold qs cs)

pub why_cooled : (m : MachineData) (bits : ℕ) (op : OpKind) (cs : List Content) → why_on m bits op (map cooled cs) ≡ why_on m bits op cs
why_cooled m bits (Split t e g) cs = rw (chain_first cs, rider_second cs, is_none_cold cold_rider (rider_in (second cs))) refl
why_cooled m bits (Move g) cs = rw (rider_first cs, is_some_cold cold_rider (rider_in (first cs))) refl
why_cooled m bits (Enter g j) cs = rw (rider_first cs, carry_second cs, is_some_cold cold_rider (rider_in (first cs)), is_none_cold cold_carry (carry_in (second cs)), rides_cold (end_at m g.0 (Junction j)) (rider_in (first cs))) refl
why_cooled m bits (Leave j g) cs = rw (rider_first cs, carry_second cs, is_none_cold cold_rider (rider_in (first cs)), is_some_cold cold_carry (carry_in (second cs))) refl
why_cooled m bits (Merge g t e) cs = rw (chain_first cs, rider_second cs, is_some_cold cold_rider (rider_in (second cs)), rides_cold (end_at m g.0 (TrapEnd t e)) (rider_in (second cs))) refl
why_cooled m bits (Rot t p) cs = rw (chain_first cs) refl
why_cooled m bits (GSwap t low high) cs = rw (chain_first cs) refl
why_cooled m bits (Item number t item at) cs = rw (chain_first cs) refl
why_cooled m bits (Fence number item traps) cs = rw (all_held item.qubits cs, all_hold item.qubits cs) refl

riding_cold : (onto : SegEnd) (h k : ℕ) (o : Option Entry) → option_map cold_rider (option_map (riding onto h) o) ≡ option_map cold_rider (option_map (riding onto k) o)
riding_cold onto h k None = refl
riding_cold onto h k (Some e) = refl

moved_cold : (r : Option Rider) → option_map cold_rider (option_map moved_rider (option_map cold_rider r)) ≡ option_map cold_rider (option_map moved_rider r)
moved_cold None = refl
moved_cold (Some r) = refl

entered_cold : (r : Option Rider) → option_map cold_carry (option_map entered_rider (option_map cold_rider r)) ≡ option_map cold_carry (option_map entered_rider r)
entered_cold None = refl
entered_cold (Some r) = refl

left_cold : (end : SegEnd) (c : Option Carry) → option_map cold_rider (option_map (left_carry end) (option_map cold_carry c)) ≡ option_map cold_rider (option_map (left_carry end) c)
left_cold end None = refl
left_cold end (Some c) = refl

with_cold : (e : End) (r : Option Rider) (c : List Entry) → with_end e (option_map cold_rider r) c ≡ with_end e r c
with_cold e None c = refl
with_cold Left (Some r) c = refl
with_cold Right (Some r) c = refl

pub cooled_twice : (x : Content) → cooled (cooled x) ≡ cooled x
cooled_twice (holds.Trap chain heat) = refl
cooled_twice (holds.Seg None) = refl
cooled_twice (holds.Seg (Some r)) = refl
cooled_twice (holds.Junc None) = refl
cooled_twice (holds.Junc (Some c)) = refl
cooled_twice holds.Bit = refl

all_twice : (cs : List Content) → map cooled (map cooled cs) ≡ map cooled cs
all_twice [] = refl
all_twice (c ∷ cs) = ap₂ (λ (x : Content) (xs : List Content). x ∷ xs) (cooled_twice c) (all_twice cs)

-- a trap's content, cooled, is told by its chain
pub acted_cooled : (m : MachineData) (op : OpKind) (cs : List Content) → map cooled (acted m op (map cooled cs)) ≡ map cooled (acted m op cs)
acted_cooled m (Split t e g) cs =
    ap₂ (λ (c : List Entry) (r : Option Rider). holds.Trap (record { items = without_end e c }) 0 ∷ holds.Seg r ∷ [])
    (chain_first cs)
    (ap (λ (c : List Entry). option_map cold_rider (option_map (riding (unwrap_or (end_at m g.0 (TrapEnd t e)) A) (split_ion_heat (heat_in (first (map cooled cs))) (length c))) (slice_get c (end_index e c)))) (chain_first cs)
    ∙ riding_cold (unwrap_or (end_at m g.0 (TrapEnd t e)) A) (split_ion_heat (heat_in (first (map cooled cs))) (length (chain_in (first cs)))) (split_ion_heat (heat_in (first cs)) (length (chain_in (first cs)))) (slice_get (chain_in (first cs)) (end_index e (chain_in (first cs)))))
acted_cooled m (Move g) cs =
    ap (λ (r : Option Rider). holds.Seg r ∷ []) (ap (λ (r : Option Rider). option_map cold_rider (option_map moved_rider r)) (rider_first cs) ∙ moved_cold (rider_in (first cs)))
acted_cooled m (Enter g j) cs =
    ap (λ (c : Option Carry). holds.Seg None ∷ holds.Junc c ∷ []) (ap (λ (r : Option Rider). option_map cold_carry (option_map entered_rider r)) (rider_first cs) ∙ entered_cold (rider_in (first cs)))
acted_cooled m (Leave j g) cs =
    let end : SegEnd = unwrap_or (end_at m g.0 (Junction j)) A in
    ap (λ (r : Option Rider). holds.Seg r ∷ holds.Junc None ∷ []) (ap (λ (c : Option Carry). option_map cold_rider (option_map (left_carry end) c)) (carry_second cs) ∙ left_cold end (carry_in (second cs)))
acted_cooled m (Merge g t e) cs =
    ap (λ (c : List Entry). holds.Trap (record { items = c }) 0 ∷ holds.Seg None ∷ [])
    (ap₂ (λ (r : Option Rider) (c : List Entry). with_end e r c) (rider_second cs) (chain_first cs) ∙ with_cold e (rider_in (second cs)) (chain_in (first cs)))
acted_cooled m (Rot t p) cs = ap (λ (c : List Entry). holds.Trap (record { items = swap c p (p + 1) }) 0 ∷ []) (chain_first cs)
acted_cooled m (GSwap t low high) cs = ap (λ (c : List Entry). holds.Trap (record { items = qubits_swapped low high c }) 0 ∷ []) (chain_first cs)
acted_cooled m (Item number t item at) cs = all_twice cs
acted_cooled m (Fence number item traps) cs = all_twice cs
