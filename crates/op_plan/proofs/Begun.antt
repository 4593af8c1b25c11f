-- What a plan begins with.
use Rattle.std.proofs.Common.{arith, ◌≡◌, ◌≢◌, ℕ, zero, suc, ◌+◌, ◌<◌, ◌≤◌, ◌==◌, ◌||◌, inl, inr, Bool, true, false, if◌then◌else◌, List, [], ◌∷◌, ◌++◌, map, length, take, drop, set, get_or, refl, sym, ◌∙◌, ap, subst, Option, Some, None, option_map, slice_get, All, length-append, length-set, position}
use Rattle.std.specs.List.{list_any, range_with_len}
use Rattle.std.proofs.lemmas.Bool.{and_parts, cases_Bool, cases_eq, cases_lt, eq-eqb, eqb-true, false≢true, lt-ltb, ne_eqb}
use Rattle.std.proofs.lemmas.Option.{get_or_from_slice_get, same_Some, none-some, slice_get-get_or, slice_get_within, slice_get-map}
use Rattle.qccd_base.specs.Names.{trap}
use Rattle.qccd_base.specs.declared.names.Ion.{Ion}
use Rattle.qccd_base.specs.declared.names.Qubit.{Qubit}
use Rattle.qccd_base.specs.declared.names.TrapId.{TrapId}
use Rattle.qccd_base.specs.declared.names.Res.{Res}
use Rattle.qccd_base.specs.declared.names.Res.TheVariants as res
use Rattle.qccd_machine.specs.declared.place.Place.{Place}
use Rattle.qccd_machine.specs.Machine.{MachineData, IsValid}
use Rattle.op_table.specs.declared.kinds.OpKind.{OpKind}
use Rattle.op_table.specs.declared.contents.Content.TheVariants as holds
use Rattle.op_table.specs.declared.contents.Entry.{Entry}
use Rattle.op_table.specs.Act.{trap_content}
use Rattle.op_table.specs.Contents.{content}
use Rattle.op_table.specs.Start.{IsStart}
use Rattle.op_table.specs.State.{IonPlace, InTrap, Stand, State, is_at, place_from, place_or, opening}
use Rattle.op_table.proofs.Found.{any_at, any_from, at_own}
use Rattle.op_table.proofs.Openings.{is_ion, ion_below, opening-safe, opening_long, place_in}
use Rattle.op_table.proofs.Shared.{set-get}
use Rattle.op_cells.specs.declared.cells.Cell.{Cell}
use Rattle.op_cells.specs.Cold.{cooled}
use Rattle.op_cells.specs.Numbering.{count_of, index_of, IsThere}
use Rattle.op_cells.specs.Opening.{start_entry}
use Rattle.op_cells.specs.Shows.{Shows}
use Rattle.op_cells.proofs.Adjusting.{drop_next}
use Rattle.op_cells.proofs.OpeningContents.{trap-start, seg-start, junc-start}
use Rattle.op_plan.specs.Cold.{cold}
use Rattle.op_plan.specs.Kept.{AreHomes, Keeps, housed}
use Rattle.op_plan.specs.Opening.{AreStart, IsOpeningAt}
use Rattle.op_plan.specs.Place.{home}
use Rattle.op_plan.specs.Plan.{begun, plan_data}
use Rattle.op_plan.proofs.Agreeing.{shown_agrees}
use Rattle.op_plan.proofs.Cold.{content_cold}
use Rattle.op_plan.proofs.Homes.{carrier_is, home_of, trap_at}
use Rattle.op_plan.proofs.Shown.{index_below}

-- ---- copies

taken_more : {X : Type 0} (xs : List X) (k : ℕ) (x : X) → slice_get xs k ≡ Some x → take k xs ++ x ∷ [] ≡ take (suc k) xs
taken_more [] k x is = absurd (none-some x is)
taken_more {X} (y ∷ xs) zero x is = ap (λ (z : X). z ∷ []) (sym (same_Some y x is))
taken_more {X} (y ∷ xs) (suc k) x is = ap (λ (ys : List X). y ∷ ys) (taken_more xs k x is)

pub taken_next : {X : Type 0} (xs : List X) (k : ℕ) (x : X) → slice_get xs k ≡ Some x → take k xs ++ x ∷ [] ≡ take (k + 1) xs
taken_next {X} xs k x is = let same : suc k ≡ k + 1 = omega arith in taken_more xs k x is ∙ ap (λ (n : ℕ). take n xs) same

pub taken_all : {X : Type 0} (xs : List X) (k : ℕ) → length xs ≤ k → take k xs ≡ xs
taken_all [] zero low = refl
taken_all [] (suc k) low = refl
taken_all (x ∷ xs) zero low = absurd (omega (arith, low))
taken_all {X} (x ∷ xs) (suc k) low = ap (λ (ys : List X). x ∷ ys) (taken_all xs k (omega (arith, low)))

-- ---- what the resources hold

-- the opening is cold
cold_opening : (m : MachineData) (n bits : ℕ) (chains : List (List Ion)) (r : Res) → IsStart m n chains → content (cold (opening n bits chains)) r ≡ content (opening n bits chains) r
cold_opening m n bits chains (res.Trap t) start =
    content_cold (opening n bits chains) (res.Trap t) ∙ ap cooled (trap-start m n bits chains t start) ∙ sym (trap-start m n bits chains t start)
cold_opening m n bits chains (res.Seg g) start =
    content_cold (opening n bits chains) (res.Seg g) ∙ ap cooled (seg-start n bits chains g) ∙ sym (seg-start n bits chains g)
cold_opening m n bits chains (res.Junc j) start =
    content_cold (opening n bits chains) (res.Junc j) ∙ ap cooled (junc-start n bits chains j) ∙ sym (junc-start n bits chains j)
cold_opening m n bits chains (res.Bit b) start = refl

pub trap_opening : (m : MachineData) (n bits : ℕ) (chains : List (List Ion)) (i : ℕ) (es : List Entry) (ions : List Ion) → IsStart m n chains → i < length m.capacities → es ≡ map start_entry ions → slice_get chains i ≡ Some ions
    → IsOpeningAt m n bits chains i (trap_content es 0)
trap_opening m n bits chains i es ions start less made read (res.Trap t) there at =
    ap (λ (xs : List Entry). trap_content xs 0) (made ∙ ap (map start_entry) (sym (ap (λ (k : ℕ). get_or chains k []) at ∙ get_or_from_slice_get chains i ions [] read)))
    ∙ sym (trap-start m n bits chains t start)
trap_opening m n bits chains i es ions start less made read (res.Seg g) there at = absurd (omega (arith, less, at))
trap_opening m n bits chains i es ions start less made read (res.Junc j) there at = absurd (omega (arith, less, at))
trap_opening m n bits chains i es ions start less made read (res.Bit b) there at = absurd (omega (arith, less, at))

pub seg_opening : (m : MachineData) (n bits : ℕ) (chains : List (List Ion)) (i : ℕ) → length m.capacities ≤ i → i < length m.capacities + length m.segments → IsOpeningAt m n bits chains i (holds.Seg None)
seg_opening m n bits chains i low high (res.Trap t) there at = absurd (omega (arith, low, there, at))
seg_opening m n bits chains i low high (res.Seg g) there at = sym (seg-start n bits chains g)
seg_opening m n bits chains i low high (res.Junc j) there at = absurd (omega (arith, high, at))
seg_opening m n bits chains i low high (res.Bit b) there at = absurd (omega (arith, high, at))

pub junc_opening : (m : MachineData) (n bits : ℕ) (chains : List (List Ion)) (i : ℕ) → length m.capacities + length m.segments ≤ i → i < length m.capacities + length m.segments + m.junctions → IsOpeningAt m n bits chains i (holds.Junc None)
junc_opening m n bits chains i low high (res.Trap t) there at = absurd (omega (arith, low, there, at))
junc_opening m n bits chains i low high (res.Seg g) there at = absurd (omega (arith, low, there, at))
junc_opening m n bits chains i low high (res.Junc j) there at = sym (junc-start n bits chains j)
junc_opening m n bits chains i low high (res.Bit b) there at = absurd (omega (arith, high, at))

pub bit_opening : (m : MachineData) (n bits : ℕ) (chains : List (List Ion)) (i : ℕ) → length m.capacities + length m.segments + m.junctions ≤ i → IsOpeningAt m n bits chains i holds.Bit
bit_opening m n bits chains i low (res.Trap t) there at = absurd (omega (arith, low, there, at))
bit_opening m n bits chains i low (res.Seg g) there at = absurd (omega (arith, low, there, at))
bit_opening m n bits chains i low (res.Junc j) there at = absurd (omega (arith, low, there, at))
bit_opening m n bits chains i low (res.Bit b) there at = refl

-- a chain is no longer than its trap takes
pub chain_fits : (m : MachineData) (chains : List (List Ion)) (i : ℕ) (ions : List Ion) → IsValid m → AreStart m chains → slice_get chains i ≡ Some ions → length ions ≤ 32
chain_fits m chains i ions valid start read =
    let is : get_or chains i [] ≡ ions = get_or_from_slice_get chains i ions [] read in
    let within : i < length m.capacities = subst (λ (n : ℕ). i < n) start.1.chains (slice_get_within chains i ions read) in
    let fits : length ions ≤ get_or m.capacities i 0 = subst (λ (xs : List Ion). length xs ≤ get_or m.capacities i 0) is (start.1.capacities i) in
    let most : get_or m.capacities i 0 ≤ 32 = (valid.capacities i 0 within).1 in
    omega (arith, fits, most)

-- the first cells
pub record FirstShown (m : MachineData) (qubits bits : ℕ) (chains : List (List Ion)) (n : ℕ) (cells : List Cell) : Type 0 where
  pub long : length cells ≡ n
  pub each : (r : Res) → IsThere m bits r → index_of m r < n → (c : Cell) × (slice_get cells (index_of m r) ≡ Some c) × (c.content ≡ content (cold (opening qubits bits chains)) r)

get_front : {X : Type 0} (xs ys : List X) (i : ℕ) (x : X) → slice_get xs i ≡ Some x → slice_get (xs ++ ys) i ≡ Some x
get_front [] ys i x is = absurd (none-some x is)
get_front (y ∷ xs) ys zero x is = is
get_front (y ∷ xs) ys (suc i) x is = get_front xs ys i x is

get_last : {X : Type 0} (xs : List X) (x : X) (i : ℕ) → length xs ≡ i → slice_get (xs ++ x ∷ []) i ≡ Some x
get_last [] x zero is = refl
get_last [] x (suc i) is = absurd (omega (arith, is))
get_last (y ∷ xs) x zero is = absurd (omega (arith, is))
get_last (y ∷ xs) x (suc i) is = get_last xs x i (omega (arith, is))

pub none_shown : (m : MachineData) (qubits bits : ℕ) (chains : List (List Ion)) → FirstShown m qubits bits chains 0 []
none_shown m qubits bits chains = record { long = refl; each = λ r there less. absurd (omega (arith, less)) }

pub next_shown : (m : MachineData) (qubits bits : ℕ) (chains : List (List Ion)) (n : ℕ) (cells new : List Cell) (c : Cell) → IsStart m qubits chains → FirstShown m qubits bits chains n cells → IsOpeningAt m qubits bits chains n c.content
    → new ≡ cells ++ c ∷ [] → FirstShown m qubits bits chains (n + 1) new
next_shown m qubits bits chains n cells new c start shown is pushed = subst (FirstShown m qubits bits chains (n + 1)) (sym pushed) (record {
  long = omega (arith, length-append cells (c ∷ []), shown.long);
  each = λ r there less. elim (cases_lt (index_of m r) n) [
    | inl before ↦ let x = shown.each r there before in (x.0, get_front cells (c ∷ []) (index_of m r) x.0 x.1, x.2)
    | inr past ↦
        let same : index_of m r ≡ n = omega (arith, less, past) in
        (c, ap (slice_get (cells ++ c ∷ [])) same ∙ get_last cells c n shown.long, is r there same ∙ sym (cold_opening m qubits bits chains r start))
  ];
})

pub all_shown : (m : MachineData) (qubits bits : ℕ) (chains : List (List Ion)) (n : ℕ) (cells : List Cell) → n ≡ count_of m bits → FirstShown m qubits bits chains n cells → Shows m (cold (opening qubits bits chains)) cells
all_shown m qubits bits chains n cells is shown = record {
  long = shown.long ∙ is;
  each = λ r there. shown.each r there (let less = index_below m bits r there in omega (arith, less, is));
}

-- ---- where the qubits are

housed_long : (t : TrapId) (ions : List Ion) (traps : List (Option TrapId)) → length (housed t ions traps) ≡ length traps
housed_long t [] traps = refl
housed_long t (x ∷ ions) traps = housed_long t ions (set traps x.0 (Some t)) ∙ length-set traps x.0 (Some t)

set_elsewhere : {X : Type 0} (xs : List X) (i k : ℕ) (y : X) → k ≢ i → slice_get (set xs i y) k ≡ slice_get xs k
set_elsewhere [] i k y other = refl
set_elsewhere (x ∷ xs) zero zero y other = absurd (other refl)
set_elsewhere (x ∷ xs) zero (suc k) y other = refl
set_elsewhere (x ∷ xs) (suc i) zero y other = refl
set_elsewhere (x ∷ xs) (suc i) (suc k) y other = set_elsewhere xs i k y (λ e. other (ap suc e))

-- the trap of a number is the new one where it is among the ions
housed_get : (t : TrapId) (ions : List Ion) (traps : List (Option TrapId)) (i : ℕ) → i < length traps
    → slice_get (housed t ions traps) i ≡ (if list_any (λ (x : Ion). x.0 == i) ions then Some (Some t) else slice_get traps i)
housed_get t [] traps i within = refl
housed_get t (x ∷ ions) traps i within =
    housed_get t ions (set traps x.0 (Some t)) i (subst (λ (n : ℕ). i < n) (sym (length-set traps x.0 (Some t))) within)
    ∙ elim (cases_eq x.0 i) [
      | inl same ↦
          ap (λ (o : Option (Option TrapId)). if list_any (λ (y : Ion). y.0 == i) ions then Some (Some t) else o)
          (set-get traps x.0 i (Some t) (subst (λ (k : ℕ). k < length traps) (sym same) within) ∙ ap (λ (b : Bool). if b then Some (Some t) else slice_get traps i) (eq-eqb i x.0 (sym same)))
          ∙ either (list_any (λ (y : Ion). y.0 == i) ions) (eq-eqb x.0 i same)
      | inr other ↦
          ap (λ (o : Option (Option TrapId)). if list_any (λ (y : Ion). y.0 == i) ions then Some (Some t) else o) (off other)
          ∙ ap (λ (b : Bool). if (b || list_any (λ (y : Ion). y.0 == i) ions) then Some (Some t) else slice_get traps i) (sym (ne_eqb x.0 i other))
    ]
  where
    either : (b : Bool) → (x.0 == i) ≡ true → (if b then Some (Some t) else Some (Some t)) ≡ (if ((x.0 == i) || b) then Some (Some t) else slice_get traps i)
    either true is = sym (ap (λ (a : Bool). if (a || true) then Some (Some t) else slice_get traps i) is)
    either false is = sym (ap (λ (a : Bool). if (a || false) then Some (Some t) else slice_get traps i) is)

    off : x.0 ≢ i → slice_get (set traps x.0 (Some t)) i ≡ slice_get traps i
    off other = set_elsewhere traps x.0 i (Some t) (λ e. other (sym e))

-- a step of the loop over the ions
pub housed_next : (t : TrapId) (ions : List Ion) (old now : List (Option TrapId)) (k i : ℕ) (x : Ion) → k < length ions → i ≡ (get_or ions k x).0 → housed t (drop k ions) now ≡ housed t ions old
    → housed t (drop (k + 1) ions) (set now i (Some t)) ≡ housed t ions old
housed_next t ions old now k i x less at before =
    ap (λ (j : ℕ). housed t (drop (k + 1) ions) (set now j (Some t))) at ∙ ap (λ (xs : List Ion). housed t xs now) (sym (drop_next ions k x less)) ∙ before

-- the traps of the ions in the first chains
pub record HomesUpTo (n : ℕ) (chains : List (List Ion)) (t : ℕ) (traps : List (Option TrapId)) : Type 0 where
  pub long : length traps ≡ n
  pub each : (i u k : ℕ) → i < n → u < t → place_from 0 chains i ≡ InTrap u k → slice_get traps i ≡ Some (Some (trap u))

pub no_homes : (n : ℕ) (chains : List (List Ion)) (traps : List (Option TrapId)) → length traps ≡ n → HomesUpTo n chains 0 traps
no_homes n chains traps long = record { long = long; each = λ i u k below none place. absurd (omega (arith, none)) }

once_of : (m : MachineData) (n : ℕ) (chains : List (List Ion)) (i : ℕ) → IsStart m n chains → i < n → Rattle.std.specs.Prelude.count_by (λ (x : Ion). x.0 == i) (Rattle.std.specs.Prelude.flat_map (λ (chain : List Ion). chain) chains) ≡ 1
once_of m n chains i start below = start.once i ∙ rw (lt-ltb i n below) refl

-- an ion stands where its chain has it, and nowhere else
stands_at : (m : MachineData) (n : ℕ) (chains : List (List Ion)) (i t k : ℕ) → IsStart m n chains → i < n → is_at t k (place_from 0 chains i) ≡ is_ion i (slice_get (get_or chains t []) k)
stands_at m n chains i t k start below = place_in chains 0 i t t k (omega arith) (once_of m n chains i start below)

is_ion_some : (i : ℕ) (o : Option Ion) → is_ion i o ≡ true → (x : Ion) × (o ≡ Some x) × ((x.0 == i) ≡ true)
is_ion_some i None h = absurd (false≢true h)
is_ion_some i (Some x) h = (x, refl, h)

same_trap : (t k u j : ℕ) (place : IonPlace) → place ≡ InTrap u j → is_at t k place ≡ true → u ≡ t
same_trap t k u j place is at = eqb-true u t (and_parts (u == t) (j == k) (sym (ap (is_at t k) is) ∙ at)).0

pub next_homes : (m : MachineData) (n : ℕ) (chains : List (List Ion)) (t : ℕ) (traps new : List (Option TrapId)) (ions : List Ion) → IsStart m n chains → slice_get chains t ≡ Some ions → HomesUpTo n chains t traps → new ≡ housed (trap t) ions traps
    → HomesUpTo n chains (t + 1) new
next_homes m n chains t traps new ions start read so_far is = record {
  long = ap (λ (xs : List (Option TrapId)). length xs) is ∙ housed_long (trap t) ions traps ∙ so_far.long;
  each = λ i u k below less place.
      ap (λ (xs : List (Option TrapId)). slice_get xs i) is ∙ housed_get (trap t) ions traps i (subst (λ (j : ℕ). i < j) (sym so_far.long) below)
      ∙ elim (cases_Bool (list_any (λ (x : Ion). x.0 == i) ions)) [
        | inl in_it ↦
            let found = any_at (λ (x : Ion). x.0 == i) ions in_it in
            let at : is_at t found.0 (place_from 0 chains i) ≡ true = stands_at m n chains i t found.0 start below ∙ ap (λ (xs : List Ion). is_ion i (slice_get xs found.0)) chain_is ∙ ap (is_ion i) found.2 ∙ found.3 in
            ap (λ (b : Bool). if b then Some (Some (trap t)) else slice_get traps i) in_it ∙ ap (λ (v : ℕ). Some (Some (trap v))) (sym (same_trap t found.0 u k (place_from 0 chains i) place at))
        | inr out ↦
            ap (λ (b : Bool). if b then Some (Some (trap t)) else slice_get traps i) out
            ∙ so_far.each i u k below (elim (cases_lt u t) [
              | inl before ↦ before
              | inr past ↦
                  let same : u ≡ t = omega (arith, less, past) in
                  let at : is_at t k (place_from 0 chains i) ≡ true = ap (is_at t k) (place ∙ ap (λ (v : ℕ). InTrap v k) same) ∙ at_own t k in
                  let has = is_ion_some i (slice_get ions k) (sym (stands_at m n chains i t k start below ∙ ap (λ (xs : List Ion). is_ion i (slice_get xs k)) chain_is) ∙ at) in
                  absurd (false≢true (sym out ∙ any_from (λ (x : Ion). x.0 == i) ions k has.0 has.1 has.2))
            ]) place
      ];
}
  where
    chain_is : get_or chains t [] ≡ ions
    chain_is = get_or_from_slice_get chains t ions [] read

-- the ions of a chain are numbered below the qubits
pub houses : (m : MachineData) (n : ℕ) (chains : List (List Ion)) (t : ℕ) (traps : List (Option TrapId)) (ions : List Ion) → IsStart m n chains → slice_get chains t ≡ Some ions → length traps ≡ n → All (λ x. x.0 < length traps) ions
houses m n chains t traps ions start read long i d less =
    subst (λ (k : ℕ). (get_or ions i d).0 < k) (sym long)
    (ion_below m n chains start t i (get_or ions i d) (ap (λ (xs : List Ion). slice_get xs i) (get_or_from_slice_get chains t ions [] read) ∙ slice_get-get_or ions i d less))

-- at the start each ion stands in a trap
in_some_trap : (a : ℕ) (chains : List (List Ion)) (i : ℕ) → (u : ℕ) × (k : ℕ) × (place_from a chains i ≡ InTrap u k)
in_some_trap a [] i = (a, 0, refl)
in_some_trap a (chain ∷ chains) i = by_position (position (λ (x : Ion). x.0 == i) chain) (in_some_trap (a + 1) chains i)
  where
    by_position : (o : Option ℕ) → (u : ℕ) × (k : ℕ) × (place_from (a + 1) chains i ≡ InTrap u k) → (u : ℕ) × (k : ℕ) × (place_or a o (place_from (a + 1) chains i) ≡ InTrap u k)
    by_position None later = later
    by_position (Some k) later = (a, k, refl)

range_get : (a n k : ℕ) → k < n → slice_get (range_with_len a n) k ≡ Some (a + k)
range_get a zero k less = absurd (omega (arith, less))
range_get a (suc n) zero less = let same : a ≡ a + 0 = omega arith in ap (λ (i : ℕ). Some i) same
range_get a (suc n) (suc k) less = let same : a + 1 + k ≡ a + suc k = omega arith in range_get (a + 1) n k (omega (arith, less)) ∙ ap (λ (i : ℕ). Some i) same

pub all_homes : (m : MachineData) (n bits : ℕ) (chains : List (List Ion)) (t : ℕ) (traps : List (Option TrapId)) → IsStart m n chains → length m.capacities ≤ t → HomesUpTo n chains t traps → AreHomes (opening n bits chains) n traps
all_homes m n bits chains t traps start past so_far = record { long = so_far.long; each = each }
  where
    each : (q : Qubit) → q.0 < n → slice_get traps q.0 ≡ Some (home (opening n bits chains) q)
    each q below =
        let s : State = opening n bits chains in
        let w : Stand = record { place = place_from 0 chains q.0; qubit = record { 0 = q.0 } } in
        let place = in_some_trap 0 chains q.0 in
        let has = is_ion_some q.0 (slice_get (get_or chains place.0 []) place.1) (sym (stands_at m n chains q.0 place.0 place.1 start below) ∙ ap (is_at place.0 place.1) place.2 ∙ at_own place.0 place.1) in
        let same : 0 + q.0 ≡ q.0 = omega arith in
        let is : slice_get s.ions q.0 ≡ Some w =
        slice_get-map (λ (i : ℕ). record { place = place_from 0 chains i; qubit = record { 0 = i } }) (range_with_len 0 n) q.0
        ∙ ap (option_map (λ (i : ℕ). record { place = place_from 0 chains i; qubit = record { 0 = i } })) (range_get 0 n q.0 below ∙ ap (λ (i : ℕ). Some i) same) in
        let less : q.0 < length s.ions = subst (λ (i : ℕ). q.0 < i) (sym (opening_long n bits chains)) below in
        let carries = carrier_is m s q.0 w q (opening-safe m n bits chains start) less is (eq-eqb q.0 q.0 refl) in
        so_far.each q.0 place.0 place.1 below (there place.0 place.1 has.0 has.1) place.2
        ∙ ap (λ (o : Option TrapId). Some o) (sym (home_of s q w carries ∙ ap trap_at place.2))
      where
        there : (u k : ℕ) (x : Ion) → slice_get (get_or chains u []) k ≡ Some x → u < t
        there u k x at = elim (cases_lt u (length chains)) [
          | inl less ↦ let long = start.chains in omega (arith, less, long, past)
          | inr beyond ↦ absurd (none-some x (sym (ap (λ (xs : List Ion). slice_get xs k) (get_or_beyond chains u beyond)) ∙ at))
        ]
          where
            get_or_beyond : (xs : List (List Ion)) (u : ℕ) → length xs ≤ u → get_or xs u [] ≡ []
            get_or_beyond [] u low = refl
            get_or_beyond (y ∷ xs) zero low = absurd (omega (arith, low))
            get_or_beyond (y ∷ xs) (suc u) low = get_or_beyond xs u (omega (arith, low))

-- ---- the plan

pub keeps_begun : (m : MachineData) (qubits bits : ℕ) (chains : List (List Ion)) (cells : List Cell) (traps : List (Option TrapId)) → IsValid m → IsStart m qubits chains → Shows m (cold (opening qubits bits chains)) cells → AreHomes (opening qubits bits chains) qubits traps
    → Keeps (begun m qubits bits chains) cells traps
keeps_begun m qubits bits chains cells traps valid start shows homes = record {
  plan = record {
    few = omega arith;
    start = record { chains = start.chains; capacities = start.capacities; once = start.once };
    ops = tt;
    items = tt;
    run = tt;
  };
  sizes = λ i d less. (valid.capacities i d less).1;
  shows = shown_agrees m (begun m qubits bits chains) (cold (opening qubits bits chains)) cells (record { capacities = refl; junctions = refl; segments = refl }) shows;
  homes = homes;
}

-- the same of what was copied
pub keeps_copied : (m : MachineData) (qubits bits junctions : ℕ) (chains start : List (List Ion)) (capacities : List ℕ) (segments : List (Place × Place)) (ops : List OpKind) (cells : List Cell) (traps : List (Option TrapId))
    → capacities ≡ m.capacities → junctions ≡ m.junctions → segments ≡ m.segments → start ≡ chains → ops ≡ [] → Keeps (begun m qubits bits chains) cells traps → Keeps (plan_data capacities junctions segments qubits bits start ops) cells traps
keeps_copied m qubits bits junctions chains start capacities segments ops cells traps same_capacities same_junctions same_segments same_start none keeps =
    subst (λ (x : List ℕ). Keeps (plan_data x junctions segments qubits bits start ops) cells traps) (sym same_capacities)
    (subst (λ (x : ℕ). Keeps (plan_data m.capacities x segments qubits bits start ops) cells traps) (sym same_junctions)
    (subst (λ (x : List (Place × Place)). Keeps (plan_data m.capacities m.junctions x qubits bits start ops) cells traps) (sym same_segments)
    (subst (λ (x : List (List Ion)). Keeps (plan_data m.capacities m.junctions m.segments qubits bits x ops) cells traps) (sym same_start)
    (subst (λ (x : List OpKind). Keeps (plan_data m.capacities m.junctions m.segments qubits bits chains x) cells traps) (sym none) keeps))))
