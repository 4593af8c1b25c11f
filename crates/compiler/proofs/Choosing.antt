-- The chosen program implements its circuit, in few operations.
use Rattle.std.proofs.Common.{◌≡◌, ℕ, zero, suc, ◌+◌, ◌-◌, ◌*◌, ◌<◌, ◌≤◌, Bool, true, false, cond, eqb, List, [], ◌∷◌, ◌++◌, map, length, take, get_or, refl, sym, ◌∙◌, ap, arith, Option, Some, None, inl, inr, subst, length-append, suc-mul, append-nil, append_assoc}
use Rattle.std.specs.Prelude.{◌==◌, count_by, find, sum, slice_get, All, nat_lt}
use Rattle.std.specs.List.{AllByRecursion, range_with_len}
use Rattle.std.proofs.lemmas.Bool.{cases_Bool, cases_lt, le-ltb, eq-eqb, ne_eqb}
use Rattle.std.proofs.lemmas.List.Sums.{sum_by-cons}
use Rattle.std.proofs.lemmas.List.Elements.{recursion_from_All, All-from_recursion}
use Rattle.std.proofs.lemmas.List.{take_all, length-take}
use Rattle.std.proofs.Math.Nat.{mul-le-mul_right}
use Rattle.std.proofs.lemmas.Option.{slice_get_cases, same_Some, none-some}
use Rattle.qccd_base.specs.declared.names.Ion.{Ion}
use Rattle.qccd_base.specs.declared.names.Qubit.{Qubit}
use Rattle.qccd_base.specs.declared.names.Mode.{Mode}
use Rattle.qccd_circuit.specs.Item.{ItemData, Fits}
use Rattle.qccd_circuit.specs.Circuit.{CircuitData, IsCircuit, IsWithin}
use Rattle.qccd_circuit.specs.Order.{SameOrder}
use Rattle.qccd_machine.specs.Machine.{MachineData, IsValid, slots_of, worst_of}
use Rattle.op_table.specs.declared.kinds.OpKind.{OpKind}
use Rattle.op_table.specs.declared.kinds.OpKind.TheVariants.{Split, Move, Enter, Leave, Merge, Rot, GSwap, Item, Fence}
use Rattle.op_table.specs.Op.{KeepsItemRule}
use Rattle.op_table.specs.Run.{after, items_in}
use Rattle.op_table.specs.Start.{IsStart}
use Rattle.op_table.specs.State.{Stand, State, is_in_junction, is_on_segment, opening, place_from}
use Rattle.op_table.proofs.Openings.{opening-safe, opening_long, in_trap_only}
use Rattle.op_plan.specs.Place.{qubits_in}
use Rattle.op_plan.proofs.Runs.{after_append}
use Rattle.qccd_program.specs.Implements.{Implements}
use Rattle.qccd_program.specs.Legal.{IsLegalProgram}
use Rattle.chain_reorder.proofs.Lists.{count_by-cons}
use Rattle.ion_mapping.specs.Placement.{chains_at_start}
use Rattle.ion_mapping.proofs.Filling.{placed_long, placed_fits, placed_once}
use Rattle.ion_mapping.proofs.Firsts.{once_long}
use Rattle.rebalancer.specs.Outside.{NothingOutside}
use Rattle.rebalancer.proofs.Plain.{ops_bits, ops_long}
use Rattle.rebalancer.proofs.Room.{Rests}
use Rattle.rebalancer.proofs.Settled.{rests_own}
use Rattle.compiler.specs.Items.{item_ops, items_ops}
use Rattle.compiler.specs.Chosen.{numbered, with_item, chosen, chosen_first, chosen_long, picked, IsTooLong}
use Rattle.compiler.proofs.OfMode.{chosen_of_mode}
use Rattle.compiler.proofs.Picked.{picked_order}
use Rattle.compiler.proofs.Doing.{Fitting, ItemDone, ItemsDone, item_done, items_done}

-- ---- the items of the numbers

with_number : (i : ℕ) (n : ℕ) (o : Option ItemData) (rest : List (ℕ × ItemData)) (numbers : List ℕ) (items : List ItemData) → i < length items → slice_get items i ≡ o → map (λ (e : ℕ × ItemData). e.0) rest ≡ numbers → map (λ (e : ℕ × ItemData). e.0) (with_item i o rest) ≡ i ∷ numbers
with_number i n None rest numbers items less is same = absurd (there items i less is)
  where
    there : (items : List ItemData) (i : ℕ) → i < length items → slice_get items i ≡ None → ⊥
    there items i less is = elim (slice_get_cases items i).1 [
      | inl (x, within, found, read) ↦ none-some x (sym is ∙ found)
      | inr (past, none) ↦ absurd (omega arith)
    ]
with_number i n (Some item) rest numbers items less is same = ap (λ xs. i ∷ xs) same

numbers_of : (items : List ItemData) (numbers : List ℕ) → AllByRecursion (λ i. i < length items) numbers → map (λ (e : ℕ × ItemData). e.0) (numbered items numbers) ≡ numbers
numbers_of items [] all = refl
numbers_of items (i ∷ numbers) all = with_number i 0 (slice_get items i) (numbered items numbers) numbers items all.0 refl (numbers_of items numbers all.1)

-- what holds of each item of a list holds of those of the numbers
all_numbered : (P : ℕ × ItemData → Type 0) (items : List ItemData) → ((i : ℕ) (item : ItemData) → slice_get items i ≡ Some item → P (i, item)) → (numbers : List ℕ) → AllByRecursion P (numbered items numbers)
all_numbered P items each [] = tt
all_numbered P items each (i ∷ numbers) = by_item (slice_get items i) refl (all_numbered P items each numbers)
  where
    by_item : (o : Option ItemData) → slice_get items i ≡ o → AllByRecursion P (numbered items numbers) → AllByRecursion P (with_item i o (numbered items numbers))
    by_item None is rest = rest
    by_item (Some item) is rest = (each i item is, rest)

numbered_long : (items : List ItemData) (numbers : List ℕ) → length (numbered items numbers) ≤ length numbers
numbered_long items [] = omega arith
numbered_long items (i ∷ numbers) = by_item (slice_get items i) (numbered_long items numbers)
  where
    by_item : (o : Option ItemData) → length (numbered items numbers) ≤ length numbers → length (with_item i o (numbered items numbers)) ≤ length (i ∷ numbers)
    by_item None rest = omega arith
    by_item (Some item) rest = omega arith

-- the item of a number
pub at_number : (P : ItemData → Type 0) (items : List ItemData) → All P items → (i : ℕ) (item : ItemData) → slice_get items i ≡ Some item → P item
at_number P items all i item is = elim (slice_get_cases items i).1 [
  | inl (own, within, found, read) ↦ subst P (read ∙ same_Some own item (sym found ∙ is)) (all i own within)
  | inr (past, none) ↦ absurd (none-some item (sym none ∙ is))
]

-- the order's numbers are those of items
all_times : (n : ℕ) (xs : List ℕ) → ((k : ℕ) → count_by (λ i. i == k) xs ≡ cond (nat_lt k n) 1 0) → AllByRecursion (λ k. k < n) xs
all_times n xs once = from xs (λ k some. elim (cases_lt k n) [
  | inl less ↦ less
  | inr past ↦ absurd (let none : count_by (λ i. i == k) xs ≡ 0 = once k ∙ rw (le-ltb k n past) refl in omega arith)
])
  where
    from : (ys : List ℕ) → ((k : ℕ) → 1 ≤ count_by (λ i. i == k) ys → k < n) → AllByRecursion (λ k. k < n) ys
    from [] each = tt
    from (y ∷ ys) each =
        let one : cond {A = ℕ} (eqb y y) 1 0 ≡ 1 = ap (λ b. cond b 1 0) (eq-eqb y y refl) in
        (each y (omega (arith, count_by-cons (λ i. i == y) y ys)), from ys (λ k some. each k (omega (arith, count_by-cons (λ i. i == k) y ys))))

slots_sum : (m : MachineData) (n : ℕ) → n ≤ slots_of m → n ≤ sum m.capacities
slots_sum m n slots = elim (cases_Bool (eqb (length m.capacities) 1)) [
  | inl single ↦ rw single at slots
  | inr many ↦ let less : n ≤ sum m.capacities - 1 = rw many at slots in omega arith
]

pub slots_less : (m : MachineData) (n : ℕ) → IsValid m → n ≤ slots_of m → 2 ≤ length m.capacities → n < sum m.capacities
slots_less m n valid slots two =
    let many : eqb (length m.capacities) 1 ≡ false = ne_eqb (length m.capacities) 1 (λ one. no_single one) in
    let less : n ≤ sum m.capacities - 1 = rw many at slots in
    omega (arith, first_le m.capacities (omega arith), (valid.capacities 0 0 (omega arith)).0)
  where
    no_single : length m.capacities ≡ 1 → ⊥
    no_single one = absurd (omega arith)

    first_le : (caps : List ℕ) → 0 < length caps → get_or caps 0 0 ≤ sum caps
    first_le [] some = absurd (omega arith)
    first_le (c ∷ caps) some = omega (arith, sum_by-cons (λ (x : ℕ). x) c caps)

-- ---- the start

pub placed_start : (c : CircuitData) (m : MachineData) → IsCircuit c → IsValid m → c.qubits ≤ slots_of m → IsStart m c.qubits (chains_at_start c m)
placed_start c m circuit valid slots = record {
  chains = placed_long c m;
  capacities = λ t. placed_fits c m t valid;
  once = λ i. placed_once c m i circuit (slots_sum m c.qubits slots);
}

-- at the opening every ion is in a trap
pub nothing_out : (n bits : ℕ) (chains : List (List Ion)) → NothingOutside (opening n bits chains)
nothing_out n bits chains = record {
  segments = λ g. none_found (λ (w : Stand). is_on_segment g w.place) (λ i. (in_trap_only chains 0 i g).0) 0 n;
  junctions = λ j. none_found (λ (w : Stand). is_in_junction j w.place) (λ i. (in_trap_only chains 0 i j).1) 0 n;
}
  where
    none_found : (p : Stand → Bool) → ((i : ℕ) → p (record { place = place_from 0 chains i; qubit = record { 0 = i } }) ≡ false) → (a k : ℕ) → find p (map (λ (i : ℕ). record { place = place_from 0 chains i; qubit = record { 0 = i } }) (range_with_len a k)) ≡ None
    none_found p out a zero = refl
    none_found p out a (suc k) = rw (out a) (none_found p out (a + 1) k)

pub opening_rests : (m : MachineData) (n bits : ℕ) (chains : List (List Ion)) → IsStart m n chains → Rests m (opening n bits chains) (qubits_in (opening n bits chains))
opening_rests m n bits chains start = rests_own m (opening n bits chains) (opening-safe m n bits chains start) (nothing_out n bits chains)

-- ---- the first so many items

pub numbered_fitting : (c : CircuitData) (numbers : List ℕ) → IsCircuit c → AllByRecursion (λ (e : ℕ × ItemData). Fitting c.qubits c.bits e.1) (numbered c.items numbers)
numbered_fitting c numbers circuit = all_numbered (λ (e : ℕ × ItemData). Fitting c.qubits c.bits e.1) c.items (λ i item is.
    let within : IsWithin c.qubits c.bits item = at_number (IsWithin c.qubits c.bits) c.items circuit.within i item is in
    record {
      fits = at_number Fits c.items circuit.fit i item is;
      qubits_below = recursion_from_All _ _ within.qubits_below;
      bits_below = recursion_from_All _ _ within.bits_below;
    }) numbers

pub chosen_runs : (c : CircuitData) (m : MachineData) (mode : Mode) (count : ℕ) → IsCircuit c → IsValid m → c.qubits ≤ slots_of m
    → ItemsDone m (opening c.qubits c.bits (chains_at_start c m)) (qubits_in (opening c.qubits c.bits (chains_at_start c m))) (numbered c.items (take count (picked c m mode))) (chosen_first c m mode count).ops
unfolding chosen_first
chosen_runs c m mode count circuit valid slots =
    let s : State = opening c.qubits c.bits (chains_at_start c m) in
    let items : List (ℕ × ItemData) = numbered c.items (take count (picked c m mode)) in
    let long : length s.ions ≡ c.qubits = opening_long c.qubits c.bits (chains_at_start c m) in
    let fitting : AllByRecursion (λ (e : ℕ × ItemData). Fitting (length s.ions) s.bits e.1) items = subst (λ (n : ℕ). AllByRecursion (λ (e : ℕ × ItemData). Fitting n c.bits e.1) items) (sym long) (numbered_fitting c (take count (picked c m mode)) circuit) in
    items_done m mode valid items s (qubits_in s) fitting (opening_rests m c.qubits c.bits (chains_at_start c m) (placed_start c m circuit valid slots)) (λ two. omega (arith, long, slots_less m c.qubits valid slots two))

-- ---- all items

all_taken : (c : CircuitData) (m : MachineData) (mode : Mode) → take (length c.items) (picked c m mode) ≡ picked c m mode
all_taken c m mode =
    let long : length (picked c m mode) ≡ length c.items = once_long (length c.items) (picked c m mode) (picked_order c m mode).once in
    take_all (length c.items) (picked c m mode) (omega arith)

pub chosen_does : (c : CircuitData) (m : MachineData) (mode : Mode) → IsCircuit c → IsValid m → c.qubits ≤ slots_of m → items_in (chosen c m mode).ops ≡ numbered c.items (picked c m mode)
chosen_does c m mode circuit valid slots = (chosen_runs c m mode (length c.items) circuit valid slots).does ∙ ap (numbered c.items) (all_taken c m mode)

pub chosen_order : (c : CircuitData) (m : MachineData) (mode : Mode) → IsCircuit c → IsValid m → c.qubits ≤ slots_of m → map (λ (e : ℕ × ItemData). e.0) (items_in (chosen c m mode).ops) ≡ picked c m mode
chosen_order c m mode circuit valid slots =
    ap (map (λ (e : ℕ × ItemData). e.0)) (chosen_does c m mode circuit valid slots) ∙ numbers_of c.items (picked c m mode) (all_times (length c.items) (picked c m mode) (picked_order c m mode).once)

pub chosen_implements : (c : CircuitData) (m : MachineData) (mode : Mode) → IsCircuit c → IsValid m → c.qubits ≤ slots_of m → Implements (chosen c m mode) c m
unfolding chosen_first
chosen_implements c m mode circuit valid slots =
    let done = chosen_runs c m mode (length c.items) circuit valid slots in
    record {
      machine = refl;
      qubits = refl;
      bits = refl;
      start = placed_start c m circuit valid slots;
      ops = done.kept;
      run = done.run;
      items = subst (All (λ (e : ℕ × ItemData). slice_get c.items e.0 ≡ Some e.1)) (sym (chosen_does c m mode circuit valid slots))
          (All-from_recursion _ _ (all_numbered (λ (e : ℕ × ItemData). slice_get c.items e.0 ≡ Some e.1) c.items (λ i item is. is) (picked c m mode)));
      order = subst (SameOrder c.items) (sym (chosen_order c m mode circuit valid slots)) (picked_order c m mode);
    }

-- ---- legal programs

fit_by_items : (ops : List OpKind) → AllByRecursion (λ (e : ℕ × ItemData). Fits e.1) (items_in ops) → AllByRecursion KeepsItemRule ops
fit_by_items [] all = tt
fit_by_items (Split t e g ∷ ops) all = (tt, fit_by_items ops all)
fit_by_items (Move g ∷ ops) all = (tt, fit_by_items ops all)
fit_by_items (Enter g j ∷ ops) all = (tt, fit_by_items ops all)
fit_by_items (Leave j g ∷ ops) all = (tt, fit_by_items ops all)
fit_by_items (Merge g t e ∷ ops) all = (tt, fit_by_items ops all)
fit_by_items (Rot t p ∷ ops) all = (tt, fit_by_items ops all)
fit_by_items (GSwap t low high ∷ ops) all = (tt, fit_by_items ops all)
fit_by_items (Item number t item at ∷ ops) all = (all.0, fit_by_items ops all.1)
fit_by_items (Fence number item traps ∷ ops) all = (all.0, fit_by_items ops all.1)

count_numbers : (number : ℕ) (items : List (ℕ × ItemData)) → count_by (λ (e : ℕ × ItemData). e.0 == number) items ≡ count_by (λ i. i == number) (map (λ (e : ℕ × ItemData). e.0) items)
count_numbers number [] = refl
count_numbers number (e ∷ items) = omega (arith, count_numbers number items, count_by-cons (λ (e : ℕ × ItemData). e.0 == number) e items, count_by-cons (λ i. i == number) e.0 (map (λ (e : ℕ × ItemData). e.0) items))

pub chosen_legal : (c : CircuitData) (m : MachineData) (mode : Mode) → IsCircuit c → IsValid m → c.qubits ≤ slots_of m → length (chosen c m mode).ops ≤ 4194304 → IsLegalProgram (chosen c m mode)
unfolding chosen_first
chosen_legal c m mode circuit valid slots few =
    let done = chosen_runs c m mode (length c.items) circuit valid slots in
    record {
      qubits = circuit.few_qubits;
      bits = circuit.few_bits;
      few = few;
      start = placed_start c m circuit valid slots;
      ops = done.kept;
      items_fit = fit_by_items (chosen c m mode).ops (subst (AllByRecursion (λ (e : ℕ × ItemData). Fits e.1)) (sym (chosen_does c m mode circuit valid slots)) (all_numbered (λ (e : ℕ × ItemData). Fits e.1) c.items (λ i item. at_number Fits c.items circuit.fit i item) (picked c m mode)));
      run = done.run;
      once = λ number. omega (arith, count_numbers number (items_in (chosen c m mode).ops), ap (count_by (λ i. i == number)) (chosen_order c m mode circuit valid slots), (picked_order c m mode).once number, one_at_most (nat_lt number (length c.items)));
      of_mode = chosen_of_mode c m mode (length c.items);
    }
  where
    one_at_most : (b : Bool) → cond {A = ℕ} b 1 0 ≤ 1
    one_at_most true = omega arith
    one_at_most false = omega arith

-- ---- how many operations there are

few_items : (items : List ItemData) (numbers : List ℕ) (count w n : ℕ) → n ≤ length (numbered items (take count numbers)) * w → n ≤ count * w
few_items items numbers count w n short =
    let few : length (numbered items (take count numbers)) ≤ count = omega (arith, numbered_long items (take count numbers), length-take count numbers) in
    let more : length (numbered items (take count numbers)) * w ≤ count * w = mul-le-mul_right w few in
    omega arith

pub chosen_short : (c : CircuitData) (m : MachineData) (mode : Mode) (count : ℕ) → IsCircuit c → IsValid m → c.qubits ≤ slots_of m → chosen_long c m mode count ≤ count * worst_of m
chosen_short c m mode count circuit valid slots = few_items c.items (picked c m mode) count (worst_of m) (chosen_long c m mode count) (chosen_runs c m mode count circuit valid slots).short

-- too many operations come only where the items might need as many
pub too_long_only : (c : CircuitData) (m : MachineData) (mode : Mode) (done ops : ℕ) → IsCircuit c → IsValid m → c.qubits ≤ slots_of m → IsTooLong c m mode done ops → 4194304 < length c.items * worst_of m
too_long_only c m mode done ops circuit valid slots long =
    let few : chosen_long c m mode done ≤ done * worst_of m = chosen_short c m mode done circuit valid slots in
    let more : suc done * worst_of m ≤ length c.items * worst_of m = mul-le-mul_right (worst_of m) (omega (arith, long.before_an_item)) in
    omega (arith, few, more, long.operations, long.too_many, suc-mul done (worst_of m))

-- ---- one item more

items_more : (m : MachineData) (mode : Mode) (items : List (ℕ × ItemData)) (e : ℕ × ItemData) (s : State)
    → items_ops m mode (items ++ e ∷ []) s ≡ items_ops m mode items s ++ item_ops m mode e.0 e.1 e.1.kind (after m s (items_ops m mode items s))
items_more m mode [] e s = append-nil (item_ops m mode e.0 e.1 e.1.kind s)
items_more m mode (x ∷ items) e s =
    let ops : List OpKind = item_ops m mode x.0 x.1 x.1.kind s in
    let z : State = after m s ops in
    ap (λ more. ops ++ more) (items_more m mode items e z) ∙ sym (append_assoc ops (items_ops m mode items z) (item_ops m mode e.0 e.1 e.1.kind (after m z (items_ops m mode items z))))
    ∙ ap (λ y. (ops ++ items_ops m mode items z) ++ item_ops m mode e.0 e.1 e.1.kind y) (sym (after_append m s ops (items_ops m mode items z)))

numbered_more : (items : List ItemData) (numbers : List ℕ) (i : ℕ) (item : ItemData) → slice_get items i ≡ Some item → numbered items (numbers ++ i ∷ []) ≡ numbered items numbers ++ (i, item) ∷ []
numbered_more items [] i item is = ap (λ o. with_item i o []) is
numbered_more items (k ∷ numbers) i item is = ap (with_item k (slice_get items k)) (numbered_more items numbers i item is) ∙ out (slice_get items k)
  where
    out : (o : Option ItemData) → with_item k o (numbered items numbers ++ (i, item) ∷ []) ≡ with_item k o (numbered items numbers) ++ (i, item) ∷ []
    out None = refl
    out (Some x) = refl

take_more : (xs : List ℕ) (count i : ℕ) → slice_get xs count ≡ Some i → take (suc count) xs ≡ take count xs ++ i ∷ []
take_more [] count i is = cc
take_more (x ∷ xs) zero i is = let same : x ≡ i = cc in ap (λ y. y ∷ []) same
take_more (x ∷ xs) (suc count) i is = ap (λ ys. x ∷ ys) (take_more xs count i is)

-- where the state of the first so many items stands
abbrev pub chosen_state : CircuitData → MachineData → Mode → ℕ → State
chosen_state c m mode count = after m (opening c.qubits c.bits (chains_at_start c m)) (chosen_first c m mode count).ops

pub next_item : (c : CircuitData) (m : MachineData) (mode : Mode) (count i : ℕ) (item : ItemData) → slice_get (picked c m mode) count ≡ Some i → slice_get c.items i ≡ Some item
    → (chosen_first c m mode (suc count)).ops ≡ (chosen_first c m mode count).ops ++ item_ops m mode i item item.kind (chosen_state c m mode count)
unfolding chosen_first
next_item c m mode count i item number is =
    ap (λ numbers. items_ops m mode (numbered c.items numbers) (opening c.qubits c.bits (chains_at_start c m))) (take_more (picked c m mode) count i number)
    ∙ ap (λ items. items_ops m mode items (opening c.qubits c.bits (chains_at_start c m))) (numbered_more c.items (take count (picked c m mode)) i item is)
    ∙ items_more m mode (numbered c.items (take count (picked c m mode))) (i, item) (opening c.qubits c.bits (chains_at_start c m))

-- what an item may rely on where it is compiled
pub record Ready (c : CircuitData) (m : MachineData) (s : State) : Type 0 where
  pub chains : ℕ → List Qubit
  pub rests : Rests m s chains
  pub long : length s.ions ≡ c.qubits
  pub bits : s.bits ≡ c.bits
  pub fewer : 2 ≤ length m.capacities → length s.ions < sum m.capacities

pub ready : (c : CircuitData) (m : MachineData) (mode : Mode) (count : ℕ) → IsCircuit c → IsValid m → c.qubits ≤ slots_of m → Ready c m (chosen_state c m mode count)
ready c m mode count circuit valid slots =
    let done = chosen_runs c m mode count circuit valid slots in
    let s : State = opening c.qubits c.bits (chains_at_start c m) in
    let long : length (chosen_state c m mode count).ions ≡ c.qubits = ops_long m s (chosen_first c m mode count).ops ∙ opening_long c.qubits c.bits (chains_at_start c m) in
    record {
      chains = done.chains;
      rests = done.rests;
      long = long;
      bits = ops_bits m s (chosen_first c m mode count).ops;
      fewer = λ two. omega (arith, long, slots_less m c.qubits valid slots two);
    }

pub item_fitting : (c : CircuitData) (i : ℕ) (item : ItemData) → IsCircuit c → slice_get c.items i ≡ Some item → Fitting c.qubits c.bits item
item_fitting c i item circuit is =
    let within : IsWithin c.qubits c.bits item = at_number (IsWithin c.qubits c.bits) c.items circuit.within i item is in
    record {
      fits = at_number Fits c.items circuit.fit i item is;
      qubits_below = recursion_from_All _ _ within.qubits_below;
      bits_below = recursion_from_All _ _ within.bits_below;
    }

pub item_ready : (c : CircuitData) (m : MachineData) (s : State) (mode : Mode) (i : ℕ) (item : ItemData) (r : Ready c m s) → IsCircuit c → IsValid m → slice_get c.items i ≡ Some item → ItemDone m s r.chains i item (item_ops m mode i item item.kind s)
item_ready c m s mode i item r circuit valid is =
    item_done m s r.chains i item mode valid (subst (λ (n : ℕ). Fitting n s.bits item) (sym r.long) (subst (λ (n : ℕ). Fitting c.qubits n item) (sym r.bits) (item_fitting c i item circuit is))) r.rests r.fewer

pub order_below : (c : CircuitData) (m : MachineData) (mode : Mode) (count i : ℕ) → slice_get (picked c m mode) count ≡ Some i → i < length c.items
order_below c m mode count i is = all_at (picked c m mode) (all_times (length c.items) (picked c m mode) (picked_order c m mode).once) count is
  where
    all_at : (xs : List ℕ) → AllByRecursion (λ k. k < length c.items) xs → (count : ℕ) → slice_get xs count ≡ Some i → i < length c.items
    all_at [] all count is = cc
    all_at (x ∷ xs) all zero is = let same : x ≡ i = cc in subst (λ k. k < length c.items) same all.0
    all_at (x ∷ xs) all (suc count) is = all_at xs all.1 count is

pub item_at : (items : List ItemData) (i : ℕ) → i < length items → (item : ItemData) × (slice_get items i ≡ Some item)
item_at items i less = elim (slice_get_cases items i).1 [
  | inl (item, within, is, read) ↦ (item, is)
  | inr (past, none) ↦ absurd (omega arith)
]

same_first : (c : CircuitData) (m : MachineData) (mode : Mode) (a b : ℕ) → take a (picked c m mode) ≡ take b (picked c m mode) → (chosen_first c m mode a).ops ≡ (chosen_first c m mode b).ops
unfolding chosen_first
same_first c m mode a b same = ap (λ numbers. items_ops m mode (numbered c.items numbers) (opening c.qubits c.bits (chains_at_start c m))) same

pub one_more_short : (c : CircuitData) (m : MachineData) (mode : Mode) (count : ℕ) → IsCircuit c → IsValid m → c.qubits ≤ slots_of m → chosen_long c m mode (count + 1) ≤ chosen_long c m mode count + worst_of m
one_more_short c m mode count circuit valid slots = elim (slice_get_cases (picked c m mode) count).1 [
  | inl (i, within, number, read) ↦
      let below : i < length c.items = order_below c m mode count i number in
      let item : (x : ItemData) × (slice_get c.items i ≡ Some x) = item_at c.items i below in
      let r : Ready c m (chosen_state c m mode count) = ready c m mode count circuit valid slots in
      let ops : List OpKind = item_ops m mode i item.0 item.0.kind (chosen_state c m mode count) in
      let done : ItemDone m (chosen_state c m mode count) r.chains i item.0 ops = item_ready c m (chosen_state c m mode count) mode i item.0 r circuit valid item.1 in
      subst (λ (k : ℕ). chosen_long c m mode k ≤ chosen_long c m mode count + worst_of m) (next_is count)
      (omega (arith, ap (λ (xs : List OpKind). length xs) (next_item c m mode count i item.0 number item.1), length-append (chosen_first c m mode count).ops ops, done.short))
  | inr (past, none) ↦ subst (λ (k : ℕ). chosen_long c m mode k ≤ chosen_long c m mode count + worst_of m) (next_is count) (no_more past)
]
  where
    next_is : (n : ℕ) → suc n ≡ n + 1
    next_is n = omega arith

    no_more : length (picked c m mode) ≤ count → chosen_long c m mode (suc count) ≤ chosen_long c m mode count + worst_of m
    no_more past = omega (arith, ap (λ (xs : List OpKind). length xs) (same_first c m mode (suc count) count (take_all (suc count) (picked c m mode) (omega arith) ∙ sym (take_all count (picked c m mode) past))))
