-- A program that does a circuit without conditions has a text.
use Rattle.std.proofs.Common.{◌≡◌, ℕ, suc, ◌+◌, ◌<◌, ◌≤◌, nat_lt, Bool, true, List, [], ◌∷◌, ◌++◌, length, get_or, slice_get, All, Option, Some, None, IfSome, refl, sym, ap, subst, arith}
use Rattle.std.specs.List.{AllByRecursion, list_all}
use Rattle.std.proofs.lemmas.Bool.{and_parts, ltb-true}
use Rattle.std.proofs.lemmas.Option.{slice_get_within, get_or_from_slice_get}
use Rattle.qccd_base.specs.declared.names.Bit.{Bit}
use Rattle.qccd_base.specs.declared.names.Ion.{Ion}
use Rattle.qccd_base.specs.declared.names.Qubit.{Qubit}
use Rattle.qccd_base.specs.declared.names.TrapId.{TrapId}
use Rattle.qccd_base.proofs.FirstFailing.{all_met}
use Rattle.qccd_circuit.specs.Circuit.{CircuitData, IsCircuit, IsWithin}
use Rattle.qccd_circuit.specs.Item.{ItemData}
use Rattle.qccd_machine.specs.Machine.{MachineData, IsValid}
use Rattle.op_table.specs.declared.kinds.OpKind.{OpKind}
use Rattle.op_table.specs.declared.kinds.OpKind.TheVariants.{Split, Move, Enter, Leave, Merge, Rot, GSwap, Item, Fence}
use Rattle.op_table.specs.Op.{IsOp, KeepsItemRule}
use Rattle.op_table.specs.Run.{IsRun, item_in, items_in}
use Rattle.op_table.specs.Start.{IsStart}
use Rattle.op_table.specs.State.{State, IsSafe, ions_in}
use Rattle.op_table.specs.Step.{has_trap, has_segment, has_junction, has_bits, needs, why, effect}
use Rattle.op_table.proofs.Every.{safe-effect}
use Rattle.op_table.proofs.Openings.{ion_below, opening-safe}
use Rattle.qccd_program.specs.Implements.{Implements}
use Rattle.qccd_program.specs.Legal.{IsLegalProgram}
use Rattle.qccd_program.specs.Program.{ProgramData, opening_of}
use Rattle.transport_asm.specs.ProgramText.{spelled}
use Rattle.op_text.specs.Slots.{greatest}
use Rattle.transport_asm.specs.Writable.{KeepsCondLimits, KeepsLimits, IsWritable, IsWritableChain, IsWritableRaw}

-- ---- what holds of each

all_by : {A : Type 0} (P : A → Type 0) (xs : List A) → All P xs → AllByRecursion P xs
all_by P [] all = tt
all_by P (x ∷ xs) all = (all 0 x (omega arith), all_by P xs (λ i d below. all (suc i) d (omega (arith, below))))

all_at : {A : Type 0} (P : A → Type 0) (xs : List A) → ((k : ℕ) (x : A) → slice_get xs k ≡ Some x → P x) → AllByRecursion P xs
all_at P [] each = tt
all_at P (x ∷ xs) each = (each 0 x refl, all_at P xs (λ k y is. each (suc k) y is))

all_passing : {A : Type 0} (p : A → Bool) (P : A → Type 0) → ((x : A) → p x ≡ true → P x) → (xs : List A) → list_all p xs ≡ true → AllByRecursion P xs
all_passing p P each [] all = tt
all_passing p P each (x ∷ xs) all = let both = and_parts (p x) (list_all p xs) all in (each x both.0, all_passing p P each xs both.1)

all_weaker : {A : Type 0} (P Q : A → Type 0) → ((x : A) → P x → Q x) → (xs : List A) → AllByRecursion P xs → AllByRecursion Q xs
all_weaker P Q each [] all = tt
all_weaker P Q each (x ∷ xs) all = (each x all.0, all_weaker P Q each xs all.1)

all_front : {A : Type 0} (P : A → Type 0) (xs ys : List A) → AllByRecursion P (xs ++ ys) → AllByRecursion P xs
all_front P [] ys all = tt
all_front P (x ∷ xs) ys all = (all.0, all_front P xs ys all.1)

-- ---- places and positions

trap_small : (m : MachineData) (t : ℕ) → IsValid m → has_trap m t ≡ true → t ≤ 255
trap_small m t valid there = omega (arith, ltb-true t (length m.capacities) there, valid.few_traps)

segment_small : (m : MachineData) (g : ℕ) → IsValid m → has_segment m g ≡ true → g ≤ 255
segment_small m g valid there = omega (arith, ltb-true g (length m.segments) there, valid.few_segments)

junction_small : (m : MachineData) (j : ℕ) → IsValid m → has_junction m j ≡ true → j ≤ 255
junction_small m j valid there = omega (arith, ltb-true j m.junctions there, valid.few_junctions)

capacity_small : (m : MachineData) (t : ℕ) → IsValid m → has_trap m t ≡ true → get_or m.capacities t 0 ≤ 32
capacity_small m t valid there = (valid.capacities t 0 (ltb-true t (length m.capacities) there)).1

position_small : (m : MachineData) (s : State) (t k : ℕ) → IsValid m → IsSafe m s → has_trap m t ≡ true → nat_lt k (ions_in s t) ≡ true → k ≤ 255
position_small m s t k valid safe there before = omega (arith, ltb-true k (ions_in s t) before, safe.capacities t, capacity_small m t valid there)

-- ---- operations

-- an item has a number and operands that its words take, and is not conditional
pub record IsPlain (number : ℕ) (item : ItemData) : Type 0 where
  pub number_small : number ≤ greatest
  pub qubits : AllByRecursion (λ q. q.0 ≤ 65535) item.qubits
  pub bits : AllByRecursion (λ b. b.0 ≤ 65535) item.bits
  pub unconditional : item.cond ≡ None

abbrev pub DoesPlain : OpKind → Type 0
DoesPlain op = IfSome (item_in op) (λ e. IsPlain e.0 e.1)

limits : (m : MachineData) (s : State) (op : OpKind) → IsValid m → IsSafe m s → IsOp op → why m s op ≡ None → DoesPlain op → KeepsLimits op
limits m s (Split t e g) valid safe kept legal plain =
    let there = and_parts (has_trap m t.0) (has_segment m g.0) (all_met (needs m s (Split t e g)) legal).0 in
    (trap_small m t.0 valid there.0, segment_small m g.0 valid there.1)
limits m s (Move g) valid safe kept legal plain = segment_small m g.0 valid (all_met (needs m s (Move g)) legal).0
limits m s (Enter g j) valid safe kept legal plain =
    let there = and_parts (has_segment m g.0) (has_junction m j.0) (all_met (needs m s (Enter g j)) legal).0 in
    (segment_small m g.0 valid there.0, junction_small m j.0 valid there.1)
limits m s (Leave j g) valid safe kept legal plain =
    let there = and_parts (has_segment m g.0) (has_junction m j.0) (all_met (needs m s (Leave j g)) legal).0 in
    (junction_small m j.0 valid there.1, segment_small m g.0 valid there.0)
limits m s (Merge g t e) valid safe kept legal plain =
    let there = and_parts (has_trap m t.0) (has_segment m g.0) (all_met (needs m s (Merge g t e)) legal).0 in
    (segment_small m g.0 valid there.1, trap_small m t.0 valid there.0)
limits m s (Rot t p) valid safe kept legal plain =
    let met = all_met (needs m s (Rot t p)) legal in
    let next = position_small m s t.0 (p + 1) valid safe met.0 met.1.0 in
    (trap_small m t.0 valid met.0, omega (arith, next))
limits m s (GSwap t low high) valid safe kept legal plain =
    let met = all_met (needs m s (GSwap t low high)) legal in
    let last = position_small m s t.0 high valid safe met.0 met.1.0 in
    (trap_small m t.0 valid met.0, omega (arith, kept, last), last)
limits m s (Item number t item at) valid safe kept legal plain =
    let met = all_met (needs m s (Item number t item at)) legal in
    let there = (and_parts (has_trap m t.0) (has_bits s item) met.0).0 in
    let positions = all_passing (λ k. nat_lt k (ions_in s t.0)) (λ p. p ≤ 255) (λ k before. position_small m s t.0 k valid safe there before) at met.1.0 in
    (plain.number_small, trap_small m t.0 valid there, plain.qubits, plain.bits, positions, subst KeepsCondLimits (sym plain.unconditional) tt)
limits m s (Fence number item traps) valid safe kept legal plain =
    let met = all_met (needs m s (Fence number item traps)) legal in
    let there = (and_parts (list_all (λ t. has_trap m t.0) traps) (has_bits s item) met.0).0 in
    (plain.number_small, all_passing (λ (t : TrapId). has_trap m t.0) (λ t. t.0 ≤ 255) (λ t is. trap_small m t.0 valid is) traps there, plain.qubits)

ops_writable : (m : MachineData) (s : State) (ops : List OpKind) → IsValid m → IsSafe m s → AllByRecursion IsOp ops → AllByRecursion KeepsItemRule ops → IsRun m s ops
    → AllByRecursion DoesPlain ops → AllByRecursion IsWritable ops
ops_writable m s [] valid safe kinds fits run plain = tt
ops_writable m s (op ∷ ops) valid safe kinds fits run plain =
    let first : IsWritable op = record {
      is_op = kinds.0;
      fits = fits.0;
      limits = limits m s op valid safe kinds.0 run.0 plain.0;
    } in
    (first, ops_writable m (effect m s op) ops valid (safe-effect m s op safe kinds.0 run.0) kinds.1 fits.1 run.1 plain.1)

-- ---- the start chains

chain_writable : (m : MachineData) (qubits : ℕ) (chains : List (List Ion)) (t : ℕ) (chain : List Ion) → IsValid m → qubits ≤ 256 → IsStart m qubits chains
    → slice_get chains t ≡ Some chain → IsWritableChain chain
chain_writable m qubits chains t chain valid few start is =
    let own : get_or chains t [] ≡ chain = get_or_from_slice_get chains t chain [] is in
    let within : t < length m.capacities = omega (arith, slice_get_within chains t chain is, start.chains) in
    let fits : length (get_or chains t []) ≤ get_or m.capacities t 0 = start.capacities t in
    let few_ions = (valid.capacities t 0 within).1 in (
      omega (arith, fits, few_ions, ap length own),
      all_at (λ (x : Ion). x.0 ≤ 65535) chain (λ k x at.
          let below = ion_below m qubits chains start t k x (subst (λ (c : List Ion). slice_get c k ≡ Some x) (sym own) at) in
          omega (arith, below, few)),
    )

-- ---- a program that does a circuit

each_item : (P : ℕ × ItemData → Type 0) (ops : List OpKind) → AllByRecursion P (items_in ops) → AllByRecursion (λ op. IfSome (item_in op) P) ops
each_item P [] all = tt
each_item P (Split t e g ∷ ops) all = (tt, each_item P ops all)
each_item P (Move g ∷ ops) all = (tt, each_item P ops all)
each_item P (Enter g j ∷ ops) all = (tt, each_item P ops all)
each_item P (Leave j g ∷ ops) all = (tt, each_item P ops all)
each_item P (Merge g t e ∷ ops) all = (tt, each_item P ops all)
each_item P (Rot t p ∷ ops) all = (tt, each_item P ops all)
each_item P (GSwap t low high ∷ ops) all = (tt, each_item P ops all)
each_item P (Item number t item at ∷ ops) all = (all.0, each_item P ops all.1)
each_item P (Fence number item traps ∷ ops) all = (all.0, each_item P ops all.1)

plain_item : (c : CircuitData) (number : ℕ) (item : ItemData) → IsCircuit c → All (λ d. d.cond ≡ None) c.items → slice_get c.items number ≡ Some item → IsPlain number item
plain_item c number item whole free is =
    let below : number < length c.items = slice_get_within c.items number item is in
    let own : get_or c.items number item ≡ item = get_or_from_slice_get c.items number item item is in
    let within = subst (IsWithin c.qubits c.bits) own (whole.within number item below) in
    record {
      number_small = omega (arith, below, whole.few_items);
      qubits = all_weaker (λ (q : Qubit). q.0 < c.qubits) (λ q. q.0 ≤ 65535) (λ q few. omega (arith, few, whole.few_qubits)) item.qubits
          (all_by (λ (q : Qubit). q.0 < c.qubits) item.qubits within.qubits_below);
      bits = all_weaker (λ (b : Bit). b.0 < c.bits) (λ b. b.0 ≤ 65535) (λ b few. omega (arith, few, whole.few_bits)) item.bits
          (all_front (λ (b : Bit). b.0 < c.bits) item.bits _ (all_by (λ (b : Bit). b.0 < c.bits) _ within.bits_below));
      unconditional = subst (λ (d : ItemData). d.cond ≡ None) own (free number item below);
    }

pub has_text : (c : CircuitData) (m : MachineData) (p : ProgramData) → IsCircuit c → All (λ d. d.cond ≡ None) c.items → IsValid m → IsLegalProgram p → p.machine ≡ m
    → Implements p c m → IsWritableRaw (spelled p)
has_text c m p whole free valid legal is implements =
    let here : IsValid p.machine = subst IsValid (sym is) valid in
    let plain = each_item (λ e. IsPlain e.0 e.1) p.ops
    (all_weaker (λ (e : ℕ × ItemData). slice_get c.items e.0 ≡ Some e.1) (λ e. IsPlain e.0 e.1) (λ e own. plain_item c e.0 e.1 whole free own) (items_in p.ops)
    (all_by (λ (e : ℕ × ItemData). slice_get c.items e.0 ≡ Some e.1) (items_in p.ops) implements.items)) in
    record {
      qubits = legal.qubits;
      bits = legal.bits;
      traps = omega (arith, legal.start.chains, here.few_traps);
      chains = all_at IsWritableChain p.start (λ t chain own. chain_writable p.machine p.qubits p.start t chain here legal.qubits legal.start own);
      few_ops = legal.few;
      ops = ops_writable p.machine (opening_of p) p.ops here (opening-safe p.machine p.qubits p.bits p.start legal.start) legal.ops legal.items_fit legal.run plain;
    }
