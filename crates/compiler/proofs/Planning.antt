-- The plan of the first so many items, and of one item more.
use Rattle.std.proofs.Common.{arith, ◌≡◌, ℕ, suc, ◌+◌, ◌-◌, ◌<◌, ◌≤◌, List, [], ◌∷◌, ◌++◌, get_or, length, refl, sym, ◌∙◌, ap, Option, Some, None, inl, inr, subst}
use Rattle.std.specs.Prelude.{Err, Ok, slice_get, sum}
use Rattle.std.proofs.lemmas.Bool.{cases_lt}
use Rattle.std.proofs.lemmas.Option.{slice_get-get_or}
use Rattle.qccd_base.specs.declared.names.Ion.{Ion}
use Rattle.qccd_base.specs.declared.names.Mode.{Mode}
use Rattle.qccd_circuit.specs.Circuit.{CircuitData, IsCircuit, IsWithin}
use Rattle.qccd_circuit.specs.Item.{ItemData}
use Rattle.qccd_machine.specs.Machine.{MachineData, IsValid, slots_of, worst_of}
use Rattle.op_table.specs.declared.kinds.OpKind.{OpKind}
use Rattle.op_table.specs.Start.{IsStart}
use Rattle.op_table.specs.State.{State, opening}
use Rattle.qccd_program.specs.Legal.{IsLegalProgram}
use Rattle.qccd_program.specs.Program.{ProgramData, program_data}
use Rattle.op_plan.specs.Plan.{PlanData, Agrees, IsPlan, begun, state_of, with_ops}
use Rattle.ion_mapping.specs.Placement.{chains_at_start}
use Rattle.ion_mapping.proofs.Firsts.{once_long}
use Rattle.rebalancer.specs.Outside.{NothingOutside}
use Rattle.rebalancer.proofs.Planned.{after_agrees}
use Rattle.rebalancer.proofs.Settled.{nothing_outside}
use Rattle.compiler.specs.Chosen.{chosen, chosen_first, chosen_long, picked, planned, IsTooLong}
use Rattle.compiler.proofs.Picked.{picked_order}
use Rattle.compiler.specs.Items.{item_ops}
use Rattle.compiler.proofs.Choosing.{Ready, at_number, chosen_legal, chosen_state, next_item, order_below, placed_start, ready, slots_less}

pub order_long : (c : CircuitData) (m : MachineData) (mode : Mode) → length (picked c m mode) ≡ length c.items
order_long c m mode = once_long (length c.items) (picked c m mode) (picked_order c m mode).once

pub planned_none : (c : CircuitData) (m : MachineData) (mode : Mode) → begun m c.qubits c.bits (chains_at_start c m) ≡ planned c m mode 0
unfolding chosen_first
planned_none c m mode = refl

pub planned_agrees : (c : CircuitData) (m : MachineData) (mode : Mode) (count : ℕ) → Agrees m (planned c m mode count)
planned_agrees c m mode count = record { capacities = refl; junctions = refl; segments = refl }

pub planned_state : (c : CircuitData) (m : MachineData) (mode : Mode) (count : ℕ) → state_of (planned c m mode count) ≡ chosen_state c m mode count
planned_state c m mode count = sym (after_agrees m (planned c m mode count) (opening c.qubits c.bits (chains_at_start c m)) (chosen_first c m mode count).ops (planned_agrees c m mode count))

pub planned_next : (c : CircuitData) (m : MachineData) (mode : Mode) (count i : ℕ) (item : ItemData) → slice_get (picked c m mode) count ≡ Some i → slice_get c.items i ≡ Some item
    → with_ops (planned c m mode count) (item_ops m mode i item item.kind (state_of (planned c m mode count))) ≡ planned c m mode (count + 1)
planned_next c m mode count i item number is =
    ap (λ (s : State). with_ops (planned c m mode count) (item_ops m mode i item item.kind s)) (planned_state c m mode count)
    ∙ ap (λ (ops : List OpKind). with_ops (begun m c.qubits c.bits (chains_at_start c m)) ops) (sym (next_item c m mode count i item number is)) ∙ ap (planned c m mode) (let e : suc count ≡ count + 1 = omega arith in e)

-- what an item needs to be compiled behind the first so many
pub record Next (c : CircuitData) (m : MachineData) (p : PlanData) (item : ItemData) : Type 0 where
  pub agrees : Agrees m p
  pub within : IsWithin p.qubits p.bits item
  pub outside : NothingOutside (state_of p)
  pub spare : 2 ≤ length m.capacities → p.qubits < sum m.capacities

pub next_may : (c : CircuitData) (m : MachineData) (mode : Mode) (count i : ℕ) (item : ItemData) (p : PlanData) → IsCircuit c → IsValid m → c.qubits ≤ slots_of m → slice_get c.items i ≡ Some item → p ≡ planned c m mode count → Next c m p item
next_may c m mode count i item p circuit valid slots is plan =
    let r : Ready c m (chosen_state c m mode count) = ready c m mode count circuit valid slots in
    subst (λ (x : PlanData). Next c m x item) (sym plan) (record {
      agrees = planned_agrees c m mode count;
      within = at_number (IsWithin c.qubits c.bits) c.items circuit.within i item is;
      outside = subst NothingOutside (sym (planned_state c m mode count)) (nothing_outside m (chosen_state c m mode count) r.chains r.rests);
      spare = λ two. slots_less m c.qubits valid slots two;
    })

pub long_of : (c : CircuitData) (m : MachineData) (mode : Mode) (count : ℕ) (p : PlanData) → p ≡ planned c m mode count → length p.ops ≡ chosen_long c m mode count
long_of c m mode count p is = ap (λ (x : PlanData). length x.ops) is

pub too_long_here : (c : CircuitData) (m : MachineData) (mode : Mode) (count ops : ℕ) → count < length c.items → chosen_long c m mode count ≡ ops → 4194304 - worst_of m < ops → ((earlier : ℕ) → earlier < count → chosen_long c m mode earlier ≤ 4194304 - worst_of m) → IsTooLong c m mode count ops
too_long_here c m mode count ops less is more first = record { before_an_item = less; operations = is; too_many = more; first = first }

-- one more that fits
pub fits_next : (c : CircuitData) (m : MachineData) (mode : Mode) (done ops : ℕ) → chosen_long c m mode done ≡ ops → ops ≤ 4194304 - worst_of m → ((count : ℕ) → count < done → chosen_long c m mode count ≤ 4194304 - worst_of m) → (count : ℕ) → count < done + 1 → chosen_long c m mode count ≤ 4194304 - worst_of m
fits_next c m mode done ops is few before count less = elim (cases_lt count done) [
  | inl earlier ↦ before count earlier
  | inr past ↦ (let same : count ≡ done = omega arith in omega (arith, few, is, ap (chosen_long c m mode) same))
]

pub never_short : {X E : Type 0} (q s : ℕ) (x : X) (e : E) → (s < q → Ok x ≡ Err e) → q ≤ s
never_short q s x e short = elim (cases_lt s q) [
  | inl more ↦ absurd (bad x e (short more))
  | inr few ↦ few
]
  where
    bad : {X E : Type 0} (x : X) (e : E) → Ok x ≡ Err e → ⊥
    bad x e same = cc

pub item_found : (items xs : List ItemData) (i : ℕ) (d item : ItemData) → xs ≡ items → i < length items → item ≡ get_or xs i d → slice_get items i ≡ Some item
item_found items xs i d item same less is = slice_get-get_or items i d less ∙ ap (λ (x : ItemData). Some x) (sym (is ∙ ap (λ (ys : List ItemData). get_or ys i d) same))

pub compiled_next : (c : CircuitData) (m : MachineData) (mode : Mode) (count i : ℕ) (item : ItemData) (p new : PlanData) → slice_get (picked c m mode) count ≡ Some i → slice_get c.items i ≡ Some item → p ≡ planned c m mode count → new ≡ with_ops p (item_ops m mode i item item.kind (state_of p)) → new ≡ planned c m mode (count + 1)
compiled_next c m mode count i item p new number is plan done = done ∙ ap (λ (x : PlanData). with_ops x (item_ops m mode i item item.kind (state_of x))) plan ∙ planned_next c m mode count i item number is

pub chosen_parts : (c : CircuitData) (m : MachineData) (mode : Mode) (qubits bits : ℕ) (start : List (List Ion)) (ops : List OpKind) → qubits ≡ c.qubits → bits ≡ c.bits → start ≡ chains_at_start c m → ops ≡ (chosen c m mode).ops → program_data m qubits bits (Some mode) start ops ≡ chosen c m mode
unfolding chosen_first
chosen_parts c m mode qubits bits start ops q b s o =
    ap (λ (n : ℕ). program_data m n bits (Some mode) start ops) q ∙ ap (λ (n : ℕ). program_data m c.qubits n (Some mode) start ops) b ∙ ap (λ (cs : List (List Ion)). program_data m c.qubits c.bits (Some mode) cs ops) s
    ∙ ap (program_data m c.qubits c.bits (Some mode) (chains_at_start c m)) o

pub start_of : (c : CircuitData) (m : MachineData) (qubits : ℕ) (chains : List (List Ion)) → IsCircuit c → IsValid m → c.qubits ≤ slots_of m → qubits ≡ c.qubits → chains ≡ chains_at_start c m → IsStart m qubits chains
start_of c m qubits chains circuit valid slots q is = subst (λ (n : ℕ). IsStart m n chains) (sym q) (subst (IsStart m c.qubits) (sym is) (placed_start c m circuit valid slots))

pub begun_of : (c : CircuitData) (m : MachineData) (mode : Mode) (qubits bits : ℕ) (chains : List (List Ion)) (p : PlanData) → qubits ≡ c.qubits → bits ≡ c.bits → chains ≡ chains_at_start c m → p ≡ begun m qubits bits chains → p ≡ planned c m mode 0
begun_of c m mode qubits bits chains p q b is plan =
    plan ∙ ap (λ (n : ℕ). begun m n bits chains) q ∙ ap (λ (n : ℕ). begun m c.qubits n chains) b ∙ ap (begun m c.qubits c.bits) is ∙ planned_none c m mode

pub legal_of : (c : CircuitData) (m : MachineData) (mode : Mode) (p : PlanData) (program : ProgramData) → IsCircuit c → IsValid m → c.qubits ≤ slots_of m → IsPlan p → p ≡ planned c m mode (length c.items) → program ≡ chosen c m mode → IsLegalProgram program
legal_of c m mode p program circuit valid slots plan is same =
    subst IsLegalProgram (sym same) (chosen_legal c m mode circuit valid slots (omega (arith, plan.few, long_of c m mode (length c.items) p is)))
